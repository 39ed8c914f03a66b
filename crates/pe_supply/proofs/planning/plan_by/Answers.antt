use Rattle.pe_supply.specs.Plans.{plan_by}
use Rattle.pe_supply.proofs.planning.plan_by.Goals as goal

pub returns-in-UpfVersion : goal.returns-in-UpfVersion
unfolding plan_by
returns-in-UpfVersion c = rw c.in-UpfVersion.is c.new.ensures

pub returns-in-SetDesignTop : goal.returns-in-SetDesignTop
unfolding plan_by
returns-in-SetDesignTop c = rw c.in-SetDesignTop.is c.new-in-SetDesignTop.ensures

pub returns-in-Ignored : goal.returns-in-Ignored
unfolding plan_by
returns-in-Ignored c = rw c.in-Ignored.is c.new-in-Ignored.ensures

pub returns-in-CreatePowerDomain : goal.returns-in-CreatePowerDomain
unfolding plan_by
returns-in-CreatePowerDomain c = rw c.in-CreatePowerDomain.is c.plan_set_use.ensures

pub returns-in-CreateSupplyPort : goal.returns-in-CreateSupplyPort
unfolding plan_by
returns-in-CreateSupplyPort c = rw c.in-CreateSupplyPort.is c.plan_port.ensures

pub returns-in-CreateSupplyNet : goal.returns-in-CreateSupplyNet
unfolding plan_by
returns-in-CreateSupplyNet c = rw c.in-CreateSupplyNet.is c.plan_net.ensures

pub returns-in-ConnectSupplyNet : goal.returns-in-ConnectSupplyNet
unfolding plan_by
returns-in-ConnectSupplyNet c = rw c.in-ConnectSupplyNet.is (rw c.as_slice.ensures at c.plan_connection.ensures)

pub returns-in-CreateSupplySet : goal.returns-in-CreateSupplySet
unfolding plan_by
returns-in-CreateSupplySet c = rw c.in-CreateSupplySet.is c.plan_set.ensures

pub returns-in-SetDomainSupplyNet : goal.returns-in-SetDomainSupplyNet
unfolding plan_by
returns-in-SetDomainSupplyNet c = rw c.in-SetDomainSupplyNet.is c.plan_primary.ensures

pub returns-in-AddPortState : goal.returns-in-AddPortState
unfolding plan_by
returns-in-AddPortState c = rw c.in-AddPortState.is (rw c.as_slice-in-AddPortState.ensures at c.plan_states.ensures)

pub returns-in-CreatePst : goal.returns-in-CreatePst
unfolding plan_by
returns-in-CreatePst c = rw c.in-CreatePst.is (rw c.as_slice-in-CreatePst.ensures at c.plan_table.ensures)

pub returns-in-AddPstState : goal.returns-in-AddPstState
unfolding plan_by
returns-in-AddPstState c = rw c.in-AddPstState.is (rw c.as_slice-in-AddPstState.ensures at c.plan_row.ensures)

pub returns-in-SetIsolation : goal.returns-in-SetIsolation
unfolding plan_by
returns-in-SetIsolation c = rw c.in-SetIsolation.is c.plan_set_use-in-SetIsolation.ensures

pub returns-in-SetRetention : goal.returns-in-SetRetention
unfolding plan_by
returns-in-SetRetention c = rw c.in-SetRetention.is c.plan_set_use-in-SetRetention.ensures

pub returns-in_ok-switch-in-CreatePowerSwitch : goal.returns-in_ok-switch-in-CreatePowerSwitch
unfolding plan_by
returns-in_ok-switch-in-CreatePowerSwitch c =
    rw c.in-CreatePowerSwitch.is (rw (c.in_ok-switch-in-CreatePowerSwitch.ensures, c.as_slice-controls.ensures, c.as_slice-off.ensures) at c.plan_switch.ensures)
