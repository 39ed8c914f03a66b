use Rattle.std.proofs.Common.{refl}
use Rattle.pe_upf_read.specs.declared.table.TheConstants.{UPF, DOMAIN, INPUT_SUPPLY_PORT, ON_STATE, OUTPUT_SUPPLY_PORT, PST, STATE, AT_SWITCH_OPTIONS, AT_SWITCH_OPTIONS_MANY, AT_SWITCH_OPTION, AT_ROW_OPTIONS, AT_ROW_OPTIONS_MANY, AT_ROW_OPTION, AT_ISOLATION_OPTIONS, AT_ISOLATION_OPTIONS_MANY, AT_ISOLATION_OPTION, AT_RETENTION_OPTIONS, AT_RETENTION_OPTIONS_MANY, AT_RETENTION_OPTION}
use Rattle.pe_upf_read.proofs.Needed.{needed_found}
use Rattle.pe_upf_read.proofs.reading.needed_options.Goals as goal

pub returns-clause-switch : goal.returns-clause-switch
returns-clause-switch c = λ d h. (
  needed_found 9 UPF AT_SWITCH_OPTIONS AT_SWITCH_OPTIONS_MANY AT_SWITCH_OPTION OUTPUT_SUPPLY_PORT _ d refl refl refl refl h,
  needed_found 9 UPF AT_SWITCH_OPTIONS AT_SWITCH_OPTIONS_MANY AT_SWITCH_OPTION INPUT_SUPPLY_PORT _ d refl refl refl refl h,
  needed_found 9 UPF AT_SWITCH_OPTIONS AT_SWITCH_OPTIONS_MANY AT_SWITCH_OPTION ON_STATE _ d refl refl refl refl h,
)

pub returns-clause-row : goal.returns-clause-row
returns-clause-row c = λ d h. (
  needed_found 9 UPF AT_ROW_OPTIONS AT_ROW_OPTIONS_MANY AT_ROW_OPTION PST _ d refl refl refl refl h,
  needed_found 9 UPF AT_ROW_OPTIONS AT_ROW_OPTIONS_MANY AT_ROW_OPTION STATE _ d refl refl refl refl h,
)

pub returns-clause-isolation : goal.returns-clause-isolation
returns-clause-isolation c = λ d h. needed_found 12 UPF AT_ISOLATION_OPTIONS AT_ISOLATION_OPTIONS_MANY AT_ISOLATION_OPTION DOMAIN _ d refl refl refl refl h

pub returns-clause-retention : goal.returns-clause-retention
returns-clause-retention c = λ d h. needed_found 9 UPF AT_RETENTION_OPTIONS AT_RETENTION_OPTIONS_MANY AT_RETENTION_OPTION DOMAIN _ d refl refl refl refl h
