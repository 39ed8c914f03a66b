use Rattle.std.proofs.Common.{sym, subst}
use Rattle.std.specs.List.{All, AllZip}
use Rattle.pe_supply.specs.Building.{AreFed, AreRead, IsSwitchOf}
use Rattle.pe_supply.proofs.Switching.{all_read}
use Rattle.pe_supply.proofs.built.parts_of.Goals as goal

pub finish-requires-clause-functions : goal.finish-requires-clause-functions
finish-requires-clause-functions c =
    let names = c.in_ok-lookup.lookup in
    let texts = c.as_slice-3.result.now in
    let zip : AllZip (IsSwitchOf names) texts c.in-Ok.switches = rw c.in-Ok.is at c.in_ok-switches.ensures in
    record {
      fed = subst (AreFed c.args.plan.now) (sym c.in_ok-lookup.ensures) c.in_ok-check_drivers.ensures;
      read = subst (λ ws. All AreRead ws) c.as_slice-3.ensures (all_read names texts c.in-Ok.switches zip);
    }
