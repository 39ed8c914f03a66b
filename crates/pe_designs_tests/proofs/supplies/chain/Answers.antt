use Rattle.std.proofs.Common.{◌≡◌, length, ap, arith, ◌∙◌}
use Rattle.pe_supply.specs.States.{ports_of}
use Rattle.pe_designs_tests.proofs.Chains.{chain_is}
use Rattle.pe_designs_tests.proofs.supplies.chain.Goals as goal

pub returns : goal.returns
returns c =
    let first = c.in_ok-first.ensures in
    let second = c.in_ok-second.ensures in
    let switches = c.in_ok-switches.ensures in
    let ports : ports_of c.in_ok-switches.switches ≡ 2 = ap ports_of switches ∙ omega (arith, first.2, second.2) in (
      chain_is _ c.in_ok-first.first c.in_ok-second.second c.in_ok-names.ensures c.in_ok-roots.ensures switches first.0 first.1 second.0 second.1 first.3 second.3 c.new.ensures c.new-2.ensures c.new-3.ensures,
      ap length c.in_ok-roots.ensures,
      ports,
    )
