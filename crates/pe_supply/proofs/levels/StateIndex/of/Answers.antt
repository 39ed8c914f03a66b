use Rattle.std.proofs.Common.{◌≡◌, ◌<◌, ◌++◌, ◌∷◌, [], length, map, get_or, not, true, ap, sym, ◌∙◌}
use Rattle.pe_base.specs.Names.{has_name}
use Rattle.pe_supply.specs.Keys.{keyed, said_by, state_key}
use Rattle.pe_supply.proofs.Finding.{step_new, step_old, there_by}
use Rattle.pe_supply.proofs.Keyed.{key_within, keyed_within, key_beside, keyed_at}
use Rattle.pe_supply.proofs.levels.StateIndex.of.Goals as goal
use Rattle.pe_supply.proofs.levels.StateIndex.of.Goals.{then-branch+in_ok-push, else-branch}

pub bounds-keys-i : goal.bounds-keys-i
bounds-keys-i c = key_within c.args.names.now c.args.keys.now c.args.states.now c.requires c.loop-i.i c.loop-i-test.true

pub loop-i-preserved : goal.loop-i-preserved
loop-i-preserved c =
    let names = c.args.names.now in
    let keys = c.args.keys.now in
    let states = c.args.states.now in
    let i = c.loop-i.i in
    let state = c.index-states-i.result in
    let key = c.index-keys-i.result in
    let index = c.loop-i.index in
    let pairs = map (keyed names) states in
    let name : c.bytes.result.now ≡ state_key names state = c.bytes.ensures ∙ key_beside names keys states c.requires i c.loop-i-test.true key state c.index-keys-i.is c.index-states-i.is in
    let within : i < length pairs = keyed_within names keys states c.requires i c.loop-i-test.true in
    let at : keyed names state ≡ get_or pairs i (keyed names state) = keyed_at names keys states c.requires i c.loop-i-test.true key state c.index-keys-i.is c.index-states-i.is in
    elim c.if-branch.branch [
      | then-branch+in_ok-push w ↦
          let grown : c.insert.new.self ≡ index ++ state_key names state ∷ [] = c.in_ok-insert.ensures.added w.if-branch.true ∙ ap (λ n. index ++ n ∷ []) name in
          let pushed : c.if-branch.levels ≡ c.loop-i.levels ++ said_by state ∷ [] = w.levels-is ∙ w.in_ok-push.ensures.ok ∙ ap (λ v. c.loop-i.levels ++ v ∷ []) w.said_by.ensures in
          rw (grown, pushed) (step_new pairs i (keyed names state) within at index c.loop-i.levels c.loop-i.invariant)
      | else-branch w ↦
          let same : c.insert.new.self ≡ index = c.in_ok-insert.ensures.there w.if-branch.false in
          let there : has_name index (state_key names state) ≡ true = there_by (has_name index (state_key names state)) (sym (c.in_ok-insert.ensures.new ∙ ap (λ n. not (has_name index n)) name) ∙ w.if-branch.false) in
          rw (same, w.levels-is) (step_old pairs i (keyed names state) within at index c.loop-i.levels c.loop-i.invariant there)
    ]
