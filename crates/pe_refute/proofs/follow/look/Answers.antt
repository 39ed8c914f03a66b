use Rattle.std.proofs.Common.{◌≡◌, sym, ◌∙◌, subst, ◌+◌, take, ℕ, get_or, Option, false, true}
use Rattle.std.proofs.lemmas.List.{get_or_read}
use Rattle.pe_refute.specs.Known.{knows_of}
use Rattle.pe_refute.proofs.Sight.{SoFar, complement_below, has_at, skip, first, again, stop_two, ne_apart, ne_same}
use Rattle.pe_refute.proofs.follow.look.Goals as goal
use Rattle.pe_refute.proofs.follow.look.Goals.{then-not-knows+else-knows+in-None, then-not-knows+else-knows+in-Some+else-ne, else-not-knows}

pub knows-requires : goal.knows-requires
knows-requires c =
    let item : c.l-item.result ≡ get_or c.args.clause.now c.loop-l.l-index 0 = get_or_read c.args.clause.now c.loop-l.l-index _ c.loop-l-test.true c.l-item.is 0 in
    rw (c.complement.ensures, item) (complement_below _ _ (c.requires _ (has_at c.args.clause.now c.loop-l.l-index c.loop-l-test.true)))

pub knows-requires-then-not-knows : goal.knows-requires-then-not-knows
knows-requires-then-not-knows c =
    let item : c.l-item.result ≡ get_or c.args.clause.now c.loop-l.l-index 0 = get_or_read c.args.clause.now c.loop-l.l-index _ c.loop-l-test.true c.l-item.is 0 in
    rw item (c.requires _ (has_at c.args.clause.now c.loop-l.l-index c.loop-l-test.true))

pub returns-then-ne : goal.returns-then-ne
returns-then-ne c =
    let item : c.l-item.result ≡ get_or c.args.clause.now c.loop-l.l-index 0 = get_or_read c.args.clause.now c.loop-l.l-index _ c.loop-l-test.true c.l-item.is 0 in
    let f : knows_of c.args.scratch.now c.complement.result ≡ false = sym c.knows.ensures ∙ c.if-not-knows.true in
    let i = subst (SoFar (knows_of c.args.scratch.now) (take c.loop-l.l-index c.args.clause.now)) c.in-Some.is c.loop-l.invariant in
    stop_two _ _ c.loop-l.l-index _ c.in-Some.u c.loop-l-test.true (sym item) (rw c.complement.ensures at f) (ne_apart _ _ (sym c.ne.ensures ∙ c.if-ne.true)) i

pub loop-l-preserved : goal.loop-l-preserved
loop-l-preserved c =
    let known = knows_of c.args.scratch.now in
    let was : Option ℕ → Type 0 = SoFar known (take c.loop-l.l-index c.args.clause.now) in
    let now : Option ℕ → Type 0 = SoFar known (take (c.loop-l.l-index + 1) c.args.clause.now) in
    let item : c.l-item.result ≡ get_or c.args.clause.now c.loop-l.l-index 0 = get_or_read c.args.clause.now c.loop-l.l-index _ c.loop-l-test.true c.l-item.is 0 in
    elim c.if-not-knows.branch [
      | then-not-knows+else-knows+in-None w ↦
          let f : known c.complement.result ≡ false = sym c.knows.ensures ∙ w.if-not-knows.true in
          let t : known c.l-item.result ≡ false = sym w.knows-then-not-knows.ensures ∙ w.if-knows.false in
          subst now (sym w.unit-is) (first known c.args.clause.now c.loop-l.l-index c.l-item.result c.loop-l-test.true (sym item) (rw c.complement.ensures at f) t (subst was w.in-None.is c.loop-l.invariant))
      | then-not-knows+else-knows+in-Some+else-ne w ↦
          subst now (sym w.unit-is) (again known c.args.clause.now c.loop-l.l-index c.l-item.result w.in-Some.u c.loop-l-test.true (sym item) (ne_same _ _ (sym w.ne.ensures ∙ w.if-ne.false)) (subst was w.in-Some.is c.loop-l.invariant))
      | else-not-knows w ↦
          let f : known c.complement.result ≡ true = sym c.knows.ensures ∙ w.if-not-knows.false in
          subst now (sym w.unit-is) (skip known c.args.clause.now c.loop-l.l-index c.l-item.result c.loop-l.unit c.loop-l-test.true (sym item) (rw c.complement.ensures at f) c.loop-l.invariant)
    ]
