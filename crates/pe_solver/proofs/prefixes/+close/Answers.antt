use Rattle.std.proofs.Common.{◌≡◌, ◌<◌, ◌-◌, length, arith, ◌∙◌, inl, inr, ap, get_or}
use Rattle.std.proofs.lemmas.List.{get_or_read}
use Rattle.pe_graph.specs.Literals.{complement_of}
use Rattle.pe_refute.specs.Known.{knows_of}
use Rattle.pe_solver.specs.Prefix.{denials}
use Rattle.pe_solver.proofs.Enumerate.{prefix_push, denials_below, part_below, kept_more, kept_side, kept_both, done_side, done_more, done_both, kept_here, length_longer, joined_leads, grown_on, is_none}
use Rattle.pe_solver.proofs.Samples.{known_breaks}
use Rattle.pe_solver.proofs.prefixes.+close.Goals as goal

pub refine-requires-clause-clause : goal.refine-requires-clause-clause
refine-requires-clause-clause t c =
    rw (c.deref.ensures.value, c.in_ok-clause.ensures) (denials_below _ c.args.leaves.now c.args.prefix.now c.requires.leaves c.requires.prefix)

pub keep_side-requires-clause-clause : goal.keep_side-requires-clause-clause
keep_side-requires-clause-clause t c =
    let leaf : c.index-leaves-prefix.result ≡ get_or c.args.leaves.now (length c.args.prefix.now) 0 = get_or_read c.args.leaves.now (length c.args.prefix.now) _ c.if-prefix-leaves.false c.index-leaves-prefix.is 0 in
    let longer = c.deref-2.ensures.value ∙ c.in_ok-zero.ensures in
    let closed = rw c.in-By.is at c.in_ok-d-2.ensures.closed in
    let p = prefix_push c.args.leaves.now c.args.prefix.now _ _ longer c.if-prefix-leaves.false c.requires.prefix (inr (c.complement.ensures ∙ ap complement_of leaf)) in
    rw (c.close.ensures.room, c.refine.ensures.room)
    (part_below _ _ (denials c.deref-2.result.now) closed.2 (denials_below _ c.args.leaves.now _ c.requires.leaves p))

pub returns-in-Spent-2-clause-closed : goal.returns-in-Spent-2-clause-closed
returns-in-Spent-2-clause-closed t c =
    let z = length_longer c.args.prefix.now _ _ (c.deref-2.ensures.value ∙ c.in_ok-zero.ensures) in
    let closed = rw c.in-By.is at c.in_ok-d-2.ensures.closed in
    let side = rw c.in-Spent-2.is at c.in_ok-keep_side-in-By.ensures.side in
    rw side.0 (kept_more _ _ c.args.budget (length c.args.leaves.now) (length c.args.prefix.now) _ c.if-prefix-leaves.false z closed.0, side.1)

pub returns-in-Done-2-clause-closed : goal.returns-in-Done-2-clause-closed
returns-in-Done-2-clause-closed t c =
    let z = length_longer c.args.prefix.now _ _ (c.deref-2.ensures.value ∙ c.in_ok-zero.ensures) in
    let closed = rw c.in-By.is at c.in_ok-d-2.ensures.closed in
    let side = rw c.in-Done-2.is at c.in_ok-keep_side-in-By.ensures.side in
    (done_side c.args.chain.now.items c.close.new.chain.items c.keep_side.new.chain.items c.args.budget (length c.args.leaves.now) (length c.args.prefix.now) _ c.if-prefix-leaves.false z closed.0 side.0, side.1, λ x. side.2)

pub refine-requires-in-Id-clause-clause : goal.refine-requires-in-Id-clause-clause
refine-requires-in-Id-clause-clause t c =
    rw (c.deref-in-Id.ensures.value, c.in_ok-clause.ensures, c.keep_side.ensures.room, c.close.ensures.room, c.refine.ensures.room)
    (denials_below _ c.args.leaves.now c.args.prefix.now c.requires.leaves c.requires.prefix)

pub returns-in-Some-2-clause-closed : goal.returns-in-Some-2-clause-closed
returns-in-Some-2-clause-closed t c =
    let z = length_longer c.args.prefix.now _ _ (c.deref-2.ensures.value ∙ c.in_ok-zero.ensures) in
    let closed = rw c.in-By.is at c.in_ok-d-2.ensures.closed in
    let side = rw c.in-Id.is at c.in_ok-keep_side-in-By.ensures.side in
    let refined = rw c.in-Some-2.is at c.in_ok-d-in-Id.ensures.refined in (
      kept_side c.args.chain.now.items c.close.new.chain.items c.keep_side.new.chain.items c.args.budget (length c.args.leaves.now) (length c.args.prefix.now) _ c.if-prefix-leaves.false z closed.0 side.0 side.1 side.4,
      refined.lean.follows,
      rw (c.deref-in-Id.ensures.value, c.in_ok-clause.ensures) at refined.part,
    )

pub close-requires : goal.close-requires
close-requires t c =
    let leaf : c.index-leaves-prefix.result ≡ get_or c.args.leaves.now (length c.args.prefix.now) 0 = get_or_read c.args.leaves.now (length c.args.prefix.now) _ c.if-prefix-leaves.false c.index-leaves-prefix.is 0 in
    let z = length_longer c.args.prefix.now _ _ (c.deref-2.ensures.value ∙ c.in_ok-zero.ensures) in
    let all : length c.args.leaves.now - length c.args.prefix.now ≡ t = c.decreases in
    let lt : length c.args.prefix.now < length c.args.leaves.now = c.if-prefix-leaves.false in (
      omega arith,
      (
        rw c.refine.ensures.room c.requires.below,
        (
          rw c.refine.ensures.room c.requires.leaves,
          (
            c.requires.named,
            (
              prefix_push c.args.leaves.now c.args.prefix.now _ _ (c.deref-2.ensures.value ∙ c.in_ok-zero.ensures) lt c.requires.prefix (inr (c.complement.ensures ∙ ap complement_of leaf)),
              (c.requires.gated, (c.requires.given, c.requires.ids)),
            ),
          ),
        ),
      ),
    )

pub close-requires-in-Id : goal.close-requires-in-Id
close-requires-in-Id t c =
    let leaf : c.index-leaves-prefix.result ≡ get_or c.args.leaves.now (length c.args.prefix.now) 0 = get_or_read c.args.leaves.now (length c.args.prefix.now) _ c.if-prefix-leaves.false c.index-leaves-prefix.is 0 in
    let y = length_longer c.args.prefix.now _ _ (c.deref-in-Id-2.ensures.value ∙ c.in_ok-one-in-Id.ensures) in
    let all : length c.args.leaves.now - length c.args.prefix.now ≡ t = c.decreases in
    let lt : length c.args.prefix.now < length c.args.leaves.now = c.if-prefix-leaves.false in
    let room = c.refine-in-Id.ensures.room ∙ c.keep_side.ensures.room ∙ c.close.ensures.room ∙ c.refine.ensures.room in (
      omega arith,
      (
        rw c.refine-in-Id.ensures.room c.in_ok-keep_side-in-By.ensures.below,
        (
          rw room c.requires.leaves,
          (
            c.requires.named,
            (
              prefix_push c.args.leaves.now c.args.prefix.now _ _ (c.deref-in-Id-2.ensures.value ∙ c.in_ok-one-in-Id.ensures) lt c.requires.prefix (inl leaf),
              (
                c.requires.gated,
                (grown_on _ _ _ (grown_on _ _ _ c.requires.given c.in_ok-d-2.ensures.grown) c.in_ok-keep_side-in-By.ensures.grown, c.requires.ids),
              ),
            ),
          ),
        ),
      ),
    )

pub refine-requires-in-By-2-clause-clause : goal.refine-requires-in-By-2-clause-clause
refine-requires-in-By-2-clause-clause t c =
    rw (c.deref-in-By-2-2.ensures.value, c.in_ok-clause.ensures, c.close-in-Id.ensures.room, c.refine-in-Id.ensures.room, c.keep_side.ensures.room, c.close.ensures.room, c.refine.ensures.room)
    (denials_below _ c.args.leaves.now c.args.prefix.now c.requires.leaves c.requires.prefix)

pub returns-in-Some-3-clause-closed : goal.returns-in-Some-3-clause-closed
returns-in-Some-3-clause-closed t c =
    let z = length_longer c.args.prefix.now _ _ (c.deref-2.ensures.value ∙ c.in_ok-zero.ensures) in
    let y = length_longer c.args.prefix.now _ _ (c.deref-in-Id-2.ensures.value ∙ c.in_ok-one-in-Id.ensures) in
    let closed = rw c.in-By.is at c.in_ok-d-2.ensures.closed in
    let side = rw c.in-Id.is at c.in_ok-keep_side-in-By.ensures.side in
    let closed1 = rw c.in-By-2.is at c.in_ok-e-in-Id.ensures.closed in
    let refined = rw c.in-Some-3.is at c.in_ok-f-in-By-2.ensures.refined in (
      kept_both c.args.chain.now.items c.close.new.chain.items c.keep_side.new.chain.items c.close-in-Id.new.chain.items c.args.budget (length c.args.leaves.now) (length c.args.prefix.now) _ _
          c.if-prefix-leaves.false z y closed.0 side.0 side.1 side.4 closed1.0,
      refined.lean.follows,
      rw (c.deref-in-By-2-2.ensures.value, c.in_ok-clause.ensures) at refined.part,
    )

pub unreachable-requires : goal.unreachable-requires
unreachable-requires t c =
    let leaf : c.index-leaves-prefix.result ≡ get_or c.args.leaves.now (length c.args.prefix.now) 0 = get_or_read c.args.leaves.now (length c.args.prefix.now) _ c.if-prefix-leaves.false c.index-leaves-prefix.is 0 in
    let closed = rw c.in-By.is at c.in_ok-d-2.ensures.closed in
    let side = rw c.in-Id.is at c.in_ok-keep_side-in-By.ensures.side in
    let closed1 = rw c.in-By-2.is at c.in_ok-e-in-Id.ensures.closed in
    let none = rw c.in-None.is at c.in_ok-f-in-By-2.ensures.none in
    let hints = c.deref-in-By-2-3.ensures.value ∙ c.in_ok-hints-in-By-2.ensures in
    let own = rw (is_none c.in_ok-d-in-Id.field-0 c.in_default-2.not-Some) at c.in_ok-d-in-Id.ensures.none in
    none (rw (c.deref-in-By-2-2.ensures.value, c.in_ok-clause.ensures, hints, c.deref-in-By-2.ensures.value)
    (joined_leads _ c.args.leaves.now c.args.prefix.now c.deref-2.result.now c.deref-in-Id-2.result.now c.close-in-Id.new.all c.keep_side.new.all c.in_ok-e-in-Id.ensures.grown.0
    c.in-Id.id c.in-By-2.e.clause.items c.in-By-2.e.hints.items _ c.complement.result
    c.requires.leaves c.requires.prefix c.if-prefix-leaves.false leaf c.complement.ensures
    (c.deref-2.ensures.value ∙ c.in_ok-zero.ensures) (c.deref-in-Id-2.ensures.value ∙ c.in_ok-one-in-Id.ensures) c.in_ok-e-in-Id.ensures.grown.1 side.2 (λ l h. closed.2 l (side.3 l h))
    (rw (c.deref-in-Id.ensures.value, c.in_ok-clause.ensures) at own) closed1.1 closed1.2))

pub returns-in-Sample-2-clause-closed : goal.returns-in-Sample-2-clause-closed
returns-in-Sample-2-clause-closed t c =
    let z = length_longer c.args.prefix.now _ _ (c.deref-2.ensures.value ∙ c.in_ok-zero.ensures) in
    let y = length_longer c.args.prefix.now _ _ (c.deref-in-Id-2.ensures.value ∙ c.in_ok-one-in-Id.ensures) in
    let closed = rw c.in-By.is at c.in_ok-d-2.ensures.closed in
    let side = rw c.in-Id.is at c.in_ok-keep_side-in-By.ensures.side in
    let closed1 = rw c.in-Sample-2.is at c.in_ok-e-in-Id.ensures.closed in (
      kept_both c.args.chain.now.items c.close.new.chain.items c.keep_side.new.chain.items c.close-in-Id.new.chain.items c.args.budget (length c.args.leaves.now) (length c.args.prefix.now) _ _
          c.if-prefix-leaves.false z y closed.0 side.0 side.1 side.4 closed1.0,
      closed1.1,
    )

pub returns-in-Spent-3-clause-closed : goal.returns-in-Spent-3-clause-closed
returns-in-Spent-3-clause-closed t c =
    let z = length_longer c.args.prefix.now _ _ (c.deref-2.ensures.value ∙ c.in_ok-zero.ensures) in
    let y = length_longer c.args.prefix.now _ _ (c.deref-in-Id-2.ensures.value ∙ c.in_ok-one-in-Id.ensures) in
    let closed = rw c.in-By.is at c.in_ok-d-2.ensures.closed in
    let side = rw c.in-Id.is at c.in_ok-keep_side-in-By.ensures.side in
    let closed1 = rw c.in-Spent-3.is at c.in_ok-e-in-Id.ensures.closed in (
      kept_both c.args.chain.now.items c.close.new.chain.items c.keep_side.new.chain.items c.close-in-Id.new.chain.items c.args.budget (length c.args.leaves.now) (length c.args.prefix.now) _ _
          c.if-prefix-leaves.false z y closed.0 side.0 side.1 side.4 closed1.0,
      closed1.1,
    )

pub returns-in-By-clause-closed : goal.returns-in-By-clause-closed
returns-in-By-clause-closed t c =
    let z = length_longer c.args.prefix.now _ _ (c.deref-2.ensures.value ∙ c.in_ok-zero.ensures) in
    let y = length_longer c.args.prefix.now _ _ (c.deref-in-Id-2.ensures.value ∙ c.in_ok-one-in-Id.ensures) in
    let closed = rw c.in-By.is at c.in_ok-d-2.ensures.closed in
    let side = rw c.in-Id.is at c.in_ok-keep_side-in-By.ensures.side in
    let closed1 = rw c.in-Done-3.is at c.in_ok-e-in-Id.ensures.closed in (
      done_both c.args.chain.now.items c.close.new.chain.items c.keep_side.new.chain.items c.close-in-Id.new.chain.items c.args.budget (length c.args.leaves.now) (length c.args.prefix.now) _ _
          c.if-prefix-leaves.false z y closed.0 side.0 closed1.0,
      closed1.1,
      λ x. closed1.2 side.4,
    )

pub returns-in-Sample-clause-closed : goal.returns-in-Sample-clause-closed
returns-in-Sample-clause-closed t c =
    let z = length_longer c.args.prefix.now _ _ (c.deref-2.ensures.value ∙ c.in_ok-zero.ensures) in
    let closed = rw c.in-Sample.is at c.in_ok-d-2.ensures.closed in
    (kept_more _ _ c.args.budget (length c.args.leaves.now) (length c.args.prefix.now) _ c.if-prefix-leaves.false z closed.0, closed.1)

pub returns-in-Spent-clause-closed : goal.returns-in-Spent-clause-closed
returns-in-Spent-clause-closed t c =
    let z = length_longer c.args.prefix.now _ _ (c.deref-2.ensures.value ∙ c.in_ok-zero.ensures) in
    let closed = rw c.in-Spent.is at c.in_ok-d-2.ensures.closed in
    (kept_more _ _ c.args.budget (length c.args.leaves.now) (length c.args.prefix.now) _ c.if-prefix-leaves.false z closed.0, closed.1)

pub returns-clause-closed : goal.returns-clause-closed
returns-clause-closed t c =
    let z = length_longer c.args.prefix.now _ _ (c.deref-2.ensures.value ∙ c.in_ok-zero.ensures) in
    let closed = rw c.in-Done.is at c.in_ok-d-2.ensures.closed in
    (done_more c.args.chain.now.items c.close.new.chain.items c.args.budget (length c.args.leaves.now) (length c.args.prefix.now) _ c.if-prefix-leaves.false z closed.0, closed.1, closed.2)

pub returns-then-prefix-leaves-clause-closed : goal.returns-then-prefix-leaves-clause-closed
returns-then-prefix-leaves-clause-closed t c =
    let ended = rw (is_none c.in_ok-d.field-0 c.in_default.not-Some) at c.in_ok-d.ensures.ended in
    let walk = rw (c.deref.ensures.value, c.in_ok-clause.ensures) at ended in (
      kept_here _ _ _,
      known_breaks c.args.given.now c.args.all.now _ c.args.leaves.now c.args.prefix.now c.args.ids.now (knows_of c.refine.new.scratch) _ c.requires.gated c.requires.given
          c.requires.leaves c.requires.named c.requires.prefix c.if-prefix-leaves.true c.requires.ids walk c.in_ok-bits.ensures,
    )

pub returns-in-Some-3-clause-kept : goal.returns-in-Some-3-clause-kept
returns-in-Some-3-clause-kept t c = λ g k. c.in_ok-e-in-Id.ensures.kept g (c.in_ok-keep_side-in-By.ensures.kept g (c.in_ok-d-2.ensures.kept g k))

pub returns-in-Sample-2-clause-grown : goal.returns-in-Sample-2-clause-grown
returns-in-Sample-2-clause-grown t c = grown_on _ _ _ (grown_on _ _ _ c.in_ok-d-2.ensures.grown c.in_ok-keep_side-in-By.ensures.grown) c.in_ok-e-in-Id.ensures.grown

pub returns-in-Spent-3-clause-grown : goal.returns-in-Spent-3-clause-grown
returns-in-Spent-3-clause-grown t c = grown_on _ _ _ (grown_on _ _ _ c.in_ok-d-2.ensures.grown c.in_ok-keep_side-in-By.ensures.grown) c.in_ok-e-in-Id.ensures.grown
