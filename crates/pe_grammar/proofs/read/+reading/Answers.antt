use Rattle.std.proofs.Common.{◌≡◌, ◌<◌, ℕ, true, false, length, List, ◌∷◌, ◌++◌, [], arith, sym, ap, ◌∙◌, subst, inl, inr, ◌⊎◌, refl}
use Rattle.std.specs.Prelude.{map}
use Rattle.std.proofs.lemmas.Result.{err_from_is_err_and, MatchResult-weaker}
use Rattle.pe_grammar.specs.declared.failure.Stop.{Stop}
use Rattle.pe_grammar.specs.declared.failure.Stop.TheVariants.{Memory, Left}
use Rattle.pe_grammar.specs.Derivation.{heads, HasEach, derivation, repeated, more, done, text, taken}
use Rattle.pe_grammar.specs.Table.{nullable}
use Rattle.pe_grammar.specs.Reading.{Reads, IsStop, IsRefused, ReadsOnce, RefusesOnce, IsStopOnce, IsRefusedOnce}
use Rattle.pe_grammar.proofs.Theory.{stop_present, refused_one, refused_again, stop_first, stop_second, stop_left, stop_right, shorter, terminal_reads, terminal_stops}
use Rattle.pe_grammar.proofs.OptionLists.{head_is, lacking_stops, reads_once, stop_once, once_done, once_more, once_taken, once_one, once_again}
use Rattle.pe_grammar.proofs.Arms.{reads_nothing, reads_pair, reads_left, reads_right, reads_done, reads_more, reads_present, reads_absent}
use Rattle.pe_grammar.proofs.Texts.{heads_push}
use Rattle.pe_grammar.proofs.Trees.{repeated_push}
use Rattle.pe_grammar.proofs.read.+reading.Goals as goal

pub read-read-requires : goal.read-read-requires
read-read-requires t c =
    let s = c.requires.grammar.sequence c.args.form c.in-Sequence.first c.in-Sequence.second c.in-Sequence.ensures in
    let lower = s.ranked in
    (omega arith, (c.requires.grammar, s.in_a))

pub read-returns-in_err-left-in-Sequence : goal.read-returns-in_err-left-in-Sequence
read-returns-in_err-left-in-Sequence t c =
    let p = err_from_is_err_and c.from_residual.result c.from_residual.ensures.1 in
    rw (p.1, p.2) (stop_first c.args.grammar.now c.requires.grammar c.args.form c.in-Sequence.first c.in-Sequence.second c.args.tokens.now c.in-Sequence.ensures c.in_err-left-in-Sequence.field-0.0 c.in_err-left-in-Sequence.ensures)

pub read-read-requires-in-Sequence : goal.read-read-requires-in-Sequence
read-read-requires-in-Sequence t c =
    let g = c.args.grammar.now in
    let s = c.requires.grammar.sequence c.args.form c.in-Sequence.first c.in-Sequence.second c.in-Sequence.ensures in
    let bound = c.requires.grammar.ranked c.in-Sequence.second in
    let r : (length c.in_ok-left-in-Sequence.middle.now < length c.args.tokens.now) ⊎ ((c.in_ok-left-in-Sequence.middle.now ≡ c.args.tokens.now) × (nullable g c.in-Sequence.first ≡ true)) =
    shorter g c.requires.grammar c.in-Sequence.first c.args.tokens.now c.in_ok-left-in-Sequence.middle.now (derivation c.in_ok-left-in-Sequence.left) c.in_ok-left-in-Sequence.ensures in (
      elim r [
        | inl p ↦ omega arith
        | inr p ↦ let same = ap length p.0 in let lower = s.ranked_after p.1 in omega arith
      ],
      (c.requires.grammar, s.in_b),
    )

pub read-returns-in_err-right-in-Sequence : goal.read-returns-in_err-right-in-Sequence
read-returns-in_err-right-in-Sequence t c =
    let p = err_from_is_err_and c.from_residual-in_err-right-in-Sequence.result c.from_residual-in_err-right-in-Sequence.ensures.1 in
    rw (p.1, p.2) (stop_second c.args.grammar.now c.requires.grammar c.args.form c.in-Sequence.first c.in-Sequence.second c.args.tokens.now c.in_ok-left-in-Sequence.middle.now (derivation c.in_ok-left-in-Sequence.left) c.in-Sequence.ensures c.in_ok-left-in-Sequence.ensures c.in_err-right-in-Sequence.field-0.0 c.in_err-right-in-Sequence.ensures)

pub read-goes_left-requires-clause-left : goal.read-goes_left-requires-clause-left
read-goes_left-requires-clause-left t c = (c.requires.grammar.choice c.args.form c.in-Choice.left c.in-Choice.right c.in-Choice.ensures).in_a

pub read-goes_left-requires-clause-right : goal.read-goes_left-requires-clause-right
read-goes_left-requires-clause-right t c = (c.requires.grammar.choice c.args.form c.in-Choice.left c.in-Choice.right c.in-Choice.ensures).in_b

pub read-read-requires-then-goes_left : goal.read-read-requires-then-goes_left
read-read-requires-then-goes_left t c =
    let s = c.requires.grammar.choice c.args.form c.in-Choice.left c.in-Choice.right c.in-Choice.ensures in
    let lower = s.ranked_a in
    (omega arith, (c.requires.grammar, s.in_a))

pub read-returns-in_err-tree-in-Choice : goal.read-returns-in_err-tree-in-Choice
read-returns-in_err-tree-in-Choice t c =
    let p = err_from_is_err_and c.from_residual-in_err-tree-in-Choice.result c.from_residual-in_err-tree-in-Choice.ensures.1 in
    rw (p.1, p.2) (stop_left c.args.grammar.now c.requires.grammar c.args.form c.in-Choice.left c.in-Choice.right c.args.tokens.now c.in-Choice.ensures (sym c.if-goes_left.ensures) c.in_err-tree-in-Choice.field-0.0 c.in_err-tree-in-Choice.ensures)

pub read-read-requires-else-goes_left : goal.read-read-requires-else-goes_left
read-read-requires-else-goes_left t c =
    let s = c.requires.grammar.choice c.args.form c.in-Choice.left c.in-Choice.right c.in-Choice.ensures in
    let lower = s.ranked_b in
    (omega arith, (c.requires.grammar, s.in_b))

pub read-returns-in_err-tree-in-Choice-2 : goal.read-returns-in_err-tree-in-Choice-2
read-returns-in_err-tree-in-Choice-2 t c =
    let p = err_from_is_err_and c.from_residual-in_err-tree-in-Choice-2.result c.from_residual-in_err-tree-in-Choice-2.ensures.1 in
    rw (p.1, p.2) (stop_right c.args.grammar.now c.requires.grammar c.args.form c.in-Choice.left c.in-Choice.right c.args.tokens.now c.in-Choice.ensures (sym c.if-goes_left.ensures) c.in_err-tree-in-Choice-2.field-0.0 c.in_err-tree-in-Choice-2.ensures)

pub read-returns-in-Terminal : goal.read-returns-in-Terminal
read-returns-in-Terminal t c =
    MatchResult-weaker c.terminal.result c.terminal.ensures
    (λ r h. terminal_reads c.args.grammar.now c.requires.grammar c.args.form c.in-Terminal.kind c.args.tokens.now r.1.now (derivation r.0) c.in-Terminal.ensures h)
    (λ e h. terminal_stops c.args.grammar.now c.requires.grammar c.args.form c.in-Terminal.kind c.args.tokens.now e c.in-Terminal.ensures h)

pub read-returns-in-Empty : goal.read-returns-in-Empty
read-returns-in-Empty t c =
    let x = reads_nothing c.args.grammar.now c.requires.grammar c.args.form c.args.tokens.now c.in-Empty.ensures in
    subst (λ d. Reads c.args.grammar.now c.args.form c.args.tokens.now d c.args.tokens.now) (sym c.make_empty.ensures) x

pub read-returns-in_ok-make_pair-in-Sequence : goal.read-returns-in_ok-make_pair-in-Sequence
read-returns-in_ok-make_pair-in-Sequence t c =
    let x = reads_pair c.args.grammar.now c.requires.grammar c.args.form c.in-Sequence.first c.in-Sequence.second c.args.tokens.now c.in_ok-left-in-Sequence.middle.now c.in_ok-right-in-Sequence.rest.now
    (derivation c.in_ok-left-in-Sequence.left) (derivation c.in_ok-right-in-Sequence.right) c.in-Sequence.ensures c.in_ok-left-in-Sequence.ensures c.in_ok-right-in-Sequence.ensures in
    subst (λ d. Reads c.args.grammar.now c.args.form c.args.tokens.now d c.in_ok-right-in-Sequence.rest.now) (sym c.in_ok-make_pair-in-Sequence.ensures) x

pub read-returns-in_ok-make_left-in-Choice : goal.read-returns-in_ok-make_left-in-Choice
read-returns-in_ok-make_left-in-Choice t c =
    let x = reads_left c.args.grammar.now c.requires.grammar c.args.form c.in-Choice.left c.in-Choice.right c.args.tokens.now c.in_ok-tree-in-Choice.rest.now
    (derivation c.in_ok-tree-in-Choice.tree) c.in-Choice.ensures (sym c.if-goes_left.ensures) c.in_ok-tree-in-Choice.ensures in
    subst (λ d. Reads c.args.grammar.now c.args.form c.args.tokens.now d c.in_ok-tree-in-Choice.rest.now) (sym c.in_ok-make_left-in-Choice.ensures) x

pub read-returns-in_ok-make_right-in-Choice : goal.read-returns-in_ok-make_right-in-Choice
read-returns-in_ok-make_right-in-Choice t c =
    let x = reads_right c.args.grammar.now c.requires.grammar c.args.form c.in-Choice.left c.in-Choice.right c.args.tokens.now c.in_ok-tree-in-Choice-2.rest.now
    (derivation c.in_ok-tree-in-Choice-2.tree) c.in-Choice.ensures (sym c.if-goes_left.ensures) c.in_ok-tree-in-Choice-2.ensures in
    subst (λ d. Reads c.args.grammar.now c.args.form c.args.tokens.now d c.in_ok-tree-in-Choice-2.rest.now) (sym c.in_ok-make_right-in-Choice.ensures) x

pub repeat-starts-requires : goal.repeat-starts-requires
repeat-starts-requires t c = (c.requires.grammar.«repeat» c.args.form c.args.each c.requires.«repeat»).in_a

pub repeat-read-requires : goal.repeat-read-requires
repeat-read-requires t c =
    let s = c.requires.grammar.«repeat» c.args.form c.args.each c.requires.«repeat» in
    let lower = s.ranked in
    let fewer = c.items.invariant.fewer in
    (omega arith, (c.requires.grammar, s.in_a))

pub repeat-returns-in_err-tree : goal.repeat-returns-in_err-tree
repeat-returns-in_err-tree t c =
    let p = err_from_is_err_and c.from_residual.result c.from_residual.ensures.1 in
    rw (p.1, p.2) (stop_in (λ k h. c.items.invariant.refused k (refused_one c.args.grammar.now c.requires.grammar c.args.form c.args.each c.items.left.now k c.requires.«repeat» (sym c.items-test.ensures) h)) c.in_err-tree.field-0.0 c.in_err-tree.ensures)
  where
    stop_in : ((k : ℕ) → IsRefused c.args.grammar.now c.args.each c.items.left.now k → IsRefused c.args.grammar.now c.args.form c.args.tokens.now k) →
        (e : Stop) → IsStop c.args.grammar.now c.args.each c.items.left.now e → IsStop c.args.grammar.now c.args.form c.args.tokens.now e
    stop_in f Memory h = tt
    stop_in f (Left k) h = f k h

pub repeat-items-smaller : goal.repeat-items-smaller
repeat-items-smaller t c =
    let s = c.requires.grammar.«repeat» c.args.form c.args.each c.requires.«repeat» in
    let r : (length c.in_ok-tree.rest.now < length c.items.left.now) ⊎ ((c.in_ok-tree.rest.now ≡ c.items.left.now) × (nullable c.args.grammar.now c.args.each ≡ true)) =
    shorter c.args.grammar.now c.requires.grammar c.args.each c.items.left.now c.in_ok-tree.rest.now (derivation c.in_ok-tree.tree) c.in_ok-tree.ensures in
    elim r [ inl p ↦ p | inr p ↦ absurd (s.not_null p.1) ]

pub repeat-items-preserved : goal.repeat-items-preserved
repeat-items-preserved t c =
    let g = c.args.grammar.now in
    let s = c.requires.grammar.«repeat» c.args.form c.args.each c.requires.«repeat» in
    let fewer = c.items.invariant.fewer in
    let r : (length c.in_ok-tree.rest.now < length c.items.left.now) ⊎ ((c.in_ok-tree.rest.now ≡ c.items.left.now) × (nullable g c.args.each ≡ true)) =
    shorter g c.requires.grammar c.args.each c.items.left.now c.in_ok-tree.rest.now (derivation c.in_ok-tree.tree) c.in_ok-tree.ensures in
    record {
      fewer = elim r [ inl p ↦ omega arith | inr p ↦ absurd (s.not_null p.1) ];
      read = λ e rest x.
          let y = c.items.invariant.read (more (derivation c.in_ok-tree.tree) e) rest
          (reads_more g c.requires.grammar c.args.form c.args.each c.items.left.now c.in_ok-tree.rest.now rest (derivation c.in_ok-tree.tree) e c.requires.«repeat» (sym c.items-test.ensures) c.in_ok-tree.ensures x) in
          let pushed : c.push.new.self ≡ c.items.items ++ c.in_ok-tree.tree ∷ [] = c.in_ok-push.ensures.ok in
          subst (λ d. Reads g c.args.form c.args.tokens.now d rest) (sym (ap (λ ts. repeated (map derivation ts) e) pushed ∙ repeated_push c.items.items c.in_ok-tree.tree e)) y;
      refused = λ k h. c.items.invariant.refused k (refused_again g c.requires.grammar c.args.form c.args.each c.items.left.now c.in_ok-tree.rest.now (derivation c.in_ok-tree.tree) k c.requires.«repeat» (sym c.items-test.ensures) c.in_ok-tree.ensures h);
    }

pub repeat-returns : goal.repeat-returns
repeat-returns t c =
    let x = c.items.invariant.read done c.items.left.now (reads_done c.args.grammar.now c.requires.grammar c.args.form c.args.each c.items.left.now c.requires.«repeat» (sym c.items-test.ensures)) in
    subst (λ d. Reads c.args.grammar.now c.args.form c.args.tokens.now d c.items.left.now) (sym c.in_ok-make_repeat.ensures) x

pub read-returns-in_err-tree-in-Some : goal.read-returns-in_err-tree-in-Some
read-returns-in_err-tree-in-Some t c =
    let p = err_from_is_err_and c.from_residual-in_err-tree-in-Some.result c.from_residual-in_err-tree-in-Some.ensures.1 in
    let s = c.in-Some.ensures in
    rw (p.1, p.2) (stop_present c.args.grammar.now c.requires.grammar c.args.form c.in-Clause.set c.in-Clause.part c.in-Some.token c.args.tokens.now c.in-Some.after.now c.in-Clause.ensures s.0 s.1 c.in_err-tree-in-Some.field-0.0 c.in_err-tree-in-Some.ensures)

pub read-returns-in_ok-make_present-in-Some : goal.read-returns-in_ok-make_present-in-Some
read-returns-in_ok-make_present-in-Some t c =
    let s = c.in-Some.ensures in
    let g = c.args.grammar.now in
    let d = derivation c.in_ok-tree-in-Some.tree in
    let rest = c.in_ok-tree-in-Some.rest.now in
    let x = reads_present g c.requires.grammar c.args.form c.in-Clause.set c.in-Clause.part c.in-Some.token c.in-Some.after.now rest d c.in-Clause.ensures s.0 c.in_ok-tree-in-Some.ensures in
    subst (λ ts. Reads g c.args.form ts (derivation c.in_ok-make_present-in-Some.field-0) rest) (sym s.1)
    (subst (λ e. Reads g c.args.form (c.in-Some.token ∷ c.in-Some.after.now) e rest) (sym c.in_ok-make_present-in-Some.ensures) x)

pub read-returns-in_ok-make_absent-in-None : goal.read-returns-in_ok-make_absent-in-None
read-returns-in_ok-make_absent-in-None t c =
    let x = reads_absent c.args.grammar.now c.requires.grammar c.args.form c.in-Clause.set c.in-Clause.part c.args.tokens.now c.in-Clause.ensures c.in-None.ensures in
    subst (λ d. Reads c.args.grammar.now c.args.form c.args.tokens.now d c.args.tokens.now) (sym c.in_ok-make_absent-in-None.ensures) x

not_taken : (set : ℕ) (xs used : List ℕ) (k : ℕ) → xs ≡ used → false ≡ taken set xs k → taken set used k ≡ true → ⊥
not_taken set xs used k p q r = let s : taken set xs k ≡ taken set used k = ap (λ v. taken set v k) p in cc

pub read_once-next_start-requires : goal.read_once-next_start-requires
read_once-next_start-requires t c = (c.requires.grammar.«repeat» c.args.form c.args.each c.requires.«repeat»).in_a

pub read_once-returns-then-is_taken : goal.read_once-returns-then-is_taken
read_once-returns-then-is_taken t c =
    let same : c.as_slice.result.now ≡ c.items.used = c.as_slice.ensures in
    let used : taken c.args.set c.items.used c.in-Some.kind ≡ true = sym (c.if-is_taken.ensures ∙ ap (λ v. taken c.args.set v c.in-Some.kind) same) in
    let next = c.in-Some.ensures in
    c.items.invariant.refused (length c.items.left.now) ([], c.items.left.now, refl, once_taken c.args.grammar.now c.requires.grammar c.args.form c.args.each c.args.set c.items.used c.in-Some.kind c.items.left.now c.requires.«repeat» next.0 next.1 used)

pub read_once-read-requires : goal.read_once-read-requires
read_once-read-requires t c =
    let s = c.requires.grammar.«repeat» c.args.form c.args.each c.requires.«repeat» in
    let lower = s.ranked in
    let fewer = c.items.invariant.fewer in
    (omega arith, (c.requires.grammar, s.in_a))

pub read_once-returns-in_err-tree : goal.read_once-returns-in_err-tree
read_once-returns-in_err-tree t c =
    let p = err_from_is_err_and c.from_residual.result c.from_residual.ensures.1 in
    let fresh : taken c.args.set c.items.used c.in-Some.kind ≡ true → ⊥ = not_taken c.args.set c.as_slice.result.now c.items.used c.in-Some.kind c.as_slice.ensures c.if-is_taken.ensures in
    let next = c.in-Some.ensures in
    rw (p.1, p.2) (stop_in (λ k h. c.items.invariant.refused k (h.0, h.1, h.2, once_one c.args.grammar.now c.requires.grammar c.args.form c.args.each c.args.set c.items.used c.in-Some.kind c.items.left.now h.0 h.1 c.requires.«repeat» next.0 next.1 fresh h.3)) c.in_err-tree.field-0.0 c.in_err-tree.ensures)
  where
    stop_in : ((k : ℕ) → IsRefused c.args.grammar.now c.args.each c.items.left.now k → IsRefusedOnce c.args.grammar.now c.args.form c.args.set [] c.args.tokens.now k) →
        (e : Stop) → IsStop c.args.grammar.now c.args.each c.items.left.now e → IsStopOnce c.args.grammar.now c.args.form c.args.set [] c.args.tokens.now e
    stop_in f Memory h = tt
    stop_in f (Left k) h = f k h

pub read_once-items-smaller : goal.read_once-items-smaller
read_once-items-smaller t c =
    let s = c.requires.grammar.«repeat» c.args.form c.args.each c.requires.«repeat» in
    let r : (length c.in_ok-tree.rest.now < length c.items.left.now) ⊎ ((c.in_ok-tree.rest.now ≡ c.items.left.now) × (nullable c.args.grammar.now c.args.each ≡ true)) =
    shorter c.args.grammar.now c.requires.grammar c.args.each c.items.left.now c.in_ok-tree.rest.now (derivation c.in_ok-tree.tree) c.in_ok-tree.ensures in
    elim r [ inl p ↦ p | inr p ↦ absurd (s.not_null p.1) ]

pub read_once-items-preserved : goal.read_once-items-preserved
read_once-items-preserved t c =
    let g = c.args.grammar.now in
    let s = c.requires.grammar.«repeat» c.args.form c.args.each c.requires.«repeat» in
    let d = derivation c.in_ok-tree.tree in
    let kind = c.in-Some.kind in
    let fresh : taken c.args.set c.items.used kind ≡ true → ⊥ = not_taken c.args.set c.as_slice.result.now c.items.used kind c.as_slice.ensures c.if-is_taken.ensures in
    let next = c.in-Some.ensures in
    let fewer = c.items.invariant.fewer in
    let r : (length c.in_ok-tree.rest.now < length c.items.left.now) ⊎ ((c.in_ok-tree.rest.now ≡ c.items.left.now) × (nullable g c.args.each ≡ true)) =
    shorter g c.requires.grammar c.args.each c.items.left.now c.in_ok-tree.rest.now d c.in_ok-tree.ensures in
    let pushed : c.push.new.self ≡ c.items.items ++ c.in_ok-tree.tree ∷ [] = c.in_ok-push.ensures.ok in
    let marked : c.push-in-Some.new.self ≡ c.items.used ++ kind ∷ [] = c.in_ok-push-2.ensures.ok in
    record {
      fewer = elim r [ inl p ↦ omega arith | inr p ↦ absurd (s.not_null p.1) ];
      kinds =
          let head = head_is g c.requires.grammar c.args.form c.args.each d c.items.left.now c.in_ok-tree.rest.now kind c.requires.«repeat» c.in_ok-tree.ensures next.0 in
          ap (λ ts. heads (repeated (map derivation ts) done)) pushed
          ∙ heads_push c.items.items c.in_ok-tree.tree kind head
          ∙ ap (λ ks. ks ++ kind ∷ []) c.items.invariant.kinds
          ∙ sym marked;
      read = λ e rest x.
          let x' : ReadsOnce g c.args.form c.args.set (c.items.used ++ kind ∷ []) c.in_ok-tree.rest.now e rest = subst (λ v. ReadsOnce g c.args.form c.args.set v c.in_ok-tree.rest.now e rest) marked x in
          let y = c.items.invariant.read (more d e) rest
          (once_more g c.requires.grammar c.args.form c.args.each c.args.set c.items.used kind c.items.left.now c.in_ok-tree.rest.now rest d e c.requires.«repeat» next.0 next.1 fresh c.in_ok-tree.ensures x') in
          subst (λ b. ReadsOnce g c.args.form c.args.set [] c.args.tokens.now b rest) (sym (ap (λ ts. repeated (map derivation ts) e) pushed ∙ repeated_push c.items.items c.in_ok-tree.tree e)) y;
      refused = λ k h.
          c.items.invariant.refused k (
            text d ++ h.0,
            h.1,
            h.2,
            once_again g c.requires.grammar c.args.form c.args.each c.args.set c.items.used kind c.items.left.now c.in_ok-tree.rest.now h.0 h.1 d c.requires.«repeat» next.0 next.1 fresh c.in_ok-tree.ensures
                (subst (λ v. RefusesOnce g c.args.form c.args.set v c.in_ok-tree.rest.now h.0 h.1) marked h.3),
          );
    }

pub read_once-returns : goal.read_once-returns
read_once-returns t c = (
  c.items.invariant.kinds,
  c.items.invariant.read done c.items.left.now (once_done c.args.grammar.now c.requires.grammar c.args.form c.args.each c.args.set c.items.used c.items.left.now c.requires.«repeat» c.in_default.ensures),
)

pub read_once-items-init : goal.read_once-items-init
read_once-items-init t c =
    let g = c.args.grammar.now in
    let none = c.new-items.ensures in
    let unused = c.new-used.ensures in
    record {
      fewer = omega arith;
      kinds = ap (λ ts. heads (repeated (map derivation ts) done)) none ∙ sym unused;
      read = λ e rest x.
          subst (λ ts. ReadsOnce g c.args.form c.args.set [] c.args.tokens.now (repeated (map derivation ts) e) rest) (sym none)
          (subst (λ us. ReadsOnce g c.args.form c.args.set us c.args.tokens.now e rest) unused x);
      refused = λ k h. subst (λ us. IsRefusedOnce g c.args.form c.args.set us c.args.tokens.now k) unused h;
    }

pub read_options-returns-in_err-items : goal.read_options-returns-in_err-items
read_options-returns-in_err-items t c =
    let p = err_from_is_err_and c.from_residual.result c.from_residual.ensures.1 in
    rw (p.1, p.2) (stop_once c.args.grammar.now c.requires.grammar c.args.form c.args.part c.args.bounds c.args.tokens.now c.requires.once c.in_err-items.field-0.0 c.in_err-items.ensures)

pub read_options-returns-then-has_each : goal.read_options-returns-then-has_each
read_options-returns-then-has_each t c =
    let g = c.args.grammar.now in
    let d = repeated (map derivation c.in_ok-items.items) done in
    let rest = c.in_ok-items.rest.now in
    let has_all : HasEach c.args.bounds.needed c.as_slice.result.now = c.if-has_each.ensures.0 refl in
    let needs : HasEach c.args.bounds.needed (heads d) = subst (λ ks. HasEach c.args.bounds.needed ks) (c.as_slice.ensures ∙ sym c.in_ok-items.ensures.0) has_all in
    let x = reads_once g c.requires.grammar c.args.form c.args.part c.args.bounds c.args.tokens.now rest d c.requires.once c.in_ok-items.ensures.1 needs in
    subst (λ e. Reads g c.args.form c.args.tokens.now e rest) (sym c.in_ok-make_once.ensures) x

pub read_options-returns : goal.read_options-returns
read_options-returns t c =
    let d = repeated (map derivation c.in_ok-items.items) done in
    lacking_stops c.args.grammar.now c.requires.grammar c.args.form c.args.part c.args.bounds c.args.tokens.now c.in_ok-items.rest.now d c.requires.once c.in_ok-items.ensures.1
    (λ needs. let z : false ≡ true = c.if-has_each.ensures.1 (subst (λ ks. HasEach c.args.bounds.needed ks) (c.in_ok-items.ensures.0 ∙ sym c.as_slice.ensures) needs) in cc)
