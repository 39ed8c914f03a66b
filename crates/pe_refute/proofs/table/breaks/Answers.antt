use Rattle.std.proofs.Common.{◌≡◌, ◌+◌, ◌∙◌, true, false, length, ap, sym, arith}
use mathlib.Core.Bool.{beq}
use Rattle.pe_cnf.specs.Clause.{clause_at, literal_value}
use Rattle.pe_cnf.specs.Gates.{gate_count, ctx_of, a_of, b_of}
use Rattle.pe_cnf.proofs.MarkLemmas.{not_both}
use Rattle.pe_refute.specs.Evaluation.{value_of}
use Rattle.pe_refute.proofs.Evaluated.{read_at, has_first, has_second}
use Rattle.pe_refute.proofs.Breaks.{broken, breaks_of, false_from, true_from}
use Rattle.pe_refute.proofs.table.breaks.Goals as goal

pub loop-g-preserved : goal.loop-g-preserved
loop-g-preserved c = record {
  room = c.set_gate.ensures.room ∙ c.loop-g.invariant.room;
  evaluated = c.set_gate.ensures.evaluated c.args.k c.loop-g.invariant.evaluated;
}

pub value-requires : goal.value-requires
value-requires c =
    let set = c.args.clauses.now in
    let at = ap (clause_at set.clauses) c.gates-gates.ensures in
    let read : c.index-clause-0.result ≡ ctx_of set = read_at c.clause.result.now set.clauses set.gates 0 c.index-clause-0.result (c.clause.ensures ∙ at) (omega (arith, ap length c.requires.gated.ctx)) c.index-clause-0.is in
    let below = c.requires.sound.below _ _ (has_first _ _ _ c.requires.gated.ctx) in
    rw read (omega (arith, below, c.requires.room, c.loop-g.invariant.room))

pub value-requires-then-value : goal.value-requires-then-value
value-requires-then-value c =
    let set = c.args.clauses.now in
    let at = ap (λ g. clause_at set.clauses (g + 1)) c.gates-gates.ensures in
    let read : c.index-clause-0-then-value.result ≡ a_of set = read_at c.clause-then-value.result.now set.clauses (set.gates + 1) 0 c.index-clause-0-then-value.result (c.clause-then-value.ensures ∙ at) (omega (arith, ap length c.requires.gated.differ)) c.index-clause-0-then-value.is in
    let below = c.requires.sound.below _ _ (has_first _ _ _ c.requires.gated.differ) in
    rw read (omega (arith, below, c.requires.room, c.loop-g.invariant.room))

pub value-requires-then-value-2 : goal.value-requires-then-value-2
value-requires-then-value-2 c =
    let set = c.args.clauses.now in
    let at = ap (λ g. clause_at set.clauses (g + 1)) c.gates-gates.ensures in
    let read : c.index-clause-1.result ≡ b_of set = read_at c.clause-then-value-2.result.now set.clauses (set.gates + 1) 1 c.index-clause-1.result (c.clause-then-value-2.ensures ∙ at) (omega (arith, ap length c.requires.gated.differ)) c.index-clause-1.is in
    let below = c.requires.sound.below _ _ (has_second _ _ _ _ c.requires.gated.differ) in
    rw read (omega (arith, below, c.requires.room, c.loop-g.invariant.room))

pub returns-then-value-clause-found : goal.returns-then-value-clause-found
returns-then-value-clause-found c = λ t.
    let set = c.args.clauses.now in
    let w = value_of c.loop-g.scratch in
    let at0 = ap (clause_at set.clauses) c.gates-gates.ensures in
    let at1 = ap (λ g. clause_at set.clauses (g + 1)) c.gates-gates.ensures in
    let x : c.index-clause-0.result ≡ ctx_of set = read_at c.clause.result.now set.clauses set.gates 0 c.index-clause-0.result (c.clause.ensures ∙ at0) (omega (arith, ap length c.requires.gated.ctx)) c.index-clause-0.is in
    let a : c.index-clause-0-then-value.result ≡ a_of set = read_at c.clause-then-value.result.now set.clauses (set.gates + 1) 0 c.index-clause-0-then-value.result (c.clause-then-value.ensures ∙ at1) (omega (arith, ap length c.requires.gated.differ)) c.index-clause-0-then-value.is in
    let b : c.index-clause-1.result ≡ b_of set = read_at c.clause-then-value-2.result.now set.clauses (set.gates + 1) 1 c.index-clause-1.result (c.clause-then-value-2.ensures ∙ at1) (omega (arith, ap length c.requires.gated.differ)) c.index-clause-1.is in
    let ctx_on : literal_value w (ctx_of set) ≡ true = ap (literal_value w) (sym x) ∙ sym c.value.ensures ∙ c.if-value.true in
    let va = c.value-then-value.ensures ∙ ap (literal_value w) a in
    let vb = c.value-then-value-2.ensures ∙ ap (literal_value w) b in
    let differ : beq (literal_value w (a_of set)) (literal_value w (b_of set)) ≡ false = ap (λ y. beq y (literal_value w (b_of set))) (sym va) ∙ ap (beq c.value-then-value.result) (sym vb) ∙ false_from _ t in
    let full : c.loop-g.g ≡ gate_count set = omega (arith, c.gates-g-end.ensures) in
    (w, c.loop-g.invariant.evaluated.leaves_are, broken set c.args.k c.loop-g.g w c.requires.gated full c.loop-g.invariant.evaluated ctx_on differ)

pub returns-then-value-clause-none : goal.returns-then-value-clause-none
returns-then-value-clause-none c = λ t z assigns holds.
    let set = c.args.clauses.now in
    let w = value_of c.loop-g.scratch in
    let at1 = ap (λ g. clause_at set.clauses (g + 1)) c.gates-gates.ensures in
    let a : c.index-clause-0-then-value.result ≡ a_of set = read_at c.clause-then-value.result.now set.clauses (set.gates + 1) 0 c.index-clause-0-then-value.result (c.clause-then-value.ensures ∙ at1) (omega (arith, ap length c.requires.gated.differ)) c.index-clause-0-then-value.is in
    let b : c.index-clause-1.result ≡ b_of set = read_at c.clause-then-value-2.result.now set.clauses (set.gates + 1) 1 c.index-clause-1.result (c.clause-then-value-2.ensures ∙ at1) (omega (arith, ap length c.requires.gated.differ)) c.index-clause-1.is in
    let va = c.value-then-value.ensures ∙ ap (literal_value w) a in
    let vb = c.value-then-value-2.ensures ∙ ap (literal_value w) b in
    let full : c.loop-g.g ≡ gate_count set = omega (arith, c.gates-g-end.ensures) in
    let r = breaks_of set c.args.k c.loop-g.g w z c.requires.gated full c.loop-g.invariant.evaluated assigns holds in
    let differ : beq c.value-then-value.result c.value-then-value-2.result ≡ false = ap (λ y. beq y c.value-then-value-2.result) va ∙ ap (beq (literal_value w (a_of set))) vb ∙ r.1 in
    not_both (beq c.value-then-value.result c.value-then-value-2.result) (true_from _ t) differ

pub returns-else-value-clause-none : goal.returns-else-value-clause-none
returns-else-value-clause-none c = λ t z assigns holds.
    let set = c.args.clauses.now in
    let w = value_of c.loop-g.scratch in
    let at0 = ap (clause_at set.clauses) c.gates-gates.ensures in
    let x : c.index-clause-0.result ≡ ctx_of set = read_at c.clause.result.now set.clauses set.gates 0 c.index-clause-0.result (c.clause.ensures ∙ at0) (omega (arith, ap length c.requires.gated.ctx)) c.index-clause-0.is in
    let full : c.loop-g.g ≡ gate_count set = omega (arith, c.gates-g-end.ensures) in
    let r = breaks_of set c.args.k c.loop-g.g w z c.requires.gated full c.loop-g.invariant.evaluated assigns holds in
    not_both (literal_value w (ctx_of set)) r.0 (ap (literal_value w) (sym x) ∙ sym c.value.ensures ∙ c.if-value.false)
