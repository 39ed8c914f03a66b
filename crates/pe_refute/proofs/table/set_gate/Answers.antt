use Rattle.std.proofs.Common.{◌≡◌, ◌+◌, ◌&&◌, suc, subst, true, false, length, sym, ap, ◌∙◌, arith}
use Rattle.pe_cnf.specs.Clause.{literal_value}
use Rattle.pe_cnf.specs.Gates.{gate_start, output_of, left_of, right_of}
use Rattle.pe_refute.specs.Known.{knows_of}
use Rattle.pe_refute.specs.Evaluation.{value_of, IsEvaluated}
use Rattle.pe_refute.proofs.Evaluated.{read_at, output_below, mark_value, step_marked, step_plain, both_values}
use Rattle.pe_refute.proofs.table.set_gate.Goals as goal
use Rattle.pe_refute.proofs.table.set_gate.Goals.{else-left-via-then-left+else-right, else-left-via-else-left}

pub value-left-requires : goal.value-left-requires
value-left-requires c =
    let set = c.args.clauses.now in
    let gate = c.requires.gated.gates_are.each c.args.g c.requires.within in
    let read : c.index-clause-1.result ≡ left_of set.clauses c.args.g = read_at c.clause-2.result.now set.clauses (gate_start c.args.g) 1 c.index-clause-1.result c.clause-2.ensures (omega (arith, ap length gate.first)) c.index-clause-1.is in
    let below = (output_below set.vars set.leaves set.clauses c.args.g c.requires.sound.below gate).1 in
    rw read (omega (arith, below, c.requires.room))

pub value-right-requires : goal.value-right-requires
value-right-requires c =
    let set = c.args.clauses.now in
    let gate = c.requires.gated.gates_are.each c.args.g c.requires.within in
    let read : c.index-clause-1-2.result ≡ right_of set.clauses c.args.g = read_at c.clause-3.result.now set.clauses (gate_start c.args.g + 1) 1 c.index-clause-1-2.result c.clause-3.ensures (omega (arith, ap length gate.second)) c.index-clause-1-2.is in
    let below = (output_below set.vars set.leaves set.clauses c.args.g c.requires.sound.below gate).2 in
    rw read (omega (arith, below, c.requires.room))

pub mark-requires : goal.mark-requires
mark-requires c =
    let set = c.args.clauses.now in
    let gate = c.requires.gated.gates_are.each c.args.g c.requires.within in
    let read : c.index-clause-0.result ≡ output_of set.clauses c.args.g = read_at c.clause.result.now set.clauses (gate_start c.args.g + 2) 0 c.index-clause-0.result c.clause.ensures (omega (arith, ap length gate.third)) c.index-clause-0.is in
    let below = (output_below set.vars set.leaves set.clauses c.args.g c.requires.sound.below gate).0 in
    rw read (omega (arith, below, c.requires.room))

pub returns-then-right-clause-evaluated : goal.returns-then-right-clause-evaluated
returns-then-right-clause-evaluated c = λ k s.
    let set = c.args.clauses.now in
    let g = c.args.g in
    let gate = c.requires.gated.gates_are.each g c.requires.within in
    let out : c.index-clause-0.result ≡ output_of set.clauses g = read_at c.clause.result.now set.clauses (gate_start g + 2) 0 c.index-clause-0.result c.clause.ensures (omega (arith, ap length gate.third)) c.index-clause-0.is in
    let p : c.index-clause-1.result ≡ left_of set.clauses g = read_at c.clause-2.result.now set.clauses (gate_start g) 1 c.index-clause-1.result c.clause-2.ensures (omega (arith, ap length gate.first)) c.index-clause-1.is in
    let q : c.index-clause-1-2.result ≡ right_of set.clauses g = read_at c.clause-3.result.now set.clauses (gate_start g + 1) 1 c.index-clause-1-2.result c.clause-3.ensures (omega (arith, ap length gate.second)) c.index-clause-1-2.is in
    let w = value_of c.args.scratch.now in
    let lp : literal_value w (left_of set.clauses g) ≡ true = ap (literal_value w) (sym p) ∙ sym c.value-left.ensures ∙ c.if-left.true in
    let lq : literal_value w (right_of set.clauses g) ≡ true = ap (literal_value w) (sym q) ∙ sym c.value-right.ensures ∙ c.if-right.true in
    let is_one : (literal_value w (left_of set.clauses g) && literal_value w (right_of set.clauses g)) ≡ true = ap (λ b. b && literal_value w (right_of set.clauses g)) lp ∙ lq in
    let next : suc g ≡ g + 1 = omega arith in
    subst (λ n. IsEvaluated set.leaves set.clauses k n (value_of c.mark.new.self)) next
    (step_marked set.leaves set.clauses _ k g w (value_of c.mark.new.self) c.requires.gated.gates_are.each c.requires.within
    (mark_value (knows_of c.args.scratch.now) (knows_of c.mark.new.self) c.index-clause-0.result (output_of set.clauses g) out gate.plain c.mark.ensures.known) is_one s)

pub returns-else-left-clause-evaluated : goal.returns-else-left-clause-evaluated
returns-else-left-clause-evaluated c = λ k s.
    let set = c.args.clauses.now in
    let g = c.args.g in
    let gate = c.requires.gated.gates_are.each g c.requires.within in
    let p : c.index-clause-1.result ≡ left_of set.clauses g = read_at c.clause-2.result.now set.clauses (gate_start g) 1 c.index-clause-1.result c.clause-2.ensures (omega (arith, ap length gate.first)) c.index-clause-1.is in
    let q : c.index-clause-1-2.result ≡ right_of set.clauses g = read_at c.clause-3.result.now set.clauses (gate_start g + 1) 1 c.index-clause-1-2.result c.clause-3.ensures (omega (arith, ap length gate.second)) c.index-clause-1-2.is in
    let w = value_of c.args.scratch.now in
    let is_zero : (literal_value w (left_of set.clauses g) && literal_value w (right_of set.clauses g)) ≡ false =
    elim c.else-left.branch [
      | else-left-via-then-left+else-right v ↦
          let lq : literal_value w (right_of set.clauses g) ≡ false = ap (literal_value w) (sym q) ∙ sym c.value-right.ensures ∙ v.if-right.false in
          ap (λ b. literal_value w (left_of set.clauses g) && b) lq ∙ both_values (literal_value w (left_of set.clauses g))
      | else-left-via-else-left v ↦
          let lp : literal_value w (left_of set.clauses g) ≡ false = ap (literal_value w) (sym p) ∙ sym c.value-left.ensures ∙ v.if-left.false in
          ap (λ b. b && literal_value w (right_of set.clauses g)) lp
    ] in
    let next : suc g ≡ g + 1 = omega arith in
    subst (λ n. IsEvaluated set.leaves set.clauses k n w) next (step_plain set.leaves set.clauses _ k g w c.requires.gated.gates_are.each c.requires.within is_zero s)
