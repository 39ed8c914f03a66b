-- Plans, one behind the other.
use Rattle.std.proofs.Common.{◌≡◌, ℕ, ◌+◌, ◌<◌, ◌≤◌, List, length, get_or, drop, refl, ap, sym, ◌∙◌, append_assoc, append-nil}
use Rattle.std.proofs.lemmas.List.{at_drop_more, at_drop_all}
use Rattle.pe_upf_read.specs.declared.intent.Command.{Command}
use Rattle.pe_supply.specs.declared.plan.Plan.{Plan}
use Rattle.pe_supply.specs.Plans.{no_plan, plan_by, joined, plan_of}

joined_on : (p q r : Plan) → joined (joined p q) r ≡ joined p (joined q r)
joined_on p q r = rw (
  append_assoc p.names q.names r.names,
  append_assoc p.ports q.ports r.ports,
  append_assoc p.nets q.nets r.nets,
  append_assoc p.ties q.ties r.ties,
  append_assoc p.uses q.uses r.uses,
  append_assoc p.sets q.sets r.sets,
  append_assoc p.tables q.tables r.tables,
  append_assoc p.states q.states r.states,
  append_assoc p.rows q.rows r.rows,
  append_assoc p.switches q.switches r.switches,
) refl

joined_none : (p : Plan) → joined p no_plan ≡ p
joined_none p = rw (
  append-nil p.names,
  append-nil p.ports,
  append-nil p.nets,
  append-nil p.ties,
  append-nil p.uses,
  append-nil p.sets,
  append-nil p.tables,
  append-nil p.states,
  append-nil p.rows,
  append-nil p.switches,
) refl

-- at first
pub planned_none : (p : Plan) (cs : List Command) → p ≡ no_plan → joined p (plan_of cs) ≡ plan_of cs
planned_none p cs e = ap (λ x. joined x (plan_of cs)) e

-- a command more
pub planned_more : (p more new : Plan) (cs : List Command) (i : ℕ) (c : Command) → i < length cs → c ≡ get_or cs i c → more ≡ plan_by c → new ≡ joined p more → joined p (plan_of (drop i cs)) ≡ plan_of cs → joined new (plan_of (drop (i + 1) cs)) ≡ plan_of cs
unfolding plan_of
planned_more p more new cs i c l is by now h =
    ap (λ x. joined x (plan_of (drop (i + 1) cs))) (now ∙ ap (joined p) by)
    ∙ joined_on p (plan_by c) (plan_of (drop (i + 1) cs))
    ∙ ap (λ d. joined p (joined (plan_by d) (plan_of (drop (i + 1) cs)))) is
    ∙ ap (joined p) (sym (at_drop_more plan_of cs i c l))
    ∙ h

-- at the end
pub planned_all : (p : Plan) (cs : List Command) (i : ℕ) → length cs ≤ i → joined p (plan_of (drop i cs)) ≡ plan_of cs → p ≡ plan_of cs
unfolding plan_of
planned_all p cs i l h = sym (joined_none p) ∙ ap (joined p) (sym (at_drop_all plan_of cs i l)) ∙ h
