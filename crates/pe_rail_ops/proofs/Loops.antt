-- Steps of loops over rails.
use Rattle.std.proofs.Common.{◌≡◌, ℕ, ◌+◌, ◌<◌, ◌≤◌, Bool, List, [], ◌∷◌, ◌++◌, length, get_or, take, refl, sym, ap, ◌∙◌, arith}
use Rattle.std.specs.Prelude.{All, map, fold}
use Rattle.std.proofs.lemmas.List.{get_or-map, length-map, take_more, take_all, map-append}
use Rattle.std.proofs.lemmas.List.Elements.{All-get_or, All-push, All-nil}
use Rattle.std.proofs.lemmas.List.Sums.{fold-append}
use Rattle.pe_base.specs.declared.value.Val.{Val}
use Rattle.pe_base.specs.declared.value.Val.TheVariants.{Zero}
use Rattle.pe_base.specs.Values.{pick_of}
use Rattle.pe_base.specs.Words.{each_pair}
use Rattle.pe_base.proofs.Pairs.{take-each_pair, length-each_pair}
use Rattle.pe_graph.specs.declared.graph.Node.{Node}
use Rattle.pe_graph.specs.Nodes.{Grows}
use Rattle.pe_base.specs.Operators.{not_of}
use Rattle.pe_graph.proofs.Growth.{grows_not, grows_on}
use Rattle.pe_rail_ops.specs.declared.bit.Rail.{Rail}
use Rattle.pe_rail_ops.specs.declared.gate.Gate.{Gate}
use Rattle.pe_rail_ops.specs.declared.gate.Gate.TheVariants.{And, Or, Xor, Xnor, Pick}
use Rattle.pe_rail_ops.specs.Rails.{rail_in, rails_in, IsRail, GivesRail, GivesRails}
use Rattle.pe_rail_ops.specs.Gates.{gate_in, IsGate}
use Rattle.pe_rail_ops.proofs.Rails.{rail_same, rails_same, gives_as, gives_on, rails_as, rails_on, rails_push}

-- the value of the rail at a place
pub get_or-rails_in : (v : ℕ → Bool) (nodes : List Node) (a : List Rail) (i : ℕ) (x : Rail) (d : Val) → i < length a → x ≡ get_or a i x → get_or (rails_in v nodes a) i d ≡ rail_in v nodes x
get_or-rails_in v nodes a i x d lt is = get_or-map (rail_in v nodes) a i x d lt ∙ ap (rail_in v nodes) (sym is)

pub length-rails_in : (v : ℕ → Bool) (nodes : List Node) (a : List Rail) → length (rails_in v nodes a) ≡ length a
length-rails_in v nodes a = length-map a (rail_in v nodes)

-- the rail at a place is one
pub rail_at : (nodes : List Node) (a : List Rail) (i : ℕ) (x : Rail) → All (IsRail nodes) a → i < length a → x ≡ get_or a i x → IsRail nodes x
rail_at nodes a i x h lt is = rw (← is) at (All-get_or (IsRail nodes) a i x lt h)

-- one value more
pub take-rails_in : (v : ℕ → Bool) (nodes : List Node) (a : List Rail) (i : ℕ) (x : Rail) → i < length a → x ≡ get_or a i x → take (i + 1) (rails_in v nodes a) ≡ take i (rails_in v nodes a) ++ rail_in v nodes x ∷ []
take-rails_in v nodes a i x lt is =
    take_more (rails_in v nodes a) i Zero (rw (length-rails_in v nodes a) lt) ∙ ap (λ y. take i (rails_in v nodes a) ++ y ∷ []) (get_or-rails_in v nodes a i x Zero lt is)

pub take-rails_in_all : (v : ℕ → Bool) (nodes : List Node) (a : List Rail) (i : ℕ) → length a ≤ i → take i (rails_in v nodes a) ≡ rails_in v nodes a
take-rails_in_all v nodes a i past = take_all i (rails_in v nodes a) (rw (length-rails_in v nodes a) past)

-- a gate is the same in the grown graph
pub gate_same : (old new : List Node) (gate : Gate) → Grows old new → IsGate old gate → (v : ℕ → Bool) → gate_in v new gate ≡ gate_in v old gate
gate_same old new And g h v = refl
gate_same old new Or g h v = refl
gate_same old new Xor g h v = refl
gate_same old new Xnor g h v = refl
gate_same old new (Pick control) g h v = ap pick_of (rail_same old new control g h v)

module _ (gate : Gate) (g0 g1 g2 : List Node) (grown : Grows g0 g1) (known : IsGate g0 gate) where
  -- what it gives of rails of the graph before
  based : (v : ℕ → Bool) (x y : Rail) → IsRail g0 x → IsRail g0 y → gate_in v g1 gate (rail_in v g1 x) (rail_in v g1 y) ≡ gate_in v g0 gate (rail_in v g0 x) (rail_in v g0 y)
  based v x y hx hy = let e = gate_same g0 g1 gate grown known v in let p = rail_same g0 g1 x grown hx v in let q = rail_same g0 g1 y grown hy v in cc

  pub each_step : (a b bits more : List Rail) (i : ℕ) (x y r : Rail) → length a ≡ length b → i < length a → x ≡ get_or a i x → y ≡ get_or b i y → All (IsRail g0) a → All (IsRail g0) b → more ≡ bits ++ r ∷ [] → GivesRails g0 g1 (λ v. take i (each_pair (gate_in v g0 gate) (rails_in v g0 a) (rails_in v g0 b))) bits → GivesRail g1 g2 (λ v. gate_in v g1 gate (rail_in v g1 x) (rail_in v g1 y)) r → GivesRails g0 g2 (λ v. take (i + 1) (each_pair (gate_in v g0 gate) (rails_in v g0 a) (rails_in v g0 b))) more
  each_step a b bits more i x y r e lt is_x is_y ha hb push before step =
      let lt_b : i < length b = rw e at lt in
      rails_as g0 g2 _ (λ v. take (i + 1) (each_pair (gate_in v g0 gate) (rails_in v g0 a) (rails_in v g0 b))) more (λ v.
      ap (λ z. take i (each_pair (gate_in v g0 gate) (rails_in v g0 a) (rails_in v g0 b)) ++ z ∷ []) (based v x y (rail_at g0 a i x ha lt is_x) (rail_at g0 b i y hb lt_b is_y))
      ∙ sym (take-each_pair (gate_in v g0 gate) (rails_in v g0 a) (rails_in v g0 b) i Zero (length-rails_in v g0 a ∙ e ∙ sym (length-rails_in v g0 b)) (rw (length-rails_in v g0 a) lt)
      ∙ rw (get_or-rails_in v g0 a i x Zero lt is_x, get_or-rails_in v g0 b i y Zero lt_b is_y) refl))
      (rails_push g0 g1 g2 _ _ bits more r push before step)

  pub all_step : (first : Val) (a : List Rail) (i : ℕ) (all x r : Rail) → i < length a → x ≡ get_or a i x → All (IsRail g0) a → GivesRail g0 g1 (λ v. fold (gate_in v g0 gate) first (take i (rails_in v g0 a))) all → GivesRail g1 g2 (λ v. gate_in v g1 gate (rail_in v g1 all) (rail_in v g1 x)) r → GivesRail g0 g2 (λ v. fold (gate_in v g0 gate) first (take (i + 1) (rails_in v g0 a))) r
  all_step first a i all x r lt is ha before step = gives_on g0 g1 g2 _ _ r grown (λ v.
      let e = gate_same g0 g1 gate grown known v in
      let q = rail_same g0 g1 x grown (rail_at g0 a i x ha lt is) v in
      let p = before.value v in
      rw (take-rails_in v g0 a i x lt is, fold-append (gate_in v g0 gate) first (take i (rails_in v g0 a)) (rail_in v g0 x ∷ [])) (cc)) step

pub each_all : (gate : Gate) (old new : List Node) (a b bits : List Rail) (i : ℕ) → length a ≡ length b → length a ≤ i → GivesRails old new (λ v. take i (each_pair (gate_in v old gate) (rails_in v old a) (rails_in v old b))) bits → GivesRails old new (λ v. each_pair (gate_in v old gate) (rails_in v old a) (rails_in v old b)) bits
each_all gate old new a b bits i e past h = rails_as old new _ _ bits (λ v.
    let width = length-each_pair (gate_in v old gate) (rails_in v old a) (rails_in v old b) (length-rails_in v old a ∙ e ∙ sym (length-rails_in v old b)) in
    let same = length-rails_in v old a in
    take_all i (each_pair (gate_in v old gate) (rails_in v old a) (rails_in v old b)) (omega arith)) h

pub all_all : (gate : Gate) (first : Val) (old new : List Node) (a : List Rail) (i : ℕ) (r : Rail) → length a ≤ i → GivesRail old new (λ v. fold (gate_in v old gate) first (take i (rails_in v old a))) r → GivesRail old new (λ v. fold (gate_in v old gate) first (rails_in v old a)) r
all_all gate first old new a i r past h = gives_as old new _ _ r (λ v. ap (fold (gate_in v old gate) first) (take-rails_in_all v old a i past)) h

-- one rail as a word
pub one_rail : (old new : List Node) (x : (ℕ → Bool) → Val) (r : Rail) (rails : List Rail) → rails ≡ r ∷ [] → GivesRail old new x r → GivesRails old new (λ v. x v ∷ []) rails
one_rail old new x r rails is h = rw is (record {
  grows = h.grows;
  are_rails = All-push (IsRail new) [] r (All-nil (IsRail new)) h.is_rail;
  values = λ v. ap (λ y. y ∷ []) (h.value v);
})

-- an operator on what two words come to
pub both_gives : (f : Val → Val → Val) (k : List Val → Val) (g0 g1 g2 g3 : List Node) (a b : List Rail) (x y r : Rail) → All (IsRail g0) b → GivesRail g0 g1 (λ v. k (rails_in v g0 a)) x → GivesRail g1 g2 (λ v. k (rails_in v g1 b)) y → GivesRail g2 g3 (λ v. f (rail_in v g2 x) (rail_in v g2 y)) r → GivesRail g0 g3 (λ v. f (k (rails_in v g0 a)) (k (rails_in v g0 b))) r
both_gives f k g0 g1 g2 g3 a b x y r hb p q s = gives_on g0 g2 g3 _ _ r (grows_on g0 g1 g2 p.grows q.grows) (λ v.
    ap (λ z. f z (rail_in v g2 y)) (rail_same g1 g2 x q.grows p.is_rail v ∙ p.value v)
    ∙ ap (f (k (rails_in v g0 a))) (q.value v ∙ ap k (rails_same g0 g1 b p.grows hb v))) s

-- one complement more
pub not_step : (nodes : List Node) (a bits more : List Rail) (i : ℕ) (x r : Rail) → i < length a → x ≡ get_or a i x → All (IsRail nodes) a → IsRail nodes r → ((v : ℕ → Bool) → rail_in v nodes r ≡ not_of (rail_in v nodes x)) → more ≡ bits ++ r ∷ [] → GivesRails nodes nodes (λ v. map not_of (take i (rails_in v nodes a))) bits → GivesRails nodes nodes (λ v. map not_of (take (i + 1) (rails_in v nodes a))) more
not_step nodes a bits more i x r lt is ha is_rail value push before = rails_as nodes nodes _ _ more
    (λ v. sym (rw (take-rails_in v nodes a i x lt is) (map-append not_of (take i (rails_in v nodes a)) (rail_in v nodes x ∷ []))))
    (rails_push nodes nodes nodes _ (λ v. not_of (rail_in v nodes x)) bits more r push before (record { grows = grows_not nodes; is_rail = is_rail; value = value }))

-- a choice by what a word comes to
pub choose_gives : (k : List Val → Val) (g0 g1 g2 : List Node) (c a b bits : List Rail) (control : Rail) → All (IsRail g0) a → All (IsRail g0) b → GivesRail g0 g1 (λ v. k (rails_in v g0 c)) control → GivesRails g1 g2 (λ v. each_pair (pick_of (rail_in v g1 control)) (rails_in v g1 b) (rails_in v g1 a)) bits → GivesRails g0 g2 (λ v. each_pair (pick_of (k (rails_in v g0 c))) (rails_in v g0 b) (rails_in v g0 a)) bits
choose_gives k g0 g1 g2 c a b bits control ha hb p q = rails_on g0 g1 g2 _ _ bits p.grows (λ v.
    let e = p.value v in let x = rails_same g0 g1 a p.grows ha v in let y = rails_same g0 g1 b p.grows hb v in rw (e, x, y) refl) q
