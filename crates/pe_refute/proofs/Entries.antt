-- The equalities that an entry cites.
use Rattle.std.proofs.Common.{◌≡◌, ℕ, zero, suc, ◌+◌, ◌<◌, ◌++◌, true, false, Option, None, Some, List, [], ◌∷◌, length, get_or, take, refl, sym, ap, ◌∙◌, subst, arith, inl, inr}
use Rattle.std.specs.List.{All}
use Rattle.std.proofs.lemmas.Bool.{eqb-true}
use Rattle.pe_graph.specs.Literals.{var_of}
use Rattle.pe_graph.specs.declared.graph.Node.{Node}
use Rattle.pe_graph.specs.Nodes.{IsIn}
use Rattle.pe_cnf.specs.declared.equality.Equality.{Equality}
use Rattle.pe_cnf.specs.Cone.{cites, HasCited}
use Rattle.pe_cnf.specs.Meaning.{AreTrue, Holds}
use Rattle.pe_refute.specs.Entries.{seen_at, fits, AreLawful, with_seen, cited_of, AreSeenIn}
use Rattle.pe_refute.proofs.Sight.{or_cases}
use Rattle.pe_refute.proofs.Walk.{false_is_true}
use Rattle.std.proofs.lemmas.List.{append-nil}

with_append : (o : Option Equality) (xs ys : List Equality) → with_seen o (xs ++ ys) ≡ with_seen o xs ++ ys
with_append None xs ys = refl
with_append (Some e) xs ys = refl

-- one more citation
pub cited_next : (seen : List (Option Equality)) (places : List ℕ) (i : ℕ) → i < length places →
    cited_of seen (take (suc i) places) ≡ cited_of seen (take i places) ++ with_seen (seen_at seen (get_or places i 0)) []
cited_next seen [] i h = absurd (omega arith)
cited_next seen (k ∷ places) zero h = refl
cited_next seen (k ∷ places) (suc i) h =
    ap (with_seen (seen_at seen k)) (cited_next seen places i (omega arith)) ∙ with_append (seen_at seen k) (cited_of seen (take i places)) _

more_at : (seen : List (Option Equality)) (places : List ℕ) (i : ℕ) (o : Option Equality) → i < length places → seen_at seen (get_or places i 0) ≡ o →
    cited_of seen (take (i + 1) places) ≡ cited_of seen (take i places) ++ with_seen o []
more_at seen places i o h q =
    let e : i + 1 ≡ suc i = omega arith in
    ap (λ n. cited_of seen (take n places)) e ∙ cited_next seen places i h ∙ ap (λ x. cited_of seen (take i places) ++ with_seen x []) q

pub cited_kept : (seen : List (Option Equality)) (places : List ℕ) (i : ℕ) → i < length places → seen_at seen (get_or places i 0) ≡ None →
    cited_of seen (take (i + 1) places) ≡ cited_of seen (take i places)
cited_kept seen places i h q = more_at seen places i None h q ∙ append-nil (cited_of seen (take i places))

pub cited_added : (seen : List (Option Equality)) (places : List ℕ) (i : ℕ) (e : Equality) → i < length places → seen_at seen (get_or places i 0) ≡ Some e →
    cited_of seen (take (i + 1) places) ≡ cited_of seen (take i places) ++ e ∷ []
cited_added seen places i e h q = more_at seen places i (Some e) h q

one_within : (nodes : List Node) (o : Option Equality) (cited : List Equality) → ((e : Equality) → o ≡ Some e → (IsIn nodes e.a) × (IsIn nodes e.b)) → HasCited nodes cited → HasCited nodes (with_seen o cited)
one_within nodes None cited s h x p = h x p
one_within nodes (Some e) cited s h x p = elim (or_cases _ (cites cited x) p) [
  | inl q ↦ elim (or_cases _ _ q) [
    | inl t ↦ subst (λ n. n < length nodes) (sym (eqb-true x (var_of e.a) t)) (s e refl).0
    | inr t ↦ subst (λ n. n < length nodes) (sym (eqb-true x (var_of e.b) t)) (s e refl).1
  ]
  | inr q ↦ h x q
]

-- the sides of the cited equalities are of the graph where all seen are
pub cited_within : (nodes : List Node) (seen : List (Option Equality)) (places : List ℕ) → AreSeenIn nodes seen → HasCited nodes (cited_of seen places)
cited_within nodes seen [] s x p = absurd (false_is_true false refl p)
cited_within nodes seen (k ∷ places) s x p = one_within nodes (seen_at seen k) (cited_of seen places) (s k) (cited_within nodes seen places s) x p

one_true : (nodes : List Node) (ctx : ℕ) (o : Option Equality) (cited : List Equality) → fits ctx o ≡ true → All (Holds nodes) (with_seen o cited) → (All (Holds nodes) cited → AreTrue nodes ctx cited) → AreTrue nodes ctx (with_seen o cited)
one_true nodes ctx None cited f h r = absurd (false_is_true false refl f)
one_true nodes ctx (Some e) cited f h r = (
  elim (or_cases _ _ f) [ inl q ↦ inl (eqb-true _ _ q) | inr q ↦ inr (eqb-true _ _ q) ],
  h 0 e (omega arith),
  r (λ k d lt. h (suc k) d (omega arith)),
)

-- lawful citations that hold are true in the sense of the cone's law
pub cited_true : (nodes : List Node) (ctx : ℕ) (seen : List (Option Equality)) (places : List ℕ) → AreLawful seen ctx places → All (Holds nodes) (cited_of seen places) → AreTrue nodes ctx (cited_of seen places)
cited_true nodes ctx seen [] l h = tt
cited_true nodes ctx seen (k ∷ places) l h =
    one_true nodes ctx (seen_at seen k) (cited_of seen places) (l 0 (omega arith)) h (cited_true nodes ctx seen places (λ i lt. l (suc i) (omega arith)))
