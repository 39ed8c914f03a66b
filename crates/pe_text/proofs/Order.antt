-- The spans of a cut are in order, and with the gaps between them they give the text again.
use Rattle.std.proofs.Common.{◌≡◌, ℕ, ◌-◌, ◌+◌, ◌≤◌, List, [], ◌∷◌, ◌++◌, length, take, drop, refl, sym, ap, ◌∙◌, subst, arith, append_assoc}
use Rattle.std.specs.Prelude.{slice_range}
use Rattle.std.proofs.lemmas.List.{take-append-drop, drop-drop}
use Rattle.pe_base.specs.declared.text.Span.{Span}
use Rattle.pe_text.specs.declared.language.Class.{Class}
use Rattle.pe_text.specs.declared.token.Token.{Token}
use Rattle.pe_text.specs.declared.mode.Mode.{Mode}
use Rattle.pe_text.specs.declared.mode.Mode.TheVariants.{Fresh}
use Rattle.pe_text.specs.Cut.{mode_behind, first_of, span_of, Part, passed, taken, Walks, tokens_of, IsCut, AreInOrder, joined}
use Rattle.pe_text.proofs.Shorter.{gap_shorter, token_shorter}

earlier : (from from' end : ℕ) (tokens : List Token) → from' ≤ from → AreInOrder from end tokens → AreInOrder from' end tokens
earlier from from' end [] h o = omega (arith, h, o)
earlier from from' end (t ∷ tokens) h o = (omega (arith, h, o.0), o.1, o.2)

spans_are : (n : ℕ) (text rest : List ℕ) (s : Span) → s ≡ span_of n text rest → (s.from ≡ n - length text) × (s.to ≡ n - length rest)
spans_are n text rest s e = (ap (λ x. x.from) e, ap (λ x. x.to) e)

walk_order : (class : Class) (n : ℕ) (mode : Mode) (text : List ℕ) (parts : List Part) (last : Mode) (rest : List ℕ) →
    length text ≤ n → Walks class n mode text parts last rest → AreInOrder (n - length text) n (tokens_of parts)
walk_order class n mode text [] last rest h w = omega arith
walk_order class n mode text (passed ∷ parts) last rest h (behind, e, w) =
    let s = gap_shorter class mode text behind e in
    let le : length behind ≤ n = omega (arith, s, h) in
    let lower : n - length text ≤ n - length behind = omega (arith, s) in
    earlier (n - length behind) (n - length text) n (tokens_of parts) lower (walk_order class n mode behind parts last rest le w)
walk_order class n mode text (taken t ∷ parts) last rest h (behind, e, f, w) =
    let s = token_shorter class mode text t.kind behind e in
    let le : length behind ≤ n = omega (arith, s, h) in
    let is = spans_are n text behind t.span f in
    let P : ℕ → Type 0 = λ x. AreInOrder x n (tokens_of parts) in (
      omega (arith, is.0),
      omega (arith, is.0, is.1, s, h),
      subst P (sym is.1) (walk_order class n (mode_behind class mode t.kind (first_of text)) behind parts last rest le w),
    )

pub in_order : (class : Class) (text : List ℕ) (tokens : List Token) → IsCut class text tokens → AreInOrder 0 (length text) tokens
in_order class text tokens (parts, last, w, e) =
    let P : List Token → Type 0 = λ x. AreInOrder 0 (length text) x in
    let zero : 0 ≤ length text - length text = omega arith in
    subst P e (earlier (length text - length text) 0 (length text) (tokens_of parts) zero (walk_order class (length text) Fresh text parts last [] (omega arith) w))

-- a part and what stands behind it
range_drop : (text : List ℕ) (a b : ℕ) → a ≤ b → slice_range text a b ++ drop b text ≡ drop a text
range_drop text a b h =
    let e : a + (b - a) ≡ b = omega arith in
    ap (λ x. take (b - a) (drop a text) ++ x) (ap (λ x. drop x text) (sym e) ∙ sym (drop-drop (b - a) a text)) ∙ take-append-drop (b - a) (drop a text)

pub joined_is : (text : List ℕ) (from : ℕ) (tokens : List Token) → AreInOrder from (length text) tokens → joined text from tokens ≡ drop from text
joined_is text from [] o = refl
joined_is text from (t ∷ tokens) o =
    let lt : t.span.from ≤ t.span.to = omega (arith, o.1) in
    ap (λ x. slice_range text from t.span.from ++ slice_range text t.span.from t.span.to ++ x) (joined_is text t.span.to tokens o.2)
    ∙ append_assoc (slice_range text from t.span.from) (slice_range text t.span.from t.span.to) (drop t.span.to text)
    ∙ ap (λ x. slice_range text from t.span.from ++ x) (range_drop text t.span.from t.span.to lt)
    ∙ range_drop text from t.span.from o.0
