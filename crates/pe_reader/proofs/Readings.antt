-- A text is read in one way, or refused in one way, and not both.
use Rattle.std.proofs.Common.{◌≡◌, ◌≢◌, ◌<◌, ◌≤◌, ◌+◌, ◌∙◌, ℕ, List, [], ◌∷◌, ◌++◌, length, take, drop, append_assoc, sym, ap, subst, inl, inr, refl, arith, slice_index_or}
use Rattle.std.proofs.lemmas.Bool.{cases_order}
use Rattle.std.proofs.lemmas.List.{get_or_default, take-append-drop, take-take}
use Rattle.pe_grammar.specs.declared.form.Entry.{Entry}
use Rattle.pe_grammar.specs.declared.terminal.Token.{Token as Terminal}
use Rattle.pe_grammar.specs.Derivation.{Derivation}
use Rattle.pe_grammar.specs.Grammar.{Spells, IsFault}
use Rattle.pe_grammar.specs.Table.{IsDeterministic}
use Rattle.pe_grammar.proofs.Theory.{unique}
use Rattle.pe_text.specs.declared.fault.ReadFault.{ReadFault}
use Rattle.pe_text.specs.declared.fault.ReadFault.TheVariants.{Memory, Syntax, Unsupported, Limit}
use Rattle.pe_text.specs.declared.fault.Which.{Which}
use Rattle.pe_text.specs.declared.language.Lang.{Lang}
use Rattle.pe_text.specs.declared.token.Token.{Token}
use Rattle.pe_text.specs.Cut.{IsCut, IsBadAt, AreInOrder}
use Rattle.pe_text.specs.Language.{class_of}
use Rattle.pe_text.specs.LeftOut.{first_left_out}
use Rattle.pe_text.specs.Lexemes.{lexeme_of, lexemes_of}
use Rattle.pe_text.specs.Limits.{first_over}
use Rattle.pe_text.specs.Scan.{most_bytes, IsAllowed, IsScanned, IsLeftOut, IsOver, IsBadFault, IsLeftOutFault, IsOverFault}
use Rattle.pe_text.proofs.Order.{in_order}
use Rattle.pe_text.proofs.Walking.{one_cut, not_both, one_bad}
use Rattle.pe_reader.specs.Places.{byte_of}
use Rattle.pe_reader.specs.Reading.{IsParsed, IsWrong, IsSyntaxFault, IsReadFault}

-- tokens in order are no more than the bytes that they are of
order_count : (from end : ℕ) (ts : List Token) → AreInOrder from end ts → from + length ts ≤ end
order_count from end [] h = omega (arith, h)
order_count from end (t ∷ ts) h = omega (arith, h.0, h.1, order_count t.span.to end ts h.2)

pub few_tokens : (language : Lang) (text : List ℕ) (tokens : List Token) → IsScanned language text tokens → length tokens ≤ most_bytes
few_tokens language text tokens h =
    let count = order_count 0 (length text) tokens (in_order (class_of language) text tokens h.is_allowed.is_cut) in
    omega (arith, count, h.is_allowed.short)

one_scan : (language : Lang) (text : List ℕ) (tokens others : List Token) → IsScanned language text tokens → IsScanned language text others → tokens ≡ others
one_scan language text tokens others p q = one_cut (class_of language) text tokens others p.is_allowed.is_cut q.is_allowed.is_cut

-- a text has one derivation
pub one : (language : Lang) (kinds : List ℕ → List Token → List Terminal) (grammar : List Entry) (start : ℕ) (text : List ℕ) (tokens others : List Token) (d e : Derivation) →
    IsDeterministic grammar → IsParsed language kinds grammar start text tokens d → IsParsed language kinds grammar start text others e → (tokens ≡ others) × (d ≡ e)
one language kinds grammar start text tokens others d e h p q =
    let same = one_scan language text tokens others p.scanned q.scanned in
    (same, unique grammar h start (kinds text others) d e (subst (λ ts. Spells grammar start (kinds text ts) d) same p.spelled) q.spelled)

-- what each refusal but want of memory is
bad_is : (language : Lang) (text : List ℕ) (f : ReadFault) → f ≢ Memory → IsBadFault language text f → (at : ℕ) × (f ≡ Syntax at) × IsBadAt (class_of language) text at
bad_is language text Memory n h = absurd (n refl)
bad_is language text (Syntax at) n h = (at, refl, h)
bad_is language text (Unsupported at word) n h = absurd h
bad_is language text (Limit at which) n h = absurd h

left_out_is : (language : Lang) (text : List ℕ) (tokens : List Token) (f : ReadFault) → f ≢ Memory → IsLeftOutFault language text tokens f →
    (at : ℕ) × (word : List ℕ) × (t : Token) × (f ≡ Unsupported at word) × IsLeftOut language text tokens at word t
left_out_is language text tokens Memory n h = absurd (n refl)
left_out_is language text tokens (Syntax at) n h = absurd h
left_out_is language text tokens (Unsupported at word) n h = (at, word, h.0, refl, h.1)
left_out_is language text tokens (Limit at which) n h = absurd h

over_is : (language : Lang) (text : List ℕ) (tokens : List Token) (f : ReadFault) → f ≢ Memory → IsOverFault language text tokens f →
    (at : ℕ) × (which : Which) × (t : Token) × (f ≡ Limit at which) × IsOver language text tokens at which t
over_is language text tokens Memory n h = absurd (n refl)
over_is language text tokens (Syntax at) n h = absurd h
over_is language text tokens (Unsupported at word) n h = absurd h
over_is language text tokens (Limit at which) n h = (at, which, h.0, refl, h.1)

wrong_is : (language : Lang) (kinds : List ℕ → List Token → List Terminal) (grammar : List Entry) (start : ℕ) (text : List ℕ) (f : ReadFault) → f ≢ Memory → IsSyntaxFault language kinds grammar start text f →
    (at : ℕ) × (tokens : List Token) × (number : ℕ) × (f ≡ Syntax at) × IsWrong language kinds grammar start text tokens number at
wrong_is language kinds grammar start text Memory n h = absurd (n refl)
wrong_is language kinds grammar start text (Syntax at) n h = (at, h.0, h.1, refl, h.2)
wrong_is language kinds grammar start text (Unsupported at word) n h = absurd h
wrong_is language kinds grammar start text (Limit at which) n h = absurd h

-- which of them exclude one another
not_bad : (language : Lang) (text : List ℕ) (tokens : List Token) (f : ReadFault) → f ≢ Memory → IsBadFault language text f → IsCut (class_of language) text tokens → ⊥
not_bad language text tokens f n h c = not_both (class_of language) text tokens (bad_is language text f n h).0 c (bad_is language text f n h).2

not_left_out : (language : Lang) (text : List ℕ) (others tokens : List Token) (f : ReadFault) → f ≢ Memory → IsCut (class_of language) text others → IsLeftOutFault language text others f →
    IsAllowed language text tokens → ⊥
not_left_out language text others tokens f n c h a =
    let same = one_cut (class_of language) text others tokens c a.is_cut in
    let there = (left_out_is language text others f n h).4.is_there in
    let there : first_left_out language (lexemes_of text tokens) < length tokens = rw same at there in
    omega (arith, there, a.allowed)

not_over : (language : Lang) (text : List ℕ) (others tokens : List Token) (f : ReadFault) → f ≢ Memory → IsAllowed language text others → IsOverFault language text others f → IsScanned language text tokens → ⊥
not_over language text others tokens f n c h a =
    let same = one_cut (class_of language) text others tokens c.is_cut a.is_allowed.is_cut in
    let there = (over_is language text others f n h).4.is_there in
    let there : first_over language (lexemes_of text tokens) < length tokens = rw same at there in
    omega (arith, there, a.within)

not_wrong : (language : Lang) (kinds : List ℕ → List Token → List Terminal) (grammar : List Entry) (start : ℕ) (text : List ℕ) (others tokens : List Token) (number at : ℕ) (d : Derivation) →
    IsWrong language kinds grammar start text others number at → IsParsed language kinds grammar start text tokens d → ⊥
not_wrong language kinds grammar start text others tokens number at d w p =
    let same = one_scan language text tokens others p.scanned w.scanned in
    w.fault.no_text d (subst (λ ts. Spells grammar start (kinds text ts) d) same p.spelled)

is_memory : (f : ReadFault) → (f ≢ Memory → ⊥) → f ≡ Memory
is_memory Memory n = refl
is_memory (Syntax at) n = absurd (n (λ e. cc))
is_memory (Unsupported at word) n = absurd (n (λ e. cc))
is_memory (Limit at which) n = absurd (n (λ e. cc))

-- a text that is read is not refused
pub never_both : (language : Lang) (kinds : List ℕ → List Token → List Terminal) (grammar : List Entry) (start : ℕ) (text : List ℕ) (tokens : List Token) (d : Derivation) (f : ReadFault) →
    IsParsed language kinds grammar start text tokens d → IsReadFault language kinds grammar start text f → f ≡ Memory
never_both language kinds grammar start text tokens d f p h = is_memory f (λ n. elim h [
  | inl s ↦ elim s [
    | inl long ↦ omega (arith, long.0, p.scanned.is_allowed.short)
    | inr s ↦ elim s [
      | inl b ↦ not_bad language text tokens f n b.1 p.scanned.is_allowed.is_cut
      | inr s ↦ elim s [
        | inl l ↦ not_left_out language text l.0 tokens f n l.2 l.3 p.scanned.is_allowed
        | inr o ↦ not_over language text o.0 tokens f n o.1 o.2 p.scanned
      ]
    ]
  ]
  | inr w ↦ let v = wrong_is language kinds grammar start text f n w in not_wrong language kinds grammar start text v.1 tokens v.2 v.0 d v.4 p
])

-- a fault stands at one place
fault_not_before : (grammar : List Entry) (start : ℕ) (ts : List Terminal) (i j : ℕ) → IsFault grammar start ts i → IsFault grammar start ts j → i < j → ⊥
fault_not_before grammar start ts i j p q h =
    let front : take (i + 1) (take j ts) ≡ take (i + 1) ts = take-take (i + 1) j ts (omega (arith, h)) in
    let behind = drop (i + 1) (take j ts) in
    let more = q.viable.0 in
    let whole : take j ts ++ more ≡ take (i + 1) ts ++ (behind ++ more) =
    ap (λ us. us ++ more) (sym (take-append-drop (i + 1) (take j ts)) ∙ ap (λ us. us ++ behind) front) ∙ append_assoc (take (i + 1) ts) behind more in
    p.not_further (omega (arith, h, q.within)) (behind ++ more, q.viable.1, subst (λ us. Spells grammar start us q.viable.1) whole q.viable.2)

one_place : (grammar : List Entry) (start : ℕ) (ts : List Terminal) (i j : ℕ) → IsFault grammar start ts i → IsFault grammar start ts j → i ≡ j
one_place grammar start ts i j p q = elim (cases_order i j) [
  | inl e ↦ e
  | inr s ↦ elim s [ inl h ↦ absurd (fault_not_before grammar start ts i j p q h) | inr h ↦ absurd (fault_not_before grammar start ts j i q p h) ]
]

-- two refusals for one reason are one
same_bad : (language : Lang) (text : List ℕ) (f g : ReadFault) → f ≢ Memory → g ≢ Memory → IsBadFault language text f → IsBadFault language text g → f ≡ g
same_bad language text f g m n h k =
    let v = bad_is language text f m h in
    let w = bad_is language text g n k in
    v.1 ∙ ap Syntax (one_bad (class_of language) text v.0 w.0 v.2 w.2) ∙ sym w.1

same_token : (ts : List Token) (i : ℕ) (t u : Token) → i < length ts → slice_index_or ts i t ≡ t → slice_index_or ts i u ≡ u → t ≡ u
same_token ts i t u h p q = sym p ∙ get_or_default ts i t u h ∙ q

same_left_out : (language : Lang) (text : List ℕ) (tokens others : List Token) (f g : ReadFault) → f ≢ Memory → g ≢ Memory → tokens ≡ others → IsLeftOutFault language text tokens f → IsLeftOutFault language text others g → f ≡ g
same_left_out language text tokens others f g m n e h k =
    let v = left_out_is language text tokens f m h in
    let w = left_out_is language text tokens g n (subst (λ ts. IsLeftOutFault language text ts g) (sym e) k) in
    let t : v.2 ≡ w.2 = same_token tokens (first_left_out language (lexemes_of text tokens)) v.2 w.2 v.4.is_there v.4.is_first w.4.is_first in
    v.3
    ∙ ap (λ at. Unsupported at v.1) (v.4.starts ∙ ap (λ x. x.span.from) t ∙ sym w.4.starts)
    ∙ ap (λ word. Unsupported w.0 word) (v.4.is_word ∙ ap (λ x. (lexeme_of text x).bytes) t ∙ sym w.4.is_word)
    ∙ sym w.3

same_over : (language : Lang) (text : List ℕ) (tokens others : List Token) (f g : ReadFault) → f ≢ Memory → g ≢ Memory → tokens ≡ others → IsOverFault language text tokens f → IsOverFault language text others g → f ≡ g
same_over language text tokens others f g m n e h k =
    let v = over_is language text tokens f m h in
    let w = over_is language text tokens g n (subst (λ ts. IsOverFault language text ts g) (sym e) k) in
    let t : v.2 ≡ w.2 = same_token tokens (first_over language (lexemes_of text tokens)) v.2 w.2 v.4.is_there v.4.is_first w.4.is_first in
    v.3
    ∙ ap (λ at. Limit at v.1) (v.4.starts ∙ ap (λ x. x.span.from) t ∙ sym w.4.starts)
    ∙ ap (λ which. Limit w.0 which) (v.4.is_number ∙ sym w.4.is_number)
    ∙ sym w.3

same_wrong : (language : Lang) (kinds : List ℕ → List Token → List Terminal) (grammar : List Entry) (start : ℕ) (text : List ℕ) (f g : ReadFault) → f ≢ Memory → g ≢ Memory →
    IsSyntaxFault language kinds grammar start text f → IsSyntaxFault language kinds grammar start text g → f ≡ g
same_wrong language kinds grammar start text f g m n h k =
    let v = wrong_is language kinds grammar start text f m h in
    let w = wrong_is language kinds grammar start text g n k in
    let e : v.1 ≡ w.1 = one_scan language text v.1 w.1 v.4.scanned w.4.scanned in
    let fault : IsFault grammar start (kinds text w.1) v.2 = subst (λ ts. IsFault grammar start (kinds text ts) v.2) e v.4.fault in
    let number : v.2 ≡ w.2 = one_place grammar start (kinds text w.1) v.2 w.2 fault w.4.fault in
    let at : v.0 ≡ w.0 = v.4.is ∙ ap (λ ts. byte_of text ts (kinds text ts) v.2) e ∙ ap (λ i. byte_of text w.1 (kinds text w.1) i) number ∙ sym w.4.is in
    v.3 ∙ ap Syntax at ∙ sym w.3

-- a text has one refusal, unless memory runs out
pub one_fault : (language : Lang) (kinds : List ℕ → List Token → List Terminal) (grammar : List Entry) (start : ℕ) (text : List ℕ) (f g : ReadFault) → f ≢ Memory → g ≢ Memory →
    IsReadFault language kinds grammar start text f → IsReadFault language kinds grammar start text g → f ≡ g
one_fault language kinds grammar start text f g m n (inl (inl h)) (inl (inl k)) = h.1 ∙ sym k.1
one_fault language kinds grammar start text f g m n (inl (inl h)) (inl (inr (inl k))) = absurd (omega (arith, h.0, k.0))
one_fault language kinds grammar start text f g m n (inl (inl h)) (inl (inr (inr (inl k)))) = absurd (omega (arith, h.0, k.1))
one_fault language kinds grammar start text f g m n (inl (inl h)) (inl (inr (inr (inr k)))) = absurd (omega (arith, h.0, k.1.short))
one_fault language kinds grammar start text f g m n (inl (inl h)) (inr k) = absurd (omega (arith, h.0, (wrong_is language kinds grammar start text g n k).4.scanned.is_allowed.short))
one_fault language kinds grammar start text f g m n (inl (inr (inl h))) (inl (inl k)) = absurd (omega (arith, k.0, h.0))
one_fault language kinds grammar start text f g m n (inl (inr (inl h))) (inl (inr (inl k))) = same_bad language text f g m n h.1 k.1
one_fault language kinds grammar start text f g m n (inl (inr (inl h))) (inl (inr (inr (inl k)))) = absurd (not_bad language text k.0 f m h.1 k.2)
one_fault language kinds grammar start text f g m n (inl (inr (inl h))) (inl (inr (inr (inr k)))) = absurd (not_bad language text k.0 f m h.1 k.1.is_cut)
one_fault language kinds grammar start text f g m n (inl (inr (inl h))) (inr k) = absurd (not_bad language text (wrong_is language kinds grammar start text g n k).1 f m h.1 (wrong_is language kinds grammar start text g n k).4.scanned.is_allowed.is_cut)
one_fault language kinds grammar start text f g m n (inl (inr (inr (inl h)))) (inl (inl k)) = absurd (omega (arith, k.0, h.1))
one_fault language kinds grammar start text f g m n (inl (inr (inr (inl h)))) (inl (inr (inl k))) = absurd (not_bad language text h.0 g n k.1 h.2)
one_fault language kinds grammar start text f g m n (inl (inr (inr (inl h)))) (inl (inr (inr (inl k)))) = same_left_out language text h.0 k.0 f g m n (one_cut (class_of language) text h.0 k.0 h.2 k.2) h.3 k.3
one_fault language kinds grammar start text f g m n (inl (inr (inr (inl h)))) (inl (inr (inr (inr k)))) = absurd (not_left_out language text h.0 k.0 f m h.2 h.3 k.1)
one_fault language kinds grammar start text f g m n (inl (inr (inr (inl h)))) (inr k) = absurd (not_left_out language text h.0 (wrong_is language kinds grammar start text g n k).1 f m h.2 h.3 (wrong_is language kinds grammar start text g n k).4.scanned.is_allowed)
one_fault language kinds grammar start text f g m n (inl (inr (inr (inr h)))) (inl (inl k)) = absurd (omega (arith, k.0, h.1.short))
one_fault language kinds grammar start text f g m n (inl (inr (inr (inr h)))) (inl (inr (inl k))) = absurd (not_bad language text h.0 g n k.1 h.1.is_cut)
one_fault language kinds grammar start text f g m n (inl (inr (inr (inr h)))) (inl (inr (inr (inl k)))) = absurd (not_left_out language text k.0 h.0 g n k.2 k.3 h.1)
one_fault language kinds grammar start text f g m n (inl (inr (inr (inr h)))) (inl (inr (inr (inr k)))) = same_over language text h.0 k.0 f g m n (one_cut (class_of language) text h.0 k.0 h.1.is_cut k.1.is_cut) h.2 k.2
one_fault language kinds grammar start text f g m n (inl (inr (inr (inr h)))) (inr k) = absurd (not_over language text h.0 (wrong_is language kinds grammar start text g n k).1 f m h.1 h.2 (wrong_is language kinds grammar start text g n k).4.scanned)
one_fault language kinds grammar start text f g m n (inr h) (inl (inl k)) = absurd (omega (arith, k.0, (wrong_is language kinds grammar start text f m h).4.scanned.is_allowed.short))
one_fault language kinds grammar start text f g m n (inr h) (inl (inr (inl k))) = absurd (not_bad language text (wrong_is language kinds grammar start text f m h).1 g n k.1 (wrong_is language kinds grammar start text f m h).4.scanned.is_allowed.is_cut)
one_fault language kinds grammar start text f g m n (inr h) (inl (inr (inr (inl k)))) = absurd (not_left_out language text k.0 (wrong_is language kinds grammar start text f m h).1 g n k.2 k.3 (wrong_is language kinds grammar start text f m h).4.scanned.is_allowed)
one_fault language kinds grammar start text f g m n (inr h) (inl (inr (inr (inr k)))) = absurd (not_over language text k.0 (wrong_is language kinds grammar start text f m h).1 g n k.1 k.2 (wrong_is language kinds grammar start text f m h).4.scanned)
one_fault language kinds grammar start text f g m n (inr h) (inr k) = same_wrong language kinds grammar start text f g m n h k
