use Rattle.std.proofs.Common.{◌≡◌, ◌≢◌, ◌<◌, ◌≤◌, ◌-◌, ◌∷◌, ℕ, List, [], length, refl, sym, ap, ◌∙◌, subst, arith, inl, ◌++◌, get_or, Result, Ok, Err}
use Rattle.sqlite_items.specs.declared.items.Items.{Items}
use Rattle.pe_text.specs.declared.language.Class.{Class}
use Rattle.pe_text.specs.declared.token.Kind.{Kind}
use Rattle.pe_text.specs.declared.token.Token.{Token}
use Rattle.pe_text.specs.declared.mode.Mode.{Mode}
use Rattle.pe_text.specs.declared.fault.LexFault.{LexFault}
use Rattle.pe_text.specs.declared.fault.LexFault.TheVariants as lex
use Rattle.pe_text.specs.Upf.{open_braces}
use Rattle.pe_text.specs.Start.{token}
use Rattle.pe_text.specs.Cut.{start_at, mode_behind, first_of}
use Rattle.pe_text.proofs.Braces.{braces_le}
use Rattle.pe_text.proofs.Shorter.{gap_shorter, token_shorter}
use Rattle.pe_text.proofs.Walking.{Reaches, reaches_gap, reaches_token, is_cut, is_bad, one_cut, not_both, one_bad}
use Rattle.pe_text.proofs.lexing.cut.Goals as goal

some_left : (xs : List ℕ) → 1 ≤ length xs → xs ≢ []
some_left [] h = λ e. omega (arith, h)
some_left (x ∷ xs) h = λ e. cc

none_left : (xs : List ℕ) → length xs < 1 → xs ≡ []
none_left [] h = refl
none_left (x ∷ xs) h = absurd (omega (arith, h))

pub loop-rest-smaller-in-Gap : goal.loop-rest-smaller-in-Gap
loop-rest-smaller-in-Gap c = gap_shorter c.args.class c.loop-rest.mode c.loop-rest.rest.now c.in-Gap.behind.now (sym c.in-Gap.ensures)

pub loop-rest-preserved-in-Gap : goal.loop-rest-preserved-in-Gap
loop-rest-preserved-in-Gap c =
    let less = gap_shorter c.args.class c.loop-rest.mode c.loop-rest.rest.now c.in-Gap.behind.now (sym c.in-Gap.ensures) in
    let inv = c.loop-rest.invariant in
    record {
      reaches = reaches_gap c.args.class c.args.text.now c.loop-rest.mode c.loop-rest.rest.now c.loop-rest.tokens c.in-Gap.behind.now (sym c.in-Gap.ensures) inv.reaches;
      within = omega (arith, less, inv.within);
      braces = omega (arith, less, inv.braces);
    }

pub place-requires-in-Token-clause-within : goal.place-requires-in-Token-clause-within
place-requires-in-Token-clause-within c =
    let less = token_shorter c.args.class c.loop-rest.mode c.loop-rest.rest.now c.in-Token.kind c.in-Token.behind.now (sym c.in-Token.ensures) in
    omega (arith, less, c.loop-rest.invariant.within)

pub loop-rest-smaller : goal.loop-rest-smaller
loop-rest-smaller c = token_shorter c.args.class c.loop-rest.mode c.loop-rest.rest.now c.in-Token.kind c.in-Token.behind.now (sym c.in-Token.ensures)

first_is : (xs : List ℕ) → first_of xs ≡ get_or xs 0 0
first_is [] = refl
first_is (x ∷ xs) = refl

-- a token is taken, by what the calls of the loop answer
goes_on : (class : Class) (text : List ℕ) (mode : Mode) (rest : List ℕ) (tokens : List Token) (kind : Kind) (behind : List ℕ) (low high : ℕ) (new_mode : Mode) (new_tokens : List Token) →
    start_at class mode rest ≡ token kind behind → low ≡ length text - length rest → high ≡ length text - length behind →
    new_tokens ≡ tokens ++ record { kind = kind; span = record { from = low; to = high } } ∷ [] → new_mode ≡ mode_behind class mode kind (get_or rest 0 0) →
    Reaches class text mode rest tokens → Reaches class text new_mode behind new_tokens
goes_on class text mode rest tokens kind behind low high new_mode new_tokens e l h t m r =
    let made : ℕ → ℕ → List Token = λ x y. tokens ++ record { kind = kind; span = record { from = x; to = y } } ∷ [] in
    let P : Mode → Type 0 = λ x. Reaches class text x behind new_tokens in
    let Q : List Token → Type 0 = λ x. Reaches class text (mode_behind class mode kind (first_of rest)) behind x in
    subst P (ap (λ x. mode_behind class mode kind x) (first_is rest) ∙ sym m)
    (subst Q (sym (t ∙ ap (λ x. made x high) l ∙ ap (λ x. made (length text - length rest) x) h)) (reaches_token class text mode rest tokens kind behind e r))

pub loop-rest-preserved : goal.loop-rest-preserved
loop-rest-preserved c =
    let less = token_shorter c.args.class c.loop-rest.mode c.loop-rest.rest.now c.in-Token.kind c.in-Token.behind.now (sym c.in-Token.ensures) in
    let inv = c.loop-rest.invariant in
    let is = c.mode_behind-mode.ensures in
    let count = ap open_braces is in
    let le = braces_le c.args.class c.loop-rest.mode c.in-Token.kind (get_or c.loop-rest.rest.now 0 0) in
    record {
      reaches = goes_on c.args.class c.args.text.now c.loop-rest.mode c.loop-rest.rest.now c.loop-rest.tokens c.in-Token.kind c.in-Token.behind.now _ _ c.mode_behind-mode.result c.push.new.self
          (sym c.in-Token.ensures) c.place.ensures c.place-in-Token.ensures c.in_ok-push-in-Token.ensures.ok is inv.reaches;
      within = omega (arith, less, inv.within);
      braces = omega (arith, less, inv.braces, count, le);
    }

pub returns-in-Bad-clause-only : goal.returns-in-Bad-clause-only
returns-in-Bad-clause-only c =
    let h = is_bad c.args.class c.args.text.now c.loop-rest.mode c.loop-rest.rest.now c.loop-rest.tokens (sym c.in-Bad.ensures) (some_left c.loop-rest.rest.now c.in-len1-up.len_at_least) c.loop-rest.invariant.reaches in
    λ tokens k. absurd (not_both c.args.class c.args.text.now tokens _ k h)

pub returns-in-Bad-clause-only_bad : goal.returns-in-Bad-clause-only_bad
returns-in-Bad-clause-only_bad c =
    let h = is_bad c.args.class c.args.text.now c.loop-rest.mode c.loop-rest.rest.now c.loop-rest.tokens (sym c.in-Bad.ensures) (some_left c.loop-rest.rest.now c.in-len1-up.len_at_least) c.loop-rest.invariant.reaches in
    λ at k. inl (ap (λ (x : ℕ). let r : Result (Items Token) LexFault = Err (lex.Bad x) in r) (c.place-in-Bad.ensures ∙ one_bad c.args.class c.args.text.now _ at h k))

pub returns-clause-only : goal.returns-clause-only
returns-clause-only c =
    let h = is_cut c.args.class c.args.text.now c.loop-rest.mode c.loop-rest.rest.now c.loop-rest.tokens (none_left c.loop-rest.rest.now c.in_default.len_below) c.loop-rest.invariant.reaches in
    λ tokens k. inl (ap (λ (x : List Token). let r : Result (Items Token) LexFault = Ok x in r) (one_cut c.args.class c.args.text.now c.loop-rest.tokens tokens h k))

pub returns-clause-only_bad : goal.returns-clause-only_bad
returns-clause-only_bad c =
    let h = is_cut c.args.class c.args.text.now c.loop-rest.mode c.loop-rest.rest.now c.loop-rest.tokens (none_left c.loop-rest.rest.now c.in_default.len_below) c.loop-rest.invariant.reaches in
    λ at k. absurd (not_both c.args.class c.args.text.now c.loop-rest.tokens at h k)
