-- A walk goes on part by part, and there is one walk of a text.
use Rattle.std.proofs.Common.{◌≡◌, ◌≢◌, ℕ, ◌-◌, List, [], ◌∷◌, ◌++◌, length, refl, sym, ap, ◌∙◌, subst, append-nil}
use Rattle.pe_text.specs.declared.language.Class.{Class}
use Rattle.pe_text.specs.declared.token.Kind.{Kind}
use Rattle.pe_text.specs.declared.token.Token.{Token}
use Rattle.pe_text.specs.declared.mode.Mode.{Mode}
use Rattle.pe_text.specs.declared.mode.Mode.TheVariants.{Fresh}
use Rattle.pe_text.specs.Start.{Start, gap, token, bad}
use Rattle.pe_text.specs.Cut.{start_at, mode_behind, first_of, span_of, Part, passed, taken, Walks, tokens_of, IsCut, IsBadAt}
use Rattle.pe_text.proofs.Shorter.{at_end}

-- a walk from the text's start has come to this mode and place, over these tokens
pub record Reaches (class : Class) (text : List ℕ) (mode : Mode) (rest : List ℕ) (tokens : List Token) : Type 0 where
  pub parts : List Part
  pub walks : Walks class (length text) Fresh text parts mode rest
  pub tokens_are : tokens_of parts ≡ tokens

-- one part more
more : (class : Class) (n : ℕ) (mode : Mode) (text : List ℕ) (parts : List Part) (part : Part) (middle : Mode) (at : List ℕ) (last : Mode) (rest : List ℕ) →
    Walks class n mode text parts middle at → Walks class n middle at (part ∷ []) last rest → Walks class n mode text (parts ++ part ∷ []) last rest
more class n mode text [] part middle at last rest (e, f) w =
    let P : Mode → Type 0 = λ m. Walks class n m text (part ∷ []) last rest in
    let Q : List ℕ → Type 0 = λ t. Walks class n middle t (part ∷ []) last rest in
    subst P (sym e) (subst Q (sym f) w)
more class n mode text (passed ∷ parts) part middle at last rest (behind, e, h) w = (behind, e, more class n mode behind parts part middle at last rest h w)
more class n mode text (taken t ∷ parts) part middle at last rest (behind, e, s, h) w =
    (behind, e, s, more class n (mode_behind class mode t.kind (first_of text)) behind parts part middle at last rest h w)

tokens_more : (parts : List Part) (part : Part) → tokens_of (parts ++ part ∷ []) ≡ tokens_of parts ++ tokens_of (part ∷ [])
tokens_more [] part = refl
tokens_more (passed ∷ parts) part = tokens_more parts part
tokens_more (taken t ∷ parts) part = ap (λ ts. t ∷ ts) (tokens_more parts part)

pub reaches_start : (class : Class) (text : List ℕ) → Reaches class text Fresh text []
reaches_start class text = record { parts = []; walks = (refl, refl); tokens_are = refl }

pub reaches_gap : (class : Class) (text : List ℕ) (mode : Mode) (rest : List ℕ) (tokens : List Token) (behind : List ℕ) →
    start_at class mode rest ≡ gap behind → Reaches class text mode rest tokens → Reaches class text mode behind tokens
reaches_gap class text mode rest tokens behind e r = record {
  parts = r.parts ++ passed ∷ [];
  walks = more class (length text) Fresh text r.parts passed mode rest mode behind r.walks (behind, e, (refl, refl));
  tokens_are = tokens_more r.parts passed ∙ append-nil (tokens_of r.parts) ∙ r.tokens_are;
}

pub reaches_token : (class : Class) (text : List ℕ) (mode : Mode) (rest : List ℕ) (tokens : List Token) (kind : Kind) (behind : List ℕ) →
    start_at class mode rest ≡ token kind behind → Reaches class text mode rest tokens →
    Reaches class text (mode_behind class mode kind (first_of rest)) behind (tokens ++ record { kind = kind; span = span_of (length text) rest behind } ∷ [])
reaches_token class text mode rest tokens kind behind e r =
    let t : Token = record { kind = kind; span = span_of (length text) rest behind } in
    record {
      parts = r.parts ++ taken t ∷ [];
      walks = more class (length text) Fresh text r.parts (taken t) mode rest (mode_behind class mode kind (first_of rest)) behind r.walks (behind, e, refl, (refl, refl));
      tokens_are = tokens_more r.parts (taken t) ∙ ap (λ ts. ts ++ t ∷ []) r.tokens_are;
    }

pub is_cut : (class : Class) (text : List ℕ) (mode : Mode) (rest : List ℕ) (tokens : List Token) → rest ≡ [] → Reaches class text mode rest tokens → IsCut class text tokens
is_cut class text mode rest tokens e r =
    let P : List ℕ → Type 0 = λ x. Walks class (length text) Fresh text r.parts mode x in
    (r.parts, mode, subst P e r.walks, r.tokens_are)

pub is_bad : (class : Class) (text : List ℕ) (mode : Mode) (rest : List ℕ) (tokens : List Token) →
    start_at class mode rest ≡ bad → rest ≢ [] → Reaches class text mode rest tokens → IsBadAt class text (length text - length rest)
is_bad class text mode rest tokens e n r = (r.parts, mode, rest, r.walks, e, n, refl)

gap_is : (a b : List ℕ) → gap a ≡ gap b → a ≡ b
gap_is a b e = cc

token_is : (j k : Kind) (a b : List ℕ) → token j a ≡ token k b → (j ≡ k) × (a ≡ b)
token_is j k a b e = (cc, cc)

token_eq : (t u : Token) → t.kind ≡ u.kind → t.span ≡ u.span → t ≡ u
token_eq t u k s = ap (λ x. let r : Token = record { kind = x; span = t.span } in r) k ∙ ap (λ x. let r : Token = record { kind = u.kind; span = x } in r) s

-- where both walks stop
stop : (class : Class) (m l : Mode) (t r : List ℕ) (s : Start) → m ≡ l → t ≡ r → start_at class l r ≡ bad → start_at class m t ≡ s → bad ≡ s
stop class m l t r s e f b g =
    let P : Mode → Type 0 = λ x. start_at class x r ≡ bad in
    let Q : List ℕ → Type 0 = λ x. start_at class m x ≡ bad in
    sym (subst Q (sym f) (subst P (sym e) b)) ∙ g

-- two walks of a text that both stop where nothing starts are over the same tokens, and stop at one place
pub agree : (class : Class) (n : ℕ) (ps qs : List Part) (mode : Mode) (text : List ℕ) (last last' : Mode) (rest rest' : List ℕ) →
    Walks class n mode text ps last rest → start_at class last rest ≡ bad →
    Walks class n mode text qs last' rest' → start_at class last' rest' ≡ bad →
    (tokens_of ps ≡ tokens_of qs) × (rest ≡ rest')
agree class n [] [] mode text last last' rest rest' (e, f) b (g, h) b' = (refl, sym f ∙ h)
agree class n [] (passed ∷ qs) mode text last last' rest rest' (e, f) b (r, g, h) b' = absurd (let x : bad ≡ gap r = stop class mode last text rest (gap r) e f b g in cc)
agree class n [] (taken u ∷ qs) mode text last last' rest rest' (e, f) b (r, g, i, h) b' = absurd (let x : bad ≡ token u.kind r = stop class mode last text rest (token u.kind r) e f b g in cc)
agree class n (passed ∷ ps) [] mode text last last' rest rest' (r, g, h) b (e, f) b' = absurd (let x : bad ≡ gap r = stop class mode last' text rest' (gap r) e f b' g in cc)
agree class n (taken t ∷ ps) [] mode text last last' rest rest' (r, g, i, h) b (e, f) b' = absurd (let x : bad ≡ token t.kind r = stop class mode last' text rest' (token t.kind r) e f b' g in cc)
agree class n (passed ∷ ps) (taken u ∷ qs) mode text last last' rest rest' (r, g, h) b (s, k, j, l) b' = absurd (let x : gap r ≡ token u.kind s = sym g ∙ k in cc)
agree class n (taken t ∷ ps) (passed ∷ qs) mode text last last' rest rest' (r, g, i, h) b (s, k, l) b' = absurd (let x : token t.kind r ≡ gap s = sym g ∙ k in cc)
agree class n (passed ∷ ps) (passed ∷ qs) mode text last last' rest rest' (r, g, h) b (s, k, l) b' =
    let P : List ℕ → Type 0 = λ x. Walks class n mode x qs last' rest' in
    agree class n ps qs mode r last last' rest rest' h b (subst P (gap_is s r (sym k ∙ g)) l) b'
agree class n (taken t ∷ ps) (taken u ∷ qs) mode text last last' rest rest' (r, g, i, h) b (s, k, j, l) b' =
    let e = token_is u.kind t.kind s r (sym k ∙ g) in
    let P : List ℕ → Type 0 = λ x. Walks class n (mode_behind class mode t.kind (first_of text)) x qs last' rest' in
    let Q : Kind → Type 0 = λ x. Walks class n (mode_behind class mode x (first_of text)) s qs last' rest' in
    let spans : t.span ≡ u.span = i ∙ ap (span_of n text) (sym e.1) ∙ sym j in
    let both = agree class n ps qs (mode_behind class mode t.kind (first_of text)) r last last' rest rest' h b (subst P e.1 (subst Q e.0 l)) b' in
    (ap (λ x. x ∷ tokens_of ps) (token_eq t u (sym e.0) spans) ∙ ap (λ x. u ∷ x) both.0, both.1)

-- a text has at most one cut
pub one_cut : (class : Class) (text : List ℕ) (tokens others : List Token) → IsCut class text tokens → IsCut class text others → tokens ≡ others
one_cut class text tokens others (ps, l, h, e) (qs, m, k, f) =
    sym e ∙ (agree class (length text) ps qs Fresh text l m [] [] h (at_end class l) k (at_end class m)).0 ∙ f

-- and is not cut where it is bad
pub not_both : (class : Class) (text : List ℕ) (tokens : List Token) (at : ℕ) → IsCut class text tokens → IsBadAt class text at → ⊥
not_both class text tokens at (ps, l, h, e) (qs, m, rest, k, b, n, f) =
    n (sym (agree class (length text) ps qs Fresh text l m [] rest h (at_end class l) k b).1)

-- and is bad at one place
pub one_bad : (class : Class) (text : List ℕ) (at other : ℕ) → IsBadAt class text at → IsBadAt class text other → at ≡ other
one_bad class text at other (ps, l, rest, h, b, n, e) (qs, m, rest', k, b', n', f) =
    e ∙ ap (λ x. length text - length x) (agree class (length text) ps qs Fresh text l m rest rest' h b k b').1 ∙ sym f
