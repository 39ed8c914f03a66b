-- The terminals of the grammar from tokens that know of no list of values.
use Rattle.std.proofs.Common.{◌≡◌, ◌≢◌, ℕ, zero, suc, Bool, true, false, List, [], ◌∷◌, refl, ap, sym, ◌∙◌, arith, inl, inr}
use Rattle.std.specs.Prelude.{◌⊎◌, ◌==◌, if◌then◌else◌, codes, slice_index}
use Rattle.std.specs.Str.{bytes_eq}
use Rattle.pe_grammar.specs.declared.terminal.Token.{Token as Terminal}
use Rattle.pe_text.specs.declared.token.Kind.{Kind}
use Rattle.pe_text.specs.declared.token.Kind.TheVariants.{Text, Mark, End}
use Rattle.pe_text.specs.declared.token.Token.{Token}
use Rattle.pe_liberty_read.specs.Format.{plain_from, plain_of}
use Rattle.pe_liberty_read.specs.Terminals.{terminal_of, goes_on_values, bytes_of, terminals_from, terminals_of}
use Rattle.pe_liberty_read.specs.declared.liberty_table.TheConstants.{LIBRARY, WORD, VALUE, OPEN, CLOSE, BEGIN, END, COLON, SEMI, COMMA}

-- the terminal in a list of values or elsewhere; 12 is none, for VALUE is none of a token by itself
abbrev pub walked : Bool → ℕ → ℕ
walked false k = k
walked true zero = 3
walked true (suc zero) = 3
walked true (suc (suc zero)) = 3
walked true (suc (suc (suc zero))) = 12
walked true (suc (suc (suc (suc k)))) = suc (suc (suc (suc k)))

abbrev pub walk : Bool → List Terminal → List Terminal
walk b [] = []
walk b (t ∷ ts) = record { kind = walked b t.kind; place = t.place } ∷ walk (goes_on_values (walked b t.kind)) ts

-- what is no value stays
pub stays : (b : Bool) (k m : ℕ) → walked b k ≡ m → m ≢ 3 → m ≢ 12 → k ≡ m
stays false k m e p q = e
stays true zero m e p q = absurd (p (sym e))
stays true (suc zero) m e p q = absurd (p (sym e))
stays true (suc (suc zero)) m e p q = absurd (p (sym e))
stays true (suc (suc (suc zero))) m e p q = absurd (q (sym e))
stays true (suc (suc (suc (suc k)))) m e p q = e

-- in a list a value is a word or a quoted text
pub is_value : (k : ℕ) → walked true k ≡ 3 → ((k ≡ 0) ⊎ (k ≡ 1)) ⊎ (k ≡ 2)
is_value zero e = inl (inl refl)
is_value (suc zero) e = inl (inr refl)
is_value (suc (suc zero)) e = inr refl
is_value (suc (suc (suc zero))) e = absurd (omega arith)
is_value (suc (suc (suc (suc k)))) e = absurd (omega arith)

pub of_value : (k : ℕ) → ((k ≡ 0) ⊎ (k ≡ 1)) ⊎ (k ≡ 2) → walked true k ≡ 3
of_value k (inl (inl e)) = ap (walked true) e
of_value k (inl (inr e)) = ap (walked true) e
of_value k (inr e) = ap (walked true) e

-- in a list no word stands as such
pub no_word : (k m : ℕ) → walked true k ≡ m → (m ≡ 0) ⊎ (m ≡ 1) → ⊥
no_word zero m e (inl q) = omega arith
no_word zero m e (inr q) = omega arith
no_word (suc zero) m e (inl q) = omega arith
no_word (suc zero) m e (inr q) = omega arith
no_word (suc (suc zero)) m e (inl q) = omega arith
no_word (suc (suc zero)) m e (inr q) = omega arith
no_word (suc (suc (suc zero))) m e (inl q) = omega arith
no_word (suc (suc (suc zero))) m e (inr q) = omega arith
no_word (suc (suc (suc (suc k)))) m e (inl q) = omega arith
no_word (suc (suc (suc (suc k)))) m e (inr q) = omega arith

-- the first of what the grammar sees is the first token
pub record First (b : Bool) (ps : List Terminal) (t : Terminal) (rest : List Terminal) : Type 0 where
  pub token : Terminal
  pub others : List Terminal
  pub is : ps ≡ token ∷ others
  pub kind : walked b token.kind ≡ t.kind
  pub place : token.place ≡ t.place
  pub goes_on : walk (goes_on_values t.kind) others ≡ rest

heads_same : (x t : Terminal) (xs ts : List Terminal) → ◌≡◌ {A = List Terminal} (x ∷ xs) (t ∷ ts) → (x ≡ t) × (xs ≡ ts)
heads_same x t xs ts e = (cc, cc)

pub first : (b : Bool) (ps : List Terminal) (t : Terminal) (rest : List Terminal) → walk b ps ≡ t ∷ rest → First b ps t rest
first b [] t rest e = cc
first b (p ∷ ps) t rest e =
    let h = heads_same (record { kind = walked b p.kind; place = p.place }) t (walk (goes_on_values (walked b p.kind)) ps) rest e in
    let k : walked b p.kind ≡ t.kind = ap (λ (x : Terminal). x.kind) h.0 in
    record { token = p; others = ps; is = refl; kind = k; place = ap (λ (x : Terminal). x.place) h.0; goes_on = ap (λ m. walk (goes_on_values m) ps) (sym k) ∙ h.1 }

marks_stay : (p q r s t u : Bool) → walked true (if p then OPEN else if q then CLOSE else if r then BEGIN else if s then END else if t then COLON else if u then SEMI else COMMA)
    ≡ (if p then OPEN else if q then CLOSE else if r then BEGIN else if s then END else if t then COLON else if u then SEMI else COMMA)
marks_stay true q r s t u = refl
marks_stay false true r s t u = refl
marks_stay false false true s t u = refl
marks_stay false false false true t u = refl
marks_stay false false false false true u = refl
marks_stay false false false false false true = refl
marks_stay false false false false false false = refl

words_walk : (c : Bool) → walked true (if c then LIBRARY else WORD) ≡ VALUE
words_walk true = refl
words_walk false = refl

pub terminal_walked : (b : Bool) (kind : Kind) (bytes : List ℕ) → walked b (terminal_of false kind bytes) ≡ terminal_of b kind bytes
terminal_walked false kind bytes = refl
terminal_walked true Text bytes = refl
terminal_walked true Mark bytes = let b = slice_index bytes 0 in marks_stay (b == 40) (b == 41) (b == 123) (b == 125) (b == 58) (b == 59)
terminal_walked true End bytes = refl
terminal_walked true _ bytes = words_walk (bytes_eq bytes (codes "library"))

walked_from : (text : List ℕ) (b : Bool) (n : ℕ) (ts : List Token) → terminals_from text b n ts ≡ walk b (plain_from text n ts)
walked_from text b n [] = refl
walked_from text b n (t ∷ ts) =
    let k : walked b (terminal_of false t.kind (bytes_of text t)) ≡ terminal_of b t.kind (bytes_of text t) = terminal_walked b t.kind (bytes_of text t) in
    ap (λ xs. record { kind = terminal_of b t.kind (bytes_of text t); place = n } ∷ xs) (walked_from text (goes_on_values (terminal_of b t.kind (bytes_of text t))) (suc n) ts)
    ∙ ap (λ (m : ℕ). let x : Terminal = record { kind = m; place = n } in x ∷ walk (goes_on_values m) (plain_from text (suc n) ts)) (sym k)

-- the grammar sees the tokens of a text by the walk
pub terminals_walked : (text : List ℕ) (tokens : List Token) → terminals_of text tokens ≡ walk false (plain_of text tokens)
terminals_walked text tokens = walked_from text false 0 tokens
