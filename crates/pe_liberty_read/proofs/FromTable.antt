-- What the grammar derives from the tokens is what the rules of the format have.
use Rattle.std.proofs.Common.{◌≡◌, ◌≢◌, ℕ, Bool, true, false, List, [], ◌∷◌, ◌++◌, refl, ap, sym, ◌∙◌, subst, arith, inl, inr, append_assoc}
use Rattle.pe_grammar.specs.declared.terminal.Token.{Token as Terminal}
use Rattle.pe_grammar.specs.Derivation.{Derivation, leaf, nothing, pair, left, right, done, more, present, absent, once, text as spelled}
use Rattle.pe_grammar.specs.Written.{word, rule, empty, both, either, many, IsOf}
use Rattle.pe_reader.specs.Words.{word_at}
use Rattle.pe_text.specs.declared.token.Token.{Token}
use Rattle.pe_liberty_read.specs.Format.{IsWord, IsValue, AreValues, IsMore, none, next, behind_comma, IsArguments, no_argument, arguments, words_of}
use Rattle.pe_liberty_read.specs.LibertyGrammar.{liberty_grammar}
use Rattle.pe_liberty_read.specs.Meaning.{number_of, each_name, names_of}
use Rattle.pe_liberty_read.specs.Terminals.{goes_on_values}
use Rattle.pe_liberty_read.proofs.Inverse.{in_pair, in_side, in_leaf, in_nothing}
use Rattle.pe_liberty_read.proofs.Walk.{walk, stays, is_value, first}

-- one terminal is the whole of a derivation
pub record One (is_kind : Terminal → Type 0) (d : Derivation) : Type 0 where
  pub token : Terminal
  pub is : spelled d ≡ token ∷ []
  pub kind : is_kind token
  pub place : number_of d ≡ token.place

pub name_leaf : (d : Derivation) → IsOf liberty_grammar (rule 12) d → One IsWord d
name_leaf d h = elim (in_side liberty_grammar (rule 12) (word 0) (word 1) d refl h) [
  | inl s ↦
      let l = in_leaf liberty_grammar (word 0) 0 s.side refl s.of_side in
      let whole : d ≡ left (leaf l.0) = s.is ∙ ap left l.1 in
      record { token = l.0; is = ap spelled whole; kind = inl l.2; place = ap number_of whole }
  | inr s ↦
      let l = in_leaf liberty_grammar (word 1) 1 s.side refl s.of_side in
      let whole : d ≡ right (leaf l.0) = s.is ∙ ap right l.1 in
      record { token = l.0; is = ap spelled whole; kind = inr l.2; place = ap number_of whole }
]

pub argument_leaf : (d : Derivation) → IsOf liberty_grammar (rule 11) d → One IsValue d
argument_leaf d h = elim (in_side liberty_grammar (rule 11) (rule 12) (word 2) d refl h) [
  | inl s ↦
      let l = name_leaf s.side s.of_side in
      record { token = l.token; is = ap spelled s.is ∙ l.is; kind = inl l.kind; place = ap number_of s.is ∙ l.place }
  | inr s ↦
      let l = in_leaf liberty_grammar (word 2) 2 s.side refl s.of_side in
      let whole : d ≡ right (leaf l.0) = s.is ∙ ap right l.1 in
      record { token = l.0; is = ap spelled whole; kind = inr l.2; place = ap number_of whole }
]

same_word : (p t : Terminal) → p.kind ≡ t.kind → IsWord t → IsWord p
same_word p t e (inl q) = inl (e ∙ q)
same_word p t e (inr q) = inr (e ∙ q)

same_value : (p t : Terminal) → p.kind ≡ t.kind → IsValue t → IsValue p
same_value p t e (inl q) = inl (same_word p t e q)
same_value p t e (inr q) = inr (e ∙ q)

-- behind a word no list goes on
pub quiet : (t : Terminal) → IsValue t → goes_on_values t.kind ≡ false
quiet t (inl (inl q)) = ap goes_on_values q
quiet t (inl (inr q)) = ap goes_on_values q
quiet t (inr q) = ap goes_on_values q

-- a token, and what follows it
pub record Ahead (b : Bool) (is_kind : Terminal → Type 0) (n : ℕ) (ps rest : List Terminal) : Type 0 where
  pub token : Terminal
  pub others : List Terminal
  pub is : ps ≡ token ∷ others
  pub kind : is_kind token
  pub place : n ≡ token.place
  pub goes_on : walk b others ≡ rest

-- a mark
abbrev pub IsMark : ℕ → Terminal → Type 0
IsMark m t = t.kind ≡ m

pub read_mark : (b c : Bool) (m : ℕ) (t : Terminal) (ps rest : List Terminal) → t.kind ≡ m → m ≢ 3 → m ≢ 12 → goes_on_values m ≡ c → walk b ps ≡ t ∷ rest → Ahead c (IsMark m) t.place ps rest
read_mark b c m t ps rest k p q g e =
    let f = first b ps t rest e in
    record {
      token = f.token;
      others = f.others;
      is = f.is;
      kind = stays b f.token.kind m (f.kind ∙ k) p q;
      place = sym f.place;
      goes_on = ap (λ x. walk x f.others) (sym (ap goes_on_values k ∙ g)) ∙ f.goes_on;
    }

pub read_word : (t : Terminal) (ps rest : List Terminal) → IsWord t → walk false ps ≡ t ∷ rest → Ahead false IsWord t.place ps rest
read_word t ps rest k e =
    let f = first false ps t rest e in
    record { token = f.token; others = f.others; is = f.is; kind = same_word f.token t f.kind k; place = sym f.place; goes_on = ap (λ x. walk x f.others) (sym (quiet t (inl k))) ∙ f.goes_on }

pub read_value : (t : Terminal) (ps rest : List Terminal) → IsValue t → walk false ps ≡ t ∷ rest → Ahead false IsValue t.place ps rest
read_value t ps rest k e =
    let f = first false ps t rest e in
    record { token = f.token; others = f.others; is = f.is; kind = same_value f.token t f.kind k; place = sym f.place; goes_on = ap (λ x. walk x f.others) (sym (quiet t k)) ∙ f.goes_on }

-- in a list
pub read_listed : (t : Terminal) (ps rest : List Terminal) → t.kind ≡ 3 → walk true ps ≡ t ∷ rest → Ahead true IsValue t.place ps rest
read_listed t ps rest k e =
    let f = first true ps t rest e in
    record { token = f.token; others = f.others; is = f.is; kind = is_value f.token.kind (f.kind ∙ k); place = sym f.place; goes_on = ap (λ x. walk x f.others) (sym (ap goes_on_values k)) ∙ f.goes_on }

-- the values behind the first
pub record Values (text : List ℕ) (tokens : List Token) (names : List (List ℕ)) (ps rest : List Terminal) : Type 0 where
  pub values : List Terminal
  pub others : List Terminal
  pub is : ps ≡ values ++ others
  pub are : AreValues values
  pub named : names ≡ words_of text tokens values
  pub goes_on : walk true others ≡ rest

pub read_values : (text : List ℕ) (tokens : List Token) (d : Derivation) → IsOf liberty_grammar (many (word 3)) d → (ps rest : List Terminal) → walk true ps ≡ spelled d ++ rest → Values text tokens (each_name text tokens d) ps rest
read_values text tokens done h ps rest e = record { values = []; others = ps; is = refl; are = tt; named = refl; goes_on = e }
read_values text tokens (more c f) h ps rest e =
    let q = h.1 in
    let p : h.0 ≡ word 3 = cc in
    let l = in_leaf liberty_grammar (word 3) 3 c refl (subst (λ w. IsOf liberty_grammar w c) p h.2) in
    let e2 : walk true ps ≡ l.0 ∷ (spelled f ++ rest) = e ∙ ap (λ x. (spelled x ++ spelled f) ++ rest) l.1 in
    let a = read_listed l.0 ps (spelled f ++ rest) l.2 e2 in
    let r = read_values text tokens f h.3 a.others rest a.goes_on in
    record {
      values = a.token ∷ r.values;
      others = r.others;
      is = a.is ∙ ap (λ xs. a.token ∷ xs) r.is;
      are = (a.kind, r.are);
      named = ap (λ n. word_at text tokens n ∷ each_name text tokens f) (ap number_of l.1 ∙ a.place) ∙ ap (λ xs. word_at text tokens a.token.place ∷ xs) r.named;
      goes_on = r.goes_on;
    }
read_values text tokens (leaf t) h ps rest e = cc
read_values text tokens nothing h ps rest e = cc
read_values text tokens (pair c d) h ps rest e = let p = h.2 in cc
read_values text tokens (left c) h ps rest e = let p = h.2 in cc
read_values text tokens (right c) h ps rest e = let p = h.2 in cc
read_values text tokens (present t c) h ps rest e = let p = h.2 in cc
read_values text tokens (absent j) h ps rest e = let p = h.1 in cc
read_values text tokens (once c) h ps rest e = let p = h.2 in cc

-- one argument behind the first
pub record Next (n : ℕ) (ps rest : List Terminal) : Type 0 where
  pub ts : List Terminal
  pub token : Terminal
  pub others : List Terminal
  pub is : ps ≡ ts ++ others
  pub joined : (us args : List Terminal) → IsMore us args → IsMore (ts ++ us) (token ∷ args)
  pub place : n ≡ token.place
  pub goes_on : walk false others ≡ rest

pub read_next : (d : Derivation) → IsOf liberty_grammar (rule 10) d → (ps rest : List Terminal) → walk false ps ≡ spelled d ++ rest → Next (number_of d) ps rest
read_next d h ps rest e =
    let p = in_pair liberty_grammar (rule 10) (either (word 10) empty) (rule 11) d refl h in
    let t = argument_leaf p.two p.of_two in
    elim (in_side liberty_grammar (either (word 10) empty) (word 10) empty p.one refl p.of_one) [
      | inl s ↦
          let l = in_leaf liberty_grammar (word 10) 10 s.side refl s.of_side in
          let one : p.one ≡ left (leaf l.0) = s.is ∙ ap left l.1 in
          let e2 : walk false ps ≡ l.0 ∷ t.token ∷ rest = e ∙ ap (λ x. spelled x ++ rest) p.is ∙ ap (λ x. (spelled x ++ spelled p.two) ++ rest) one ∙ ap (λ xs. l.0 ∷ (xs ++ rest)) t.is in
          let a = read_mark false false 10 l.0 ps (t.token ∷ rest) l.2 (λ x. omega arith) (λ x. omega arith) refl e2 in
          let b = read_value t.token a.others rest t.kind a.goes_on in
          record {
            ts = a.token ∷ b.token ∷ [];
            token = b.token;
            others = b.others;
            is = a.is ∙ ap (λ xs. a.token ∷ xs) b.is;
            joined = λ us args m. behind_comma a.token b.token us args a.kind b.kind m;
            place = ap number_of p.is ∙ t.place ∙ b.place;
            goes_on = b.goes_on;
          }
      | inr s ↦
          let one : p.one ≡ right nothing = s.is ∙ ap right (in_nothing liberty_grammar empty s.side refl s.of_side) in
          let e2 : walk false ps ≡ t.token ∷ rest = e ∙ ap (λ x. spelled x ++ rest) p.is ∙ ap (λ x. (spelled x ++ spelled p.two) ++ rest) one ∙ ap (λ xs. xs ++ rest) t.is in
          let b = read_value t.token ps rest t.kind e2 in
          record {
            ts = b.token ∷ [];
            token = b.token;
            others = b.others;
            is = b.is;
            joined = λ us args m. next b.token us args b.kind m;
            place = ap number_of p.is ∙ t.place ∙ b.place;
            goes_on = b.goes_on;
          }
    ]

pub record Args (text : List ℕ) (tokens : List Token) (are_args : List Terminal → List Terminal → Type 0) (names : List (List ℕ)) (ps rest : List Terminal) : Type 0 where
  pub between : List Terminal
  pub args : List Terminal
  pub others : List Terminal
  pub is : ps ≡ between ++ others
  pub are : are_args between args
  pub named : names ≡ words_of text tokens args
  pub goes_on : walk false others ≡ rest

pub read_more : (text : List ℕ) (tokens : List Token) (d : Derivation) → IsOf liberty_grammar (many (rule 10)) d → (ps rest : List Terminal) → walk false ps ≡ spelled d ++ rest → Args text tokens IsMore (each_name text tokens d) ps rest
read_more text tokens done h ps rest e = record { between = []; args = []; others = ps; is = refl; are = none; named = refl; goes_on = e }
read_more text tokens (more c f) h ps rest e =
    let q = h.1 in
    let p : h.0 ≡ rule 10 = cc in
    let a = read_next c (subst (λ w. IsOf liberty_grammar w c) p h.2) ps (spelled f ++ rest) (e ∙ append_assoc (spelled c) (spelled f) rest) in
    let r = read_more text tokens f h.3 a.others rest a.goes_on in
    record {
      between = a.ts ++ r.between;
      args = a.token ∷ r.args;
      others = r.others;
      is = a.is ∙ ap (λ xs. a.ts ++ xs) r.is ∙ sym (append_assoc a.ts r.between r.others);
      are = a.joined r.between r.args r.are;
      named = ap (λ n. word_at text tokens n ∷ each_name text tokens f) a.place ∙ ap (λ xs. word_at text tokens a.token.place ∷ xs) r.named;
      goes_on = r.goes_on;
    }
read_more text tokens (leaf t) h ps rest e = cc
read_more text tokens nothing h ps rest e = cc
read_more text tokens (pair c d) h ps rest e = let p = h.2 in cc
read_more text tokens (left c) h ps rest e = let p = h.2 in cc
read_more text tokens (right c) h ps rest e = let p = h.2 in cc
read_more text tokens (present t c) h ps rest e = let p = h.2 in cc
read_more text tokens (absent j) h ps rest e = let p = h.1 in cc
read_more text tokens (once c) h ps rest e = let p = h.2 in cc

pub read_arguments : (text : List ℕ) (tokens : List Token) (d : Derivation) → IsOf liberty_grammar (rule 9) d → (ps rest : List Terminal) → walk false ps ≡ spelled d ++ rest → Args text tokens IsArguments (names_of text tokens d) ps rest
read_arguments text tokens d h ps rest e = elim (in_side liberty_grammar (rule 9) (both (rule 11) (many (rule 10))) empty d refl h) [
  | inl s ↦
      let p = in_pair liberty_grammar (both (rule 11) (many (rule 10))) (rule 11) (many (rule 10)) s.side refl s.of_side in
      let t = argument_leaf p.one p.of_one in
      let whole : d ≡ left (pair p.one p.two) = s.is ∙ ap left p.is in
      let e2 : walk false ps ≡ t.token ∷ (spelled p.two ++ rest) = e ∙ ap (λ x. spelled x ++ rest) whole ∙ ap (λ xs. (xs ++ spelled p.two) ++ rest) t.is in
      let a = read_value t.token ps (spelled p.two ++ rest) t.kind e2 in
      let r = read_more text tokens p.two p.of_two a.others rest a.goes_on in
      record {
        between = a.token ∷ r.between;
        args = a.token ∷ r.args;
        others = r.others;
        is = a.is ∙ ap (λ xs. a.token ∷ xs) r.is;
        are = arguments a.token r.between r.args a.kind r.are;
        named = ap (names_of text tokens) whole ∙ ap (λ n. word_at text tokens n ∷ each_name text tokens p.two) (t.place ∙ a.place) ∙ ap (λ xs. word_at text tokens a.token.place ∷ xs) r.named;
        goes_on = r.goes_on;
      }
  | inr s ↦
      let whole : d ≡ right nothing = s.is ∙ ap right (in_nothing liberty_grammar empty s.side refl s.of_side) in
      record { between = []; args = []; others = ps; is = refl; are = no_argument; named = ap (names_of text tokens) whole; goes_on = e ∙ ap (λ x. spelled x ++ rest) whole }
]
