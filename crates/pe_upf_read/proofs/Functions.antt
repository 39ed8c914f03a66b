-- The functions of a supply set: by the grammar and by the rule of the format.
use Rattle.std.proofs.Common.{◌≡◌, ◌≢◌, ℕ, zero, suc, ◌==◌, ◌&&◌, Bool, true, false, not, List, [], ◌∷◌, ◌++◌, Option, Some, None, if◌then◌else◌, refl, sym, ap, subst, ◌∙◌, inl, inr, arith}
use Rattle.std.specs.Option.{option_map}
use Rattle.pe_grammar.specs.declared.terminal.Token.{Token as Terminal}
use Rattle.pe_grammar.specs.Derivation.{Derivation, leaf, nothing, pair, left, right, done, more, present, absent, once, text as terminals_in, LeavesOut}
use Rattle.pe_grammar.specs.Written.{Written, word, rule, empty, both, either, body, IsOf}
use Rattle.pe_reader.specs.Words.{word_at}
use Rattle.pe_text.specs.declared.token.Token.{Token}
use Rattle.pe_upf_read.specs.declared.intent.Command.{Command}
use Rattle.pe_upf_read.specs.declared.intent.Command.TheVariants.{CreateSupplySet}
use Rattle.pe_upf_read.specs.Format.{functions_rule, name_rule, IsName, IsRole, IsFree, AreFunctions, no_function, function, named, IsSetByFormat, IsSetByGrammar}
use Rattle.pe_upf_read.specs.Meaning.{set_command_of}
use Rattle.pe_upf_read.specs.Names.{is_brace, name_in, name_of}
use Rattle.pe_upf_read.specs.Options.{name_under, roles}
use Rattle.pe_upf_read.specs.Parts.{bare, rest_of, behind, head_of, find}
use Rattle.pe_upf_read.specs.UpfGrammar.{upf_grammar}
use Rattle.pe_upf_read.proofs.Inverse.{in_pair, in_side, in_leaf, in_nothing}

-- each derivation of it is a word whose kind passes the test
abbrev word_form : (ℕ → Bool) → (Written → Bool) → Option Written → Bool
word_form p inner (Some (word k)) = p k
word_form p inner (Some (either a b)) = inner a && inner b
word_form p inner _ = false

abbrev pub is_word : (ℕ → Bool) → ℕ → List Written → Written → Bool
is_word p zero rs e = false
is_word p (suc steps) rs e = word_form p (is_word p steps rs) (body rs e)

both_left : (a b : Bool) → a && b ≡ true → a ≡ true
both_left true b e = refl
both_left false b e = e

both_right : (a b : Bool) → a && b ≡ true → b ≡ true
both_right true b e = e
both_right false b e = cc

-- the grammar leaves no clause out
abbrev pub IsShut : Derivation → Type 0
IsShut d = (k : ℕ) → LeavesOut d k → ⊥

pub record Word (p : ℕ → Bool) (d : Derivation) : Type 0 where
  pub token : Terminal
  pub is : terminals_in d ≡ token ∷ []
  pub passes : p token.kind ≡ true
  pub shut : IsShut d

one_word : (p : ℕ → Bool) (steps : ℕ) (rs : List Written) (e : Written) (d : Derivation) → is_word p steps rs e ≡ true → IsOf rs e d → Word p d
one_word p zero rs e d q h = absurd (cc)
one_word p (suc s) rs e (leaf t) q h = record { token = t; is = refl; passes = subst (λ o. word_form p (is_word p s rs) o ≡ true) h q; shut = λ k o. o }
one_word p (suc s) rs e (left c) q h =
    let w = one_word p s rs h.0 c (both_left (is_word p s rs h.0) (is_word p s rs h.1) (subst (λ o. word_form p (is_word p s rs) o ≡ true) h.2 q)) h.3 in
    record { token = w.token; is = w.is; passes = w.passes; shut = w.shut }
one_word p (suc s) rs e (right c) q h =
    let w = one_word p s rs h.1 c (both_right (is_word p s rs h.0) (is_word p s rs h.1) (subst (λ o. word_form p (is_word p s rs) o ≡ true) h.2 q)) h.3 in
    record { token = w.token; is = w.is; passes = w.passes; shut = w.shut }
one_word p (suc s) rs e nothing q h = absurd (cc (subst (λ o. word_form p (is_word p s rs) o ≡ true) h q))
one_word p (suc s) rs e (pair c d) q h = absurd (cc (subst (λ o. word_form p (is_word p s rs) o ≡ true) h.2 q))
one_word p (suc s) rs e done q h = absurd (cc (subst (λ o. word_form p (is_word p s rs) o ≡ true) h.1 q))
one_word p (suc s) rs e (more c d) q h = absurd (cc (subst (λ o. word_form p (is_word p s rs) o ≡ true) h.1 q))
one_word p (suc s) rs e (present t c) q h = absurd (cc (subst (λ o. word_form p (is_word p s rs) o ≡ true) h.2 q))
one_word p (suc s) rs e (absent k) q h = absurd (cc (subst (λ o. word_form p (is_word p s rs) o ≡ true) h.1 q))
one_word p (suc s) rs e (once c) q h = absurd (cc (subst (λ o. word_form p (is_word p s rs) o ≡ true) h.2 q))

-- a name: nothing is left out in it, and it has a word, which comes before what follows
pub record Name (d : Derivation) : Type 0 where
  pub shut : IsShut d
  pub begins : (text : List ℕ) (tokens : List Token) (rest : List Terminal) → name_in text tokens (terminals_in d ++ rest) ≡ name_in text tokens (terminals_in d)

abbrev is_plain : ℕ → Bool
is_plain k = not (is_brace k)

not_true : (b : Bool) → not b ≡ true → b ≡ false
not_true true h = cc
not_true false h = refl

plain_first : (text : List ℕ) (tokens : List Token) (t : Terminal) (rest : List Terminal) → is_brace t.kind ≡ false → name_in text tokens (t ∷ rest) ≡ word_at text tokens t.place
plain_first text tokens t rest e = rw e refl

brace_first : (text : List ℕ) (tokens : List Token) (t : Terminal) (rest : List Terminal) → is_brace t.kind ≡ true → name_in text tokens (t ∷ rest) ≡ name_in text tokens rest
brace_first text tokens t rest e = rw e refl

shut_pair : (c d : Derivation) → IsShut c → IsShut d → IsShut (pair c d)
shut_pair c d p q = λ k o. elim o [ inl x ↦ q k x | inr x ↦ p k x.1 ]

no_leaf : (t : Terminal) → IsShut (leaf t)
no_leaf t = λ k o. o

plain_word : (d : Derivation) → IsOf upf_grammar (rule 29) d → Word is_plain d
plain_word d h = one_word is_plain 24 upf_grammar (rule 29) d refl h

moved_shut : (d c : Derivation) → d ≡ c → IsShut c → IsShut d
moved_shut d c e s = subst IsShut (sym e) s

pub a_name : (d : Derivation) → IsOf upf_grammar name_rule d → Name d
a_name d h = elim (in_side upf_grammar (rule 26) (rule 29) (both (word 59) (both (rule 29) (word 60))) d refl h) [
  | inl s ↦
      let w = plain_word s.side s.of_side in
      let whole : terminals_in d ≡ w.token ∷ [] = ap terminals_in s.is ∙ w.is in
      let plain = not_true (is_brace w.token.kind) w.passes in
      record {
        shut = moved_shut d (left s.side) s.is w.shut;
        begins = λ text tokens rest.
            ap (λ ts. name_in text tokens (ts ++ rest)) whole ∙ plain_first text tokens w.token rest plain ∙ sym (plain_first text tokens w.token [] plain) ∙ ap (name_in text tokens) (sym whole);
      }
  | inr s ↦
      let p = in_pair upf_grammar (both (word 59) (both (rule 29) (word 60))) (word 59) (both (rule 29) (word 60)) s.side refl s.of_side in
      let o = in_leaf upf_grammar (word 59) 59 p.one refl p.of_one in
      let q = in_pair upf_grammar (both (rule 29) (word 60)) (rule 29) (word 60) p.two refl p.of_two in
      let w = plain_word q.one q.of_one in
      let c = in_leaf upf_grammar (word 60) 60 q.two refl q.of_two in
      let tree : d ≡ right (pair (leaf o.0) (pair q.one (leaf c.0))) =
      s.is ∙ ap right p.is ∙ ap (λ x. right (pair x p.two)) o.1 ∙ ap (λ x. right (pair (leaf o.0) x)) q.is ∙ ap (λ x. right (pair (leaf o.0) (pair q.one x))) c.1 in
      let whole : terminals_in d ≡ o.0 ∷ w.token ∷ c.0 ∷ [] = ap terminals_in tree ∙ ap (λ ts. o.0 ∷ (ts ++ (c.0 ∷ []))) w.is in
      let plain = not_true (is_brace w.token.kind) w.passes in
      let opens : is_brace o.0.kind ≡ true = ap is_brace o.2 in
      let first : (text : List ℕ) (tokens : List Token) (rest : List Terminal) → name_in text tokens (o.0 ∷ w.token ∷ rest) ≡ word_at text tokens w.token.place =
      λ text tokens rest. brace_first text tokens o.0 (w.token ∷ rest) opens ∙ plain_first text tokens w.token rest plain in
      record {
        shut = moved_shut d _ tree (shut_pair (leaf o.0) (pair q.one (leaf c.0)) (no_leaf o.0) (shut_pair q.one (leaf c.0) w.shut (no_leaf c.0)));
        begins = λ text tokens rest.
            ap (λ ts. name_in text tokens (ts ++ rest)) whole ∙ first text tokens (c.0 ∷ rest) ∙ sym (first text tokens (c.0 ∷ [])) ∙ ap (name_in text tokens) (sym whole);
      }
]

-- the derivations of a function, of the second behind the first, and of all
abbrev first_of_two : Terminal → Derivation → Terminal → Derivation → Derivation
first_of_two r n c t = pair (leaf r) (pair n (pair (leaf c) t))

abbrev second_of_two : Terminal → Derivation → Terminal → Derivation
second_of_two r n c = pair (leaf r) (pair n (leaf c))

abbrev opened : Terminal → Terminal → Derivation → Derivation
opened f o d = left (pair (leaf f) (pair (leaf o) d))

-- what is found of a function is its name
choose : (text : List ℕ) (tokens : List Token) (b : Bool) (d : Derivation) (o : Option Derivation) (y : List ℕ) (p : Option (List ℕ)) → name_of text tokens d ≡ y → option_map (name_of text tokens) o ≡ p → option_map (name_of text tokens) (if b then Some d else o) ≡ (if b then Some y else p)
choose text tokens true d o y p e f = ap Some e
choose text tokens false d o y p e f = f

first_named : (text : List ℕ) (tokens : List Token) (k : ℕ) (r : Terminal) (n : Derivation) (c : Terminal) (t : Derivation) (ds : List Derivation) (words : List Terminal) (fs : List (ℕ × List ℕ)) → Name n → terminals_in n ≡ words → name_under text tokens k ds ≡ named k fs → name_under text tokens k (first_of_two r n c t ∷ ds) ≡ named k ((r.kind, name_in text tokens words) ∷ fs)
unfolding name_of find head_of behind rest_of bare
first_named text tokens k r n c t ds words fs name is rest =
    choose text tokens (r.kind == k) (pair n (pair (leaf c) t)) (find k ds) (name_in text tokens words) (named k fs)
    (name.begins text tokens (c ∷ terminals_in t) ∙ ap (name_in text tokens) is) rest

second_named : (text : List ℕ) (tokens : List Token) (k : ℕ) (r : Terminal) (n : Derivation) (c : Terminal) (words : List Terminal) → Name n → terminals_in n ≡ words → name_under text tokens k (second_of_two r n c ∷ []) ≡ named k ((r.kind, name_in text tokens words) ∷ [])
unfolding name_of find head_of behind rest_of bare
second_named text tokens k r n c words name is =
    choose text tokens (r.kind == k) (pair n (leaf c)) None (name_in text tokens words) None
    (name.begins text tokens (c ∷ []) ∙ ap (name_in text tokens) is) refl

-- a derivation that means these functions
pub record Means (text : List ℕ) (tokens : List Token) (d : Derivation) (fs : List (ℕ × List ℕ)) : Type 0 where
  pub power : name_under text tokens 54 (roles d) ≡ named 54 fs
  pub ground : name_under text tokens 55 (roles d) ≡ named 55 fs

means_none : (text : List ℕ) (tokens : List Token) → Means text tokens (right nothing) []
unfolding roles find head_of behind rest_of bare
means_none text tokens = record { power = refl; ground = refl }

one_left : (text : List ℕ) (tokens : List Token) (k : ℕ) (f o r : Terminal) (n : Derivation) (c : Terminal) (words : List Terminal) → name_under text tokens k (nothing ∷ []) ≡ None → Name n → terminals_in n ≡ words → name_under text tokens k (roles (opened f o (left (first_of_two r n c (right nothing))))) ≡ named k ((r.kind, name_in text tokens words) ∷ [])
unfolding roles behind rest_of bare
one_left text tokens k f o r n c words none name is = first_named text tokens k r n c (right nothing) (nothing ∷ []) words [] name is none

one_right : (text : List ℕ) (tokens : List Token) (k : ℕ) (f o r : Terminal) (n : Derivation) (c : Terminal) (words : List Terminal) → name_under text tokens k (nothing ∷ []) ≡ None → Name n → terminals_in n ≡ words → name_under text tokens k (roles (opened f o (right (first_of_two r n c (right nothing))))) ≡ named k ((r.kind, name_in text tokens words) ∷ [])
unfolding roles behind rest_of bare
one_right text tokens k f o r n c words none name is = first_named text tokens k r n c (right nothing) (nothing ∷ []) words [] name is none

two_left : (text : List ℕ) (tokens : List Token) (k : ℕ) (f o r : Terminal) (n : Derivation) (c : Terminal) (words : List Terminal) (f2 o2 r2 : Terminal) (n2 : Derivation) (c2 : Terminal) (words2 : List Terminal) → Name n → terminals_in n ≡ words → Name n2 → terminals_in n2 ≡ words2 →
    name_under text tokens k (roles (opened f o (left (first_of_two r n c (opened f2 o2 (second_of_two r2 n2 c2)))))) ≡ named k ((r.kind, name_in text tokens words) ∷ (r2.kind, name_in text tokens words2) ∷ [])
unfolding roles behind rest_of bare
two_left text tokens k f o r n c words f2 o2 r2 n2 c2 words2 name is name2 is2 =
    first_named text tokens k r n c (opened f2 o2 (second_of_two r2 n2 c2)) (second_of_two r2 n2 c2 ∷ []) words ((r2.kind, name_in text tokens words2) ∷ []) name is (second_named text tokens k r2 n2 c2 words2 name2 is2)

two_right : (text : List ℕ) (tokens : List Token) (k : ℕ) (f o r : Terminal) (n : Derivation) (c : Terminal) (words : List Terminal) (f2 o2 r2 : Terminal) (n2 : Derivation) (c2 : Terminal) (words2 : List Terminal) → Name n → terminals_in n ≡ words → Name n2 → terminals_in n2 ≡ words2 →
    name_under text tokens k (roles (opened f o (right (first_of_two r n c (opened f2 o2 (second_of_two r2 n2 c2)))))) ≡ named k ((r.kind, name_in text tokens words) ∷ (r2.kind, name_in text tokens words2) ∷ [])
unfolding roles behind rest_of bare
two_right text tokens k f o r n c words f2 o2 r2 n2 c2 words2 name is name2 is2 =
    first_named text tokens k r n c (opened f2 o2 (second_of_two r2 n2 c2)) (second_of_two r2 n2 c2 ∷ []) words ((r2.kind, name_in text tokens words2) ∷ []) name is (second_named text tokens k r2 n2 c2 words2 name2 is2)

none_power : (text : List ℕ) (tokens : List Token) → name_under text tokens 54 (nothing ∷ []) ≡ None
unfolding find head_of
none_power text tokens = refl

none_ground : (text : List ℕ) (tokens : List Token) → name_under text tokens 55 (nothing ∷ []) ≡ None
unfolding find head_of
none_ground text tokens = refl

-- the same command
same_command : (text : List ℕ) (tokens : List Token) (name : List ℕ) (d : Derivation) (fs : List (ℕ × List ℕ)) → Means text tokens d fs → set_command_of text tokens name (roles d) ≡ CreateSupplySet name (named 54 fs) (named 55 fs)
same_command text tokens name d fs m = ap (λ p. CreateSupplySet name p (name_under text tokens 55 (roles d))) m.power ∙ ap (CreateSupplySet name (named 54 fs)) m.ground

-- the role of the first function, and that of the second: power and ground where the first is power, and else ground and power
abbrev own : Bool → ℕ
own true = 54
own false = 55

abbrev other : Bool → ℕ
other true = 55
other false = 54

abbrev sided : Bool → Derivation → Derivation
sided true d = left d
sided false d = right d

own_role : (b : Bool) → IsRole (own b)
own_role true = inl refl
own_role false = inr refl

other_role : (b : Bool) → IsRole (other b)
other_role true = inr refl
other_role false = inl refl

apart : (b : Bool) → other b ≢ own b
apart true = λ e. omega arith
apart false = λ e. omega arith

terminals_sided : (b : Bool) (d : Derivation) → terminals_in (sided b d) ≡ terminals_in d
terminals_sided true d = refl
terminals_sided false d = refl

means_one : (text : List ℕ) (tokens : List Token) (b : Bool) (f o r : Terminal) (n : Derivation) (c : Terminal) (words : List Terminal) → Name n → terminals_in n ≡ words → Means text tokens (opened f o (sided b (first_of_two r n c (right nothing)))) ((r.kind, name_in text tokens words) ∷ [])
means_one text tokens true f o r n c words name is = record {
  power = one_left text tokens 54 f o r n c words (none_power text tokens) name is;
  ground = one_left text tokens 55 f o r n c words (none_ground text tokens) name is;
}
means_one text tokens false f o r n c words name is = record {
  power = one_right text tokens 54 f o r n c words (none_power text tokens) name is;
  ground = one_right text tokens 55 f o r n c words (none_ground text tokens) name is;
}

means_two : (text : List ℕ) (tokens : List Token) (b : Bool) (f o r : Terminal) (n : Derivation) (c : Terminal) (words : List Terminal) (f2 o2 r2 : Terminal) (n2 : Derivation) (c2 : Terminal) (words2 : List Terminal) → Name n → terminals_in n ≡ words → Name n2 → terminals_in n2 ≡ words2 →
    Means text tokens (opened f o (sided b (first_of_two r n c (opened f2 o2 (second_of_two r2 n2 c2))))) ((r.kind, name_in text tokens words) ∷ (r2.kind, name_in text tokens words2) ∷ [])
means_two text tokens true f o r n c words f2 o2 r2 n2 c2 words2 name is name2 is2 = record {
  power = two_left text tokens 54 f o r n c words f2 o2 r2 n2 c2 words2 name is name2 is2;
  ground = two_left text tokens 55 f o r n c words f2 o2 r2 n2 c2 words2 name is name2 is2;
}
means_two text tokens false f o r n c words f2 o2 r2 n2 c2 words2 name is name2 is2 = record {
  power = two_right text tokens 54 f o r n c words f2 o2 r2 n2 c2 words2 name is name2 is2;
  ground = two_right text tokens 55 f o r n c words f2 o2 r2 n2 c2 words2 name is name2 is2;
}

-- the grammar's rules of a second function, and of a first one with what follows it
abbrev second_rule : ℕ → Written
second_rule k = both (word 24) (both (word 59) (both (word k) (both (rule 26) (word 60))))

abbrev first_rule : ℕ → ℕ → Written
first_rule k l = both (word k) (both (rule 26) (both (word 60) (either (second_rule l) empty)))

record Second (k : ℕ) (d : Derivation) : Type 0 where
  pub f : Terminal
  pub o : Terminal
  pub r : Terminal
  pub n : Derivation
  pub c : Terminal
  pub is : d ≡ pair (leaf f) (pair (leaf o) (second_of_two r n c))
  pub option : f.kind ≡ 24
  pub opening : o.kind ≡ 59
  pub role : r.kind ≡ k
  pub name : IsOf upf_grammar (rule 26) n
  pub close : c.kind ≡ 60

in_second : (k : ℕ) (d : Derivation) → IsOf upf_grammar (second_rule k) d → Second k d
in_second k d h =
    let p1 = in_pair upf_grammar (second_rule k) (word 24) (both (word 59) (both (word k) (both (rule 26) (word 60)))) d refl h in
    let f = in_leaf upf_grammar (word 24) 24 p1.one refl p1.of_one in
    let p2 = in_pair upf_grammar (both (word 59) (both (word k) (both (rule 26) (word 60)))) (word 59) (both (word k) (both (rule 26) (word 60))) p1.two refl p1.of_two in
    let o = in_leaf upf_grammar (word 59) 59 p2.one refl p2.of_one in
    let p3 = in_pair upf_grammar (both (word k) (both (rule 26) (word 60))) (word k) (both (rule 26) (word 60)) p2.two refl p2.of_two in
    let r = in_leaf upf_grammar (word k) k p3.one refl p3.of_one in
    let p4 = in_pair upf_grammar (both (rule 26) (word 60)) (rule 26) (word 60) p3.two refl p3.of_two in
    let c = in_leaf upf_grammar (word 60) 60 p4.two refl p4.of_two in
    record {
      f = f.0;
      o = o.0;
      r = r.0;
      n = p4.one;
      c = c.0;
      is = p1.is ∙ ap (λ x. pair x p1.two) f.1 ∙ ap (λ x. pair (leaf f.0) x) (p2.is ∙ ap (λ x. pair x p2.two) o.1 ∙ ap (λ x. pair (leaf o.0) x) (p3.is ∙ ap (λ x. pair x p3.two) r.1 ∙ ap (λ x. pair (leaf r.0) x) (p4.is ∙ ap (pair p4.one) c.1)));
      option = f.2;
      opening = o.2;
      role = r.2;
      name = p4.of_one;
      close = c.2;
    }

record First (k l : ℕ) (d : Derivation) : Type 0 where
  pub r : Terminal
  pub n : Derivation
  pub c : Terminal
  pub t : Derivation
  pub is : d ≡ first_of_two r n c t
  pub role : r.kind ≡ k
  pub name : IsOf upf_grammar (rule 26) n
  pub close : c.kind ≡ 60
  pub tail : IsOf upf_grammar (either (second_rule l) empty) t

in_first : (k l : ℕ) (d : Derivation) → IsOf upf_grammar (first_rule k l) d → First k l d
in_first k l d h =
    let p1 = in_pair upf_grammar (first_rule k l) (word k) (both (rule 26) (both (word 60) (either (second_rule l) empty))) d refl h in
    let r = in_leaf upf_grammar (word k) k p1.one refl p1.of_one in
    let p2 = in_pair upf_grammar (both (rule 26) (both (word 60) (either (second_rule l) empty))) (rule 26) (both (word 60) (either (second_rule l) empty)) p1.two refl p1.of_two in
    let p3 = in_pair upf_grammar (both (word 60) (either (second_rule l) empty)) (word 60) (either (second_rule l) empty) p2.two refl p2.of_two in
    let c = in_leaf upf_grammar (word 60) 60 p3.one refl p3.of_one in
    record {
      r = r.0;
      n = p2.one;
      c = c.0;
      t = p3.two;
      is = p1.is ∙ ap (λ x. pair x p1.two) r.1 ∙ ap (λ x. pair (leaf r.0) x) (p2.is ∙ ap (pair p2.one) (p3.is ∙ ap (λ x. pair x p3.two) c.1));
      role = r.2;
      name = p2.of_one;
      close = c.2;
      tail = p3.of_two;
    }

-- what a derivation of functions says by the rule of the format
abbrev pub Reads : List ℕ → List Token → Derivation → Type 0
Reads text tokens d = (fs : List (ℕ × List ℕ)) × AreFunctions text tokens (terminals_in d) fs × Means text tokens d fs

moved_reads : (text : List ℕ) (tokens : List Token) (d e : Derivation) → d ≡ e → Reads text tokens e → Reads text tokens d
moved_reads text tokens d e p h = subst (Reads text tokens) (sym p) h

read_one : (text : List ℕ) (tokens : List Token) (b : Bool) (f o : Terminal) (x : Derivation) (s : First (own b) (other b) x) → f.kind ≡ 24 → o.kind ≡ 59 → s.t ≡ right nothing → Reads text tokens (opened f o (sided b x))
read_one text tokens b f o x s ef eo none =
    let tree : x ≡ first_of_two s.r s.n s.c (right nothing) = s.is ∙ ap (first_of_two s.r s.n s.c) none in
    moved_reads text tokens (opened f o (sided b x)) (opened f o (sided b (first_of_two s.r s.n s.c (right nothing)))) (ap (λ y. opened f o (sided b y)) tree) (
      (s.r.kind, name_in text tokens (terminals_in s.n)) ∷ [],
      subst (λ ts. AreFunctions text tokens (f ∷ o ∷ ts) ((s.r.kind, name_in text tokens (terminals_in s.n)) ∷ [])) (sym (terminals_sided b (first_of_two s.r s.n s.c (right nothing))))
          (function f o s.r (terminals_in s.n) s.c [] [] ef eo (subst IsRole (sym s.role) (own_role b)) (s.n, s.name, refl) s.close no_function tt),
      means_one text tokens b f o s.r s.n s.c (terminals_in s.n) (a_name s.n s.name) refl,
    )

read_two : (text : List ℕ) (tokens : List Token) (b : Bool) (f o : Terminal) (x : Derivation) (s : First (own b) (other b) x) (y : Derivation) (q : Second (other b) y) → f.kind ≡ 24 → o.kind ≡ 59 → s.t ≡ left y → Reads text tokens (opened f o (sided b x))
read_two text tokens b f o x s y q ef eo some =
    let tail = opened q.f q.o (second_of_two q.r q.n q.c) in
    let tree : x ≡ first_of_two s.r s.n s.c tail = s.is ∙ ap (first_of_two s.r s.n s.c) (some ∙ ap left q.is) in
    let fs = (s.r.kind, name_in text tokens (terminals_in s.n)) ∷ (q.r.kind, name_in text tokens (terminals_in q.n)) ∷ [] in
    let free : q.r.kind ≢ s.r.kind = λ e. apart b (sym q.role ∙ e ∙ s.role) in
    moved_reads text tokens (opened f o (sided b x)) (opened f o (sided b (first_of_two s.r s.n s.c tail))) (ap (λ y. opened f o (sided b y)) tree) (
      fs,
      subst (λ ts. AreFunctions text tokens (f ∷ o ∷ ts) fs) (sym (terminals_sided b (first_of_two s.r s.n s.c tail)))
          (function f o s.r (terminals_in s.n) s.c (terminals_in tail) ((q.r.kind, name_in text tokens (terminals_in q.n)) ∷ []) ef eo (subst IsRole (sym s.role) (own_role b)) (s.n, s.name, refl) s.close
          (function q.f q.o q.r (terminals_in q.n) q.c [] [] q.option q.opening (subst IsRole (sym q.role) (other_role b)) (q.n, q.name, refl) q.close no_function tt)
          (free, tt)),
      means_two text tokens b f o s.r s.n s.c (terminals_in s.n) q.f q.o q.r q.n q.c (terminals_in q.n) (a_name s.n s.name) refl (a_name q.n q.name) refl,
    )

read_role : (text : List ℕ) (tokens : List Token) (b : Bool) (f o : Terminal) (x : Derivation) → f.kind ≡ 24 → o.kind ≡ 59 → IsOf upf_grammar (first_rule (own b) (other b)) x → Reads text tokens (opened f o (sided b x))
read_role text tokens b f o x ef eo h =
    let s = in_first (own b) (other b) x h in
    elim (in_side upf_grammar (either (second_rule (other b)) empty) (second_rule (other b)) empty s.t refl s.tail) [
      | inl y ↦ read_two text tokens b f o x s y.side (in_second (other b) y.side y.of_side) ef eo y.is
      | inr y ↦ read_one text tokens b f o x s ef eo (y.is ∙ ap right (in_nothing upf_grammar empty y.side refl y.of_side))
    ]

read : (text : List ℕ) (tokens : List Token) (d : Derivation) → IsOf upf_grammar functions_rule d → Reads text tokens d
read text tokens d h =
    elim (in_side upf_grammar (rule 9) (both (word 24) (both (word 59) (rule 10))) empty d refl h) [
      | inr s ↦ moved_reads text tokens d (right nothing) (s.is ∙ ap right (in_nothing upf_grammar empty s.side refl s.of_side)) ([], no_function, means_none text tokens)
      | inl s ↦
          let p = in_pair upf_grammar (both (word 24) (both (word 59) (rule 10))) (word 24) (both (word 59) (rule 10)) s.side refl s.of_side in
          let f = in_leaf upf_grammar (word 24) 24 p.one refl p.of_one in
          let q = in_pair upf_grammar (both (word 59) (rule 10)) (word 59) (rule 10) p.two refl p.of_two in
          let o = in_leaf upf_grammar (word 59) 59 q.one refl q.of_one in
          let tree : d ≡ opened f.0 o.0 q.two =
          s.is ∙ ap left (p.is ∙ ap (λ x. pair x p.two) f.1 ∙ ap (pair (leaf f.0)) (q.is ∙ ap (λ x. pair x q.two) o.1)) in
          elim (in_side upf_grammar (rule 10) (first_rule 54 55) (first_rule 55 54) q.two refl q.of_two) [
            | inl x ↦ moved_reads text tokens d (opened f.0 o.0 (left x.side)) (tree ∙ ap (opened f.0 o.0) x.is) (read_role text tokens true f.0 o.0 x.side f.2 o.2 x.of_side)
            | inr x ↦ moved_reads text tokens d (opened f.0 o.0 (right x.side)) (tree ∙ ap (opened f.0 o.0) x.is) (read_role text tokens false f.0 o.0 x.side f.2 o.2 x.of_side)
          ]
    ]

pub by_format : (text : List ℕ) (tokens : List Token) (name : List ℕ) (ts : List Terminal) (c : Command) → IsSetByGrammar text tokens name ts c → IsSetByFormat text tokens name ts c
by_format text tokens name ts c h =
    let r = read text tokens h.0 h.1 in
    (r.0, subst (λ xs. AreFunctions text tokens xs r.0) h.2 r.1, h.3 ∙ same_command text tokens name h.0 r.0 r.2)

-- the other way: a derivation for the functions
of_leaf : (k : ℕ) (t : Terminal) → t.kind ≡ k → IsOf upf_grammar (word k) (leaf t)
of_leaf k t e = ap (λ n. Some (word n)) (sym e)

of_pair : (a b : Written) (c d : Derivation) → IsOf upf_grammar a c → IsOf upf_grammar b d → IsShut c → IsOf upf_grammar (both a b) (pair c d)
of_pair a b c d p q s = (a, b, refl, p, q, λ k e o. s k o)

of_tail_none : (l : ℕ) → IsOf upf_grammar (either (second_rule l) empty) (right nothing)
of_tail_none l = (second_rule l, empty, refl, refl)

of_tail_some : (l : ℕ) (f o r : Terminal) (n : Derivation) (c : Terminal) → f.kind ≡ 24 → o.kind ≡ 59 → r.kind ≡ l → IsOf upf_grammar (rule 26) n → c.kind ≡ 60 → IsOf upf_grammar (either (second_rule l) empty) (opened f o (second_of_two r n c))
of_tail_some l f o r n c ef eo er name ec = (
  second_rule l,
  empty,
  refl,
  of_pair (word 24) (both (word 59) (both (word l) (both (rule 26) (word 60)))) (leaf f) (pair (leaf o) (second_of_two r n c)) (of_leaf 24 f ef)
      (of_pair (word 59) (both (word l) (both (rule 26) (word 60))) (leaf o) (second_of_two r n c) (of_leaf 59 o eo)
      (of_pair (word l) (both (rule 26) (word 60)) (leaf r) (pair n (leaf c)) (of_leaf l r er)
      (of_pair (rule 26) (word 60) n (leaf c) name (of_leaf 60 c ec) (a_name n name).shut) (no_leaf r)) (no_leaf o)) (no_leaf f),
)

of_first : (k l : ℕ) (r : Terminal) (n : Derivation) (c : Terminal) (t : Derivation) → r.kind ≡ k → IsOf upf_grammar (rule 26) n → c.kind ≡ 60 → IsOf upf_grammar (either (second_rule l) empty) t → IsOf upf_grammar (first_rule k l) (first_of_two r n c t)
of_first k l r n c t er name ec tail =
    of_pair (word k) (both (rule 26) (both (word 60) (either (second_rule l) empty))) (leaf r) (pair n (pair (leaf c) t)) (of_leaf k r er)
    (of_pair (rule 26) (both (word 60) (either (second_rule l) empty)) n (pair (leaf c) t) name
    (of_pair (word 60) (either (second_rule l) empty) (leaf c) t (of_leaf 60 c ec) tail (no_leaf c)) (a_name n name).shut) (no_leaf r)

of_role : (b : Bool) (x : Derivation) → IsOf upf_grammar (first_rule (own b) (other b)) x → IsOf upf_grammar (rule 10) (sided b x)
of_role true x h = (first_rule 54 55, first_rule 55 54, refl, h)
of_role false x h = (first_rule 54 55, first_rule 55 54, refl, h)

of_functions : (b : Bool) (f o : Terminal) (x : Derivation) → f.kind ≡ 24 → o.kind ≡ 59 → IsOf upf_grammar (first_rule (own b) (other b)) x → IsOf upf_grammar functions_rule (opened f o (sided b x))
of_functions b f o x ef eo h = (
  both (word 24) (both (word 59) (rule 10)),
  empty,
  refl,
  of_pair (word 24) (both (word 59) (rule 10)) (leaf f) (pair (leaf o) (sided b x)) (of_leaf 24 f ef)
      (of_pair (word 59) (rule 10) (leaf o) (sided b x) (of_leaf 59 o eo) (of_role b x h) (no_leaf o)) (no_leaf f),
)

abbrev pub Makes : List ℕ → List Token → List Terminal → List (ℕ × List ℕ) → Type 0
Makes text tokens ts fs = (d : Derivation) × IsOf upf_grammar functions_rule d × (terminals_in d ≡ ts) × Means text tokens d fs

make_one : (text : List ℕ) (tokens : List Token) (b : Bool) (f o r : Terminal) (words : List Terminal) (c : Terminal) → f.kind ≡ 24 → o.kind ≡ 59 → r.kind ≡ own b → IsName words → c.kind ≡ 60 → Makes text tokens (f ∷ o ∷ r ∷ (words ++ (c ∷ []))) ((r.kind, name_in text tokens words) ∷ [])
make_one text tokens b f o r words c ef eo er n ec =
    let x = first_of_two r n.0 c (right nothing) in (
      opened f o (sided b x),
      of_functions b f o x ef eo (of_first (own b) (other b) r n.0 c (right nothing) er n.1 ec (of_tail_none (other b))),
      ap (λ ts. f ∷ o ∷ ts) (terminals_sided b x) ∙ ap (λ ts. f ∷ o ∷ r ∷ (ts ++ (c ∷ []))) n.2,
      means_one text tokens b f o r n.0 c words (a_name n.0 n.1) n.2,
    )

make_two : (text : List ℕ) (tokens : List Token) (b : Bool) (f o r : Terminal) (words : List Terminal) (c f2 o2 r2 : Terminal) (words2 : List Terminal) (c2 : Terminal) → f.kind ≡ 24 → o.kind ≡ 59 → r.kind ≡ own b → IsName words → c.kind ≡ 60 → f2.kind ≡ 24 → o2.kind ≡ 59 → r2.kind ≡ other b → IsName words2 → c2.kind ≡ 60 →
    Makes text tokens (f ∷ o ∷ r ∷ (words ++ (c ∷ f2 ∷ o2 ∷ r2 ∷ (words2 ++ (c2 ∷ []))))) ((r.kind, name_in text tokens words) ∷ (r2.kind, name_in text tokens words2) ∷ [])
make_two text tokens b f o r words c f2 o2 r2 words2 c2 ef eo er n ec ef2 eo2 er2 n2 ec2 =
    let tail = opened f2 o2 (second_of_two r2 n2.0 c2) in
    let x = first_of_two r n.0 c tail in (
      opened f o (sided b x),
      of_functions b f o x ef eo (of_first (own b) (other b) r n.0 c tail er n.1 ec (of_tail_some (other b) f2 o2 r2 n2.0 c2 ef2 eo2 er2 n2.1 ec2)),
      ap (λ ts. f ∷ o ∷ ts) (terminals_sided b x) ∙ ap (λ ts. f ∷ o ∷ r ∷ (ts ++ (c ∷ f2 ∷ o2 ∷ r2 ∷ (terminals_in n2.0 ++ (c2 ∷ []))))) n.2 ∙ ap (λ ts. f ∷ o ∷ r ∷ (words ++ (c ∷ f2 ∷ o2 ∷ r2 ∷ (ts ++ (c2 ∷ []))))) n2.2,
      means_two text tokens b f o r n.0 c words f2 o2 r2 n2.0 c2 words2 (a_name n.0 n.1) n.2 (a_name n2.0 n2.1) n2.2,
    )

-- a role is one of two
the_other : (b : Bool) (k l : ℕ) → k ≡ own b → IsRole l → l ≢ k → l ≡ other b
the_other true k l e (inl p) d = absurd (d (p ∙ sym e))
the_other true k l e (inr p) d = p
the_other false k l e (inl p) d = p
the_other false k l e (inr p) d = absurd (d (p ∙ sym e))

no_third : (b : Bool) (k l m : ℕ) → k ≡ own b → l ≡ other b → IsRole m → m ≢ k → m ≢ l → ⊥
no_third b k l m e f r p q = q (the_other b k m e r p ∙ sym f)

make_more : (text : List ℕ) (tokens : List Token) (b : Bool) (f o r : Terminal) (words : List Terminal) (c : Terminal) (ts : List Terminal) (fs : List (ℕ × List ℕ)) → f.kind ≡ 24 → o.kind ≡ 59 → r.kind ≡ own b → IsName words → c.kind ≡ 60 → AreFunctions text tokens ts fs → IsFree r.kind fs → Makes text tokens (f ∷ o ∷ r ∷ (words ++ (c ∷ ts))) ((r.kind, name_in text tokens words) ∷ fs)
make_more text tokens b f o r words c ts fs ef eo er n ec no_function free = make_one text tokens b f o r words c ef eo er n ec
make_more text tokens b f o r words c ts fs ef eo er n ec (function f2 o2 r2 words2 c2 ts2 fs2 ef2 eo2 ir2 n2 ec2 no_function free2) free =
    make_two text tokens b f o r words c f2 o2 r2 words2 c2 ef eo er n ec ef2 eo2 (the_other b r.kind r2.kind er ir2 free.0) n2 ec2
make_more text tokens b f o r words c ts fs ef eo er n ec (function f2 o2 r2 words2 c2 ts2 fs2 ef2 eo2 ir2 n2 ec2 (function f3 o3 r3 words3 c3 ts3 fs3 ef3 eo3 ir3 n3 ec3 rest free3) free2) free =
    absurd (no_third b r.kind r2.kind r3.kind er (the_other b r.kind r2.kind er ir2 free.0) ir3 free.1.0 free2.0)

make : (text : List ℕ) (tokens : List Token) (ts : List Terminal) (fs : List (ℕ × List ℕ)) → AreFunctions text tokens ts fs → Makes text tokens ts fs
make text tokens ts fs no_function = (right nothing, (both (word 24) (both (word 59) (rule 10)), empty, refl, refl), refl, means_none text tokens)
make text tokens ts fs (function f o r words c later others ef eo ir n ec rest free) =
    elim ir [
      | inl power ↦ make_more text tokens true f o r words c later others ef eo power n ec rest free
      | inr ground ↦ make_more text tokens false f o r words c later others ef eo ground n ec rest free
    ]

pub by_grammar : (text : List ℕ) (tokens : List Token) (name : List ℕ) (ts : List Terminal) (c : Command) → IsSetByFormat text tokens name ts c → IsSetByGrammar text tokens name ts c
by_grammar text tokens name ts c h =
    let m = make text tokens ts h.0 h.1 in
    (m.0, m.1, m.2, h.2 ∙ sym (same_command text tokens name m.0 h.0 m.3))
