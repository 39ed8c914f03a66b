-- What the rules of the format have is what the grammar derives from the tokens.
use Rattle.std.proofs.Common.{◌≡◌, ℕ, Bool, true, false, List, [], ◌∷◌, ◌++◌, Some, refl, ap, sym, ◌∙◌, inl, inr, append_assoc, append-nil}
use Rattle.pe_grammar.specs.declared.terminal.Token.{Token as Terminal}
use Rattle.pe_grammar.specs.Derivation.{Derivation, leaf, nothing, pair, left, right, done, more, text as spelled, LeavesOut}
use Rattle.pe_grammar.specs.Written.{Written, word, rule, empty, both, either, many, IsOf}
use Rattle.pe_reader.specs.Words.{word_at}
use Rattle.pe_text.specs.declared.token.Token.{Token}
use Rattle.pe_liberty_read.specs.Contents.{contents_of}
use Rattle.pe_liberty_read.specs.Format.{BeginsWithLibrary, IsWord, IsValue, AreValues, IsStop, IsEnding, IsMore, none, next, behind_comma, IsArguments, no_argument, arguments, words_of, IsList, list, IsGroup, group, IsStatement, inner_group, simple, complex, IsContents, nothing_more, unended, one_more}
use Rattle.pe_liberty_read.specs.LibertyGrammar.{liberty_grammar}
use Rattle.pe_liberty_read.specs.Meaning.{number_of, each_name, names_of, attr_with, group_with, statement_of, body_of, braced_of, statements_of, group_of}
use Rattle.pe_liberty_read.specs.Terminals.{goes_on_values}
use Rattle.pe_liberty_read.specs.declared.statement.Statement.{Statement}
use Rattle.pe_liberty_read.specs.declared.statement.Statement.TheVariants as statement
use Rattle.pe_liberty_read.specs.declared.tree.Group.{Group}
use Rattle.pe_liberty_read.proofs.FromTable.{quiet}
use Rattle.pe_liberty_read.proofs.Walk.{walked, walk, of_value}

-- the grammar leaves no clause out
abbrev pub Shut : Derivation → Type 0
Shut d = (k : ℕ) → LeavesOut d k → ⊥

shut_pair : (c d : Derivation) → Shut c → Shut d → Shut (pair c d)
shut_pair c d p q = λ k o. elim o [ inl x ↦ q k x | inr x ↦ p k x.1 ]

shut_more : (c d : Derivation) → Shut c → Shut d → Shut (more c d)
shut_more c d p q = λ k o. elim o [ inl x ↦ q k x | inr x ↦ p k x.1 ]

-- a derivation of e whose meaning is x, which the grammar sees where the tokens ts stand
pub record Made {A : Type 0} (e : Written) (b c : Bool) (ts : List Terminal) (of : Derivation → A) (x : A) : Type 0 where
  pub made : Derivation
  pub is : IsOf liberty_grammar e made
  pub shut : Shut made
  pub means : of made ≡ x
  pub walks : (rest : List Terminal) → walk b (ts ++ rest) ≡ spelled made ++ walk c rest

plain_step : (t : Terminal) (b : Bool) (xs : List Terminal) → goes_on_values t.kind ≡ b → walk false (t ∷ xs) ≡ t ∷ walk b xs
plain_step t b xs e = ap (λ x. t ∷ walk x xs) e

mark_step : (t : Terminal) (m : ℕ) (xs : List Terminal) → t.kind ≡ m → walked true m ≡ m → goes_on_values m ≡ false → walk true (t ∷ xs) ≡ t ∷ walk false xs
mark_step t m xs e w g =
    let k : walked true t.kind ≡ t.kind = ap (walked true) e ∙ w ∙ sym e in
    ap (λ (n : ℕ). let x : Terminal = record { kind = n; place = t.place } in x ∷ walk (goes_on_values n) xs) k ∙ ap (λ x. t ∷ walk x xs) (ap goes_on_values e ∙ g)

-- the token in a list of values
abbrev listed : Terminal → Terminal
listed t = record { kind = 3; place = t.place }

listed_step : (t : Terminal) (xs : List Terminal) → IsValue t → walk true (t ∷ xs) ≡ listed t ∷ walk true xs
listed_step t xs v = ap (λ (n : ℕ). let x : Terminal = record { kind = n; place = t.place } in x ∷ walk (goes_on_values n) xs) (of_value t.kind v)

leaf_of : (k : ℕ) (t : Terminal) → t.kind ≡ k → IsOf liberty_grammar (word k) (leaf t)
leaf_of k t e = ap (λ n. Some (word n)) (sym e)

no_leaf : (t : Terminal) → Shut (leaf t)
no_leaf t = λ k o. o

pub make_name : (t : Terminal) → IsWord t → Made (rule 12) false false (t ∷ []) number_of t.place
make_name t (inl e) = record { made = left (leaf t); is = (word 0, word 1, refl, leaf_of 0 t e); shut = no_leaf t; means = refl; walks = λ rest. plain_step t false rest (quiet t (inl (inl e))) }
make_name t (inr e) = record { made = right (leaf t); is = (word 0, word 1, refl, leaf_of 1 t e); shut = no_leaf t; means = refl; walks = λ rest. plain_step t false rest (quiet t (inl (inr e))) }

name_spelled : (t : Terminal) (w : IsWord t) → spelled (make_name t w).made ≡ t ∷ []
unfolding make_name
name_spelled t (inl e) = refl
name_spelled t (inr e) = refl

pub make_argument : (t : Terminal) → IsValue t → Made (rule 11) false false (t ∷ []) number_of t.place
make_argument t (inl w) = let n = make_name t w in record { made = left n.made; is = (rule 12, word 2, refl, n.is); shut = n.shut; means = n.means; walks = n.walks }
make_argument t (inr e) = record { made = right (leaf t); is = (rule 12, word 2, refl, leaf_of 2 t e); shut = no_leaf t; means = refl; walks = λ rest. plain_step t false rest (quiet t (inr e)) }

pub make_more : (text : List ℕ) (tokens : List Token) (us args : List Terminal) → IsMore us args → Made (many (rule 10)) false false us (each_name text tokens) (words_of text tokens args)
make_more text tokens us args none = record { made = done; is = (rule 10, refl); shut = λ k o. o; means = refl; walks = λ rest. refl }
make_more text tokens us args (next t ts others v m) =
    let a = make_argument t v in
    let r = make_more text tokens ts others m in
    let one = pair (right nothing) a.made in
    let shut_one : Shut one = shut_pair (right nothing) a.made (λ k o. o) a.shut in
    record {
      made = more one r.made;
      is = (rule 10, refl, (either (word 10) empty, rule 11, refl, (word 10, empty, refl, refl), a.is, λ k f o. o), r.is, λ k f o. shut_one k o);
      shut = shut_more one r.made shut_one r.shut;
      means = ap (λ n. word_at text tokens n ∷ each_name text tokens r.made) a.means ∙ ap (λ ns. word_at text tokens t.place ∷ ns) r.means;
      walks = λ rest. a.walks (ts ++ rest) ∙ ap (λ xs. spelled a.made ++ xs) (r.walks rest) ∙ sym (append_assoc (spelled a.made) (spelled r.made) (walk false rest));
    }
make_more text tokens us args (behind_comma c t ts others e v m) =
    let a = make_argument t v in
    let r = make_more text tokens ts others m in
    let one = pair (left (leaf c)) a.made in
    let shut_one : Shut one = shut_pair (left (leaf c)) a.made (λ k o. o) a.shut in
    record {
      made = more one r.made;
      is = (rule 10, refl, (either (word 10) empty, rule 11, refl, (word 10, empty, refl, leaf_of 10 c e), a.is, λ k f o. o), r.is, λ k f o. shut_one k o);
      shut = shut_more one r.made shut_one r.shut;
      means = ap (λ n. word_at text tokens n ∷ each_name text tokens r.made) a.means ∙ ap (λ ns. word_at text tokens t.place ∷ ns) r.means;
      walks = λ rest.
          plain_step c false (t ∷ (ts ++ rest)) (ap goes_on_values e)
          ∙ ap (λ xs. c ∷ xs) (a.walks (ts ++ rest) ∙ ap (λ xs. spelled a.made ++ xs) (r.walks rest) ∙ sym (append_assoc (spelled a.made) (spelled r.made) (walk false rest)));
    }

pub make_arguments : (text : List ℕ) (tokens : List Token) (us args : List Terminal) → IsArguments us args → Made (rule 9) false false us (names_of text tokens) (words_of text tokens args)
make_arguments text tokens us args no_argument = record { made = right nothing; is = (both (rule 11) (many (rule 10)), empty, refl, refl); shut = λ k o. o; means = refl; walks = λ rest. refl }
make_arguments text tokens us args (arguments t ts others v m) =
    let a = make_argument t v in
    let r = make_more text tokens ts others m in
    record {
      made = left (pair a.made r.made);
      is = (both (rule 11) (many (rule 10)), empty, refl, (rule 11, many (rule 10), refl, a.is, r.is, λ k f o. a.shut k o));
      shut = shut_pair a.made r.made a.shut r.shut;
      means = ap (λ n. word_at text tokens n ∷ each_name text tokens r.made) a.means ∙ ap (λ ns. word_at text tokens t.place ∷ ns) r.means;
      walks = λ rest. a.walks (ts ++ rest) ∙ ap (λ xs. spelled a.made ++ xs) (r.walks rest) ∙ sym (append_assoc (spelled a.made) (spelled r.made) (walk false rest));
    }

pub make_values : (text : List ℕ) (tokens : List Token) (ts : List Terminal) → AreValues ts → Made (many (word 3)) true true ts (each_name text tokens) (words_of text tokens ts)
make_values text tokens [] vs = record { made = done; is = (word 3, refl); shut = λ k o. o; means = refl; walks = λ rest. refl }
make_values text tokens (t ∷ ts) vs =
    let r = make_values text tokens ts vs.1 in
    record {
      made = more (leaf (listed t)) r.made;
      is = (word 3, refl, refl, r.is, λ k f o. o);
      shut = shut_more (leaf (listed t)) r.made (no_leaf (listed t)) r.shut;
      means = ap (λ ns. word_at text tokens t.place ∷ ns) r.means;
      walks = λ rest. listed_step t (ts ++ rest) vs.0 ∙ ap (λ xs. listed t ∷ xs) (r.walks rest);
    }

pub make_ending : (es : List Terminal) → IsEnding es → Made {A = ℕ} (rule 8) false false es (λ d. 0) 0
make_ending [] h = record { made = right nothing; is = (word 9, empty, refl, refl); shut = λ k o. o; means = refl; walks = λ rest. refl }
make_ending (t ∷ []) h = record { made = left (leaf t); is = (word 9, empty, refl, leaf_of 9 t h); shut = λ k o. o; means = refl; walks = λ rest. plain_step t false rest (ap goes_on_values h) }
make_ending (t ∷ u ∷ ts) h = absurd h

-- a word, a colon and values
pub record MadeList (text : List ℕ) (tokens : List Token) (ts : List Terminal) (s : Statement) : Type 0 where
  pub name : Terminal
  pub colon : Terminal
  pub values : Derivation
  pub of_word : IsWord name
  pub of_colon : colon.kind ≡ 8
  pub is : IsOf liberty_grammar (rule 5) values
  pub shut : Shut values
  pub means : statement.Attribute (attr_with text tokens name.place (names_of text tokens values)) ≡ s
  pub walks : (rest : List Terminal) → walk false (ts ++ rest) ≡ name ∷ colon ∷ (spelled values ++ walk true rest)

pub make_list : (text : List ℕ) (tokens : List Token) (ts : List Terminal) (s : Statement) → IsList text tokens ts s → MadeList text tokens ts s
make_list text tokens ts s (list name colon value values w c v vs) =
    let r = make_values text tokens values vs in
    record {
      name = name;
      colon = colon;
      values = pair (leaf (listed value)) r.made;
      of_word = w;
      of_colon = c;
      is = (word 3, many (word 3), refl, refl, r.is, λ k f o. o);
      shut = shut_pair (leaf (listed value)) r.made (no_leaf (listed value)) r.shut;
      means = ap (λ ns. statement.Attribute (attr_with text tokens name.place (word_at text tokens value.place ∷ ns))) r.means;
      walks = λ rest.
          plain_step name false (colon ∷ value ∷ (values ++ rest)) (quiet name (inl w))
          ∙ ap (λ xs. name ∷ xs) (plain_step colon true (value ∷ (values ++ rest)) (ap goes_on_values c))
          ∙ ap (λ xs. name ∷ colon ∷ xs) (listed_step value (values ++ rest) v)
          ∙ ap (λ xs. name ∷ colon ∷ listed value ∷ xs) (r.walks rest);
    }

-- a statement of the grammar, spelled so
pub record Spelled (text : List ℕ) (tokens : List Token) (ts : List Terminal) (s : Statement) : Type 0 where
  pub made : Derivation
  pub is : IsOf liberty_grammar (rule 3) made
  pub shut : Shut made
  pub means : statement_of text tokens made ≡ s
  pub spells : spelled made ≡ ts

list_statement : (text : List ℕ) (tokens : List Token) (ts : List Terminal) (s : Statement) (l : MadeList text tokens ts s) (stop : Derivation) → IsOf liberty_grammar (rule 6) stop → Shut stop →
    Spelled text tokens (l.name ∷ l.colon ∷ (spelled l.values ++ spelled stop)) s
list_statement text tokens ts s l stop is_stop shut_stop =
    let n = make_name l.name l.of_word in
    let rear = pair l.values stop in
    let shut_rear : Shut rear = shut_pair l.values stop l.shut shut_stop in
    let colon = leaf l.colon in
    let all = pair colon rear in
    let shut_all : Shut all = shut_pair colon rear (no_leaf l.colon) shut_rear in
    let first = both (word 8) (both (rule 5) (rule 6)) in
    let second = both (word 4) (both (rule 9) (both (word 5) (rule 7))) in
    record {
      made = pair n.made (left all);
      is = (
        rule 12,
        rule 4,
        refl,
        n.is,
        (first, second, refl, (word 8, both (rule 5) (rule 6), refl, leaf_of 8 l.colon l.of_colon, (rule 5, rule 6, refl, l.is, is_stop, λ k f o. l.shut k o), λ k f o. o)),
        λ k f o. n.shut k o,
      );
      shut = shut_pair n.made (left all) n.shut shut_all;
      means = ap (λ m. statement.Attribute (attr_with text tokens m (names_of text tokens l.values))) n.means ∙ l.means;
      spells = ap (λ xs. xs ++ (l.colon ∷ (spelled l.values ++ spelled stop))) (name_spelled l.name l.of_word);
    }

-- a word and what stands in parentheses behind it
head_walks : (name opening : Terminal) (between : List Terminal) (close : Terminal) (behind rest : List Terminal) (a z : Derivation) → IsWord name → opening.kind ≡ 4 → close.kind ≡ 5 →
    ((r : List Terminal) → walk false (between ++ r) ≡ spelled a ++ walk false r) → walk false (behind ++ rest) ≡ spelled z ++ walk false rest →
    walk false ((name ∷ opening ∷ (between ++ (close ∷ behind))) ++ rest) ≡ name ∷ opening ∷ (spelled a ++ (close ∷ (spelled z ++ walk false rest)))
head_walks name opening between close behind rest a z w o c p q =
    ap (λ xs. walk false (name ∷ opening ∷ xs)) (append_assoc between (close ∷ behind) rest)
    ∙ plain_step name false (opening ∷ (between ++ (close ∷ (behind ++ rest)))) (quiet name (inl w))
    ∙ ap (λ xs. name ∷ xs) (plain_step opening false (between ++ (close ∷ (behind ++ rest))) (ap goes_on_values o))
    ∙ ap (λ xs. name ∷ opening ∷ xs) (p (close ∷ (behind ++ rest)))
    ∙ ap (λ xs. name ∷ opening ∷ (spelled a ++ xs)) (plain_step close false (behind ++ rest) (ap goes_on_values c))
    ∙ ap (λ xs. name ∷ opening ∷ (spelled a ++ (close ∷ xs))) q

head_statement : (text : List ℕ) (tokens : List Token) (ts : List Terminal) (s : Statement) (name opening close : Terminal) (a z : Derivation) → IsWord name → opening.kind ≡ 4 → close.kind ≡ 5 →
    IsOf liberty_grammar (rule 9) a → Shut a → IsOf liberty_grammar (rule 7) z → Shut z →
    ((rest : List Terminal) → walk false (ts ++ rest) ≡ name ∷ opening ∷ (spelled a ++ (close ∷ (spelled z ++ walk false rest)))) →
    body_of text tokens name.place (names_of text tokens a) z ≡ s → Made (rule 3) false false ts (statement_of text tokens) s
head_statement text tokens ts s name opening close a z w o c is_a shut_a is_z shut_z walks means =
    let n = make_name name w in
    let last = pair (leaf close) z in
    let shut_last : Shut last = shut_pair (leaf close) z (no_leaf close) shut_z in
    let rear = pair a last in
    let shut_rear : Shut rear = shut_pair a last shut_a shut_last in
    let all = pair (leaf opening) rear in
    let shut_all : Shut all = shut_pair (leaf opening) rear (no_leaf opening) shut_rear in
    let first = both (word 8) (both (rule 5) (rule 6)) in
    let second = both (word 4) (both (rule 9) (both (word 5) (rule 7))) in
    record {
      made = pair n.made (right all);
      is = (
        rule 12,
        rule 4,
        refl,
        n.is,
        (
          first,
          second,
          refl,
          (word 4, both (rule 9) (both (word 5) (rule 7)), refl, leaf_of 4 opening o, (rule 9, both (word 5) (rule 7), refl, is_a, (word 5, rule 7, refl, leaf_of 5 close c, is_z, λ k f x. x), λ k f x. shut_a k x), λ k f x. x),
        ),
        λ k f x. n.shut k x,
      );
      shut = shut_pair n.made (right all) n.shut shut_all;
      means = ap (λ m. body_of text tokens m (names_of text tokens a) z) n.means ∙ means;
      walks = λ rest.
          walks rest
          ∙ sym (
          ap (λ xs. (xs ++ (opening ∷ (spelled a ++ (close ∷ spelled z)))) ++ walk false rest) (name_spelled name w)
          ∙ ap (λ xs. name ∷ opening ∷ xs) (append_assoc (spelled a) (close ∷ spelled z) (walk false rest)));
    }

-- a group: a word, arguments, and what stands in braces
pub record MadeGroup (text : List ℕ) (tokens : List Token) (ts : List Terminal) (g : Group) : Type 0 where
  pub name : Terminal
  pub others : List Terminal
  pub begins : ts ≡ name ∷ others
  pub opening : Terminal
  pub close : Terminal
  pub args : Derivation
  pub braced : Derivation
  pub of_word : IsWord name
  pub opens : opening.kind ≡ 4
  pub closes : close.kind ≡ 5
  pub is_args : IsOf liberty_grammar (rule 9) args
  pub shut_args : Shut args
  pub is_braced : IsOf liberty_grammar (rule 1) braced
  pub shut_braced : Shut braced
  pub means : group_with text tokens name.place (names_of text tokens args) (contents_of (braced_of text tokens braced)) ≡ g
  pub walks : (rest : List Terminal) → walk false (ts ++ rest) ≡ name ∷ opening ∷ (spelled args ++ (close ∷ (spelled braced ++ walk false rest)))

-- what stands before a closing brace
pub record MadeContents (text : List ℕ) (tokens : List Token) (ts : List Terminal) (ss : List Statement) : Type 0 where
  pub made : Derivation
  pub is : IsOf liberty_grammar (rule 2) made
  pub shut : Shut made
  pub means : statements_of text tokens made ≡ ss
  pub walks : (e : Terminal) (rest : List Terminal) → e.kind ≡ 7 → walk false (ts ++ (e ∷ rest)) ≡ spelled made ++ (e ∷ walk false rest)

make_braced : (text : List ℕ) (tokens : List Token) (begin : Terminal) (inner : List Terminal) (ss : List Statement) (end : Terminal) (ending : List Terminal) → begin.kind ≡ 6 → end.kind ≡ 7 → IsEnding ending →
    MadeContents text tokens inner ss → Made (rule 1) false false (begin ∷ (inner ++ (end ∷ ending))) (braced_of text tokens) ss
make_braced text tokens begin inner ss end ending b e h c =
    let z = make_ending ending h in
    let last = pair (leaf end) z.made in
    let shut_last : Shut last = shut_pair (leaf end) z.made (no_leaf end) z.shut in
    let rear = pair c.made last in
    let shut_rear : Shut rear = shut_pair c.made last c.shut shut_last in
    record {
      made = pair (leaf begin) rear;
      is = (word 6, both (rule 2) (both (word 7) (rule 8)), refl, leaf_of 6 begin b, (rule 2, both (word 7) (rule 8), refl, c.is, (word 7, rule 8, refl, leaf_of 7 end e, z.is, λ k f x. x), λ k f x. c.shut k x), λ k f x. x);
      shut = shut_pair (leaf begin) rear (no_leaf begin) shut_rear;
      means = c.means;
      walks = λ rest.
          ap (λ xs. walk false (begin ∷ xs)) (append_assoc inner (end ∷ ending) rest)
          ∙ plain_step begin false (inner ++ (end ∷ (ending ++ rest))) (ap goes_on_values b)
          ∙ ap (λ xs. begin ∷ xs) (c.walks end (ending ++ rest) e)
          ∙ ap (λ xs. begin ∷ (spelled c.made ++ (end ∷ xs))) (z.walks rest)
          ∙ sym (ap (λ xs. begin ∷ xs) (append_assoc (spelled c.made) (end ∷ spelled z.made) (walk false rest)));
    }

group_made : (text : List ℕ) (tokens : List Token) (name opening : Terminal) (between args : List Terminal) (close begin : Terminal) (inner : List Terminal) (ss : List Statement) (end : Terminal) (ending : List Terminal) →
    IsWord name → opening.kind ≡ 4 → IsArguments between args → close.kind ≡ 5 → begin.kind ≡ 6 → MadeContents text tokens inner ss → end.kind ≡ 7 → IsEnding ending →
    MadeGroup text tokens (name ∷ opening ∷ (between ++ (close ∷ begin ∷ (inner ++ (end ∷ ending))))) (group_with text tokens name.place (words_of text tokens args) (contents_of ss))
group_made text tokens name opening between args close begin inner ss end ending w o a c b ih e h =
    let x = make_arguments text tokens between args a in
    let z = make_braced text tokens begin inner ss end ending b e h ih in
    record {
      name = name;
      others = opening ∷ (between ++ (close ∷ begin ∷ (inner ++ (end ∷ ending))));
      begins = refl;
      opening = opening;
      close = close;
      args = x.made;
      braced = z.made;
      of_word = w;
      opens = o;
      closes = c;
      is_args = x.is;
      shut_args = x.shut;
      is_braced = z.is;
      shut_braced = z.shut;
      means = ap (λ ns. group_with text tokens name.place ns (contents_of (braced_of text tokens z.made))) x.means ∙ ap (λ v. group_with text tokens name.place (words_of text tokens args) (contents_of v)) z.means;
      walks = λ rest. head_walks name opening between close (begin ∷ (inner ++ (end ∷ ending))) rest x.made z.made w o c x.walks (z.walks rest);
    }

group_statement : (text : List ℕ) (tokens : List Token) (ts : List Terminal) (g : Group) → MadeGroup text tokens ts g → Made (rule 3) false false ts (statement_of text tokens) (statement.Group g)
group_statement text tokens ts g m =
    head_statement text tokens ts (statement.Group g) m.name m.opening m.close m.args (left m.braced) m.of_word m.opens m.closes m.is_args m.shut_args (rule 1, rule 8, refl, m.is_braced) m.shut_braced m.walks (ap (λ x. statement.Group x) m.means)

complex_statement : (text : List ℕ) (tokens : List Token) (name opening : Terminal) (between args : List Terminal) (close : Terminal) (ending : List Terminal) →
    IsWord name → opening.kind ≡ 4 → IsArguments between args → close.kind ≡ 5 → IsEnding ending →
    Made (rule 3) false false (name ∷ opening ∷ (between ++ (close ∷ ending))) (statement_of text tokens) (statement.Attribute (attr_with text tokens name.place (words_of text tokens args)))
complex_statement text tokens name opening between args close ending w o a c h =
    let x = make_arguments text tokens between args a in
    let z = make_ending ending h in
    head_statement text tokens (name ∷ opening ∷ (between ++ (close ∷ ending))) (statement.Attribute (attr_with text tokens name.place (words_of text tokens args))) name opening close x.made (right z.made) w o c x.is x.shut (rule 1, rule 8, refl, z.is) z.shut
    (λ rest. head_walks name opening between close ending rest x.made z.made w o c x.walks (z.walks rest))
    (ap (λ ns. statement.Attribute (attr_with text tokens name.place ns)) x.means)

ended : (text : List ℕ) (tokens : List Token) (ts : List Terminal) (s : Statement) (t : Terminal) (m : ℕ) (stop : Derivation) → MadeList text tokens ts s → t.kind ≡ m → walked true m ≡ m → goes_on_values m ≡ false →
    IsOf liberty_grammar (rule 6) stop → Shut stop → spelled stop ≡ t ∷ [] → Made (rule 3) false false (ts ++ (t ∷ [])) (statement_of text tokens) s
ended text tokens ts s t m stop l k w g is_stop shut_stop spells =
    let d = list_statement text tokens ts s l stop is_stop shut_stop in
    record {
      made = d.made;
      is = d.is;
      shut = d.shut;
      means = d.means;
      walks = λ rest.
          ap (walk false) (append_assoc ts (t ∷ []) rest)
          ∙ l.walks (t ∷ rest)
          ∙ ap (λ xs. l.name ∷ l.colon ∷ (spelled l.values ++ xs)) (mark_step t m rest k w g)
          ∙ sym (
          ap (λ xs. xs ++ walk false rest) d.spells
          ∙ ap (λ xs. l.name ∷ l.colon ∷ xs) (append_assoc (spelled l.values) (spelled stop) (walk false rest))
          ∙ ap (λ xs. l.name ∷ l.colon ∷ (spelled l.values ++ (xs ++ walk false rest))) spells);
    }

simple_statement : (text : List ℕ) (tokens : List Token) (ts : List Terminal) (s : Statement) (t : Terminal) → MadeList text tokens ts s → IsStop t → Made (rule 3) false false (ts ++ (t ∷ [])) (statement_of text tokens) s
simple_statement text tokens ts s t l (inl e) =
    ended text tokens ts s t 9 (left (left (leaf t))) l e refl refl (either (word 9) (word 11), empty, refl, (word 9, word 11, refl, leaf_of 9 t e)) (no_leaf t) refl
simple_statement text tokens ts s t l (inr e) =
    ended text tokens ts s t 11 (left (right (leaf t))) l e refl refl (either (word 9) (word 11), empty, refl, (word 9, word 11, refl, leaf_of 11 t e)) (no_leaf t) refl

unended_contents : (text : List ℕ) (tokens : List Token) (ts : List Terminal) (s : Statement) → MadeList text tokens ts s → MadeContents text tokens ts (s ∷ [])
unended_contents text tokens ts s l =
    let d = list_statement text tokens ts s l (right nothing) (either (word 9) (word 11), empty, refl, refl) (λ k o. o) in
    record {
      made = more d.made done;
      is = (rule 3, refl, d.is, (rule 3, refl), λ k f o. d.shut k o);
      shut = shut_more d.made done d.shut (λ k o. o);
      means = ap (λ x. x ∷ []) d.means;
      walks = λ e rest k.
          l.walks (e ∷ rest)
          ∙ ap (λ xs. l.name ∷ l.colon ∷ (spelled l.values ++ xs)) (mark_step e 7 rest k refl refl)
          ∙ sym (
          ap (λ xs. (xs ++ []) ++ (e ∷ walk false rest)) d.spells
          ∙ ap (λ xs. xs ++ (e ∷ walk false rest)) (append-nil (l.name ∷ l.colon ∷ (spelled l.values ++ [])))
          ∙ ap (λ xs. l.name ∷ l.colon ∷ (xs ++ (e ∷ walk false rest))) (append-nil (spelled l.values)));
    }

more_contents : (text : List ℕ) (tokens : List Token) (ts us : List Terminal) (s : Statement) (ss : List Statement) → Made (rule 3) false false ts (statement_of text tokens) s → MadeContents text tokens us ss → MadeContents text tokens (ts ++ us) (s ∷ ss)
more_contents text tokens ts us s ss m c = record {
  made = more m.made c.made;
  is = (rule 3, refl, m.is, c.is, λ k f o. m.shut k o);
  shut = shut_more m.made c.made m.shut c.shut;
  means = ap (λ x. x ∷ statements_of text tokens c.made) m.means ∙ ap (λ xs. s ∷ xs) c.means;
  walks = λ e rest k.
      ap (walk false) (append_assoc ts us (e ∷ rest))
      ∙ m.walks (us ++ (e ∷ rest))
      ∙ ap (λ xs. spelled m.made ++ xs) (c.walks e rest k)
      ∙ sym (append_assoc (spelled m.made) (spelled c.made) (e ∷ walk false rest));
}

mutual
  pub make_group : (text : List ℕ) (tokens : List Token) (ts : List Terminal) (g : Group) → IsGroup text tokens ts g → MadeGroup text tokens ts g
  make_group text tokens ts g (group name opening between args close begin inner ss end ending w o a c b i e h) =
      group_made text tokens name opening between args close begin inner ss end ending w o a c b (make_contents text tokens inner ss i) e h

  pub make_statement : (text : List ℕ) (tokens : List Token) (ts : List Terminal) (s : Statement) → IsStatement text tokens ts s → Made (rule 3) false false ts (statement_of text tokens) s
  make_statement text tokens ts s (inner_group us g m) = group_statement text tokens us g (make_group text tokens us g m)
  make_statement text tokens ts s (simple us v stop l h) = simple_statement text tokens us v stop (make_list text tokens us v l) h
  make_statement text tokens ts s (complex name opening between args close ending w o a c h) = complex_statement text tokens name opening between args close ending w o a c h

  pub make_contents : (text : List ℕ) (tokens : List Token) (ts : List Terminal) (ss : List Statement) → IsContents text tokens ts ss → MadeContents text tokens ts ss
  make_contents text tokens ts ss nothing_more =
      record { made = done; is = (rule 3, refl); shut = λ k o. o; means = refl; walks = λ e rest k. plain_step e false rest (ap goes_on_values k) }
  make_contents text tokens ts ss (unended us s l) = unended_contents text tokens us s (make_list text tokens us s l)
  make_contents text tokens ts ss (one_more us vs s rest m c) = more_contents text tokens us vs s rest (make_statement text tokens us s m) (make_contents text tokens vs rest c)

pub record MadeLibrary (text : List ℕ) (tokens : List Token) (ps : List Terminal) (g : Group) : Type 0 where
  pub made : Derivation
  pub is : IsOf liberty_grammar (rule 0) made
  pub means : g ≡ group_of text tokens made
  pub spells : spelled made ≡ walk false ps

first_kind : (ps : List Terminal) (name : Terminal) (others : List Terminal) → ps ≡ name ∷ others → BeginsWithLibrary ps → name.kind ≡ 0
first_kind [] name others e h = absurd h
first_kind (p ∷ ps) name others e h = let q : p ≡ name = cc in sym (ap (λ (x : Terminal). x.kind) q) ∙ h

pub make_library : (text : List ℕ) (tokens : List Token) (ps : List Terminal) (g : Group) → IsGroup text tokens ps g → BeginsWithLibrary ps → MadeLibrary text tokens ps g
make_library text tokens ps g h first =
    let m = make_group text tokens ps g h in
    let k = first_kind ps m.name m.others m.begins first in
    record {
      made = pair (leaf m.name) (pair (leaf m.opening) (pair m.args (pair (leaf m.close) m.braced)));
      is = (
        word 0,
        both (word 4) (both (rule 9) (both (word 5) (rule 1))),
        refl,
        leaf_of 0 m.name k,
        (word 4, both (rule 9) (both (word 5) (rule 1)), refl, leaf_of 4 m.opening m.opens, (rule 9, both (word 5) (rule 1), refl, m.is_args, (word 5, rule 1, refl, leaf_of 5 m.close m.closes, m.is_braced, λ k f x. x), λ k f x. m.shut_args k x), λ k f x. x),
        λ k f x. x,
      );
      means = sym m.means;
      spells = sym (ap (walk false) (sym (append-nil ps)) ∙ m.walks [] ∙ ap (λ xs. m.name ∷ m.opening ∷ (spelled m.args ++ (m.close ∷ xs))) (append-nil (spelled m.braced)));
    }
