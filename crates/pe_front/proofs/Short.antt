-- A library that was read has no long values: each is a word of a text that is no longer than a function may be.
use Rattle.std.proofs.Common.{◌≡◌, ℕ, ◌-◌, ◌≤◌, Bool, true, List, [], length, drop, Option, Some, None, refl, sym, ap, ◌∙◌, subst, arith, length-drop}
use Rattle.std.specs.Prelude.{slice_get}
use Rattle.std.specs.List.{list_all, slice_range}
use Rattle.std.proofs.lemmas.Bool.{and_from}
use Rattle.std.proofs.lemmas.Bool.Decides.{nat_tests}
use Rattle.std.proofs.lemmas.List.{length-take}
use Rattle.pe_grammar.specs.Derivation.{Derivation, nothing, pair, left, right, more}
use Rattle.pe_text.specs.declared.token.Kind.{Kind}
use Rattle.pe_text.specs.declared.token.Kind.TheVariants.{Text, Escaped}
use Rattle.pe_text.specs.declared.token.Token.{Token}
use Rattle.pe_reader.specs.Places.{start_of}
use Rattle.pe_reader.specs.Words.{word_in, word_among, word_at}
use Rattle.pe_liberty_read.specs.declared.tree.Group.{Group, Group-F, out-Group, roll-Group, out-roll-Group}
use Rattle.pe_liberty_read.specs.Contents.{attrs_among, groups_among, contents_of}
use Rattle.pe_liberty_read.specs.Meaning.{number_of, each_name, names_of, group_with, braced_of, statements_of, group_of}
use Rattle.pe_liberty_read.specs.Reading.{IsLiberty}
use Rattle.pe_cells.specs.Functions.{is_short_text, is_short_attr, is_short_group, is_short_cell, are_short_cells}

range_within : (bytes : List ℕ) (a b : ℕ) → length (slice_range bytes a b) ≤ length bytes
range_within bytes a b = omega (arith, length-take (b - a) (drop a bytes), length-drop a bytes)

word_within : (kind : Kind) (bytes : List ℕ) → length (word_in kind bytes) ≤ length bytes
word_within Text bytes = range_within bytes 1 (length bytes - 1)
word_within Escaped bytes = omega (arith, length-drop 1 bytes)
word_within _ bytes = omega arith

short_within : (text part : List ℕ) → length text ≤ 16777216 → length part ≤ length text → is_short_text part ≡ true
short_within text part short within = grind (arith, nat_tests)

-- a group has the attributes and the groups that it is made of
rolled_attrs : (g : Group-F Group) → list_all is_short_attr g.attrs ≡ true → is_short_group (roll-Group g) ≡ true
rolled_attrs g are = ap (λ (f : Group-F Group). list_all is_short_attr f.attrs) (out-roll-Group g) ∙ are

rolled_groups : (test : Group → Bool) (g : Group-F Group) → list_all test g.groups ≡ true → list_all test (out-Group (roll-Group g)).groups ≡ true
rolled_groups test g are = ap (λ (f : Group-F Group). list_all test f.groups) (out-roll-Group g) ∙ are

module _ (text : List ℕ) (tokens : List Token) (short : length text ≤ 16777216) where
  among_within : (o : Option Token) → length (word_among text o) ≤ length text
  among_within None = omega arith
  among_within (Some t) =
      let bytes : List ℕ = slice_range text t.span.from t.span.to in
      let part : length bytes ≤ length text = range_within text t.span.from t.span.to in
      let word : length (word_in t.kind bytes) ≤ length bytes = word_within t.kind bytes in
      omega arith

  word_short : (n : ℕ) → is_short_text (word_at text tokens n) ≡ true
  word_short n = short_within text (word_at text tokens n) short (among_within (slice_get tokens n))

  each_short : (d : Derivation) → list_all is_short_text (each_name text tokens d) ≡ true
  each_short (more d e) = and_from (is_short_text (word_at text tokens (number_of d))) (list_all is_short_text (each_name text tokens e)) (word_short (number_of d)) (each_short e)
  each_short _ = refl

  names_short : (d : Derivation) → list_all is_short_text (names_of text tokens d) ≡ true
  names_short (pair first rest) = and_from (is_short_text (word_at text tokens (number_of first))) (list_all is_short_text (each_name text tokens rest)) (word_short (number_of first)) (each_short rest)
  names_short (left d) = names_short d
  names_short _ = refl

  -- one statement more
  attrs_more : (d e : Derivation) → list_all is_short_attr (attrs_among (statements_of text tokens e)) ≡ true → list_all is_short_attr (attrs_among (statements_of text tokens (more d e))) ≡ true
  attrs_more (pair name (left (pair colon (pair values stop)))) e rest =
      and_from (list_all is_short_text (names_of text tokens values)) (list_all is_short_attr (attrs_among (statements_of text tokens e))) (names_short values) rest
  attrs_more (pair name (right (pair opening (pair arguments (pair close (left braced)))))) e rest = rest
  attrs_more (pair name (right (pair opening (pair arguments (pair close body))))) e rest =
      and_from (list_all is_short_text (names_of text tokens arguments)) (list_all is_short_attr (attrs_among (statements_of text tokens e))) (names_short arguments) rest
  attrs_more d e rest = rest

  attrs_short : (d : Derivation) → list_all is_short_attr (attrs_among (statements_of text tokens d)) ≡ true
  attrs_short (more d e) = attrs_more d e (attrs_short e)
  attrs_short _ = refl

  braced_attrs : (d : Derivation) → list_all is_short_attr (attrs_among (braced_of text tokens d)) ≡ true
  braced_attrs (pair begin (pair all rest)) = attrs_short all
  braced_attrs _ = refl

  -- what a group is made of
  abbrev layer_of : ℕ → List (List ℕ) → Derivation → Group-F Group
  layer_of n args d = record {
    kind = word_at text tokens n;
    args = args;
    attrs = attrs_among (braced_of text tokens d);
    groups = groups_among (braced_of text tokens d);
    place = start_of text tokens n;
  }

  group_short : (n : ℕ) (args : List (List ℕ)) (d : Derivation) → is_short_group (group_with text tokens n args (contents_of (braced_of text tokens d))) ≡ true
  group_short n args d = rolled_attrs (layer_of n args d) (braced_attrs d)

  module _ (test : Group → Bool) (passes : (n : ℕ) (args : List (List ℕ)) (d : Derivation) → test (group_with text tokens n args (contents_of (braced_of text tokens d))) ≡ true) where
    groups_more : (d e : Derivation) → list_all test (groups_among (statements_of text tokens e)) ≡ true → list_all test (groups_among (statements_of text tokens (more d e))) ≡ true
    groups_more (pair name (right (pair opening (pair arguments (pair close (left braced)))))) e rest =
        let args : List (List ℕ) = names_of text tokens arguments in
        and_from (test (group_with text tokens (number_of name) args (contents_of (braced_of text tokens braced)))) (list_all test (groups_among (statements_of text tokens e))) (passes (number_of name) args braced) rest
    groups_more (pair name (left (pair colon (pair values stop)))) e rest = rest
    groups_more d e rest = rest

    groups_pass : (d : Derivation) → list_all test (groups_among (statements_of text tokens d)) ≡ true
    groups_pass (more d e) = groups_more d e (groups_pass e)
    groups_pass _ = refl

    -- what every group passes, the groups in braces pass
    braced_pass : (d : Derivation) → list_all test (groups_among (braced_of text tokens d)) ≡ true
    braced_pass (pair begin (pair all rest)) = groups_pass all
    braced_pass _ = refl

  cell_short : (n : ℕ) (args : List (List ℕ)) (d : Derivation) → is_short_cell (group_with text tokens n args (contents_of (braced_of text tokens d))) ≡ true
  cell_short n args d = rolled_groups is_short_group (layer_of n args d) (braced_pass is_short_group group_short d)

  cells_short : (n : ℕ) (args : List (List ℕ)) (d : Derivation) → are_short_cells (group_with text tokens n args (contents_of (braced_of text tokens d))) ≡ true
  cells_short n args d = rolled_groups is_short_cell (layer_of n args d) (braced_pass is_short_cell cell_short d)

  library_short : (d : Derivation) → are_short_cells (group_of text tokens d) ≡ true
  library_short (pair library (pair opening (pair arguments (pair close braced)))) = cells_short (number_of library) (names_of text tokens arguments) braced
  library_short _ = cells_short 0 [] nothing

-- no value in the cells of a library that a text spells is long
pub short_cells : (text : List ℕ) (library : Group) → IsLiberty text library → are_short_cells library ≡ true
short_cells text library reads =
    subst (λ g. are_short_cells g ≡ true) (sym reads.3) (library_short text reads.0 reads.2.scanned.is_allowed.short reads.1)
