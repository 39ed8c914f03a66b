-- Names that are added to a set, one list after the other.
use Rattle.std.proofs.Common.{rules, ◌≡◌, ℕ, ◌+◌, ◌<◌, ◌≤◌, ◌||◌, Bool, true, false, cond, not, List, [], ◌∷◌, ◌++◌, length, drop, get_or, drop-cons, add-one, append_assoc, append-nil, refl, sym, ap, ◌∙◌, arith}
use Rattle.std.specs.Prelude.{nat_lt, Option, Some, None}
use Rattle.std.specs.List.{cons_option, slice_range}
use Rattle.std.specs.Str.{bytes_eq}
use Rattle.pe_base.specs.Names.{has_name, HasSameNames}
use Rattle.pe_text.specs.declared.token.Token.{Token}
use Rattle.pe_text.specs.Lexemes.{lexemes_of}
use Rattle.pe_text.specs.Inputs.{next_name, behind_next, names_from, names_of, names_in, inside, closes_last, braces_behind, new_count, with_names, Added}

-- of two lists the new names are those of the first, and those of the second that the first does not have
pub new_count-append : (seen xs ys : List (List ℕ)) → new_count seen (xs ++ ys) ≡ new_count seen xs + new_count (with_names seen xs) ys
new_count-append seen [] ys = omega arith
new_count-append seen (x ∷ xs) ys = let h = new_count-append (x ∷ seen) xs ys in omega (arith, h)

pub with_names-append : (seen xs ys : List (List ℕ)) → with_names seen (xs ++ ys) ≡ with_names (with_names seen xs) ys
with_names-append seen [] ys = refl
with_names-append seen (x ∷ xs) ys = with_names-append (x ∷ seen) xs ys

-- no name is added
pub added_none : (names : List (List ℕ)) → Added names names 0 []
added_none names = record { counted = λ seen h. refl; same = λ seen h. h }

-- one list of names is added, and then another
pub added_more : (a b c : List (List ℕ)) (m n : ℕ) (xs ys : List (List ℕ)) → Added a b m xs → Added b c n ys → Added a c (m + n) (xs ++ ys)
added_more a b c m n xs ys f g = record {
  counted = λ seen h.
      let x = f.counted seen h in
      let y = g.counted (with_names seen xs) (f.same seen h) in
      let z = new_count-append seen xs ys in
      omega (arith, x, y, z);
  same = λ seen h. rw (with_names-append seen xs ys) (g.same (with_names seen xs) (f.same seen h));
}

one_or_none : (b : Bool) → cond (not b) 1 0 ≡ cond b 0 1 + 0
one_or_none true = refl
one_or_none false = refl

-- one name is added
pub added_one : (old new : List (List ℕ)) (name : List ℕ) (is_new : Bool) → is_new ≡ not (has_name old name) → HasSameNames new (name ∷ old)
    → Added old new (cond is_new 1 0) (name ∷ [])
added_one old new name is_new e same = record {
  counted = λ seen h. rw (e, h name) (one_or_none (has_name seen name));
  same = λ seen h. λ q. same q ∙ ap (λ b. bytes_eq name q || b) (h q);
}

-- one step finds a name, or none
pub names_step : (n k : ℕ) (bytes : List ℕ) → n ≡ k + 1 → names_from n bytes ≡ cons_option (next_name bytes) [] ++ names_from k (behind_next bytes)
names_step n k bytes e = rw (e, add-one k) (split (next_name bytes))
  where
    split : (o : Option (List ℕ)) → cons_option o (names_from k (behind_next bytes)) ≡ cons_option o [] ++ names_from k (behind_next bytes)
    split None = refl
    split (Some x) = refl

-- what stands inside the braces, from a token on that does not close them
pub inside_step : (text : List ℕ) (tokens : List Token) (i : ℕ) (d : Token) (n : ℕ) → i < length tokens
    → closes_last n (slice_range text (get_or tokens i d).span.from (get_or tokens i d).span.to) ≡ false
    → names_in (inside n (lexemes_of text (drop i tokens)))
    ≡ names_of (slice_range text (get_or tokens i d).span.from (get_or tokens i d).span.to)
    ++ names_in (inside (braces_behind n (slice_range text (get_or tokens i d).span.from (get_or tokens i d).span.to)) (lexemes_of text (drop (i + 1) tokens)))
inside_step text tokens i d n lt e = rw (drop-cons tokens i d lt, e, add-one i) refl

-- a token closes them
pub inside_end : (text : List ℕ) (tokens : List Token) (i : ℕ) (d : Token) (n : ℕ) → i < length tokens
    → closes_last n (slice_range text (get_or tokens i d).span.from (get_or tokens i d).span.to) ≡ true
    → names_in (inside n (lexemes_of text (drop i tokens))) ≡ []
inside_end text tokens i d n lt e = rw (drop-cons tokens i d lt, e) refl

-- more names are found
pub found_more : (all old names more : List (List ℕ)) (m n : ℕ) (before xs rest left : List (List ℕ))
    → Added old names m before → Added names more n xs → all ≡ before ++ rest → rest ≡ xs ++ left
    → (b : List (List ℕ)) × Added old more (m + n) b × (all ≡ b ++ left)
found_more all old names more m n before xs rest left f g e h =
    (before ++ xs, added_more old names more m n before xs f g, e ∙ ap (λ r. before ++ r) h ∙ sym (append_assoc before xs left))

above : (most count : ℕ) → most < count → true ≡ nat_lt most count
above most count lt = search rules

not_above : (most count : ℕ) → count ≤ most → false ≡ nat_lt most count
not_above most count le = search rules

-- too many are found already
pub too_many : (all names before left : List (List ℕ)) (most m : ℕ) → Added [] names m before → all ≡ before ++ left → most < m → true ≡ nat_lt most (new_count [] all)
too_many all names before left most m f e lt =
    let x = f.counted [] (λ q. refl) in
    let y = new_count-append [] before left in
    let z = ap (new_count []) e in
    above most (new_count [] all) (omega (arith, x, y, z))

-- all are found, and they are not too many
pub not_too_many : (all names before left : List (List ℕ)) (most m : ℕ) → Added [] names m before → all ≡ before ++ left → left ≡ [] → m ≤ most → false ≡ nat_lt most (new_count [] all)
not_too_many all names before left most m f e n le =
    let x = f.counted [] (λ q. refl) in
    let z = ap (new_count []) (e ∙ ap (λ r. before ++ r) n ∙ append-nil before) in
    not_above most (new_count [] all) (omega (arith, x, z))
