-- A mark of Verilog is the longest that starts at its place.
use Rattle.std.proofs.Common.{◌≡◌, ℕ, ◌≤◌, Bool, true, false, cond, not, ◌==◌, ◌&&◌, ◌||◌, List, [], ◌∷◌, ◌++◌, length, take, drop, refl, sym, ap, ◌∙◌, subst, inl, inr, arith}
use Rattle.std.proofs.lemmas.Bool.{eqb-true}
use Rattle.std.proofs.lemmas.List.{take-append-drop}
use Rattle.std.proofs.lemmas.Slice.Eq.{bytes_eq-Decides}
use Rattle.std.proofs.Math.Seq.{take-append_seam}
use Rattle.std.specs.List.{list_all}
use Rattle.std.specs.Str.{bytes_eq}
use Rattle.pe_base.specs.Names.{has_name}
use Rattle.pe_text.specs.declared.token.Kind.{Kind}
use Rattle.pe_text.specs.declared.token.Kind.TheVariants.{Word, Escaped, Number, Text, Mark, End}
use Rattle.pe_text.specs.declared.run.Run.TheVariants as run
use Rattle.pe_text.specs.Bytes.{is_one_of, begins, has_first, behind}
use Rattle.pe_text.specs.Start.{Start, gap, token, bad, gap_to}
use Rattle.pe_text.specs.Verilog.{triples, pairs, operators, brackets, operator, stroke, round, backquote, verilog_start}
use Rattle.pe_text.specs.Longest.{IsLongest, is_single, is_mark}
use Rattle.pe_text.proofs.OneKind.{Only, gap_to_kind, quote_kind, sized_kind, escaped_kind}
use Rattle.pe_text.proofs.Bools.{both, or_left, or_right, or_cases, clash, negated}

-- what a test says of each name of a list it says of one that is among them
among : (p : List ℕ → Bool) (names : List (List ℕ)) (name : List ℕ) → list_all p names ≡ true → has_name names name ≡ true → p name ≡ true
among p [] name a h = absurd (let x : false ≡ true = h in cc)
among p (m ∷ names) name a h =
    let t = both (p m) (list_all p names) a in
    let P : List ℕ → Type 0 = λ x. p x ≡ true in
    elim (or_cases (bytes_eq m name) (has_name names name) h) as (λ _. p name ≡ true) [ inl e ↦ subst P ((bytes_eq-Decides m name).0 e) t.0 | inr e ↦ among p names name t.1 e ]

-- and of each byte
among_bytes : (p : ℕ → Bool) (bytes : List ℕ) (b : ℕ) → list_all p bytes ≡ true → is_one_of bytes b ≡ true → p b ≡ true
among_bytes p [] b a h = absurd (let x : false ≡ true = h in cc)
among_bytes p (c ∷ bytes) b a h =
    let t = both (p c) (list_all p bytes) a in
    let P : ℕ → Type 0 = λ x. p x ≡ true in
    elim (or_cases (b == c) (is_one_of bytes b) h) as (λ _. p b ≡ true) [ inl e ↦ subst P (sym (eqb-true b c e)) t.0 | inr e ↦ among_bytes p bytes b t.1 e ]

triple_length : (m : List ℕ) → has_name triples m ≡ true → length m ≡ 3
triple_length m h = eqb-true (length m) 3 (among (λ x. length x == 3) triples m refl h)

pair_length : (m : List ℕ) → has_name pairs m ≡ true → length m ≡ 2
pair_length m h = eqb-true (length m) 2 (among (λ x. length x == 2) pairs m refl h)

triple_begins : (m : List ℕ) → has_name triples m ≡ true → begins (is_one_of operators) m ≡ true
triple_begins m h = among (begins (is_one_of operators)) triples m refl h

pair_begins : (m : List ℕ) → has_name pairs m ≡ true → begins (is_one_of operators) m ≡ true
pair_begins m h = among (begins (is_one_of operators)) pairs m refl h

-- a mark has one byte, or two, or three
data Size (m : List ℕ) : Type 0 where
  one : length m ≡ 1 → Size m
  two : has_name pairs m ≡ true → Size m
  three : has_name triples m ≡ true → Size m

size_of : (m : List ℕ) → is_mark m ≡ true → Size m
size_of [] h = absurd (let x : false ≡ true = h in cc)
size_of (b ∷ []) h = one (omega arith)
size_of (b ∷ c ∷ bs) h = elim (or_cases (has_name pairs (b ∷ c ∷ bs)) (has_name triples (b ∷ c ∷ bs)) h) as (λ _. Size (b ∷ c ∷ bs)) [ inl e ↦ two e | inr e ↦ three e ]

pair_mark : (m : List ℕ) → has_name pairs m ≡ true → is_mark m ≡ true
pair_mark [] h = let l = pair_length [] h in absurd (omega (arith, l))
pair_mark (b ∷ []) h = let l = pair_length (b ∷ []) h in absurd (omega (arith, l))
pair_mark (b ∷ c ∷ bs) h = or_left (has_name pairs (b ∷ c ∷ bs)) (has_name triples (b ∷ c ∷ bs)) h

triple_mark : (m : List ℕ) → has_name triples m ≡ true → is_mark m ≡ true
triple_mark [] h = let l = triple_length [] h in absurd (omega (arith, l))
triple_mark (b ∷ []) h = let l = triple_length (b ∷ []) h in absurd (omega (arith, l))
triple_mark (b ∷ c ∷ bs) h = or_right (has_name pairs (b ∷ c ∷ bs)) (has_name triples (b ∷ c ∷ bs)) h

-- the mark at a place is the longest
abbrev MarkLongest : List ℕ → List ℕ → Type 0
MarkLongest text rest = IsLongest (λ front behind. is_mark front ≡ true) text rest

-- a beginning of so many bytes is these bytes
begin_is : (n : ℕ) (text other after : List ℕ) → text ≡ other ++ after → length other ≡ n → take n text ≡ other
begin_is n text other after e l = ap (λ x. take n x) e ∙ ap (λ k. take k (other ++ after)) (sym l) ∙ take-append_seam other after

no_pair : (text other after : List ℕ) → has_name pairs (take 2 text) ≡ false → text ≡ other ++ after → has_name pairs other ≡ true → length other ≤ 1
no_pair text other after n e h = clash (has_name pairs (take 2 text)) (ap (has_name pairs) (begin_is 2 text other after e (pair_length other h)) ∙ h) n

no_triple : {A : Type 0} (text other after : List ℕ) → has_name triples (take 3 text) ≡ false → text ≡ other ++ after → has_name triples other ≡ true → A
no_triple text other after n e h = clash (has_name triples (take 3 text)) (ap (has_name triples) (begin_is 3 text other after e (triple_length other h)) ∙ h) n

first_is : (b : ℕ) (bs other after : List ℕ) → b ∷ bs ≡ other ++ after → begins (is_one_of operators) other ≡ true → is_one_of operators b ≡ true
first_is b bs [] after e h = absurd (let x : false ≡ true = h in cc)
first_is b bs (o ∷ os) after e h = let same : b ≡ o = cc in ap (is_one_of operators) same ∙ h

-- one byte that begins no longer mark
alone_most : (b : ℕ) (bs other after : List ℕ) → is_one_of operators b ≡ false → b ∷ bs ≡ other ++ after → Size other → length other ≤ 1
alone_most b bs other after n e (one l) = omega (arith, l)
alone_most b bs other after n e (two h) = clash (is_one_of operators b) (first_is b bs other after e (pair_begins other h)) n
alone_most b bs other after n e (three h) = clash (is_one_of operators b) (first_is b bs other after e (triple_begins other h)) n

alone : (b : ℕ) (bs : List ℕ) → is_single b ≡ true → is_one_of operators b ≡ false → MarkLongest (b ∷ bs) bs
alone b bs s n = record { front = b ∷ []; splits = refl; has_form = s; longest = λ other after e f. alone_most b bs other after n e (size_of other f) }

triple_most : (n : ℕ) (other : List ℕ) → n ≡ 3 → Size other → length other ≤ n
triple_most n other e (one l) = omega (arith, e, l)
triple_most n other e (two h) = omega (arith, e, pair_length other h)
triple_most n other e (three h) = omega (arith, e, triple_length other h)

triple_longest : (text : List ℕ) → has_name triples (take 3 text) ≡ true → MarkLongest text (drop 3 text)
triple_longest text h = record {
  front = take 3 text;
  splits = sym (take-append-drop 3 text);
  has_form = triple_mark (take 3 text) h;
  longest = λ other after e f. triple_most (length (take 3 text)) other (triple_length (take 3 text) h) (size_of other f);
}

pair_most : (text other after : List ℕ) → has_name triples (take 3 text) ≡ false → text ≡ other ++ after → Size other → length other ≤ 2
pair_most text other after n e (one l) = omega (arith, l)
pair_most text other after n e (two h) = omega (arith, pair_length other h)
pair_most text other after n e (three h) = no_triple text other after n e h

pair_longest : (text : List ℕ) → has_name triples (take 3 text) ≡ false → has_name pairs (take 2 text) ≡ true → MarkLongest text (drop 2 text)
pair_longest text n h = record {
  front = take 2 text;
  splits = sym (take-append-drop 2 text);
  has_form = pair_mark (take 2 text) h;
  longest = λ other after e f. let l = pair_length (take 2 text) h in let m = pair_most text other after n e (size_of other f) in omega (arith, l, m);
}

single_most : (text other after : List ℕ) → has_name triples (take 3 text) ≡ false → has_name pairs (take 2 text) ≡ false → text ≡ other ++ after → Size other → length other ≤ 1
single_most text other after n m e (one l) = omega (arith, l)
single_most text other after n m e (two h) = no_pair text other after m e h
single_most text other after n m e (three h) = no_triple text other after n e h

-- an operator and a bracket are marks by themselves
widened : (b : ℕ) → (is_one_of operators b || is_one_of brackets b) ≡ true → is_single b ≡ true
widened b h =
    or_left (is_one_of operators b || is_one_of brackets b || (b == 40)) (b == 47) (or_left (is_one_of operators b || is_one_of brackets b) (b == 40) h)

operator_single : (b : ℕ) → is_one_of operators b ≡ true → is_single b ≡ true
operator_single b h = widened b (or_left (is_one_of operators b) (is_one_of brackets b) h)

bracket_single : (b : ℕ) → is_one_of brackets b ≡ true → is_single b ≡ true
bracket_single b h = widened b (or_right (is_one_of operators b) (is_one_of brackets b) h)

single_longest : (b : ℕ) (bs : List ℕ) → has_name triples (take 3 (b ∷ bs)) ≡ false → has_name pairs (take 2 (b ∷ bs)) ≡ false → is_one_of operators b ≡ true → MarkLongest (b ∷ bs) bs
single_longest b bs n m h = record {
  front = b ∷ [];
  splits = refl;
  has_form = operator_single b h;
  longest = λ other after e f. single_most (b ∷ bs) other after n m e (size_of other f);
}

-- where a mark starts that is no directive
abbrev MarkCase : ℕ → List ℕ → Start → Type 0
MarkCase b bs (gap rest) = Unit {0}
MarkCase b bs (token Mark rest) = (b == 96) ≡ false → MarkLongest (b ∷ bs) rest
MarkCase b bs (token _ rest) = Unit {0}
MarkCase b bs bad = Unit {0}

record Marks (b : ℕ) (bs : List ℕ) (s : Start) : Type 0 where
  is : MarkCase b bs s

either : (v : Bool) (b : ℕ) (bs : List ℕ) (s t : Start) → Marks b bs s → Marks b bs t → Marks b bs (cond v s t)
either true b bs s t p q = p
either false b bs s t p q = q

passes : (b : ℕ) (bs rest : List ℕ) → Marks b bs (gap rest)
passes b bs rest = record { is = tt }

word : (b : ℕ) (bs rest : List ℕ) → Marks b bs (token Word rest)
word b bs rest = record { is = tt }

no_mark : (b : ℕ) (bs : List ℕ) (s : Start) (kind : Kind) → (kind ≡ Mark → ⊥) → Only kind s → Marks b bs s
no_mark b bs (gap rest) kind n o = passes b bs rest
no_mark b bs (token Word rest) kind n o = word b bs rest
no_mark b bs (token Escaped rest) kind n o = record { is = tt }
no_mark b bs (token Number rest) kind n o = record { is = tt }
no_mark b bs (token Text rest) kind n o = record { is = tt }
no_mark b bs (token Mark rest) kind n o = absurd (n (sym o.is))
no_mark b bs (token End rest) kind n o = record { is = tt }
no_mark b bs bad kind n o = record { is = tt }

numbers : (b : ℕ) (bs : List ℕ) (s : Start) → Only Number s → Marks b bs s
numbers b bs s o = no_mark b bs s Number (λ e. cc) o

escapes : (b : ℕ) (bs : List ℕ) (s : Start) → Only Escaped s → Marks b bs s
escapes b bs s o = no_mark b bs s Escaped (λ e. cc) o

-- a comment or an attribute is no mark
gaps : (b : ℕ) (bs : List ℕ) (x y : ℕ) (text : List ℕ) → Marks b bs (gap_to x y text)
gaps b bs x y text = no_mark b bs (gap_to x y text) Number (λ e. cc) (gap_to_kind Number x y text)

mark : (b : ℕ) (bs rest : List ℕ) → MarkLongest (b ∷ bs) rest → Marks b bs (token Mark rest)
mark b bs rest h = record { is = λ n. h }

bracket_alone : (b : ℕ) (bs : List ℕ) (v : Bool) (t : Start) → is_one_of brackets b ≡ v → Marks b bs t → Marks b bs (cond v (token Mark bs) t)
bracket_alone b bs true t e m =
    let n : not (is_one_of operators b) ≡ true = among_bytes (λ x. not (is_one_of operators x)) brackets b refl e in
    mark b bs bs (alone b bs (bracket_single b e) (negated (is_one_of operators b) n))
bracket_alone b bs false t e m = m

bracket_case : (b : ℕ) (bs : List ℕ) (t : Start) → Marks b bs t → Marks b bs (cond (is_one_of brackets b) (token Mark bs) t)
bracket_case b bs t m = bracket_alone b bs (is_one_of brackets b) t refl m

at_byte : (c b : ℕ) (bs : List ℕ) → b ≡ c → is_single c ≡ true → is_one_of operators c ≡ false → MarkLongest (b ∷ bs) bs
at_byte c b bs e s n = let P : ℕ → Type 0 = λ x. MarkLongest (x ∷ bs) bs in subst P (sym e) (alone c bs s n)

round_alone : (b : ℕ) (bs : List ℕ) (v : Bool) (t : Start) → (b == 40) ≡ v → Marks b bs t → Marks b bs (cond v (round bs) t)
round_alone b bs true t e m =
    either (has_first 42 bs && not (has_first 41 (drop 1 bs))) b bs (gap_to 42 41 (drop 1 bs)) (token Mark bs) (gaps b bs 42 41 (drop 1 bs)) (mark b bs bs (at_byte 40 b bs (eqb-true b 40 e) refl refl))
round_alone b bs false t e m = m

round_case : (b : ℕ) (bs : List ℕ) (t : Start) → Marks b bs t → Marks b bs (cond (b == 40) (round bs) t)
round_case b bs t m = round_alone b bs (b == 40) t refl m

stroke_alone : (b : ℕ) (bs : List ℕ) (v : Bool) (t : Start) → (b == 47) ≡ v → Marks b bs t → Marks b bs (cond v (stroke bs) t)
stroke_alone b bs true t e m =
    let slash = mark b bs bs (at_byte 47 b bs (eqb-true b 47 e) refl refl) in
    either (has_first 47 bs) b bs (gap (behind run.Line bs)) (cond (has_first 42 bs) (gap_to 42 47 (drop 1 bs)) (token Mark bs)) (passes b bs (behind run.Line bs))
    (either (has_first 42 bs) b bs (gap_to 42 47 (drop 1 bs)) (token Mark bs) (gaps b bs 42 47 (drop 1 bs)) slash)
stroke_alone b bs false t e m = m

stroke_case : (b : ℕ) (bs : List ℕ) (t : Start) → Marks b bs t → Marks b bs (cond (b == 47) (stroke bs) t)
stroke_case b bs t m = stroke_alone b bs (b == 47) t refl m

-- a directive is left aside
not_directive : (b : ℕ) (bs : List ℕ) (s : Start) → (b == 96) ≡ true → Marks b bs s
not_directive b bs (gap rest) e = passes b bs rest
not_directive b bs (token Word rest) e = word b bs rest
not_directive b bs (token Escaped rest) e = record { is = tt }
not_directive b bs (token Number rest) e = record { is = tt }
not_directive b bs (token Text rest) e = record { is = tt }
not_directive b bs (token Mark rest) e = record { is = λ n. clash (b == 96) e n }
not_directive b bs (token End rest) e = record { is = tt }
not_directive b bs bad e = record { is = tt }

directive_alone : (b : ℕ) (bs : List ℕ) (v : Bool) (t : Start) → (b == 96) ≡ v → Marks b bs t → Marks b bs (cond v (backquote bs) t)
directive_alone b bs true t e m = not_directive b bs (backquote bs) e
directive_alone b bs false t e m = m

directive_case : (b : ℕ) (bs : List ℕ) (t : Start) → Marks b bs t → Marks b bs (cond (b == 96) (backquote bs) t)
directive_case b bs t m = directive_alone b bs (b == 96) t refl m

operator_pick : (b : ℕ) (bs : List ℕ) (u v w : Bool) → has_name triples (take 3 (b ∷ bs)) ≡ u → has_name pairs (take 2 (b ∷ bs)) ≡ v → is_one_of operators b ≡ w →
    Marks b bs (cond u (token Mark (drop 3 (b ∷ bs))) (cond v (token Mark (drop 2 (b ∷ bs))) (cond w (token Mark (drop 1 (b ∷ bs))) bad)))
operator_pick b bs true v w e f g = mark b bs (drop 3 (b ∷ bs)) (triple_longest (b ∷ bs) e)
operator_pick b bs false true w e f g = mark b bs (drop 2 (b ∷ bs)) (pair_longest (b ∷ bs) e f)
operator_pick b bs false false true e f g = mark b bs bs (single_longest b bs e f g)
operator_pick b bs false false false e f g = record { is = tt }

operator_case : (b : ℕ) (bs : List ℕ) → Marks b bs (operator (b ∷ bs))
operator_case b bs = operator_pick b bs (has_name triples (take 3 (b ∷ bs))) (has_name pairs (take 2 (b ∷ bs))) (is_one_of operators b) refl refl refl

verilog_marks : (b : ℕ) (bs : List ℕ) → Marks b bs (verilog_start (b ∷ bs))
verilog_marks b bs =
    search (either, passes, word, bracket_case, round_case, numbers, sized_kind, quote_kind, escapes, escaped_kind, directive_case, stroke_case, operator_case) depth 20

pub mark_longest : (text rest : List ℕ) → verilog_start text ≡ token Mark rest → has_first 96 text ≡ false → MarkLongest text rest
mark_longest [] rest e n = absurd (let x : bad ≡ token Mark rest = e in cc)
mark_longest (b ∷ bs) rest e n =
    let P : Start → Type 0 = Marks b bs in
    let f : Marks b bs (token Mark rest) = subst P e (verilog_marks b bs) in
    f.is n
