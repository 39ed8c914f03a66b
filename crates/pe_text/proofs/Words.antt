-- A word is a first byte and a run behind it.
use Rattle.std.proofs.Common.{◌≡◌, ℕ, Bool, true, false, cond, ◌&&◌, List, [], ◌∷◌, ◌++◌, refl, sym, ap, ◌∙◌, subst}
use Rattle.pe_text.specs.declared.language.Class.{Class}
use Rattle.pe_text.specs.declared.language.Class.TheVariants as class
use Rattle.pe_text.specs.declared.token.Kind.{Kind}
use Rattle.pe_text.specs.declared.token.Kind.TheVariants.{Word, Escaped, Number, Text, Mark, End}
use Rattle.pe_text.specs.declared.mode.Mode.{Mode}
use Rattle.pe_text.specs.declared.run.Run.TheVariants as run
use Rattle.std.specs.List.{list_all}
use Rattle.pe_text.specs.Bytes.{begins_name, behind}
use Rattle.pe_text.specs.Start.{Start, gap, token, bad}
use Rattle.pe_text.specs.Verilog.{verilog_start}
use Rattle.pe_text.specs.Upf.{outside_start, inside_start, upf_start}
use Rattle.pe_text.specs.Liberty.{liberty_start}
use Rattle.pe_text.specs.MapFile.{map_start}
use Rattle.pe_text.specs.Cut.{start_at}
use Rattle.pe_text.specs.Longest.{IsLongest, IsWord, word_run, HasPlainWords, all_go_on, is_name_byte, is_name}
use Rattle.pe_text.proofs.Bools.{both, and_true}
use Rattle.pe_text.proofs.OneKind.{Only, gap_to_kind, quoted_kind, quote_kind, sized_kind, escaped_kind, backquote_kind, operator_kind, stroke_kind, round_kind}
use Rattle.pe_text.proofs.Shorter.{at_end}
use Rattle.pe_text.proofs.Runs.{word_longest}

-- if this is a word, then the test holds and these bytes stand behind it
abbrev WordLeaves : Bool → List ℕ → Start → Type 0
WordLeaves test want (gap rest) = Unit {0}
WordLeaves test want (token Word rest) = (test ≡ true) × (rest ≡ want)
WordLeaves test want (token _ rest) = Unit {0}
WordLeaves test want bad = Unit {0}

record Leaves (test : Bool) (want : List ℕ) (s : Start) : Type 0 where
  is : WordLeaves test want s

either : (b test : Bool) (want : List ℕ) (s t : Start) → Leaves test want s → Leaves test want t → Leaves test want (cond b s t)
either true test want s t p q = p
either false test want s t p q = q

word : (want : List ℕ) → Leaves true want (token Word want)
word want = record { is = (refl, refl) }

mark : (test : Bool) (want rest : List ℕ) → Leaves test want (token Mark rest)
mark test want rest = record { is = tt }

ends : (test : Bool) (want rest : List ℕ) → Leaves test want (token End rest)
ends test want rest = record { is = tt }

passes : (test : Bool) (want rest : List ℕ) → Leaves test want (gap rest)
passes test want rest = record { is = tt }

stops : (test : Bool) (want : List ℕ) → Leaves test want bad
stops test want = record { is = tt }

-- a word that comes where the test holds
tested : (test v : Bool) (want : List ℕ) (t : Start) → test ≡ v → Leaves test want t → Leaves test want (cond v (token Word want) t)
tested test true want t e l = record { is = (e, refl) }
tested test false want t e l = l

-- tokens of another kind
no_word : (test : Bool) (want : List ℕ) (s : Start) (kind : Kind) → (kind ≡ Word → ⊥) → Only kind s → Leaves test want s
no_word test want (gap rest) kind n o = passes test want rest
no_word test want (token Word rest) kind n o = absurd (n (sym o.is))
no_word test want (token Escaped rest) kind n o = record { is = tt }
no_word test want (token Number rest) kind n o = record { is = tt }
no_word test want (token Text rest) kind n o = record { is = tt }
no_word test want (token Mark rest) kind n o = mark test want rest
no_word test want (token End rest) kind n o = ends test want rest
no_word test want bad kind n o = stops test want

numbers : (test : Bool) (want : List ℕ) (s : Start) → Only Number s → Leaves test want s
numbers test want s o = no_word test want s Number (λ e. cc) o

marks : (test : Bool) (want : List ℕ) (s : Start) → Only Mark s → Leaves test want s
marks test want s o = no_word test want s Mark (λ e. cc) o

escapes : (test : Bool) (want : List ℕ) (s : Start) → Only Escaped s → Leaves test want s
escapes test want s o = no_word test want s Escaped (λ e. cc) o

texts : (test : Bool) (want : List ℕ) (s : Start) → Only Text s → Leaves test want s
texts test want s o = no_word test want s Text (λ e. cc) o

name_case : (b : ℕ) (bs : List ℕ) (t : Start) → Leaves (begins_name b) (behind run.Name bs) t → Leaves (begins_name b) (behind run.Name bs) (cond (begins_name b) (token Word (behind run.Name bs)) t)
name_case b bs t l = tested (begins_name b) (begins_name b) (behind run.Name bs) t refl l

verilog_leaves : (b : ℕ) (bs : List ℕ) → Leaves (begins_name b) (behind run.Name bs) (verilog_start (b ∷ bs))
verilog_leaves b bs =
    search (either, passes, name_case, mark, marks, numbers, escapes, round_kind, sized_kind, quote_kind, escaped_kind, backquote_kind, stroke_kind, operator_kind) depth 20

outside_leaves : (fresh : Bool) (b : ℕ) (bs : List ℕ) → Leaves true (behind run.Command bs) (outside_start fresh b bs)
outside_leaves fresh b bs = search (either, ends, mark, passes, word)

inside_leaves : (b : ℕ) (bs : List ℕ) → Leaves true (behind run.Braced bs) (inside_start b bs)
inside_leaves b bs = search (either, passes, word)

count_leaves : (v fresh : Bool) (b : ℕ) (bs : List ℕ) → Leaves true (behind (cond v run.Command run.Braced) bs) (cond v (outside_start fresh b bs) (inside_start b bs))
count_leaves true fresh b bs = outside_leaves fresh b bs
count_leaves false fresh b bs = inside_leaves b bs

upf_leaves : (mode : Mode) (b : ℕ) (bs : List ℕ) → Leaves true (behind (word_run class.Upf mode) bs) (upf_start mode (b ∷ bs))
upf_leaves mode b bs = search (either, passes, mark, texts, quoted_kind, stops, count_leaves) depth 16

liberty_leaves : (mode : Mode) (b : ℕ) (bs : List ℕ) → Leaves true (behind run.Value bs) (liberty_start mode (b ∷ bs))
liberty_leaves mode b bs = search (either, ends, passes, mark, texts, quoted_kind, gap_to_kind, word) depth 16

map_leaves : (b : ℕ) (bs : List ℕ) → Leaves true (behind run.Entry bs) (map_start (b ∷ bs))
map_leaves b bs = search (either, passes, ends, word)

-- how a word of a class may begin
abbrev word_test : Class → ℕ → Bool
word_test class.Verilog b = begins_name b
word_test _ b = true

start_leaves : (c : Class) (mode : Mode) (b : ℕ) (bs : List ℕ) → HasPlainWords c → Leaves (word_test c b) (behind (word_run c mode) bs) (start_at c mode (b ∷ bs))
start_leaves class.Verilog mode b bs h = verilog_leaves b bs
start_leaves class.Upf mode b bs h = upf_leaves mode b bs
start_leaves class.Liberty mode b bs h = liberty_leaves mode b bs
start_leaves class.Map mode b bs h = map_leaves b bs
start_leaves class.LibertyFunction mode b bs h = elim h [ ]
start_leaves class.UpfFunction mode b bs h = elim h [ ]

no_start : {A : Type 0} (c : Class) (mode : Mode) (rest : List ℕ) → start_at c mode [] ≡ token Word rest → A
no_start c mode rest e = absurd (let x : bad ≡ token Word rest = sym (at_end c mode) ∙ e in cc)

leaves : (c : Class) (mode : Mode) (b : ℕ) (bs rest : List ℕ) → HasPlainWords c → start_at c mode (b ∷ bs) ≡ token Word rest → Leaves (word_test c b) (behind (word_run c mode) bs) (token Word rest)
leaves c mode b bs rest h e = let P : Start → Type 0 = Leaves (word_test c b) (behind (word_run c mode) bs) in subst P e (start_leaves c mode b bs h)

pub plain_word : (c : Class) (mode : Mode) (bytes rest : List ℕ) → HasPlainWords c → start_at c mode bytes ≡ token Word rest → IsLongest (IsWord (word_run c mode)) bytes rest
plain_word c mode [] rest h e = no_start c mode rest e
plain_word c mode (b ∷ bs) rest h e =
    let l = leaves c mode b bs rest h e in
    let Q : List ℕ → Type 0 = λ x. IsLongest (IsWord (word_run c mode)) (b ∷ bs) x in
    subst Q (sym l.is.1) (word_longest (word_run c mode) b bs)

-- the run of a name does not look at what stands behind it
run_is : (bs rest : List ℕ) → all_go_on run.Name bs rest ≡ list_all is_name_byte bs
run_is [] rest = refl
run_is (b ∷ bs) rest = ap (λ x. is_name_byte b && x) (run_is bs rest)

name_run : (other rest : List ℕ) → is_name other ≡ true → IsWord run.Name other rest
name_run [] rest e = absurd (let x : false ≡ true = e in cc)
name_run (b ∷ bs) rest e = run_is bs rest ∙ (both (begins_name b) (list_all is_name_byte bs) e).1

name_has : (b : ℕ) (bs front rest : List ℕ) → begins_name b ≡ true → b ∷ bs ≡ front ++ rest → IsWord run.Name front rest → is_name front ≡ true
name_has b bs [] rest t e w = elim w [ ]
name_has b bs (o ∷ os) rest t e w =
    let same : o ≡ b = cc in
    and_true (begins_name o) (list_all is_name_byte os) (ap begins_name same ∙ t) (sym (run_is os rest) ∙ w)

pub name_longest : (mode : Mode) (text rest : List ℕ) → start_at class.Verilog mode text ≡ token Word rest → IsLongest (λ front behind. is_name front ≡ true) text rest
name_longest mode [] rest e = no_start class.Verilog mode rest e
name_longest mode (b ∷ bs) rest e =
    let t : begins_name b ≡ true = (leaves class.Verilog mode b bs rest tt e).is.0 in
    let w = plain_word class.Verilog mode (b ∷ bs) rest tt e in
    record {
      front = w.front;
      splits = w.splits;
      has_form = name_has b bs w.front rest t w.splits w.has_form;
      longest = λ other after f h. w.longest other after f (name_run other after h);
    }
