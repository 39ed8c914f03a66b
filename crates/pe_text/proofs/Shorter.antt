-- What stands behind a gap or a token is shorter than what stood there.
use Rattle.std.proofs.Common.{◌≡◌, ℕ, ◌<◌, ◌≤◌, Bool, true, false, cond, ◌==◌, ◌&&◌, List, [], ◌∷◌, length, drop, length-drop, arith, subst, refl, sym, ◌∙◌}
use Rattle.pe_text.specs.declared.language.Class.{Class}
use Rattle.pe_text.specs.declared.language.Class.TheVariants.{Verilog, Upf, Liberty, Map, LibertyFunction, UpfFunction}
use Rattle.pe_text.specs.declared.token.Kind.{Kind}
use Rattle.pe_text.specs.declared.token.Kind.TheVariants.{Number}
use Rattle.pe_text.specs.declared.mode.Mode.{Mode}
use Rattle.pe_text.specs.declared.run.Base.{Base}
use Rattle.pe_text.specs.declared.run.Base.TheVariants.{Decimal}
use Rattle.pe_text.specs.declared.run.Run.{Run}
use Rattle.pe_text.specs.declared.run.Run.TheVariants as run
use Rattle.pe_text.specs.Bytes.{goes_on, behind}
use Rattle.pe_text.specs.Start.{Start, gap, token, bad, or_else, gap_to, closed, quoted}
use Rattle.pe_text.specs.Verilog.{digits, based, unsigned, quote, sized, escaped, directive, backquote, operator, stroke, round, verilog_start}
use Rattle.pe_text.specs.Upf.{upf_start}
use Rattle.pe_text.specs.Liberty.{liberty_start}
use Rattle.pe_text.specs.MapFile.{map_start}
use Rattle.pe_text.specs.Functions.{behind_index, behind_input, behind_one, behind_twice, liberty_function_start, upf_function_start}
use Rattle.pe_text.specs.Cut.{start_at}

-- how many bytes are left behind it
abbrev left : Start → ℕ
left (gap rest) = length rest
left (token kind rest) = length rest
left bad = 0

-- at most so many bytes are left behind it
record Within (n : ℕ) (s : Start) : Type 0 where
  fits : left s ≤ n

either : (b : Bool) (n : ℕ) (s t : Start) → Within n s → Within n t → Within n (cond b s t)
either true n s t p q = p
either false n s t p q = q

passes : (n : ℕ) (rest : List ℕ) → length rest ≤ n → Within n (gap rest)
passes n rest h = record { fits = h }

takes : (n : ℕ) (kind : Kind) (rest : List ℕ) → length rest ≤ n → Within n (token kind rest)
takes n kind rest h = record { fits = h }

stops : (n : ℕ) → Within n bad
stops n = record { fits = omega arith }

wider : (n m : ℕ) (s : Start) → Within m s → m ≤ n → Within n s
wider n m s w h = record { fits = omega (arith, w.fits, h) }

other : (n : ℕ) (s t : Start) → Within n s → Within n t → Within n (or_else s t)
other n (gap rest) t p q = p
other n (token kind rest) t p q = p
other n bad t p q = q

pick : (b : Bool) (x y : List ℕ) (n : ℕ) → length x ≤ n → length y ≤ n → length (cond b x y) ≤ n
pick true x y n p q = p
pick false x y n p q = q

same : (n : ℕ) → n ≤ n
same n = omega arith

-- a run leaves no more than stands there
pub behind_le : (r : Run) (text : List ℕ) → length (behind r text) ≤ length text
behind_le r [] = omega arith
behind_le r (b ∷ bs) = pick (goes_on r (b ∷ bs)) (behind r bs) (b ∷ bs) (length (b ∷ bs)) (omega (arith, behind_le r bs)) (omega arith)

drop_le : (k : ℕ) (text : List ℕ) → length (drop k text) ≤ length text
drop_le k text = omega (arith, length-drop k text)

gap_to_within : (x y : ℕ) (text : List ℕ) → Within (length text) (gap_to x y text)
gap_to_within x y [] = stops 0
gap_to_within x y (a ∷ []) = stops _
gap_to_within x y (a ∷ b ∷ bs) =
    let n = length (a ∷ b ∷ bs) in
    either ((a == x) && (b == y)) n (gap bs) (gap_to x y (b ∷ bs)) (passes n bs (omega arith)) (wider n (length (b ∷ bs)) (gap_to x y (b ∷ bs)) (gap_to_within x y (b ∷ bs)) (omega arith))

more_le : (b : ℕ) (bs : List ℕ) → length bs ≤ length (b ∷ bs)
more_le b bs = omega arith

longer : (b : ℕ) (bs : List ℕ) (s : Start) → Within (length bs) s → Within (length (b ∷ bs)) s
longer b bs s w = wider (length (b ∷ bs)) (length bs) s w (more_le b bs)

closed_within : (text : List ℕ) → Within (length text) (closed text)
closed_within [] = stops 0
closed_within (b ∷ bs) = search (either, takes, stops, more_le)

quoted_within : (r : Run) (text : List ℕ) → Within (length text) (quoted r text)
quoted_within r text = wider (length text) (length (behind r text)) (closed (behind r text)) (closed_within (behind r text)) (behind_le r text)

digits_within : (base : Base) (text : List ℕ) → Within (length text) (digits base text)
digits_within base text = search (either, takes, stops, behind_le)

based_within : (letter : ℕ) (text : List ℕ) → Within (length text) (based letter text)
based_within letter text = search (either, digits_within, stops)

unsigned_within : (text : List ℕ) → Within (length text) (unsigned text)
unsigned_within [] = stops 0
unsigned_within (b ∷ bs) = search (longer, based_within)

quote_within : (text : List ℕ) → Within (length text) (quote text)
quote_within [] = stops 0
quote_within (b ∷ bs) = longer b bs _ (search (either, unsigned_within, based_within))

sized_within : (text : List ℕ) → Within (length text) (sized text)
sized_within [] = takes 0 _ [] (omega arith)
sized_within (b ∷ bs) = search (either, other, longer, quote_within, takes, same)

escaped_within : (text : List ℕ) → Within (length text) (escaped text)
escaped_within text = search (either, takes, stops, behind_le)

directive_within : (name rest : List ℕ) → Within (length rest) (directive name rest)
directive_within name rest = search (either, passes, takes, same, behind_le)

directive_behind : (name text : List ℕ) → Within (length text) (directive name (behind run.Name text))
directive_behind name text = wider (length text) (length (behind run.Name text)) (directive name (behind run.Name text)) (directive_within name (behind run.Name text)) (behind_le run.Name text)

backquote_within : (text : List ℕ) → Within (length text) (backquote text)
backquote_within text = search (either, stops, directive_behind)

comment_within : (x y : ℕ) (text : List ℕ) → Within (length text) (gap_to x y (drop 1 text))
comment_within x y text = wider (length text) (length (drop 1 text)) (gap_to x y (drop 1 text)) (gap_to_within x y (drop 1 text)) (drop_le 1 text)

drop_more : (k b : ℕ) (bs : List ℕ) → 0 < k → length (drop k (b ∷ bs)) ≤ length bs
drop_more k b bs h = omega (arith, length-drop k (b ∷ bs), h)

operator_within : (b : ℕ) (bs : List ℕ) → Within (length bs) (operator (b ∷ bs))
operator_within b bs =
    let three : length (drop 3 (b ∷ bs)) ≤ length bs = drop_more 3 b bs (omega arith) in
    let two : length (drop 2 (b ∷ bs)) ≤ length bs = drop_more 2 b bs (omega arith) in
    search (either, takes, stops, same, three, two)

stroke_within : (text : List ℕ) → Within (length text) (stroke text)
stroke_within text = search (either, passes, takes, same, behind_le, comment_within)

round_within : (text : List ℕ) → Within (length text) (round text)
round_within text = search (either, takes, same, comment_within)

sized_behind : (text : List ℕ) → Within (length text) (sized (behind (run.Digits Decimal) text))
sized_behind text = wider (length text) (length (behind (run.Digits Decimal) text)) (sized (behind (run.Digits Decimal) text)) (sized_within (behind (run.Digits Decimal) text)) (behind_le (run.Digits Decimal) text)

verilog_within : (b : ℕ) (bs : List ℕ) → Within (length bs) (verilog_start (b ∷ bs))
verilog_within b bs = search (either, passes, takes, same, behind_le, round_within, sized_behind, quote_within, escaped_within, backquote_within, stroke_within, operator_within) depth 16

upf_within : (mode : Mode) (b : ℕ) (bs : List ℕ) → Within (length bs) (upf_start mode (b ∷ bs))
upf_within mode b bs = search (either, passes, takes, stops, same, behind_le, drop_le, quoted_within) depth 16

liberty_within : (mode : Mode) (b : ℕ) (bs : List ℕ) → Within (length bs) (liberty_start mode (b ∷ bs))
liberty_within mode b bs = search (either, passes, takes, same, behind_le, drop_le, quoted_within, comment_within) depth 16

map_within : (b : ℕ) (bs : List ℕ) → Within (length bs) (map_start (b ∷ bs))
map_within b bs = search (either, passes, takes, same, behind_le) depth 16

index_le : (text : List ℕ) → length (behind_index text) ≤ length text
index_le text = pick _ (drop 1 (behind run.Index (drop 1 text))) text (length text) (omega (arith, drop_le 1 (behind run.Index (drop 1 text)), behind_le run.Index (drop 1 text), drop_le 1 text)) (same (length text))

input_le : (text : List ℕ) → length (behind_input text) ≤ length text
input_le text = omega (arith, index_le (behind run.Input text), behind_le run.Input text)

one_le : (text : List ℕ) → length (behind_one text) ≤ length text
one_le text = search (pick, drop_le, same)

twice_le : (b : ℕ) (text : List ℕ) → length (behind_twice b text) ≤ length text
twice_le b text = search (pick, drop_le, same)

liberty_function_within : (b : ℕ) (bs : List ℕ) → Within (length bs) (liberty_function_start (b ∷ bs))
liberty_function_within b bs = search (either, passes, takes, stops, same, input_le) depth 16

upf_function_within : (b : ℕ) (bs : List ℕ) → Within (length bs) (upf_function_start (b ∷ bs))
upf_function_within b bs = search (either, passes, takes, stops, same, input_le, one_le, twice_le) depth 16

start_within : (class : Class) (mode : Mode) (b : ℕ) (bs : List ℕ) → Within (length bs) (start_at class mode (b ∷ bs))
start_within Verilog mode b bs = verilog_within b bs
start_within Upf mode b bs = upf_within mode b bs
start_within Liberty mode b bs = liberty_within mode b bs
start_within Map mode b bs = map_within b bs
start_within LibertyFunction mode b bs = liberty_function_within b bs
start_within UpfFunction mode b bs = upf_function_within b bs

-- at the end nothing starts
pub at_end : (class : Class) (mode : Mode) → start_at class mode [] ≡ bad
at_end Verilog mode = refl
at_end Upf mode = refl
at_end Liberty mode = refl
at_end Map mode = refl
at_end LibertyFunction mode = refl
at_end UpfFunction mode = refl

nothing : (class : Class) (mode : Mode) (s : Start) (P : Type 0) → (bad ≡ s → P) → start_at class mode [] ≡ s → P
nothing class mode s P f e = f (sym (at_end class mode) ∙ e)

pub gap_shorter : (class : Class) (mode : Mode) (text rest : List ℕ) → start_at class mode text ≡ gap rest → length rest < length text
gap_shorter class mode [] rest e = nothing class mode (gap rest) (length rest < 0) (λ x. cc) e
gap_shorter class mode (b ∷ bs) rest e = let w : Within (length bs) (gap rest) = let P : Start → Type 0 = Within (length bs) in subst P e (start_within class mode b bs) in omega (arith, w.fits)

pub token_shorter : (class : Class) (mode : Mode) (text : List ℕ) (kind : Kind) (rest : List ℕ) → start_at class mode text ≡ token kind rest → length rest < length text
token_shorter class mode [] kind rest e = nothing class mode (token kind rest) (length rest < 0) (λ x. cc) e
token_shorter class mode (b ∷ bs) kind rest e = let w : Within (length bs) (token kind rest) = let P : Start → Type 0 = Within (length bs) in subst P e (start_within class mode b bs) in omega (arith, w.fits)

-- a number that begins with digits leaves no more than they do
pub sized_le : (text rest : List ℕ) → sized text ≡ token Number rest → length rest ≤ length text
sized_le text rest e = let P : Start → Type 0 = Within (length text) in let w : Within (length text) (token Number rest) = subst P e (sized_within text) in w.fits
