-- What starts at a place of a text in UPF (IEEE 1801), whose words are those of Tcl.
use Rattle.std.specs.Prelude.{ℕ, ◌==◌, ◌+◌, ◌-◌, Bool, true, false, ◌&&◌, ◌||◌, nat_lt, List, [], ◌∷◌, codes, drop, if◌then◌else◌}
use Rattle.pe_text.specs.declared.token.Kind.{Kind}
use Rattle.pe_text.specs.declared.token.Kind.TheVariants.{Word, Mark, End}
use Rattle.pe_text.specs.declared.mode.Mode.{Mode}
use Rattle.pe_text.specs.declared.mode.Mode.TheVariants.{Fresh, Braces}
use Rattle.pe_text.specs.declared.run.Run.TheVariants as run
use Rattle.pe_text.specs.Bytes.{is_one_of, is_blank, is_continued, behind}
use Rattle.pe_text.specs.Start.{Start, gap, token, bad, quoted}

-- how many braces are open
abbrev pub open_braces : Mode → ℕ
open_braces (Braces n) = n
open_braces _ = 0

-- a command could start
abbrev pub is_fresh : Mode → Bool
is_fresh Fresh = true
is_fresh _ = false

-- where no brace is open
abbrev pub outside_start : Bool → ℕ → List ℕ → Start
outside_start fresh b bs =
    if (b == 10) || (b == 59) then token End bs
    else if b == 91 then token Mark bs
    else if fresh && (b == 35) then gap (behind run.Line bs)
    else token Word (behind run.Command bs)

-- inside braces
abbrev pub inside_start : ℕ → List ℕ → Start
inside_start b bs = if b == 10 then gap bs else token Word (behind run.Braced bs)

abbrev pub upf_start : Mode → List ℕ → Start
upf_start mode [] = bad
upf_start mode (b ∷ bs) =
    if is_blank b then gap bs
    else if is_one_of (codes "{}$") b then token Mark bs
    else if b == 34 then quoted run.UpfText bs
    else if is_continued (b ∷ bs) then gap (drop 1 bs)
    else if nat_lt 126 b then bad
    else if open_braces mode == 0 then outside_start (is_fresh mode) b bs
    else inside_start b bs

-- behind a token that begins with this byte
abbrev pub upf_behind : Mode → Kind → ℕ → Mode
upf_behind mode End b = Fresh
upf_behind mode _ b =
    Braces (if b == 123 then open_braces mode + 1 else if b == 125 then open_braces mode - 1 else open_braces mode)
