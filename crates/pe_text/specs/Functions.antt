-- What starts at a place of a boolean function, in the style of Liberty and in that of UPF.
use Rattle.std.specs.Prelude.{ℕ, ◌==◌, Bool, ◌&&◌, ◌||◌, List, [], ◌∷◌, codes, drop, if◌then◌else◌}
use Rattle.pe_text.specs.declared.token.Kind.TheVariants.{Word, Number, Mark}
use Rattle.pe_text.specs.declared.run.Run.TheVariants as run
use Rattle.pe_text.specs.Bytes.{is_one_of, is_digit, begins_name, begins, has_first, has_two, behind}
use Rattle.pe_text.specs.Start.{Start, gap, token, bad}

-- space, tab and LF
abbrev pub is_space : ℕ → Bool
is_space b = (b == 32) || (b == 9) || (b == 10)

-- an index stands here: digits in brackets
abbrev pub has_index : List ℕ → Bool
has_index text = has_first 91 text && begins is_digit (drop 1 text) && has_first 93 (behind run.Index (drop 1 text))

-- behind the index, if there is one
abbrev pub behind_index : List ℕ → List ℕ
behind_index text = if has_index text then drop 1 (behind run.Index (drop 1 text)) else text

-- behind the name whose first byte stands before
abbrev pub behind_input : List ℕ → List ℕ
behind_input text = behind_index (behind run.Input text)

abbrev pub liberty_function_start : List ℕ → Start
liberty_function_start [] = bad
liberty_function_start (b ∷ bs) =
    if is_space b then gap bs
    else if begins_name b then token Word (behind_input bs)
    else if (b == 48) || (b == 49) then token Number bs
    else if is_one_of (codes "+|*&^!'()") b then token Mark bs
    else bad

-- behind a 1: 'b0 or 'b1 goes on the number
abbrev pub behind_one : List ℕ → List ℕ
behind_one text = if has_two 39 98 text && begins (λ b. (b == 48) || (b == 49)) (drop 2 text) then drop 3 text else text

-- behind a byte that is a mark, or is one twice
abbrev pub behind_twice : ℕ → List ℕ → List ℕ
behind_twice b text = if has_first b text then drop 1 text else text

abbrev pub upf_function_start : List ℕ → Start
upf_function_start [] = bad
upf_function_start (b ∷ bs) =
    if is_space b then gap bs
    else if begins_name b then token Word (behind_input bs)
    else if b == 48 then token Number bs
    else if b == 49 then token Number (behind_one bs)
    else if is_one_of (codes "!~^()") b then token Mark bs
    else if (b == 38) || (b == 124) then token Mark (behind_twice b bs)
    else bad
