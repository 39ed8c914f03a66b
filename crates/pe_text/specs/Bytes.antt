-- Tests on bytes, and runs of bytes: how far what has begun at a place goes on.
use Rattle.std.specs.Prelude.{ℕ, ◌==◌, Bool, false, not, ◌&&◌, ◌||◌, nat_le, List, [], ◌∷◌, codes, if◌then◌else◌}
use Rattle.std.specs.List.{list_any}
use Rattle.pe_text.specs.declared.run.Base.{Base}
use Rattle.pe_text.specs.declared.run.Base.TheVariants.{Binary, Octal, Decimal, Hexadecimal}
use Rattle.pe_text.specs.declared.run.Run.{Run}
use Rattle.pe_text.specs.declared.run.Run.TheVariants.{Line, Name, Escaped, Digits, Command, Braced, UpfText, Value, LibertyText, Entry, Input, Index}

-- the byte is one of these
abbrev pub is_one_of : List ℕ → ℕ → Bool
is_one_of bytes b = list_any (λ other. b == other) bytes

-- space and tab
abbrev pub is_blank : ℕ → Bool
is_blank b = (b == 32) || (b == 9)

-- space, tab, LF, CR and FF
abbrev pub is_white : ℕ → Bool
is_white b = (b == 32) || (b == 9) || (b == 10) || (b == 13) || (b == 12)

-- 0 to 9
abbrev pub is_digit : ℕ → Bool
is_digit b = nat_le 48 b && nat_le b 57

-- A to Z, a to z and _
abbrev pub begins_name : ℕ → Bool
begins_name b = (nat_le 65 b && nat_le b 90) || (nat_le 97 b && nat_le b 122) || (b == 95)

-- a byte that is seen: 33 to 126
abbrev pub is_graphic : ℕ → Bool
is_graphic b = nat_le 33 b && nat_le b 126

-- a digit of a base other than ten that is not known
abbrev pub is_unknown : ℕ → Bool
is_unknown b = is_one_of (codes "xXzZ?") b

-- a digit of the base
abbrev pub is_digit_of : Base → ℕ → Bool
is_digit_of Binary b = (b == 48) || (b == 49) || is_unknown b
is_digit_of Octal b = (nat_le 48 b && nat_le b 55) || is_unknown b
is_digit_of Decimal b = is_digit b
is_digit_of Hexadecimal b = is_digit b || (nat_le 65 b && nat_le b 70) || (nat_le 97 b && nat_le b 102) || is_unknown b

-- the text has a first byte, and it is such a one
abbrev pub begins : (ℕ → Bool) → List ℕ → Bool
begins p [] = false
begins p (b ∷ bs) = p b

-- the text begins with this byte
abbrev pub has_first : ℕ → List ℕ → Bool
has_first byte text = begins (λ b. b == byte) text

-- the text begins with these two bytes
abbrev pub has_two : ℕ → ℕ → List ℕ → Bool
has_two x y [] = false
has_two x y (b ∷ bs) = (b == x) && has_first y bs

-- the text begins with a digit, or with a _ that has a digit behind it
abbrev pub goes_on_number : (ℕ → Bool) → List ℕ → Bool
goes_on_number p [] = false
goes_on_number p (b ∷ bs) = p b || ((b == 95) && begins p bs)

-- a backslash before a line's end
abbrev pub is_continued : List ℕ → Bool
is_continued text = has_two 92 10 text

-- a byte of a word of UPF, inside braces and outside
abbrev pub is_braced : ℕ → Bool
is_braced b = nat_le b 126 && not (is_blank b || (b == 10) || is_one_of (codes "{}\"$") b)

abbrev pub is_command : ℕ → Bool
is_command b = is_braced b && not ((b == 59) || (b == 91))

-- a byte of a word of Liberty
abbrev pub is_value : ℕ → Bool
is_value b = not (is_white b || (b == 34) || is_one_of (codes "(){}:;,") b)

-- the run goes on at the text's first byte
abbrev pub goes_on : Run → List ℕ → Bool
goes_on Line text = begins (λ b. not (b == 10)) text
goes_on Name text = begins (λ b. begins_name b || is_digit b || (b == 36)) text
goes_on Escaped text = begins is_graphic text
goes_on (Digits base) text = goes_on_number (is_digit_of base) text
goes_on Command text = begins is_command text && not (is_continued text)
goes_on Braced text = begins is_braced text && not (is_continued text)
goes_on UpfText text = begins (λ b. nat_le b 126 && not (b == 34)) text
goes_on Value text = begins is_value text && not (has_two 47 42 text || is_continued text)
goes_on LibertyText text = begins (λ b. not (b == 34)) text
goes_on Entry text = begins (λ b. not (is_blank b || (b == 10) || (b == 35))) text
goes_on Input text = begins (λ b. begins_name b || is_digit b) text
goes_on Index text = begins is_digit text

-- what stands behind the run, which is as long as it can be
abbrev pub behind : Run → List ℕ → List ℕ
behind run [] = []
behind run (b ∷ bs) = if goes_on run (b ∷ bs) then behind run bs else b ∷ bs
