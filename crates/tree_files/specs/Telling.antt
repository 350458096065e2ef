-- Lines on the standard error.
use Rattle.std.specs.Prelude.{ℕ, Bool, ◌==◌, ◌||◌, ◌&&◌, not, nat_le, if◌then◌else◌, List, map, chars, encode_utf8_all}
use Rattle.std.specs.Str.{byte}

abbrev pub is_between : ℕ → ℕ → ℕ → Bool
is_between low high c = nat_le low c && nat_le c high

-- whether a line shows a character as it is: a tab, and all but those of control, of direction, and that end a line or a paragraph
abbrev pub is_shown : ℕ → Bool
is_shown c = c == byte "\t" || not (nat_le c 31 || (is_between 127 159 c || (is_between 0x2028 0x202E c || is_between 0x2066 0x2069 c)))

-- a character as a line shows it
abbrev pub shown : ℕ → ℕ
shown c = if is_shown c then c else byte "?"

-- a text as a line shows it
unfoldable pub shown_text : List ℕ → List ℕ
shown_text text = encode_utf8_all (map shown (chars text))
