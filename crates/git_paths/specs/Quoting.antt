-- Names as Git quotes them.
use Rattle.std.specs.Prelude.{ℕ, ◌+◌, ◌/◌, ◌%◌, Bool, ◌==◌, ◌||◌, nat_lt, nat_le, if◌then◌else◌, List, [], ◌∷◌, ◌++◌, Option, None, Some, codes}
use Rattle.std.specs.List.{flat_map, list_any}
use Rattle.std.specs.Str.{byte}
use Rattle.git_paths.specs.declared.quoting.Quoting.{Quoting}
use Rattle.git_paths.specs.declared.quoting.Quoting.TheVariants.{AsciiOnly, Full}

-- a byte that has to be escaped: a control character, a double quote, a backslash, or, where names are quoted in full, a byte past ASCII
abbrev pub is_unusual : Quoting → ℕ → Bool
is_unusual Full b = ((nat_lt b 32 || nat_le 127 b) || b == byte "\"") || b == byte "\\"
is_unusual AsciiOnly b = ((nat_lt b 32 || b == 127) || b == byte "\"") || b == byte "\\"

-- the letter or sign that stands for a byte behind a backslash
abbrev pub letter_of : ℕ → Option ℕ
letter_of b =
    if b == 7 then Some (byte "a")
    else (if b == 8 then Some (byte "b")
    else (if b == 9 then Some (byte "t")
    else (if b == 10 then Some (byte "n")
    else (if b == 11 then Some (byte "v")
    else (if b == 12 then Some (byte "f")
    else (if b == 13 then Some (byte "r")
    else (if b == byte "\"" then Some (byte "\"")
    else (if b == byte "\\" then Some (byte "\\")
    else None))))))))

-- what stands behind the backslash: that letter, or the byte in three octal digits
abbrev pub escape_of : ℕ → Option ℕ → List ℕ
escape_of b (Some letter) = letter ∷ []
escape_of b None = (byte "0" + b / 64) ∷ (byte "0" + b / 8 % 8) ∷ (byte "0" + b % 8) ∷ []

-- a byte in quotes
abbrev pub escaped : Quoting → ℕ → List ℕ
escaped quoting b = if is_unusual quoting b then byte "\\" ∷ escape_of b (letter_of b) else b ∷ []

-- a name: as it is, or, where a byte is unusual, in double quotes
abbrev pub quoted : Quoting → List ℕ → List ℕ
quoted quoting name = if list_any (is_unusual quoting) name then codes "\"" ++ (flat_map (escaped quoting) name ++ codes "\"") else name
