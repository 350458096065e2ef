-- A value in quotes.
use Rattle.std.specs.Prelude.{ℕ, ◌==◌, if◌then◌else◌, List, [], ◌∷◌, ◌++◌, codes}
use Rattle.std.specs.List.{flat_map}
use Rattle.std.specs.Str.{byte}

-- a line feed, a quote and a backslash stand behind a backslash
abbrev pub quoted_byte : ℕ → List ℕ
quoted_byte b =
    if b == 10 then codes "\\n"
    else (if b == byte "\"" then codes "\\\""
    else (if b == byte "\\" then codes "\\\\" else b ∷ []))

abbrev pub quoted_of : List ℕ → List ℕ
quoted_of value = byte "\"" ∷ (flat_map quoted_byte value ++ byte "\"" ∷ [])
