-- The head of a line by equation.
use Rattle.std.specs.Prelude.{zero, suc, ℕ, ◌+◌, ◌-◌, ◌*◌, Bool, ◌&&◌, ◌==◌, nat_eq, nat_le, if◌then◌else◌, List, [], ◌∷◌, ◌++◌, drop, Option, None, Some, option_map, codes, unwrap_or}
use Rattle.std.specs.List.{before_first, position_or_len, starts_with}
use Rattle.std.specs.Option.{option_and_then}
use Rattle.std.specs.Str.{byte}
use Rattle.gix_glob.specs.Bytes.{backslash}
use Rattle.glob_attributes.specs.Words.{is_blank}

abbrev pub quote : ℕ
quote = byte "\""

-- the byte that a backslash and this one spell, where they are an escape
abbrev pub letter_byte : ℕ → Option ℕ
letter_byte c =
    if c == byte "a" then Some 7
    else (if c == byte "b" then Some 8
    else (if c == byte "t" then Some 9
    else (if c == byte "n" then Some 10
    else (if c == byte "v" then Some 11
    else (if c == byte "f" then Some 12
    else (if c == byte "r" then Some 13
    else (if c == quote then Some quote
    else (if c == backslash then Some backslash
    else None))))))))

-- a digit up to this one, and the byte of three octal digits
abbrev pub is_octal : ℕ → ℕ → Bool
is_octal greatest c = nat_le 48 c && nat_le c (48 + greatest)

abbrev pub octal_byte : ℕ → ℕ → ℕ → ℕ
octal_byte x y z = 64 * (x - 48) + 8 * (y - 48) + (z - 48)

-- what follows a backslash: the byte that both spell, and how many bytes behind the backslash belong to it
abbrev pub escape_at : List ℕ → Option (ℕ × ℕ)
escape_at [] = None
escape_at (c ∷ []) = option_map (λ b. (b, 1)) (letter_byte c)
escape_at (c ∷ y ∷ []) = option_map (λ b. (b, 1)) (letter_byte c)
escape_at (c ∷ y ∷ z ∷ bytes) =
    if is_octal 3 c && (is_octal 7 y && is_octal 7 z) then Some (octal_byte c y z, 3) else option_map (λ b. (b, 1)) (letter_byte c)

-- the byte that is spelled at the front, and how many bytes behind the first belong to its spelling
abbrev pub unit_at : List ℕ → Option (ℕ × ℕ)
unit_at [] = None
unit_at (b ∷ bytes) = if b == quote then None else (if b == backslash then escape_at bytes else Some (b, 0))

-- a byte more in front of a head
abbrev pub with_front : List ℕ → List ℕ × List ℕ → List ℕ × List ℕ
with_front front found = (front ++ found.0, found.1)

-- the head that ends at the closing quote, and what follows it, where the first bytes, so many, belong to what was read before
abbrev pub quoted_from : ℕ → List ℕ → Option (List ℕ × List ℕ)
quoted_from skip [] = None
quoted_from (suc skip) (b ∷ bytes) = quoted_from skip bytes
quoted_from zero (b ∷ bytes) =
    if b == quote then Some ([], bytes)
    else option_and_then (λ unit. option_map (with_front (unit.0 ∷ [])) (quoted_from unit.1 bytes)) (unit_at (b ∷ bytes))

-- the head between quotes that a text begins with, and what follows it
abbrev pub quoted_of : List ℕ → Option (List ℕ × List ℕ)
quoted_of text = if starts_with nat_eq text (codes "\"") then quoted_from 0 (drop 1 text) else None

-- the head of a text that doesn't begin with a quoted one, and what follows it
abbrev pub bare_head : List ℕ → List ℕ × List ℕ
bare_head text = (before_first is_blank text, drop (position_or_len is_blank text) text)

-- the head of a text, and what follows it
unfoldable pub head_of : List ℕ → List ℕ × List ℕ
head_of text = if starts_with nat_eq text (codes "\"") then unwrap_or (quoted_from 0 (drop 1 text)) (bare_head text) else bare_head text
