-- The number and the boolean that a value says.
use Rattle.std.specs.Prelude.{ℕ, ℤ, pos, ◌*◌, ◌^◌, Bool, true, false, not, ◌&&◌, ◌||◌, ◌==◌, nat_eq, nat_lt, if◌then◌else◌, List, [], ◌∷◌, take, drop, length, map, option_map, option_and_then, Option, Some, None, codes}
use Rattle.std.proofs.Common.{neg_ℤ}
use Rattle.std.specs.Char.{is_digit, to_ascii_lowercase}
use Rattle.std.specs.Int.{is_in_range}
use Rattle.std.specs.List.{position_or_len, starts_with}
use Rattle.std.specs.Str.{byte, bytes_eq}
use Rattle.std.specs.Str.Parse.{digits_value}

-- what follows the blanks in front: spaces and the bytes from a tab to a carriage return
abbrev pub is_solid : ℕ → Bool
is_solid b = not (b == 32 || is_in_range 9 13 b)

abbrev pub signed_of : List ℕ → List ℕ
signed_of value = drop (position_or_len is_solid value) value

-- this without its sign, where it has one
abbrev pub is_negative : List ℕ → Bool
is_negative value = starts_with nat_eq (signed_of value) (codes "-")

abbrev pub unsigned_of : List ℕ → List ℕ
unsigned_of value = if is_negative value || starts_with nat_eq (signed_of value) (codes "+") then drop 1 (signed_of value) else signed_of value

-- the base of what follows the sign: 16 behind `0x` where a digit of it follows, 8 behind another `0`, and else 10
abbrev pub begins_hexadecimal : List ℕ → Bool
begins_hexadecimal [] = false
begins_hexadecimal (x ∷ []) = false
begins_hexadecimal (x ∷ b ∷ text) = (x == byte "x" || x == byte "X") && is_digit b 16

abbrev pub base_of : List ℕ → ℕ
base_of [] = 10
base_of (b ∷ text) = if b == byte "0" then (if begins_hexadecimal text then 16 else 8) else 10

-- the factor of a unit
abbrev pub factor_of : List ℕ → Option ℕ
factor_of [] = Some 1
factor_of (b ∷ []) =
    if b == byte "k" || b == byte "K" then Some 1024
    else (if b == byte "m" || b == byte "M" then Some 1048576
    else (if b == byte "g" || b == byte "G" then Some 1073741824 else None))
factor_of (b ∷ c ∷ text) = None

-- the number of digits of a base and a unit behind them, where there is a digit and the number is below 2 ^ 31
abbrev pub number_in : ℕ → List ℕ → Option ℕ
number_in base text =
    let count = position_or_len (λ b. not (is_digit b base)) text in
    if count == 0 then None
    else option_and_then (λ factor. let number = digits_value base (take count text) * factor in if nat_lt number (2 ^ 31) then Some number else None) (factor_of (drop count text))

-- the number of a value without its sign, and with it
abbrev pub magnitude_of : List ℕ → Option ℕ
magnitude_of value =
    let text = unsigned_of value in
    number_in (base_of text) (if base_of text == 16 then drop 2 text else text)

abbrev pub integer_of : List ℕ → Option ℤ
integer_of value = option_map (λ n. if is_negative value then neg_ℤ (pos n) else pos n) (magnitude_of value)

-- the same text but for the case of letters
abbrev pub same_letters : List ℕ → List ℕ → Bool
same_letters a b = bytes_eq (map to_ascii_lowercase a) (map to_ascii_lowercase b)

abbrev pub says_yes : List ℕ → Bool
says_yes text = (same_letters text (codes "true") || same_letters text (codes "yes")) || same_letters text (codes "on")

abbrev pub says_no : List ℕ → Bool
says_no text = ((length text == 0 || same_letters text (codes "false")) || same_letters text (codes "no")) || same_letters text (codes "off")

-- the boolean of a value: none is true, and a number is true where it isn't 0
abbrev pub boolean_of : Option (List ℕ) → Option Bool
boolean_of None = Some true
boolean_of (Some text) =
    if says_yes text then Some true
    else (if says_no text then Some false
    else option_map (λ n. not (n == 0)) (magnitude_of text))
