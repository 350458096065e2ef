-- The words of a command line and of the environment: `KEY=VALUE`, or `KEY`.
use Rattle.std.specs.Prelude.{ℕ, ◌-◌, Bool, false, not, ◌&&◌, ◌==◌, nat_eq, nat_lt, if◌then◌else◌, List, [], ◌∷◌, ◌++◌, length, take, drop, map, Option, Some, None, codes}
use Rattle.std.specs.Char.{is_ascii_alphabetic, to_ascii_lowercase}
use Rattle.std.specs.List.{after_first, ends_with, list_any, prefix_len, starts_with, suffix_len}
use Rattle.std.specs.Str.{byte}
use Rattle.git_config.specs.Grammar.{is_name_byte}

abbrev pub is_equals : ℕ → Bool
is_equals b = b == byte "="

-- what stands behind the first equals sign, where there is one
abbrev pub value_of_word : List ℕ → Option (List ℕ)
value_of_word word = if list_any is_equals word then Some (after_first is_equals word) else None

-- ---- a key: letters, digits and hyphens in front and at the end, and what stands between

abbrev pub section_end : List ℕ → ℕ
section_end key = prefix_len is_name_byte key

abbrev pub name_start : List ℕ → ℕ
name_start key = length key - suffix_len is_name_byte key

abbrev pub begins_with_letter : List ℕ → Bool
begins_with_letter [] = false
begins_with_letter (b ∷ text) = is_ascii_alphabetic b

-- it begins and ends with a full stop, the same one perhaps, and has no line feed
abbrev pub joins : List ℕ → Bool
joins middle = (starts_with nat_eq middle (codes ".") && ends_with nat_eq middle (codes ".")) && not (list_any (λ b. b == 10) middle)

-- The canonical key, if it is one: the last full stop isn't the first byte, and the name begins with a letter. What stands between the
-- first and the last full stop is the subsection, which is kept; the rest is in lower case.
abbrev pub canonical_of : List ℕ → Option (List ℕ)
canonical_of key =
    let middle = drop (section_end key) (take (name_start key) key) in
    let name = drop (name_start key) key in
    if nat_lt 1 (name_start key) && (joins middle && begins_with_letter name)
    then Some (map to_ascii_lowercase (take (section_end key) key) ++ (middle ++ map to_ascii_lowercase name))
    else None
