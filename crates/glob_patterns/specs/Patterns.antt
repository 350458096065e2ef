-- Pattern lines: how a line is read, and what is shown of a pattern.
use Rattle.std.specs.Prelude.{◌≡◌, ℕ, ◌+◌, Bool, IsTrue, false, not, ◌&&◌, ◌||◌, ◌==◌, nat_eq, if◌then◌else◌, bit_and, List, [], ◌++◌, drop, Option, codes, position, encode_utf8_all}
use Rattle.std.specs.List.{list_any, list_all, starts_with, ends_with}
use Rattle.std.specs.Char.{is_ascii_whitespace}
use Rattle.std.specs.Str.{bytes_eq}
use Rattle.bstr.specs.Utf8.{lossy_chars}
use Rattle.glob_patterns.specs.declared.mode.Mode.{Mode}
use Rattle.glob_matcher.specs.Bytes.{has_slash, is_special}

-- which of the named bits stand in a pattern's mode
abbrev pub is_by_its_end : Mode → Bool
is_by_its_end mode = bit_and mode.0 2 == 2

abbrev pub is_for_directories : Mode → Bool
is_for_directories mode = bit_and mode.0 4 == 4

abbrev pub is_negative : Mode → Bool
is_negative mode = bit_and mode.0 8 == 8

abbrev pub is_absolute : Mode → Bool
is_absolute mode = bit_and mode.0 16 == 16

-- whether a pattern looks at the last part of a path alone: its text has no slash, and its line began with none
abbrev pub looks_at_name : Mode → Bool
looks_at_name mode = bit_and mode.0 1 == 1 && not (is_absolute mode)

-- the place of the first special byte, where a literal front ends
abbrev pub first_special : List ℕ → Option ℕ
first_special text = position is_special text

-- a star, and no special byte after it
abbrev pub is_star_and_literal : List ℕ → Bool
is_star_and_literal text = starts_with nat_eq text (codes "*") && not (list_any is_special (drop 1 text))

-- empty, or ASCII whitespace alone
abbrev pub is_blank : List ℕ → Bool
is_blank text = list_all is_ascii_whitespace text

-- the line without one leading `!`
abbrev pub without_negation : List ℕ → List ℕ
without_negation line = if starts_with nat_eq line (codes "!") then drop 1 line else line

-- what is taken off a line's front, where it may be altered: `!`, or the backslash of `\!` and `\#`
abbrev pub sign_of : Bool → List ℕ → List ℕ
sign_of may_alter line =
    if may_alter && starts_with nat_eq line (codes "!") then codes "!"
    else (if may_alter && (starts_with nat_eq line (codes "\\!") || starts_with nat_eq line (codes "\\#")) then codes "\\"
    else [])

-- a slash, or nothing
abbrev pub slash_if : Bool → List ℕ
slash_if there = if there then codes "/" else []

-- the bits of a line's parts, each worth its own number
abbrev pub bits_of : List ℕ → List ℕ → List ℕ → List ℕ → ℕ
bits_of sign lead text tail =
    (if has_slash text then 0 else 1)
    + (if is_star_and_literal text then 2 else 0)
    + (if bytes_eq tail (codes "/") then 4 else 0)
    + (if bytes_eq sign (codes "!") then 8 else 0)
    + (if bytes_eq lead (codes "/") then 16 else 0)

-- The line is a sign, a slash or none, the text of its pattern, and a slash or none.
pub record Reads (line : List ℕ) (may_alter : Bool) (text : List ℕ) (mode : Mode) (place : Option ℕ) : Type 0 where
  pub sign : List ℕ
  pub lead : List ℕ
  pub tail : List ℕ
  pub joined : line ≡ sign ++ (lead ++ (text ++ tail))
  pub signed : sign ≡ sign_of may_alter line
  pub not_blank : is_blank (lead ++ (text ++ tail)) ≡ false
  pub leads : lead ≡ slash_if (starts_with nat_eq (lead ++ (text ++ tail)) (codes "/"))
  pub trails : tail ≡ slash_if (ends_with nat_eq (text ++ tail) (codes "/"))
  pub bits : mode.0 ≡ bits_of sign lead text tail
  pub placed : place ≡ first_special text

-- the line has a reading
abbrev pub HasReading : List ℕ → Bool → Type 0
HasReading line may_alter = (text : List ℕ) × (mode : Mode) × (place : Option ℕ) × Reads line may_alter text mode place

-- a text as it is displayed: what isn't UTF-8 gives way to U+FFFD
abbrev pub display_of : List ℕ → List ℕ
display_of text = encode_utf8_all (lossy_chars text)

-- the line that is shown for a pattern
abbrev pub shown_line : Mode → List ℕ → List ℕ
shown_line mode text =
    (if is_negative mode then codes "!" else [])
    ++ (slash_if (is_absolute mode) ++ (text ++ slash_if (is_for_directories mode)))

-- A text, a mode and a place make a pattern: the place is that of the text's first special byte, and a mode that
-- says that the end decides stands only with a star and a literal.
pub record IsPattern (text : List ℕ) (mode : Mode) (place : Option ℕ) : Type 0 where
  pub placed : place ≡ first_special text
  pub ends : IsTrue (is_by_its_end mode) → IsTrue (is_star_and_literal text)
