-- The reading of a line by equation.
use Rattle.std.specs.Prelude.{ℕ, ◌-◌, Bool, nat_eq, if◌then◌else◌, List, length, take, drop, Option, None, Some, codes}
use Rattle.std.specs.List.{starts_with, ends_with}
use Rattle.glob_patterns.specs.declared.mode.Mode.{Mode}
use Rattle.glob_patterns.specs.Patterns.{bits_of, first_special, is_blank, sign_of, slash_if}

-- what a line says of its pattern: its text, what is known of the text, and the place of its first special byte
pub record Reading : Type 0 where
  pub text : List ℕ
  pub mode : Mode
  pub place : Option ℕ

-- what follows a front
abbrev pub rest_after : List ℕ → List ℕ → List ℕ
rest_after front text = drop (length front) text

-- the slash that a text begins with, or ends in
abbrev pub lead_of : List ℕ → List ℕ
lead_of text = slash_if (starts_with nat_eq text (codes "/"))

abbrev pub tail_of : List ℕ → List ℕ
tail_of text = slash_if (ends_with nat_eq text (codes "/"))

-- what stands before the tail
abbrev pub before_tail : List ℕ → List ℕ
before_tail text = take (length text - length (tail_of text)) text

-- the reading of a line of these parts
abbrev pub reading_with : List ℕ → List ℕ → List ℕ → List ℕ → Reading
reading_with sign lead text tail = record {
  text = text;
  mode = record { 0 = bits_of sign lead text tail };
  place = first_special text;
}

-- the reading, where this follows the sign and the lead
unfoldable pub reading_after_lead : List ℕ → List ℕ → List ℕ → Reading
reading_after_lead sign lead inner = reading_with sign lead (before_tail inner) (tail_of inner)

-- the reading, where this follows the sign
unfoldable pub reading_after_sign : List ℕ → List ℕ → Option Reading
reading_after_sign sign rest =
    if is_blank rest then None else Some (reading_after_lead sign (lead_of rest) (rest_after (lead_of rest) rest))

-- the reading of a line, which a blank one hasn't
unfoldable pub reading_of : Bool → List ℕ → Option Reading
reading_of may_alter line = reading_after_sign (sign_of may_alter line) (rest_after (sign_of may_alter line) line)
