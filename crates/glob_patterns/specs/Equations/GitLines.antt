-- The reading of a line, as Git reads it, by equation.
use Rattle.std.specs.Prelude.{ℕ, List}
use Rattle.glob_patterns.specs.Equations.Readings.{Reading, before_tail, lead_of, reading_with, rest_after, tail_of}
use Rattle.glob_patterns.specs.GitLines.{negation_of}

-- the reading, where this stands before the tail
unfoldable pub git_reading_before_tail : List ℕ → List ℕ → List ℕ → Reading
git_reading_before_tail sign tail inner = reading_with sign (lead_of inner) (rest_after (lead_of inner) inner) tail

-- the reading, where this follows the sign
unfoldable pub git_reading_after_sign : List ℕ → List ℕ → Reading
git_reading_after_sign sign rest = git_reading_before_tail sign (tail_of rest) (before_tail rest)

-- the reading of a line: each has one
unfoldable pub git_reading_of : List ℕ → Reading
git_reading_of line = git_reading_after_sign (negation_of line) (rest_after (negation_of line) line)
