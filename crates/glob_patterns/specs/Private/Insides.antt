-- Texts that are a star, a literal and a star, and the values that have the literal.
use Rattle.std.specs.Prelude.{◌≡◌, ℕ, ◌+◌, ◌-◌, ◌*◌, ◌<◌, ◌≤◌, Bool, Option, None, Some, List, length, slice_index}
use Rattle.glob_matcher.specs.declared.wildmatch.way.Way.{Way}
use Rattle.glob_matcher.specs.Bytes.{StandsForItself, star}
use Rattle.glob_patterns.specs.Private.Fronts.{AgreeFrom}

-- a star, bytes that aren't special, one at least, and a star
pub record IsBetweenStars (text : List ℕ) : Type 0 where
  pub some : 3 ≤ length text
  pub first : slice_index text 0 ≡ star
  pub last : slice_index text (length text - 1) ≡ star
  pub literal : (m : ℕ) → 1 ≤ m → m < length text - 1 → StandsForItself (slice_index text m)

-- from some place on the value has the bytes between the first of the text and its last, up to case where the mode folds
pub record HasInside (way : Way) (value text : List ℕ) : Type 0 where
  pub place : ℕ
  pub fits : place + (length text - 2) ≤ length value
  pub agree : AgreeFrom way text value 1 place (length text - 2)

-- how many steps and looks an answer takes at most: more where there is one, since the matcher is then not asked
abbrev pub answer_step_limit : Option Bool → ℕ → ℕ → ℕ
answer_step_limit None p v = 2 * v
answer_step_limit (Some _) p v = (p + 2) * (v + 1)

abbrev pub answer_look_limit : Option Bool → ℕ → ℕ → ℕ
answer_look_limit None p v = 2 * p + v
answer_look_limit (Some _) p v = 3 * (p + 1) * (v + 1)
