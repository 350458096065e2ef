-- Values that begin with a text, up to the case of letters where the mode asks for it.
use Rattle.std.specs.Prelude.{◌≡◌, ℕ, ◌+◌, ◌<◌, ◌≤◌, List, length, slice_index, take}
use Rattle.glob_matcher.specs.declared.wildmatch.way.Way.{Way}
use Rattle.glob_matcher.specs.Bytes.{fold}
use Rattle.glob_patterns.specs.Laws.LiteralBytes.{AreAlike}

-- the value begins with the front, up to case where the mode folds
pub record BeginsAlike (way : Way) (value front : List ℕ) : Type 0 where
  pub fits : length front ≤ length value
  pub alike : AreAlike way front (take (length front) value)

-- from place i on the text has the bytes that the value has from place k on, n of them, up to case where the mode folds
pub record AgreeFrom (way : Way) (text value : List ℕ) (i k n : ℕ) : Type 0 where
  pub each : (m : ℕ) → m < n → fold way (slice_index text (i + m)) ≡ fold way (slice_index value (k + m))
