-- What a value has of a text that matches it: bytes and ends that are equal up to the case of letters, where the mode asks for it.
use Rattle.std.specs.Prelude.{◌≡◌, ℕ, ◌+◌, ◌-◌, ◌<◌, ◌≤◌, ◌||◌, ◌==◌, Bool, List, length, slice_index, drop}
use Rattle.std.specs.Str.{byte}
use Rattle.glob_matcher.specs.declared.wildmatch.way.Way.{Way}
use Rattle.glob_matcher.specs.Bytes.{HasByte, fold, is_special, open_bracket, backslash, slash}
use Rattle.glob_patterns.specs.Folding.{folding_of}

-- the two texts are equal, up to case where the mode folds
abbrev pub AreAlike : Way → List ℕ → List ℕ → Type 0
AreAlike way a b = folding_of way a ≡ folding_of way b

-- the value ends in the end, up to case where the mode folds
pub record EndsAlike (way : Way) (value end : List ℕ) : Type 0 where
  pub fits : length end ≤ length value
  pub alike : AreAlike way end (drop (length value - length end) value)

-- the value has the byte at some place, up to case where the mode folds
pub record HasAlike (way : Way) (value : List ℕ) (b : ℕ) : Type 0 where
  pub place : ℕ
  pub inside : place < length value
  pub alike : fold way (slice_index value place) ≡ fold way b

-- the value has the one byte at some place and the other right behind it, up to case where the mode folds
pub record HasAlikePair (way : Way) (value : List ℕ) (a b : ℕ) : Type 0 where
  pub place : ℕ
  pub inside : place + 1 < length value
  pub alike : fold way (slice_index value place) ≡ fold way a
  pub next_alike : fold way (slice_index value (place + 1)) ≡ fold way b

-- whether a byte may be the last of a token of more than one byte: a special one, the slash, or the closing bracket
abbrev pub is_joining : ℕ → Bool
is_joining b = is_special b || (b == byte "]" || b == slash)

-- no set and no escape begins up to place i, nor there
pub record IsUnescapedUpTo (text : List ℕ) (i : ℕ) : Type 0 where
  pub no_set : (j : ℕ) → j ≤ i → ¬ HasByte text j open_bracket
  pub no_escape : (j : ℕ) → j ≤ i → ¬ HasByte text j backslash
