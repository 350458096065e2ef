-- What comparisons of text and value show: whether the text matches, or in which mode the matcher answers it.
use Rattle.std.specs.Prelude.{◌↔◌, ℕ, ◌+◌, ◌*◌, ◌≤◌, List}
use Rattle.glob_matcher.specs.declared.wildmatch.way.Way.{Way}
use Rattle.glob_matcher.specs.Matching.{SplitsBy}
use Rattle.glob_matcher.specs.Steps.{Counts, NeverFall}
use Rattle.glob_patterns.specs.declared.pattern.comparisons.Shown.{Shown}
use Rattle.glob_patterns.specs.declared.pattern.comparisons.Shown.TheVariants.{Match, Miss, Open}

-- what is shown of this value, this text and this mode
abbrev pub IsShown : Shown → List ℕ → List ℕ → Way → Type 0
IsShown Match value text way = SplitsBy value text way
IsShown Miss value text way = ¬ SplitsBy value text way
IsShown (Open other) value text way = SplitsBy value text other ↔ SplitsBy value text way

-- how many steps and looks it takes at most to show this of a text and a value, p and v being their lengths
abbrev pub shown_step_limit : Shown → ℕ → ℕ → ℕ
shown_step_limit (Open other) p v = 2 * v
shown_step_limit Match p v = (p + 2) * (v + 1)
shown_step_limit Miss p v = (p + 2) * (v + 1)

abbrev pub shown_look_limit : Shown → ℕ → ℕ → ℕ
shown_look_limit (Open other) p v = 2 * p + v + 2
shown_look_limit Match p v = 3 * (p + 1) * (v + 1)
shown_look_limit Miss p v = 3 * (p + 1) * (v + 1)

-- from one state of the counts to another: at most s steps, and at most l looks; no count falls
pub record TakesUpTo (before after : Counts) (s l : ℕ) : Type 0 where
  pub steps : after.steps ≤ before.steps + s
  pub looks : after.looks ≤ before.looks + l
  pub grows : NeverFall before after
