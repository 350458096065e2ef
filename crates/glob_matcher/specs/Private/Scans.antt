-- What the engine with two marks looks for from a mark: the byte that follows a star in the pattern, or the pattern's end.
use Rattle.std.specs.Prelude.{◌≡◌, ℕ, ◌+◌, ◌-◌, ◌*◌, ◌<◌, ◌≤◌, true, false, List, length, slice_index}
use Rattle.glob_matcher.specs.declared.wildmatch.way.Way.{Way}
use Rattle.glob_matcher.specs.declared.wildmatch.marks.Mark.{Mark}
use Rattle.glob_matcher.specs.declared.wildmatch.needle.Follow.{Follow}
use Rattle.glob_matcher.specs.declared.wildmatch.needle.Follow.TheVariants as follow
use Rattle.glob_matcher.specs.declared.wildmatch.scan.Scan.{Scan}
use Rattle.glob_matcher.specs.declared.wildmatch.scan.Scan.TheVariants as scan
use Rattle.glob_matcher.specs.Steps.{Counts}
use Rattle.glob_matcher.specs.Private.Takes.{Takes}
use Rattle.glob_matcher.specs.Bytes.{HasByte, StandsForItself, folds}

-- this follows at place i of the pattern
abbrev pub Follows : Way → List ℕ → ℕ → Follow → Type 0
Follows way p i (follow.Byte b) = HasByte p i b × StandsForItself b × (folds way ≡ false)
Follows way p i (follow.Folded b) = HasByte p i b × StandsForItself b × (folds way ≡ true)
Follows way p i follow.End = i ≡ length p

-- a mark has moved, over bytes of which neither P nor B holds
pub record HasPassed (v : List ℕ) (P B : ℕ → Type 0) (from to : Mark) : Type 0 where
  pub same : to.place ≡ from.place
  pub low : from.at ≤ to.at
  pub inside : to.at ≤ length v
  pub unsuited : (k : ℕ) → from.at ≤ k → k < to.at → ¬ P (slice_index v k)
  pub free : (k : ℕ) → from.at ≤ k → k < to.at → ¬ B (slice_index v k)

-- where a scan has come to
abbrev pub reached_by : Scan → Mark
reached_by (scan.Found m) = m
reached_by (scan.Blocked m) = m
reached_by (scan.Undecided m) = m

-- what a scan from a mark comes to, for a byte of which P holds, where it can't pass one of which B holds
abbrev pub HasScanned : List ℕ → (ℕ → Type 0) → (ℕ → Type 0) → Mark → Scan → Type 0
HasScanned v P B from (scan.Found m) = HasPassed v P B from m × (m.at < length v) × P (slice_index v m.at)
HasScanned v P B from (scan.Blocked m) = HasPassed v P B from m × (m.at < length v) × (¬ P (slice_index v m.at)) × B (slice_index v m.at)
HasScanned v P B from (scan.Undecided m) = HasPassed v P B from m

-- the steps at the place that a scan has come to: a test, and a mark that can't move
abbrev pub last_steps : Scan → ℕ
last_steps (scan.Found m) = 1
last_steps (scan.Blocked m) = 2
last_steps (scan.Undecided m) = 0

-- a scan that goes on has passed so many bytes
abbrev pub MovesBy : ℕ → ℕ → Scan → Type 0
MovesBy count at (scan.Found m) = Unit {0}
MovesBy count at (scan.Blocked m) = Unit {0}
MovesBy count at (scan.Undecided m) = m.at ≡ at + count

-- a scan that goes on has passed a byte
abbrev pub MovesOn : ℕ → Scan → Type 0
MovesOn at (scan.Found m) = Unit {0}
MovesOn at (scan.Blocked m) = Unit {0}
MovesOn at (scan.Undecided m) = at < m.at

-- how many steps a scan takes: two for each byte that was passed
abbrev pub scan_steps : Mark → Scan → ℕ
scan_steps from s = 2 * ((reached_by s).at - from.at) + last_steps s

-- a scan from a mark, and what it takes: each step looks at one byte
pub record IsScan (v : List ℕ) (P B : ℕ → Type 0) (from : Mark) (s : Scan) (before after : Counts) : Type 0 where
  pub meaning : HasScanned v P B from s
  pub takes : Takes before after (scan_steps from s) (scan_steps from s)
