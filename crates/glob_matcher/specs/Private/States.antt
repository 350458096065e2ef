-- What the functions of the engine with two marks say of its state to one another: a match is found here, or at a later place
-- of a mark.
use Rattle.std.specs.Prelude.{◌≡◌, ◌⊎◌, ℕ, ◌+◌, ◌-◌, ◌<◌, ◌≤◌, false, IsTrue, List, length, slice_index, Option, Some, None}
use Rattle.glob_matcher.specs.declared.wildmatch.way.Way.{Way}
use Rattle.glob_matcher.specs.declared.wildmatch.marks.Mark.{Mark}
use Rattle.glob_matcher.specs.declared.wildmatch.state.Crossing.{Crossing}
use Rattle.glob_matcher.specs.declared.wildmatch.state.Crossing.TheVariants as crossing
use Rattle.glob_matcher.specs.declared.wildmatch.state.State.{State}
use Rattle.glob_matcher.specs.declared.wildmatch.state.Turn.{Turn}
use Rattle.glob_matcher.specs.declared.wildmatch.state.Turn.TheVariants as turn
use Rattle.glob_matcher.specs.Bytes.{NoSlash, StandsForItself, is_path, slash}
use Rattle.glob_matcher.specs.declared.wildmatch.scan.Scan.{Scan}
use Rattle.glob_matcher.specs.declared.wildmatch.scan.Scan.TheVariants as scan
use Rattle.glob_matcher.specs.Tokens.{Token, Byte, TokenAt}
use Rattle.glob_matcher.specs.Private.Spelling.{IsAfterSlash}
use Rattle.glob_matcher.specs.Matching.{SplitsBy, SplitsFrom, Fits}
use Rattle.glob_matcher.specs.Private.Fitting.{AfterSlash}
use Rattle.glob_matcher.specs.Private.Scans.{reached_by, scan_steps}
use Rattle.glob_matcher.specs.Private.Components.{separates, next_component}
use Rattle.glob_matcher.specs.Private.Takes.{Takes}
use Rattle.glob_matcher.specs.Steps.{Counts}

module _ (way : Way) (p v : List ℕ) where
  -- A later success of a mark: from a place past it, the rest of the pattern splits the rest of the value.
  pub record LaterFree (place at : ℕ) : Type 0 where
    pub e : ℕ
    pub past : at < e
    pub inside : e ≤ length v
    pub splits : SplitsFrom v e p place way

  pub record LaterDirs (place at : ℕ) : Type 0 where
    pub e : ℕ
    pub after : AfterSlash v at e
    pub splits : SplitsFrom v e p place way

  pub record LaterLocal (place at : ℕ) : Type 0 where
    pub e : ℕ
    pub past : at < e
    pub inside : e ≤ length v
    pub bare : NoSlash v at e
    pub splits : SplitsFrom v e p place way

  abbrev pub LaterCrossing : Crossing → Type 0
  LaterCrossing crossing.Unmet = ⊥
  LaterCrossing (crossing.Free m) = LaterFree m.place m.at
  LaterCrossing (crossing.Dirs m) = LaterDirs m.place m.at

  -- the same of the local mark, where one is set
  abbrev pub LaterLocalIfSet : Option Mark → Type 0
  LaterLocalIfSet None = ⊥
  LaterLocalIfSet (Some m) = LaterLocal m.place m.at

  -- A later success of the crossing mark lies ahead of this place: past it, and past its component where no slash is wanted.
  pub record SuccessAhead (i k : ℕ) : Type 0 where
    pub e : ℕ
    pub past : k < e
    pub inside : e ≤ length v
    pub far : (t : Token) (j : ℕ) → TokenAt way p i t j → separates way t ≡ false → next_component way v k ≤ e
    pub after : IsAfterSlash p i → slice_index v (e - 1) ≡ slash
    pub splits : SplitsFrom v e p i way

  -- It lies in a later component.
  pub record SuccessFar (i k : ℕ) : Type 0 where
    pub e : ℕ
    pub far : next_component way v k ≤ e
    pub inside : e ≤ length v
    pub splits : SplitsFrom v e p i way

  -- A later success of the local mark lies here or ahead in this component.
  pub record SuccessNear (i k : ℕ) : Type 0 where
    pub e : ℕ
    pub low : k ≤ e
    pub inside : e ≤ length v
    pub bare : NoSlash v k e
    pub splits : SplitsFrom v e p i way

  -- what is known of a run of stars that crosses slashes: in path mode a slash follows
  pub record FreeKnown (place : ℕ) : Type 0 where
    pub low : place ≤ length p
    pub start : ¬ IsAfterSlash p place
    pub far : (k e : ℕ) → k < e → (t : Token) (j : ℕ) → TokenAt way p place t j → separates way t ≡ false → next_component way v k ≤ e

  abbrev pub CrossingKnown : Crossing → Type 0
  CrossingKnown crossing.Unmet = Unit {0}
  CrossingKnown (crossing.Free m) = FreeKnown m.place
  CrossingKnown (crossing.Dirs m) = m.place ≤ length p

  -- what is known of the local mark: since it was met no slash was passed
  pub record LocalKnown (i k : ℕ) (c : Crossing) (place at : ℕ) : Type 0 where
    pub path : IsTrue (is_path way)
    pub low : place ≤ length p
    pub here : ¬ IsAfterSlash p i
    pub start : ¬ IsAfterSlash p place
    pub near : LaterLocal place at → SuccessNear i k
    pub far : LaterCrossing c → SuccessFar place at

  -- the same, where a local mark is set
  abbrev pub LocalKnownIfSet : ℕ → ℕ → Crossing → Option Mark → Type 0
  LocalKnownIfSet i k c None = Unit {0}
  LocalKnownIfSet i k c (Some m) = LocalKnown i k c m.place m.at

  -- What holds at each turn: a success from here or of a mark is a match, and a match is one of these.
  pub record StandsAt (state : State) : Type 0 where
    pub low : state.place ≤ length p
    pub inside : state.at ≤ length v
    pub sound : SplitsFrom v state.at p state.place way → SplitsBy v p way
    pub sound_local : LaterLocalIfSet state.local → SplitsBy v p way
    pub sound_crossing : LaterCrossing state.crossing → SplitsBy v p way
    pub complete : SplitsBy v p way
        → SplitsFrom v state.at p state.place way ⊎ (LaterLocalIfSet state.local ⊎ LaterCrossing state.crossing)
    pub ahead : LaterCrossing state.crossing → SuccessAhead state.place state.at
    pub crossing : CrossingKnown state.crossing
    pub local : LocalKnownIfSet state.place state.at state.crossing state.local

  -- What holds once the token does not fit and the local mark cannot move: a match is a later success of the crossing mark.
  pub record IsLeft (c : Crossing) : Type 0 where
    pub sound : LaterCrossing c → SplitsBy v p way
    pub complete : SplitsBy v p way → LaterCrossing c
    pub crossing : CrossingKnown c

  -- the engine stands here, and the token does not fit
  pub record IsMiss (state : State) : Type 0 where
    pub stands : StandsAt state
    pub missed : ¬ SplitsFrom v state.at p state.place way

  -- what a turn comes to
  abbrev pub IsOutcome : Turn → Type 0
  IsOutcome turn.Match = SplitsBy v p way
  IsOutcome turn.NoMatch = ¬ SplitsBy v p way
  IsOutcome (turn.Miss s) = IsMiss s
  IsOutcome (turn.On next) = StandsAt next

  -- where going back to a mark leads: to a state, or nowhere
  abbrev pub Resumes : Option State → Type 0
  Resumes None = ¬ SplitsBy v p way
  Resumes (Some next) = StandsAt next

  -- where going back to the local mark leads: to a state, or to the crossing mark
  abbrev pub ResumesLocal : Crossing → Option State → Type 0
  ResumesLocal c None = IsLeft c
  ResumesLocal c (Some next) = StandsAt next

  -- the byte at place i of the pattern is a token by itself, and takes the byte at place k of the value
  pub record IsLiteralMet (i k : ℕ) : Type 0 where
    pub place : i < length p
    pub literal : StandsForItself (slice_index p i)
    pub at : k < length v
    pub fits : Fits way (Byte (slice_index p i)) (slice_index v k)

  -- what was met at the place that a scan has come to, which can't pass a byte of which B holds
  abbrev pub IsMet : (ℕ → Type 0) → Scan → Type 0
  IsMet B (scan.Found m) = IsLiteralMet m.place m.at
  IsMet B (scan.Blocked m) = (m.at < length v) × B (slice_index v m.at) × ¬ SplitsFrom v m.at p m.place way
  IsMet B (scan.Undecided m) = Unit {0}

  -- A scan from a mark: at no place before the one it has come to does the rest of the pattern split the rest of the value. Beside
  -- its steps it looks at the byte after the star.
  pub record IsScanFor (B : ℕ → Type 0) (from : Mark) (s : Scan) (before after : Counts) : Type 0 where
    pub same : (reached_by s).place ≡ from.place
    pub low : from.at ≤ (reached_by s).at
    pub inside : (reached_by s).at ≤ length v
    pub missed : (k : ℕ) → from.at ≤ k → k < (reached_by s).at → ¬ SplitsFrom v k p from.place way
    pub free : (k : ℕ) → from.at ≤ k → k < (reached_by s).at → ¬ B (slice_index v k)
    pub met : IsMet B s
    pub takes : Takes before after (scan_steps from s) (scan_steps from s + 1)

-- a mark is moved to the next place after a slash
pub record IsNextDirectory (v : List ℕ) (from to : Mark) : Type 0 where
  pub same : to.place ≡ from.place
  pub after : AfterSlash v from.at to.at
  pub bare : NoSlash v from.at (to.at - 1)
