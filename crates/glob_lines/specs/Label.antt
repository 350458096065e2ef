-- What the parser of labels means: the readings of what stands before the lines' tabs, with what stands after them as values.
use Rattle.std.specs.Prelude.{◌≡◌, ◌⊎◌, ℕ, List, [], ◌∷◌, ◌++◌}
use Rattle.gix_glob.specs.Entries.{Entry}
use Rattle.glob_lines.specs.Lines.{EndsInFeed}
use Rattle.byte_streams.specs.Records.{HasNo}
use Rattle.glob_lines.specs.Entries.{Entries, ReadsLine}

-- a pattern with its label, and its number
abbrev pub LabelEntry : Type 0
LabelEntry = Entry (List ℕ)

-- the byte of a tab
abbrev pub tab : ℕ
tab = 9

-- A line gives what stands before its first tab, with what stands after that tab as the value; without a tab it gives
-- itself, with an empty value.
pub record GivesLabel (line text value : List ℕ) : Type 0 where
  pub first : HasNo tab text
  pub cut : (line ≡ text ++ tab ∷ value) ⊎ ((line ≡ text) × (value ≡ []))

-- The labelled entries of the bytes: for each line, numbered from 1, whose part before the first tab has a reading, this
-- reading with the part after that tab, and the number.
abbrev pub Label : List ℕ → List LabelEntry → Type 0
Label bytes entries = Entries ReadsLine EndsInFeed GivesLabel bytes entries
