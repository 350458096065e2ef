-- What is written of the entries that answer for a path.
use Rattle.std.specs.Prelude.{ℕ, Bool, if◌then◌else◌, List, Option, codes}
use Rattle.glob_lists.specs.declared.rules.Rules.{Rules}
use Rattle.glob_lines.specs.Lines.{WritesLines}
use Rattle.glob_lines.specs.Mappings.{WritesNumbers}
use Rattle.glob_lines.specs.PathLines.{WritesForPath}
use Rattle.glob_lines.specs.Plain.{PlainEntry}

-- the word for an answer
abbrev pub word_of : Bool → List ℕ
word_of answer = if answer then codes "yes" else codes "no"

-- the entries of a list and its base, and the rules by which they are matched
pub record RuledList : Type 0 where
  pub entries : List PlainEntry
  pub base : Option (List ℕ)
  pub rules : Rules

-- the text for all path lines and the entries of a list
abbrev pub MatchesText : List PlainEntry → Option (List ℕ) → Rules → List ℕ → List ℕ → Type 0
MatchesText entries base rules paths text = WritesLines (WritesForPath (WritesNumbers entries base rules)) paths text
