-- The text of mappings: what is written for path lines and the entries of a list.
use Rattle.std.specs.Prelude.{◌≡◌, ℕ, Bool, List, map, Option}
use Rattle.gix_glob.specs.declared.pattern.Case.{Case}
use Rattle.glob_lists.specs.declared.rules.Rules.{Rules}
use Rattle.glob_lists.specs.Rules.{by_crate}
use Rattle.glob_lists.specs.Deciding.{AnswersUnder}
use Rattle.gix_glob.specs.Paths.{Base}
use Rattle.glob_lines.specs.Lines.{WritesLines}
use Rattle.glob_lines.specs.Numbers.{Picks, text_of_numbers}
use Rattle.glob_lines.specs.PathLines.{WritesForPath}
use Rattle.glob_lines.specs.Plain.{Plain, PlainEntry}
use Rattle.byte_streams.specs.Transfers.{ReadsWhole}

-- The line has the numbers of the entries that answer for the path under the base of their list, in order, with one space between.
pub record WritesNumbers (entries : List PlainEntry) (base : Option (List ℕ)) (rules : Rules) (path : List ℕ) (is_dir : Bool) (written : List ℕ) : Type 0 where
  pub chosen : List PlainEntry
  pub picks : Picks (λ entry. AnswersUnder base entry path is_dir rules) entries chosen
  pub shown : written ≡ text_of_numbers (map (λ entry. entry.number) chosen)

-- what is read: pattern lines, and path lines
pub record PatternsAndPaths : Type 0 where
  pub patterns : List ℕ
  pub paths : List ℕ

-- both inputs were read to their ends
pub record ReadsBoth (patterns_old patterns_new paths_old paths_new : Option (List ℕ)) (input : PatternsAndPaths) : Type 0 where
  pub patterns : ReadsWhole patterns_old patterns_new input.patterns
  pub paths : ReadsWhole paths_old paths_new input.paths

-- The text of mappings: for each path line a line with the numbers of the plain entries of the pattern lines, under the base of
-- their source.
pub record MappingsText (source : List ℕ) (root : Option (List ℕ)) (case : Case) (input : PatternsAndPaths) (text : List ℕ) : Type 0 where
  pub entries : List PlainEntry
  pub meant : Plain input.patterns entries
  pub base : Option (List ℕ)
  pub based : Base source root base
  pub matches : WritesLines (WritesForPath (WritesNumbers entries base (by_crate case))) input.paths text
