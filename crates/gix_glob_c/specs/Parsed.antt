-- What the parts of a pattern mean that C keeps, and which paths are asked about.
use Rattle.std.specs.Prelude.{◌≡◌, ℕ, true, false, nat_eq, List, [], ◌∷◌, map, Option, None, codes}
use Rattle.std.specs.List.{ends_with}
use Rattle.gix_glob.specs.declared.pattern.Mode.{Mode}
use Rattle.gix_glob.specs.Entries.{Entry}
use Rattle.gix_glob.specs.EntryLists.{EntryList}
use Rattle.gix_glob.specs.GitLines.{GitReads}
use Rattle.gix_glob.specs.Patterns.{IsPattern, Reads}
use Rattle.glob_lists.specs.declared.rules.Reading.{Reading}
use Rattle.glob_lists.specs.declared.rules.Reading.TheVariants.{Crate, Git}
use Rattle.glob_lists.specs.Paths.{IsPlainPath}
use Rattle.gix_glob_c.specs.Parts.{place_in, reading_told, unless_none}
use Rattle.gix_glob_c.specs.declared.parsed.GlobPattern.{GlobPattern}

-- what is known of the text, as the mode of a pattern
abbrev pub mode_of : GlobPattern → Mode
mode_of pattern = record { 0 = pattern.mode.bits }

-- the place of the text's first special byte
abbrev pub first_of : GlobPattern → Option ℕ
first_of pattern = place_in pattern.text.now pattern.first_wildcard_pos

-- the parts make a pattern
abbrev pub IsLawful : GlobPattern → Type 0
IsLawful pattern = IsPattern pattern.text.now (mode_of pattern) (first_of pattern)

-- whose reading the pattern is
abbrev pub reading_of : GlobPattern → Reading
reading_of pattern = reading_told pattern.reading

-- whose reading counts for the patterns of a call, which are all of one: that of the first
abbrev pub reading_of_all : List GlobPattern → Reading
reading_of_all [] = Crate
reading_of_all (pattern ∷ patterns) = reading_of pattern

-- the parts are those of the one reading of the line
pub record IsRead (line : List ℕ) (pattern : GlobPattern) : Type 0 where
  pub reads : Reads line true pattern.text.now (mode_of pattern) (unless_none pattern.first_wildcard_pos)
  pub lawful : IsLawful pattern
  pub by_crate : reading_of pattern ≡ Crate

-- the same, as Git reads it
pub record IsReadAsGit (line : List ℕ) (pattern : GlobPattern) : Type 0 where
  pub reads : GitReads line pattern.text.now (mode_of pattern) (unless_none pattern.first_wildcard_pos)
  pub lawful : IsLawful pattern
  pub by_git : reading_of pattern ≡ Git

-- a path of a repository, without a slash at its end
abbrev pub IsPathOfFile : List ℕ → Type 0
IsPathOfFile path = IsPlainPath path × (ends_with nat_eq path (codes "/") ≡ false)

-- the pattern as an entry, which has no value and whose line isn't kept
abbrev pub entry_of_parts : GlobPattern → Entry (Unit {0})
entry_of_parts pattern = record {
  text = pattern.text.now;
  mode = mode_of pattern;
  place = first_of pattern;
  value = tt;
  number = 0;
}

-- the patterns as a list without a base
abbrev pub list_of : List GlobPattern → EntryList (Unit {0})
list_of patterns = record { entries = map entry_of_parts patterns; source = None; base = None }
