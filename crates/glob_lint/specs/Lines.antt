-- Lines of ignore files, over all paths that a work tree can have: which of them a line matches, and what two lines have to do with each other.
use Rattle.std.specs.Prelude.{ℕ, ◌<◌, Bool, not, ◌||◌, IsTrue, List, [], All, Option, codes}
use Rattle.std.specs.List.{list_all}
use Rattle.std.specs.Str.{bytes_eq}
use Rattle.glob_patterns.specs.declared.mode.Mode.{Mode}
use Rattle.glob_lists.specs.declared.rules.Rules.{Rules}
use Rattle.gix_glob.specs.Entries.{Entry}
use Rattle.gix_glob.specs.EntryLists.{EntryList}
use Rattle.gix_glob.specs.Paths.{pieces}
use Rattle.gix_glob.specs.Stripping.{RestOf}
use Rattle.glob_lists.specs.Deciding.{AnswersFor}

-- a line: the base of its list, and the text and mode of its entry
pub record LineParts : Type 0 where
  pub base : Option (List ℕ)
  pub text : List ℕ
  pub mode : Mode

abbrev pub line_of : {V : Type 0} → EntryList V → Entry V → LineParts
line_of list entry = record { base = list.base; text = entry.text; mode = entry.mode }

-- the line matches the path: its pattern answers for what the base leaves of it
pub record Meets (rules : Rules) (line : LineParts) (path : List ℕ) (is_dir : Bool) : Type 0 where
  pub rest : List ℕ
  pub left : RestOf rules.case line.base path rest
  pub answers : AnswersFor line.text line.mode rest is_dir rules

-- a part that a path can have: not empty, and neither `.` nor `..`
abbrev pub is_part : List ℕ → Bool
is_part part = not (bytes_eq part [] || (bytes_eq part (codes ".") || bytes_eq part (codes "..")))

-- a path that a work tree can have: bytes, and no other parts
pub record IsReal (path : List ℕ) : Type 0 where
  pub bytes : All (λ b. b < 256) path
  pub parts : IsTrue (list_all is_part (pieces path))

-- the right line matches each path that the left one does
abbrev pub Covers : Rules → LineParts → LineParts → Type 0
Covers rules left right = (path : List ℕ) (is_dir : Bool) → IsReal path → Meets rules left path is_dir → Meets rules right path is_dir

-- the line matches no path
abbrev pub MeetsNothing : Rules → LineParts → Type 0
MeetsNothing rules line = (path : List ℕ) (is_dir : Bool) → IsReal path → ¬ Meets rules line path is_dir

-- no path is matched by both
abbrev pub AreApart : Rules → LineParts → LineParts → Type 0
AreApart rules left right = (path : List ℕ) (is_dir : Bool) → IsReal path → Meets rules left path is_dir → ¬ Meets rules right path is_dir
