-- What is written about a path: the path, and the line of the file that decides about it.
use Rattle.std.specs.Prelude.{ℕ, Bool, ◌&&◌, ◌||◌, not, nat_eq, if◌then◌else◌, List, [], ◌∷◌, ◌++◌, Option, None, Some, codes, decimal}
use Rattle.std.specs.List.{starts_with}
use Rattle.gix_glob.specs.declared.pattern.Mode.{Mode}
use Rattle.gix_glob.specs.Patterns.{is_absolute, is_negative, shown_line}
use Rattle.git_paths.specs.Quoting.{quoted}
use Rattle.tree_answers.specs.declared.form.Form.{Form}
use Rattle.tree_answers.specs.declared.form.Form.TheVariants.{Lines, Records}

-- the line that decides: the name of its file, its number, and its pattern
pub record Decision : Type 0 where
  pub source : List ℕ
  pub number : ℕ
  pub mode : Mode
  pub text : List ℕ

-- the byte behind a part: this sign in lines, a NUL in records
abbrev pub behind : Form → ℕ → ℕ
behind (Lines quoting) sign = sign
behind Records sign = 0

-- a name: in lines in quotes, where a byte is unusual by their way of quoting
abbrev pub name_text : Form → List ℕ → List ℕ
name_text (Lines quoting) name = quoted quoting name
name_text Records name = name

-- whether a text begins with a byte that means something else at the front of a line
abbrev pub begins_with_sign : List ℕ → Bool
begins_with_sign text = starts_with nat_eq text (codes "!") || starts_with nat_eq text (codes "#")

-- a pattern as its line has it: as it is shown, and behind a backslash where its text begins with such a byte
abbrev pub pattern_line : Mode → List ℕ → List ℕ
pattern_line mode text =
    (if not (is_negative mode) && (not (is_absolute mode) && begins_with_sign text) then codes "\\" else []) ++ shown_line mode text

-- the file, the number of the line and its pattern, each with what stands behind it; these alone, where no line decides
abbrev pub decision_text : Form → Option Decision → List ℕ
decision_text form None = behind form 58 ∷ behind form 58 ∷ behind form 9 ∷ []
decision_text form (Some line) =
    name_text form line.source ++ behind form 58 ∷ (decimal line.number ++ behind form 58 ∷ (pattern_line line.mode line.text ++ behind form 9 ∷ []))

-- the decision, where it is asked for, then the path as it was told, and a line feed or a NUL
abbrev pub line_text : Bool → Form → Option Decision → List ℕ → List ℕ
line_text verbose form line told = (if verbose then decision_text form line else []) ++ (name_text form told ++ behind form 10 ∷ [])
