-- Pattern lines as Git reads them. None is blank, a backslash stays where it is, and the slash at the end is taken off first.
use Rattle.std.specs.Prelude.{◌≡◌, ℕ, Bool, ◌||◌, nat_eq, if◌then◌else◌, List, [], ◌++◌, Option, codes}
use Rattle.std.specs.List.{starts_with, ends_with}
use Rattle.glob_patterns.specs.declared.mode.Mode.{Mode}
use Rattle.glob_patterns.specs.Patterns.{bits_of, first_special, slash_if}

-- the sign of a line: one `!` at its front
abbrev pub negation_of : List ℕ → List ℕ
negation_of line = if starts_with nat_eq line (codes "!") then codes "!" else []

-- whether a line begins with `\!` or `\#`, whose backslash only Git's reading keeps
abbrev pub begins_with_escaped_sign : List ℕ → Bool
begins_with_escaped_sign line = starts_with nat_eq line (codes "\\!") || starts_with nat_eq line (codes "\\#")

-- The line is a sign or none, a slash or none, the text of its pattern, and a slash or none. A slash alone is the one at the end.
pub record GitReads (line text : List ℕ) (mode : Mode) (place : Option ℕ) : Type 0 where
  pub sign : List ℕ
  pub lead : List ℕ
  pub tail : List ℕ
  pub joined : line ≡ sign ++ (lead ++ (text ++ tail))
  pub signed : sign ≡ negation_of line
  pub trails : tail ≡ slash_if (ends_with nat_eq (lead ++ (text ++ tail)) (codes "/"))
  pub leads : lead ≡ slash_if (starts_with nat_eq (lead ++ text) (codes "/"))
  pub bits : mode.0 ≡ bits_of sign lead text tail
  pub placed : place ≡ first_special text
