-- What a call takes off an ignore file.
use Rattle.std.specs.Prelude.{◌≡◌, ℕ, Bool, true, false, ◌+◌, ◌-◌, ◌^◌, min, ◌==◌, if◌then◌else◌, List, Option, None}
use Rattle.std.specs.Option.{ForSome, IsSomeAnd}
use Rattle.gix_glob.specs.Patterns.{HasReading}
use Rattle.glob_lines.specs.GitLines.{BeginsWithGitLine}
use Rattle.glob_lines.specs.Ignore.{BeginsWithLine, without_mark}
use Rattle.gix_glob_c.specs.declared.ignore_file.GlobLines.{GlobLines}
use Rattle.gix_glob_c.specs.declared.parsed.GlobPattern.{GlobPattern}
use Rattle.gix_glob_c.specs.Parsed.{IsRead, IsReadAsGit}

-- the bytes that are left to read: before the first line, a byte order mark isn't of them
abbrev pub unread_of : GlobLines → List ℕ
unread_of lines = if lines.number == 0 then without_mark lines.rest.now else lines.rest.now

-- the number of the line that was read last, after a call: 0 says that none was left
abbrev pub number_after : ℕ → ℕ → ℕ
number_after answer before = if answer == 0 then before else min (before + 1) (2 ^ 64 - 1)

-- The answer says whether there is a text that has a reading, which the new pattern then is; else the pattern is the old one.
pub record ReadsText (text : Option (List ℕ)) (old new : GlobPattern) (answer : Bool) : Type 0 where
  pub yes : answer ≡ true → IsSomeAnd text (λ line. IsRead line new)
  pub no : answer ≡ false → ForSome text (λ line. ¬ HasReading line true)
  pub kept : answer ≡ false → new ≡ old

-- The same as Git reads it: each text has a reading.
pub record ReadsTextAsGit (text : Option (List ℕ)) (old new : GlobPattern) (answer : Bool) : Type 0 where
  pub yes : answer ≡ true → IsSomeAnd text (λ line. IsReadAsGit line new)
  pub no : answer ≡ false → text ≡ None
  pub kept : answer ≡ false → new ≡ old

-- The bytes begin with a line, as Git takes it, the rest follows it, and the line's text was read.
pub record TakesLineAsGit (bytes rest : List ℕ) (old new : GlobPattern) (answer : Bool) : Type 0 where
  pub text : Option (List ℕ)
  pub begins : BeginsWithGitLine bytes text rest
  pub reads : ReadsTextAsGit text old new answer

-- The bytes begin with a line, the rest follows it, and the line's text was read.
pub record TakesLine (bytes rest : List ℕ) (old new : GlobPattern) (answer : Bool) : Type 0 where
  pub text : Option (List ℕ)
  pub begins : BeginsWithLine bytes text rest
  pub reads : ReadsText text old new answer
