-- What a run does to the bytes of its readers and of its writer. `old` and `new` are what a reader has left, or what a writer
-- holds, before and after; a real file tells neither: it is `None`, and nothing is said of it.
use Rattle.std.specs.Prelude.{List, ℕ, take, Option}
use Rattle.std.specs.Io.KnownBytes.{Appends, Consumes, IsAtEnd}

-- the reader gave these bytes, and has no more
pub record ReadsWhole (old new : Option (List ℕ)) (bytes : List ℕ) : Type 0 where
  pub consumed : Consumes old new bytes
  pub ended : IsAtEnd new

-- the writer took so many bytes of the text's front, all of them perhaps, and nothing else
pub record AppendsFront (old new : Option (List ℕ)) (text : List ℕ) : Type 0 where
  pub count : ℕ
  pub appended : Appends old new (take count text)

-- Some input was read, and a text that is allowed for it was written: `IsRead` says what reading an input is, `IsText` which
-- texts are allowed for it, and `Written` what writing a text is.
pub record Run {I : Type 0} (IsRead : I → Type 0) (IsText : I → List ℕ → Type 0) (Written : List ℕ → Type 0) : Type 0 where
  pub input : I
  pub read : IsRead input
  pub text : List ℕ
  pub allowed : IsText input text
  pub written : Written text
