use Rattle.std.proofs.Common.{subst, sym}
use Rattle.glob_attributes.specs.Files.{FileLines}
use Rattle.glob_attributes.proofs.lemmas.EntryLemmas.{FileLines-are, FileLines-only}
use Rattle.glob_attributes.proofs.laws.file_lines_are_these.Goals as goal

pub returns : goal.returns
returns c bytes lines = (FileLines-only bytes lines, λ is. subst (FileLines bytes) (sym is) (FileLines-are bytes))
