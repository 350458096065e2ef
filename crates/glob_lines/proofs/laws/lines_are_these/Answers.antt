use Rattle.std.proofs.Common.{subst, sym}
use Rattle.glob_lines.specs.Lines.{EndsInFeed, Lines}
use Rattle.glob_lines.specs.Equations.Lines.{lines_of}
use Rattle.glob_lines.proofs.lemmas.LinesLemmas.{Lines-are, Lines-only, TellsLines-lines_of}
use Rattle.glob_lines.proofs.laws.lines_are_these.Goals as goal

pub returns : goal.returns
returns c bytes texts =
    (Lines-only EndsInFeed lines_of TellsLines-lines_of bytes texts, λ is. subst (Lines EndsInFeed bytes) (sym is) (Lines-are EndsInFeed lines_of TellsLines-lines_of bytes))
