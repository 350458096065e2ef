use Rattle.glob_lines.specs.Equations.Lines.{lines_of}
use Rattle.glob_lines.specs.Values.{WritesAnswer}
use Rattle.glob_lines.proofs.lemmas.LinesLemmas.{IsWrittenUpTo}
use Rattle.glob_lines.proofs.wild.answers.Given as goal

-- the values so far have their lines in the text
abbrev pub invariant-loop-value : goal.invariant-loop-value
invariant-loop-value l = IsWrittenUpTo (WritesAnswer l.pattern l.mode) (lines_of l.input) (lines_of l.value-iterator.rest.now) l.text.items
