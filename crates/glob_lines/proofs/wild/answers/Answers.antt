-- A value's answer is the next line of the text.
use Rattle.std.proofs.Common.{◌≡◌, rules}
use Rattle.glob_lines.specs.Equations.Lines.{lines_of}
use Rattle.glob_lines.proofs.lemmas.LinesLemmas.{IsWrittenUpTo-all, IsWrittenUpTo-more, IsWrittenUpTo-none}
use Rattle.glob_lines.proofs.lemmas.ValuesLemmas.{answer_written}
use Rattle.glob_lines.proofs.wild.answers.Goals as goal

pub loop-value-init : goal.loop-value-init
loop-value-init c =
    let same : lines_of c.into_iter-value-iterator.result.rest.now ≡ lines_of c.args.input.now = cc in
    rw same (IsWrittenUpTo-none _ _ _ c.new-text.ensures.items)

pub loop-value-preserved : goal.loop-value-preserved
loop-value-preserved c =
    let answered = answer_written c.args.pattern.now c.args.mode c.in-Some.value.now c.wildmatch.result c.wildmatch.ensures in
    IsWrittenUpTo-more _ _ _ _ _ _ _ _ c.loop-value.invariant c.in-Some.ensures.steps answered (search rules)

pub returns : goal.returns
returns c = IsWrittenUpTo-all _ _ _ _ c.loop-value.invariant c.in-None.ensures.steps.0
