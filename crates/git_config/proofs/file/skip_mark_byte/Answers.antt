use Rattle.std.proofs.Common.{sym, ◌∙◌}
use Rattle.git_config.specs.declared.fault.Wrong.TheVariants.{Mark}
use Rattle.git_config.specs.Grammar.{line_behind}
use Rattle.git_config.proofs.lemmas.ReadLemmas.{at_end, failed, fails_byte, goes_byte}
use Rattle.git_config.proofs.lemmas.TurnLemmas.{mark-byte, mark-fails}
use Rattle.git_config.proofs.file.skip_mark_byte.Goals as goal

pub returns-in_default : goal.returns-in_default
returns-in_default c = λ place next is end. at_end place c.in_default.ensures ∙ end

pub returns-then-byte-wanted : goal.returns-then-byte-wanted
returns-then-byte-wanted c = λ place next is end.
    let line = c.args.text.now.line in
    fails_byte place Mark (line_behind line c.in-Some.byte) c.in-Some.ensures (mark-fails line c.in-Some.byte c.args.wanted place next is c.if-byte-wanted.true)
    ∙ failed Mark (sym c.in-Some.ensures.line)

pub returns : goal.returns
returns c = λ place next is end.
    goes_byte place next c.in-Some.ensures (mark-byte c.args.text.now.line c.in-Some.byte c.args.wanted place next is c.if-byte-wanted.false)
