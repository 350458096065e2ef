-- At the end a part is left that no path ends in.
use Rattle.std.proofs.Common.{sym, ◌∙◌}
use Rattle.std.proofs.lemmas.Bool.{false≢true}
use Rattle.glob_lint.specs.Private.Rows.{row_of}
use Rattle.glob_lint.proofs.lemmas.Parts.{part_ends_badly}
use Rattle.glob_lint.proofs.nothing.fault_in.Goals as goal

pub returns : goal.returns
returns c = λ some.
    part_ends_badly c.args.way (row_of c.args.tokens) (row_of c.tokens.left) c.tokens.part
    (λ other. false≢true (sym c.if-may_end.false ∙ c.may_end.ensures.1 other)) c.in_default.ensures c.tokens.invariant
