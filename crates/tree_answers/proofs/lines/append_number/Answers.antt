use Rattle.std.proofs.Common.{◌++◌, sym, ap, ◌∙◌}
use Rattle.std.proofs.lemmas.Fmt.{decimal_digit}
use Rattle.tree_answers.proofs.lines.append_number.Goals as goal

pub returns-then-number-lt10-clause-written : goal.returns-then-number-lt10-clause-written
returns-then-number-lt10-clause-written c = c.in_ok-push.ensures.items ∙ ap (λ digits. c.args.text.now.items ++ digits) (sym (decimal_digit c.args.number c.if-number-lt10.true))
