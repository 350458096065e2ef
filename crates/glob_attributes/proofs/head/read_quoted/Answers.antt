-- What was read behind the first quote tells.
use Rattle.std.proofs.Common.{ap, ◌∙◌}
use Rattle.std.proofs.lemmas.Result.{IfOk-weaker}
use Rattle.glob_attributes.specs.Equations.Heads.{quoted_from}
use Rattle.glob_attributes.proofs.lemmas.SpellingLemmas.{no_quote, quoted_or_none}
use Rattle.glob_attributes.proofs.lemmas.StartLemmas.{starts_with-byte}
use Rattle.glob_attributes.proofs.head.read_quoted.Goals as goal

pub returns-in-Some : goal.returns-in-Some
returns-in-Some c =
    let text = c.args.text.now in
    IfOk-weaker c.read_units.result _ _
    (λ read is. quoted_or_none text (starts_with-byte 34 text ∙ c.in-Some.ensures.cases.0) read (is ∙ ap (quoted_from 0) c.in-Some.ensures.cases.1))
    c.read_units.ensures

pub returns-in-None : goal.returns-in-None
returns-in-None c = let text = c.args.text.now in λ head rest. no_quote text (starts_with-byte 34 text ∙ c.in-None.ensures.cases) head rest
