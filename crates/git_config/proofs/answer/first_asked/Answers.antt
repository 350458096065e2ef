-- The values of a key are shown of the entries that have it.
use Rattle.std.proofs.Common.{◌≡◌, sym, subst}
use Rattle.git_config.specs.Answers.{answer_of, asked_of}
use Rattle.git_config.specs.Private.Answering.{shown_from}
use Rattle.git_config.proofs.lemmas.AnswerLemmas.{values_shown}
use Rattle.git_config.proofs.answer.first_asked.Goals as goal

pub returns-in-Values-clause-shown : goal.returns-in-Values-clause-shown
returns-in-Values-clause-shown c manner =
    subst (λ q. shown_from manner (asked_of q) c.args.config.now ≡ answer_of manner (asked_of q) c.args.config.now) (sym c.in-Values.is) (values_shown manner c.in-Values._key.now c.args.config.now)
