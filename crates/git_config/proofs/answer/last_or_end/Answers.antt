-- From the last entry of a key on, that one alone is shown.
use Rattle.git_config.proofs.lemmas.AnswerLemmas.{last_shown}
use Rattle.git_config.proofs.answer.last_or_end.Goals as goal

pub returns-in-Some-clause-shown : goal.returns-in-Some-clause-shown
returns-in-Some-clause-shown c manner = last_shown manner c.args.key.now c.args.config.now c.in-Some.place c.in-Some.ensures
