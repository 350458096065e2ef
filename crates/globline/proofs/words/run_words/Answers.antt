-- What the engine did answers the words.
use Rattle.globline.proofs.lemmas.WordsLemmas.{answers_words, or_answers_words}
use Rattle.globline.proofs.words.run_words.Goals as goal

pub returns-in-Ok-clause-answered : goal.returns-in-Ok-clause-answered
returns-in-Ok-clause-answered g c = λ _. answers_words _ c.in-Some.command _ _ _ c.in-Some.ensures c.in-Ok.ensures.ok

pub returns-in-Err-clause-fault : goal.returns-in-Err-clause-fault
returns-in-Err-clause-fault g c = λ _. or_answers_words _ c.in-Some.command _ _ _ c.in-Some.ensures c.in-Err.ensures.err
