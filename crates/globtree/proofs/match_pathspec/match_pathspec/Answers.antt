use Rattle.std.proofs.Common.{◌≡◌, ℕ, List, length, ap, refl, subst, ◌∙◌}
use Rattle.pathspecs.specs.Reading.{AreRead, counted}
use Rattle.globtree.specs.Answers.{bytes_of}
use Rattle.globtree.proofs.lemmas.AnswerLemmas.{answers_by}
use Rattle.globtree.proofs.match_pathspec.match_pathspec.Goals as goal

pub returns-clause-answered : goal.returns-clause-answered
returns-clause-answered g c =
    let told : bytes_of c.in_ok-words.words.items ≡ bytes_of c.args.asked.pathspecs.items = c.in_ok-words.ensures ∙ ap bytes_of c.deref.ensures.value in
    let settings = counted c.in_ok-settings.settings (length c.deref-2.result.now) in
    answers_by c.args.asked c.status_by.result _ _ _ _ _ c.answer_records.result c.in_ok-is_any.is_any c.answer_records.ensures.ok c.in_ok-is_any.ensures c.status_by.ensures
    settings c.in_ok-standpoint.ensures
    (subst (λ (words : List (List ℕ)). AreRead c.in_ok-standpoint.standpoint settings words c.in-Ok.list) (ap bytes_of c.deref-2.ensures.value ∙ told) c.in-Ok.ensures.read)
    (ap bytes_of c.deref-3.ensures.value ∙ told) (refl, c.ended_by.ensures)
