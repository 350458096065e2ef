-- As Git reads it, a text whose front is not compared apart is matched as a whole; and a part of a path takes no more than the whole path may.
use Rattle.std.proofs.Common.{rules, ◌≡◌, ◌↔◌, ⊎_elim, true, false, not, IsTrue, Some, length, drop, sym, ap, subst, ◌∙◌}
use Rattle.std.proofs.lemmas.Bool.{cases_Bool, false≢true}
use Rattle.std.proofs.lemmas.List.{take_rest}
use Rattle.glob_matcher.specs.Matching.{SplitsBy}
use Rattle.glob_patterns.specs.GitPaths.{AnswersAsGit, git_way}
use Rattle.glob_patterns.specs.Patterns.{is_for_directories, looks_at_name}
use Rattle.glob_patterns.specs.RepositoryPaths.{subject}
use Rattle.glob_patterns.proofs.lemmas.PathLimits.{length-from, pattern_look_limit-le, pattern_step_limit-le, within_more}
use Rattle.glob_patterns.proofs.lemmas.WholeFronts.{subject_whole}
use Rattle.glob_patterns.proofs.pattern.view.PatternView.answers.Goals.{else-contains-via-then-contains+else-ne, else-contains-via-else-contains}
use Rattle.glob_patterns.proofs.pattern.view.PatternView.answers.Goals as goal

pub returns-clause-by_git : goal.returns-clause-by_git
returns-clause-by_git g c = λ lawful as_git.
    let text = c.args.self.text.now in
    let mode = c.args.self.mode in
    let path = c.args.asked.path.now in
    let start = c.args.asked.basename_start_pos in
    let way = git_way c.args.asked.case in
    let exact = c.decide.ensures.exact lawful in
    let dropped : IsTrue c.decide.result ↔ SplitsBy (drop c.subject_start-start.result path) text way = rw (take_rest, c.way-way.ensures.by_git as_git) at exact in
    let told = subst (λ v. IsTrue c.decide.result ↔ SplitsBy v text way) c.subject_start-start.ensures.subject dropped in
    let directory : IsTrue (is_for_directories mode) → c.args.asked.is_dir ≡ Some true =
    elim c.else-contains.branch [
      | else-contains-via-then-contains+else-ne w ↦ λ is. search (rules, w)
      | else-contains-via-else-contains w ↦ λ is. search (rules, w)
    ] in
    ⊎_elim
    (λ (named : looks_at_name mode ≡ true). (
      λ yes. record {
        directory = directory;
        by_name = λ _. told.0 yes;
        by_path = λ other. absurd (let no : not true ≡ true = sym (ap not named) ∙ other in false≢true no);
      },
      λ (h : AnswersAsGit text mode path start c.args.asked.is_dir c.args.asked.case). told.1 (h.by_name named),
    ))
    (λ (other : looks_at_name mode ≡ false).
    let whole = c.in_default.ensures.none lawful as_git other path way in
    let all : subject mode path start ≡ path = subject_whole mode path start other in (
      λ yes. record {
        directory = directory;
        by_name = λ named. absurd (false≢true (sym other ∙ named));
        by_path = λ _. whole.1 (subst (λ v. SplitsBy v text way) all (told.0 yes));
      },
      λ (h : AnswersAsGit text mode path start c.args.asked.is_dir c.args.asked.case). told.1 (subst (λ v. SplitsBy v text way) (sym all) (whole.0 (h.by_path (ap not other)))),
    ))
    (cases_Bool (looks_at_name mode))

pub returns-clause-steps : goal.returns-clause-steps
returns-clause-steps g c =
    within_more _ _ _ _ c.decide.ensures.steps
    (pattern_step_limit-le (length c.args.self.text.now) _ _ (length-from c.args.asked.path.now c.subject_start-start.result))

pub returns-clause-looks : goal.returns-clause-looks
returns-clause-looks g c =
    within_more _ _ _ _ c.decide.ensures.looks
    (pattern_look_limit-le (length c.args.self.text.now) _ _ (length-from c.args.asked.path.now c.subject_start-start.result))
