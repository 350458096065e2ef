use Rattle.std.proofs.Common.{◌+◌, List, ℕ, Some, sym, ap, ◌∙◌}
use Rattle.std.proofs.lemmas.List.{take_rest}
use Rattle.std.specs.List.{list_any}
use Rattle.git_config.specs.Words.{is_equals}
use Rattle.git_config.proofs.lemmas.PlaceLemmas.{after-found, any-found, any-none}
use Rattle.git_config.proofs.lemmas.ReadLemmas.{if_false, if_true}
use Rattle.git_config.proofs.words.split_word.Goals as goal

pub returns-in-Some-clause-value : goal.returns-in-Some-clause-value
returns-in-Some-clause-value c =
    let word = c.args.word.now in let place = c.in-Some.place in let is = sym c.first_equals.ensures ∙ c.in-Some.is in
    ap (λ (l : List ℕ). Some l) (take_rest word (place + 1) ∙ after-found is_equals word place is)
    ∙ sym (if_true (list_any is_equals word) _ _ (any-found is_equals word place is))

pub returns-in-None-clause-value : goal.returns-in-None-clause-value
returns-in-None-clause-value c =
    let word = c.args.word.now in
    sym (if_false (list_any is_equals word) _ _ (any-none is_equals word (sym c.first_equals.ensures ∙ c.in-None.is)))
