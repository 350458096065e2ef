-- An index is no `GIX_GLOB_NONE`.
use Rattle.std.proofs.Common.{ℕ, [], ◌∷◌, None, Some, Option, option_map, sym, subst}
use Rattle.glob_lists.specs.Deciding.{Decides}
use Rattle.gix_glob_c.specs.Lists.{entry_list}
use Rattle.gix_glob_c.specs.Parsed.{reading_of_all}
use Rattle.gix_glob_c.specs.Parts.{rules_of}
use Rattle.gix_glob_c.proofs.lemmas.ListsLemmas.{Decides-by_list}
use Rattle.gix_glob_c.proofs.lemmas.Numbers.{unless_none-below}
use Rattle.gix_glob_c.proofs.lists.gix_glob_last_match.Goals as goal

pub returns-in-Some-last_match_under-clause-exact : goal.returns-in-Some-last_match_under-clause-exact
returns-in-Some-last_match_under-clause-exact c = λ lawful path.
    let list = c.args.list.now in
    let last = rw c.reading_of_all.ensures at (rw c.rules_of-rules.ensures at (rw c.in-Some.ensures.1 at (c.in-Some-last_match_under.ensures.exact lawful))) in
    let rules = rules_of (reading_of_all list.patterns.now) c.args.fold in
    subst (λ (o : Option ℕ). Decides (entry_list list ∷ []) c.args.path.now c.args.is_dir rules (option_map (λ (index : ℕ). (0, index)) o))
    (sym (unless_none-below c.in-Some-last_match_under.place c.in-Some-last_match_under.ensures.some))
    (Decides-by_list list c.args.path.now c.args.is_dir rules (Some c.in-Some-last_match_under.place) last)

pub returns-in-None-clause-exact : goal.returns-in-None-clause-exact
returns-in-None-clause-exact c = λ lawful path.
    let list = c.args.list.now in
    let none = rw c.reading_of_all.ensures at (rw c.rules_of-rules.ensures at (rw c.in-Some.ensures.1 at (c.in-None.ensures.exact lawful))) in
    Decides-by_list list c.args.path.now c.args.is_dir (rules_of (reading_of_all list.patterns.now) c.args.fold) None none
