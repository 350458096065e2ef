-- This path matches.
use Rattle.std.proofs.Common.{◌≡◌, ◌<◌, refl, sym, ap, subst, ◌∙◌, arith, length, slice_index_or}
use Rattle.git_config.specs.Includes.{MatchesFolder}
use Rattle.git_config.proofs.conditions.matches_one.Goals as goal

pub returns-then-matches_folder : goal.returns-then-matches_folder
returns-then-matches_folder c =
    let items = c.deref-path-items.ensures.value in
    let lt : c.loop-path.path-index < length c.args.around.now.git_folders.items = omega (arith, ap length items, c.loop-path-test.true) in
    let is : slice_index_or c.args.around.now.git_folders.items c.loop-path.path-index c.path-item.result ≡ c.path-item.result =
    sym (c.path-item.is ∙ ap (λ xs. slice_index_or xs c.loop-path.path-index c.path-item.result) items) in
    let matches = subst (λ l. MatchesFolder c.args.fold (c.args.split.now.front.items, c.args.split.now.pattern.items) l) c.deref.ensures.value (c.matches_folder.ensures.0 c.if-matches_folder.true) in
    (λ _. (c.loop-path.path-index, c.path-item.result, lt, is, matches), λ _. refl)
