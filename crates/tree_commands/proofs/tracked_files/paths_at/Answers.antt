-- The paths of the entries so far, and that of the next one if it lies there.
use Rattle.std.proofs.Common.{◌≡◌, ◌+◌, ◌∷◌, ◌++◌, [], List, ap, map, sym, take, ◌∙◌}
use Rattle.std.proofs.lemmas.List.{map-append, take_more}
use Rattle.std.proofs.lemmas.List.Elements.{filter-append}
use Rattle.std.specs.Borrow.{Bor}
use Rattle.std.specs.List.{filter}
use Rattle.git_index.specs.Entries.{Tracked, tracked}
use Rattle.tree_commands.specs.TrackedFiles.{lies_at, paths_at}
use Rattle.tree_commands.proofs.tracked_files.paths_at.Goals as goal

pub entries-preserved : goal.entries-preserved
entries-preserved c =
    let lies = lies_at c.args.path.now c.args.is_told_folder in
    let there : List Tracked → List (List _) = paths_at c.args.path.now c.args.is_told_folder in
    let first = map tracked (take c.entries.entry-index c.args.entries.now) in
    let next = tracked c.entry-item.result ∷ [] in
    let both : there (first ++ next) ≡ there first ++ there next =
    ap (map (λ (entry : Tracked). entry.path)) (filter-append lies first next) ∙ map-append (λ (entry : Tracked). entry.path) (filter lies first) (filter lies next) in
    let more : map tracked (take (c.entries.entry-index + 1) c.args.entries.now) ≡ first ++ next =
    ap (map tracked) (take_more c.args.entries.now c.entries.entry-index c.entry-item.result c.entries-test.true ∙ ap (λ e. take c.entries.entry-index c.args.entries.now ++ e ∷ []) (sym c.entry-item.is))
    ∙ map-append tracked (take c.entries.entry-index c.args.entries.now) (c.entry-item.result ∷ []) in
    c.in_ok-push_lying.ensures ∙ ap (λ paths. paths ++ there next) c.entries.invariant ∙ sym both ∙ sym (ap there more)
