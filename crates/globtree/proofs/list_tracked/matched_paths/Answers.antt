use Rattle.std.proofs.Common.{◌≡◌, ◌+◌, ◌∷◌, ◌++◌, [], ℕ, List, ap, map, subst, sym, take, ◌∙◌}
use Rattle.std.proofs.lemmas.List.{map-append, take_more}
use Rattle.std.specs.Borrow.{Bor}
use Rattle.git_index.specs.Entries.{Tracked, tracked}
use Rattle.globtree.specs.Listed.{AreMatched}
use Rattle.globtree.proofs.lemmas.ListedLemmas.{one_more}
use Rattle.globtree.proofs.list_tracked.matched_paths.Goals as goal

pub entries-preserved : goal.entries-preserved
entries-preserved c =
    let first = map tracked (take c.entries.entry-index c.args.entries.now) in
    let next = tracked c.entry-item.result ∷ [] in
    let old = map (λ (path : Bor (List ℕ)). path.now) c.entries.paths.items in
    let new = map (λ (path : Bor (List ℕ)). path.now) c.push_matched.new.paths.items in
    let more : map tracked (take (c.entries.entry-index + 1) c.args.entries.now) ≡ first ++ next =
    ap (map tracked) (take_more c.args.entries.now c.entries.entry-index c.entry-item.result c.entries-test.true ∙ ap (λ e. take c.entries.entry-index c.args.entries.now ++ e ∷ []) (sym c.entry-item.is))
    ∙ map-append tracked (take c.entries.entry-index c.args.entries.now) (c.entry-item.result ∷ []) in
    subst (λ (entries : List Tracked). AreMatched c.args.list.now entries new) (sym more) (one_more c.args.list.now first (tracked c.entry-item.result) old new c.entries.invariant c.in_ok-push_matched.ensures)
