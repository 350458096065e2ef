use Rattle.std.proofs.Common.{◌≡◌, ◌<◌, ℕ, List, length, map, sym, ap, subst, ◌∙◌, arith}
use Rattle.std.proofs.lemmas.Bool.{false≢true}
use Rattle.git_index.specs.Entries.{tracked}
use Rattle.git_index.specs.Private.Search.{Continues, IsFirstFrom, path_at}
use Rattle.git_index.proofs.lemmas.Search.{below_is_first, first_has_below}
use Rattle.git_index.specs.Folding.{folded}
use Rattle.git_index.specs.Private.Folds.{bare}
use Rattle.git_index.proofs.lemmas.Folding.{folded_slash}
use Rattle.git_index.proofs.lemmas.Sorted.{bare_below, below_bare, length_same, path_here}
use Rattle.git_index.proofs.sorted.has_below.Goals as goal

pub returns-then-first-sorted : goal.returns-then-first-sorted
returns-then-first-sorted c =
    let entries = map tracked c.args.sorted.now in
    let folder = c.args.folder.now in
    let first = c.first_from-first.result in
    let found = subst (λ (w : List ℕ). IsFirstFrom (map bare entries) w first) (folded_slash folder) c.first_from-first.ensures in
    (λ f. absurd (false≢true f), λ has. absurd (omega (arith, (below_is_first (map bare entries) (folded folder) first c.requires found (bare_below entries folder has)).0, length_same c.args.sorted.now)))

pub returns : goal.returns
returns c =
    let entries = map tracked c.args.sorted.now in
    let folder = c.args.folder.now in
    let first = c.first_from-first.result in
    let found = subst (λ (w : List ℕ). IsFirstFrom (map bare entries) w first) (folded_slash folder) c.first_from-first.ensures in
    let at : path_at (map bare entries) first ≡ folded c.deref.result.now = path_here c.args.sorted.now first c.index-sorted-first.result (omega arith) ∙ ap folded (sym c.deref.ensures.value) in
    let lt : first < length (map bare entries) = omega (arith, length_same c.args.sorted.now) in (
      λ yes. below_bare entries folder (first_has_below (map bare entries) (folded folder) first lt (subst (λ (w : List ℕ). Continues w (folded folder)) (sym at) (c.is_below.ensures.0 yes))),
      λ has. c.is_below.ensures.1 (subst (λ (w : List ℕ). Continues w (folded folder)) at (below_is_first (map bare entries) (folded folder) first c.requires found (bare_below entries folder has)).1),
    )
