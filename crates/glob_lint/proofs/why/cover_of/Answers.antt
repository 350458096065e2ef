-- What matches a path stands in the lists.
use Rattle.std.proofs.Common.{◌≡◌, Some, subst}
use Rattle.std.specs.Prelude.{slice_get}
use Rattle.glob_lint.specs.Seen.{seen}
use Rattle.glob_lint.proofs.lemmas.Held.{stands}
use Rattle.glob_lint.proofs.why.cover_of.Goals as goal

pub best_cover-requires-clause-there : goal.best_cover-requires-clause-there
best_cover-requires-clause-there c = λ x by at.
    let found = subst (λ found. slice_get found x ≡ Some by) c.deref-3.ensures.value at in
    let path = c.in-Some-new.path in
    stands (seen c.args.asked.now.lists.now) by c.args.asked.now.rules path.bytes path.is_dir (c.in_ok-matches_into.ensures.each x by found)
