-- The lists are as before, and each line that was told so far turns the answer.
use Rattle.std.proofs.Common.{◌≡◌, All}
use Rattle.glob_explain.specs.Causes.{seen}
use Rattle.glob_explain.specs.Trying.{Turns}
use Rattle.glob_explain.proofs.near.Search.tried.Given as goal

abbrev pub invariant-found : goal.invariant-found
invariant-found l = record {
  can : (goal.iterator-found).can_next l.near-iterator;
  finite : (goal.iterator-found).is_finite l.near-iterator;
  same : seen l.lists ≡ seen l.fn.lists;
  told : All (λ near. Turns (seen l.fn.lists) l.fn.self.rules l.fn.self.path.now near.pair near.line.items) l.told.items;
}
