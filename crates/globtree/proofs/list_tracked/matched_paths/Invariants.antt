use Rattle.std.proofs.Common.{ℕ, List, map, take}
use Rattle.std.specs.Borrow.{Bor}
use Rattle.git_index.specs.Entries.{tracked}
use Rattle.globtree.specs.Listed.{AreMatched}
use Rattle.globtree.proofs.list_tracked.matched_paths.Given as goal

-- those among the entries so far
abbrev pub invariant-entries : goal.invariant-entries
invariant-entries l = AreMatched l.list (map tracked (take l.entry-index l.entries)) (map (λ (path : Bor (List ℕ)). path.now) l.paths.items)
