use Rattle.std.proofs.Common.{◌≡◌, [], take}
use Rattle.std.specs.List.{flat_map}
use Rattle.gix_glob_c.specs.declared.lists.GlobList.{GlobList}
use Rattle.gix_glob_c.proofs.tree.reading_of_lists.Given as goal

-- the lists so far have no patterns
abbrev pub invariant-loop-i : goal.invariant-loop-i
invariant-loop-i l = flat_map (λ (list : GlobList). list.patterns.now) (take l.i l.lists) ≡ []
