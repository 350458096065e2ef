use Rattle.std.proofs.Common.{map}
use Rattle.std.specs.Vec.{vec_items}
use Rattle.pathspecs.specs.Private.Asking.{AreParted}
use Rattle.pathspecs.proofs.lists.PathspecList.new.Given as goal

-- the elements so far are parted
abbrev pub invariant-elements : goal.invariant-elements
invariant-elements l = AreParted l.element-items l.place (map vec_items l.texts.items) l.others.items
