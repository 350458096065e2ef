use Rattle.std.proofs.Common.{take}
use Rattle.std.specs.List.{Contains}
use Rattle.glob_trees.specs.Private.Entered.{IsUnderWay, KeepsOn}
use Rattle.glob_trees.specs.Ways.{GivesOnly, folders_to}
use Rattle.glob_trees.proofs.entered.Entered.find_elsewhere.Given as goal

-- the folders on the way to what stands before the place are entered, and no other one was asked for
abbrev pub invariant-bytes : goal.invariant-bytes
invariant-bytes g l =
    IsUnderWay (g.S.FolderLists.shows g.T.Pattern.Seen) g.S.FolderLists.gave g.T.Pattern.seen l.self (take l.place l.path.bytes)
    × KeepsOn (g.S.FolderLists.shows g.T.Pattern.Seen) l.fn.self l.self
    × GivesOnly (Contains (folders_to (take l.place l.path.bytes))) (g.S.FolderLists.gave l.fn.self.source) (g.S.FolderLists.gave l.self.source)
