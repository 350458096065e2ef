use Rattle.std.proofs.Common.{◌≡◌, length, take}
use Rattle.glob_trees.specs.Private.Entered.{IsSomewhere, KeepsOn}
use Rattle.glob_trees.proofs.entered.Entered.leave_to.Given as goal

-- the folders on the way to something are entered, fewer and fewer: what names the last of them is how what named the first began
abbrev pub invariant-folders : goal.invariant-folders
invariant-folders g l =
    IsSomewhere (g.S.FolderLists.shows g.T.Pattern.Seen) g.S.FolderLists.gave g.T.Pattern.seen l.self
    × KeepsOn (g.S.FolderLists.shows g.T.Pattern.Seen) l.fn.self l.self
    × (l.self.source ≡ l.fn.self.source)
    × (l.self.folder.items ≡ take (length l.self.folder.items) l.fn.self.folder.items)

abbrev pub decreases-folders : goal.decreases-folders
decreases-folders g l = length l.self.folder.items
