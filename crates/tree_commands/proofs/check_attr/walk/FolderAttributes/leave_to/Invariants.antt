use Rattle.std.proofs.Common.{◌≡◌, length, take}
use Rattle.tree_commands.specs.Private.AttributeWays.{IsEntered}
use Rattle.tree_commands.proofs.check_attr.walk.FolderAttributes.leave_to.Given as goal

-- the folders on the way to something are entered, fewer and fewer: what names the last of them is how what named the first began
abbrev pub invariant-folders : goal.invariant-folders
invariant-folders g l =
    IsEntered g.Q.Question.files g.Q.Question.asked g.Q.Question.shows g.S.AttributeFolders.shows l.self
    × (l.self.folder.items ≡ take (length l.self.folder.items) l.fn.self.folder.items)

abbrev pub decreases-folders : goal.decreases-folders
decreases-folders g l = length l.self.folder.items
