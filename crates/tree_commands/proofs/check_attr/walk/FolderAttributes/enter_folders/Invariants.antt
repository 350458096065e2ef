use Rattle.tree_commands.specs.Private.AttributeWays.{IsBefore, IsEntered}
use Rattle.tree_commands.proofs.check_attr.walk.FolderAttributes.enter_folders.Given as goal

-- the folders on the way to what stands before a place are entered
abbrev pub invariant-bytes : goal.invariant-bytes
invariant-bytes g l =
    IsEntered g.Q.Question.files g.Q.Question.asked g.Q.Question.shows g.S.AttributeFolders.shows l.self
    × IsBefore l.self.folder.items l.path l.place
