-- The path lies in the folder entered last.
use Rattle.std.proofs.Common.{length, ap, sym, ◌∙◌, arith}
use Rattle.glob_trees.specs.Ways.{folders_to}
use Rattle.tree_commands.proofs.lemmas.AttributePaths.{gone_to}
use Rattle.tree_commands.proofs.lemmas.AttributeSteps.{level_past}
use Rattle.tree_commands.proofs.check_attr.walk.FolderAttributes.go_to.Goals as goal

pub returns-then-end-as_slice : goal.returns-then-end-as_slice
returns-then-end-as_slice g c =
    let count = length c.keep_common.new.self.folder.items in
    gone_to g.Q.Question.files g.Q.Question.asked g.Q.Question.shows g.S.AttributeFolders.shows _ c.keep_common.ensures.entered c.args.path.now
    (level_past c.args.path.now count (λ place past. c.end_of_folders-end.ensures.none place (let test = c.if-end-as_slice.true in omega (arith, past, test, ap length c.as_slice.ensures.value)))
    ∙ ap folders_to (sym c.keep_common.ensures.begins))
