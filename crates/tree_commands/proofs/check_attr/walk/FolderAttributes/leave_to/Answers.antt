-- What names the last folder is no longer than what it and the path have alike.
use Rattle.std.proofs.Common.{◌≤◌, length, take, ap, sym, ◌∙◌, arith}
use Rattle.std.proofs.lemmas.List.{take-take}
use Rattle.tree_commands.proofs.check_attr.walk.FolderAttributes.leave_to.Goals as goal

pub returns-clause-begins : goal.returns-clause-begins
returns-clause-begins g c =
    let self = c.folders.self in
    let path = c.args.path.now in
    let count = length self.folder.items in
    let alike = c.common_length-alike.result in
    let few : count ≤ alike = let past = c.folders-test.false in omega (arith, past, ap length c.as_slice.ensures.value) in
    let told = c.deref.result.now in
    c.folders.invariant.1 ∙ ap (take count) (sym c.deref.ensures.value) ∙ sym (take-take count alike told few) ∙ ap (take count) c.common_length-alike.ensures.alike ∙ take-take count alike path few
