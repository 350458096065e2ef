-- What names the last folder is no longer than what it and the path have alike.
use Rattle.std.proofs.Common.{◌≡◌, ◌≤◌, length, take, ap, sym, subst, ◌∙◌, arith}
use Rattle.std.proofs.lemmas.List.{take-take}
use Rattle.glob_trees.specs.Private.Entered.{IsUnderWay}
use Rattle.glob_trees.proofs.lemmas.InFolder.{under_at}
use Rattle.glob_trees.proofs.entered.Entered.leave_to.Goals as goal

pub returns-clause-under : goal.returns-clause-under
returns-clause-under g c =
    let shows = g.S.FolderLists.shows g.T.Pattern.Seen in
    let self = c.folders.self in
    let path = c.args.path.now in
    let count = length self.folder.items in
    let alike = c.common_length-alike.result in
    let few : count ≤ alike = let past = c.folders-test.false in omega (arith, past, ap length c.as_slice.ensures.value) in
    let told = c.deref.result.now in
    let begins : self.folder.items ≡ take count path =
    c.folders.invariant.3 ∙ ap (take count) (sym c.deref.ensures.value) ∙ sym (take-take count alike told few) ∙ ap (take count) c.common_length-alike.ensures.alike ∙ take-take count alike path few in
    subst (λ k. IsUnderWay shows g.S.FolderLists.gave g.T.Pattern.seen self (take k path)) (sym (ap length c.as_slice-2.ensures.value)) (under_at shows g.S.FolderLists.gave g.T.Pattern.seen self path count begins c.folders.invariant.0)
