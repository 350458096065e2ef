-- The path begins with what names the folder entered last.
use Rattle.std.proofs.Common.{◌≡◌, length, take, subst}
use Rattle.std.proofs.lemmas.Bool.Decides.{Decides-eqb}
use Rattle.std.proofs.lemmas.Slice.Eq.{slice_eq-Decides}
use Rattle.tree_commands.proofs.check_attr.walk.FolderAttributes.keep_common.Goals as goal

pub returns-then-starts_with-clause-begins : goal.returns-then-starts_with-clause-begins
returns-then-starts_with-clause-begins g c =
    let told = c.deref.result.now in
    let path = c.args.path.now in
    subst (λ f. f ≡ take (length f) path) c.deref.ensures.value
    ((slice_eq-Decides Decides-eqb told (take (length told) path) c.starts_with.result c.starts_with.ensures.value).0 c.if-starts_with.true)
