-- What ends in a slash is what stands before it, and the slash.
use Rattle.std.proofs.Common.{inr, length, take, ◌-◌, codes}
use Rattle.std.proofs.lemmas.Bool.Decides.{Decides-eqb}
use Rattle.std.proofs.lemmas.Slice.Eq.{ends_is}
use Rattle.gix_glob_c.proofs.lists.is_folder.Goals as goal

pub returns-else-is_empty-clause-folder : goal.returns-else-is_empty-clause-folder
returns-else-is_empty-clause-folder c = λ ends.
    let base = c.args.base.now in
    inr (record { front = take (length base - 1) base; joined = (ends_is Decides-eqb base (codes "/") c.ends_with.result c.ends_with.ensures.value).0 ends })
