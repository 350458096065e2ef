-- A clone of a vector of bytes equals it.
use Rattle.std.proofs.Common.{◌≡◌, get_or, rules}
use Rattle.std.proofs.lemmas.List.Elements.{same_from_all_zip}
use Rattle.std.proofs.lemmas.Slice.Eq.{bytes_eq-Decides}
use Rattle.faults.proofs.refused_memory.copies.copy_of.Goals as goal

pub clone-requires : goal.clone-requires
clone-requires c = λ k d below copy is.
    let label = (get_or c.args.list.now.patterns.items k d).value.items in
    let same : label ≡ copy.items = search (rules, same_from_all_zip) in
    (bytes_eq-Decides label copy.items).1 same
