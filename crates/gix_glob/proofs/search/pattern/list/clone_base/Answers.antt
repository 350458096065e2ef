use Rattle.std.proofs.Common.{◌≡◌, rules}
use Rattle.std.proofs.lemmas.List.Elements.{same_from_all_zip}
use Rattle.std.proofs.lemmas.Slice.Eq.{bytes_eq-Decides}
use Rattle.gix_glob.proofs.search.pattern.list.clone_base.Goals as goal

pub returns-in_ok-clone-in-Some : goal.returns-in_ok-clone-in-Some
returns-in_ok-clone-in-Some c =
    let same : c.in-Some.base.items ≡ c.in_ok-clone-in-Some.field-0.items = search (rules, same_from_all_zip) in
    rw c.in-Some.is ((bytes_eq-Decides c.in-Some.base.items c.in_ok-clone-in-Some.field-0.items).1 same)
