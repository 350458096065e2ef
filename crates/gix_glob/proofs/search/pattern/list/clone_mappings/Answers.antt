use Rattle.std.proofs.Common.{◌≡◌, ◌<◌, length, get_or, ap, arith}
use Rattle.gix_glob.proofs.lemmas.Copies.{equal_mappings, pointwise-next}
use Rattle.gix_glob.proofs.search.pattern.list.clone_mappings.Goals as goal

pub mappings-preserved : goal.mappings-preserved
mappings-preserved g c =
    let inside : c.mappings.mapping-index < length c.args.mappings.now.items = omega (arith, ap length c.deref-mapping-items.ensures.value) in
    let item : c.mapping-item.result ≡ get_or c.args.mappings.now.items c.mappings.mapping-index c.mapping-item.result = rw c.deref-mapping-items.ensures.value at c.mapping-item.is in
    rw c.in_ok-push.ensures.items (pointwise-next (equal_mappings g.V.PartialEq.eq) c.args.mappings.now.items c.mappings.copies.items c.mappings.mapping-index c.mapping-item.result c.in_ok-clone.field-0 inside item c.mappings.invariant c.in_ok-clone.ensures)
