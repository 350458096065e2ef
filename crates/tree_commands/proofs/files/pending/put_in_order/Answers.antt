use Rattle.std.proofs.Common.{◌≡◌, [], ◌∷◌, ◌++◌, ℕ, List, map, refl, sym, ap, subst, ◌∙◌}
use Rattle.std.specs.Vec.{vec_items}
use Rattle.std.proofs.lemmas.Bool.{false≢true}
use Rattle.std.proofs.lemmas.List.{map_push}
use Rattle.std.proofs.lemmas.List.Sorted.{IsPermutation-sym}
use Rattle.tree_commands.specs.declared.files.pending.Pending.{Pending}
use Rattle.tree_commands.proofs.lemmas.PuttingLemmas.{IsPutting, permuted, putting_begins, putting_puts, putting_skips, rising}
use Rattle.tree_commands.proofs.files.pending.put_in_order.Goals as goal

pub paths-init : goal.paths-init
paths-init c =
    let old = c.args.paths.items in
    let new = c.sort_unstable.new.self.items in
    let moved = c.sort_unstable.ensures.permutation in
    putting_begins (map vec_items old) (map vec_items new) c.args.list_count c.args.is_below c.args.pending.now.items (rising vec_items new c.sort_unstable.ensures.sorted)
    (λ path. (permuted vec_items old new moved path, permuted vec_items new old (IsPermutation-sym old new moved) path))

pub paths-preserved-in-Continue-1 : goal.paths-preserved-in-Continue-1
paths-preserved-in-Continue-1 c =
    let paths = map vec_items c.args.paths.items in
    let left = map vec_items c.pop.new.self.items in
    let next : Pending = record { path = c.in-Some.path; list_count = c.args.list_count; is_below = c.args.is_below } in
    let popped = ap (map vec_items) c.in-Some.ensures.items ∙ map_push vec_items c.pop.new.self.items c.in-Some.path in
    let it = subst (λ ls. IsPutting paths ls c.args.list_count c.args.is_below c.args.pending.now.items c.paths.pending.items) popped c.paths.invariant in
    subst (IsPutting paths left c.args.list_count c.args.is_below c.args.pending.now.items) (sym c.in_ok-push.ensures.items)
    (putting_puts paths left c.args.list_count c.args.is_below c.args.pending.now.items c.paths.pending.items next refl refl it
    (λ ends. false≢true (sym c.if-not-is_last.true ∙ c.is_last.ensures.1 (rw (c.deref.ensures.value, c.deref-in-Some.ensures.value) ends))))

pub paths-preserved : goal.paths-preserved
paths-preserved c =
    let paths = map vec_items c.args.paths.items in
    let left = map vec_items c.pop.new.self.items in
    let next : Pending = record { path = c.in-Some.path; list_count = c.args.list_count; is_below = c.args.is_below } in
    let popped = ap (map vec_items) c.in-Some.ensures.items ∙ map_push vec_items c.pop.new.self.items c.in-Some.path in
    let it = subst (λ ls. IsPutting paths ls c.args.list_count c.args.is_below c.args.pending.now.items c.paths.pending.items) popped c.paths.invariant in
    putting_skips paths left c.args.list_count c.args.is_below c.args.pending.now.items c.paths.pending.items next refl refl it
    (rw (c.deref.ensures.value, c.deref-in-Some.ensures.value) at (c.is_last.ensures.0 c.if-not-is_last.false))
