-- No folder stands there, or it is entered.
use Rattle.std.proofs.Common.{◌≡◌, length, take, true, refl, sym, subst, ◌∙◌}
use Rattle.std.proofs.lemmas.Option.{same_Some, slice_get_read}
use Rattle.tree_commands.specs.declared.check_attr.walk.FoundFolder.{FoundFolder}
use Rattle.tree_commands.proofs.lemmas.AttributeSteps.{not_there, place_inside}
use Rattle.tree_commands.proofs.check_attr.walk.FolderAttributes.enter.Goals as goal

pub returns-then-not-index-clause-none : goal.returns-then-not-index-clause-none
returns-then-not-index-clause-none g c =
    let knows = c.in_ok-known.ensures.knows in
    let e = knows.walks.entered in
    let items = c.place_of.new.self.found.items in
    let inside = place_inside _ _ _ _ _ _ _ _ _ _ e _ c.in_ok-known.known knows.here in
    let there = slice_get_read items (length items) c.in_ok-known.known c.index.result.now refl inside c.index.ensures in
    λ _. (c.in_ok-known.ensures.folder, not_there _ _ _ _ _ _ _ _ _ _ e (take c.args.place c.args.path.now) c.in_ok-known.known knows.here c.index.result.now there c.if-not-index.true)

pub put_on_way-requires-clause-there : goal.put_on_way-requires-clause-there
put_on_way-requires-clause-there g c =
    let knows = c.in_ok-known.ensures.knows in
    let e = knows.walks.entered in
    let items = c.place_of.new.self.found.items in
    let inside = place_inside _ _ _ _ _ _ _ _ _ _ e _ c.in_ok-known.known knows.here in
    let there = slice_get_read items (length items) c.in_ok-known.known c.index.result.now refl inside c.index.ensures in
    λ found is. subst (λ (f : FoundFolder). f.is_there ≡ true) (same_Some c.index.result.now found (sym there ∙ is)) c.if-not-index.false
