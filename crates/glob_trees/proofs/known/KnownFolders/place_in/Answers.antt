-- Each folder that is found is known.
use Rattle.std.proofs.Common.{◌≡◌, ◌<◌, Some, length, ap, sym, subst, ◌∙◌}
use Rattle.std.specs.Prelude.{slice_get}
use Rattle.std.proofs.lemmas.Bool.{ltb-true}
use Rattle.std.proofs.lemmas.Option.{slice_get-get_or}
use Rattle.glob_trees.specs.Links.{link, named_in}
use Rattle.glob_trees.proofs.lemmas.Links.{if_inside}
use Rattle.glob_trees.proofs.known.KnownFolders.place_in.Goals as goal

pub returns-clause-inside : goal.returns-clause-inside
returns-clause-inside c =
    let inner = c.args.self.now.inner.items in
    let known = c.in_ok-get.field-0.now in
    let found = c.in_ok-get.ensures.lookup in
    let here : slice_get c.deref.result.now c.args.outer ≡ Some known =
    slice_get-get_or c.deref.result.now c.args.outer known (ltb-true c.args.outer (length c.deref.result.now) (sym found.0)) ∙ ap Some (sym found.1) in
    let there : slice_get inner c.args.outer ≡ Some known = subst (λ ls. slice_get ls c.args.outer ≡ Some known) c.deref.ensures.value here in
    let is : c.copied.result ≡ link inner c.args.outer c.args.name.now = c.copied.ensures ∙ c.get-2.ensures.value ∙ ap (λ o. named_in o c.args.name.now) (sym there) in
    if_inside inner c.args.outer c.args.name.now c.copied.result is c.args.self.now.inside
