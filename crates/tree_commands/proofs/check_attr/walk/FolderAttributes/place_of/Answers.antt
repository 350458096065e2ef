-- The folder is found by its name, or looked at.
use Rattle.std.proofs.Common.{◌-◌, List, ℕ, length, take, drop, ap, sym, subst, ◌∙◌, length-take-le, arith}
use Rattle.glob_trees.specs.declared.on_way.FolderOnWay.{FolderOnWay}
use Rattle.glob_trees.specs.Known.{names_of}
use Rattle.tree_commands.specs.Private.AttributeWays.{IsPlaceOf}
use Rattle.tree_commands.proofs.lemmas.AttributeEntries.{is_found}
use Rattle.tree_commands.proofs.lemmas.AttributeSteps.{begins_before, named_at, outer_long}
use Rattle.tree_commands.proofs.check_attr.walk.FolderAttributes.place_of.Goals as goal

pub slice_bounds-name-count : goal.slice_bounds-name-count
slice_bounds-name-count g c =
    let long = outer_long _ _ _ _ _ _ _ _ _ _ c.requires.entered.entered in
    let inside = c.requires.before.inside in
    let within = c.requires.slash.inside in
    omega (arith, long, inside, ap (λ (w : FolderOnWay). w.length) c.last-outer.ensures, length-take-le c.args.place c.args.path.now (omega (arith, within)))

pub slice_bounds-name-start : goal.slice_bounds-name-start
slice_bounds-name-start g c =
    let long = outer_long _ _ _ _ _ _ _ _ _ _ c.requires.entered.entered in
    let inside = c.requires.before.inside in
    let within = c.requires.slash.inside in
    omega (arith, long, inside, ap (λ (w : FolderOnWay). w.length) c.last-outer.ensures, length-take-le c.args.place c.args.path.now (omega (arith, within)))

pub returns-in-Some-clause-knows : goal.returns-in-Some-clause-knows
returns-in-Some-clause-knows g c =
    let w = c.requires.entered in
    let e = w.entered in
    let front : List ℕ = take c.args.place c.args.path.now in
    let count : ℕ = c.last-outer.result.length in
    let name : List ℕ = take (length front - count) (drop count front) in
    let begins = begins_before c.args.self.now.folder.items c.args.path.now c.args.place c.requires.before.begins c.requires.before.inside in
    let long = ap (λ (w : FolderOnWay). w.length) c.last-outer.ensures ∙ outer_long _ _ _ _ _ _ _ _ _ _ e in
    let named = named_at c.args.self.now.folder.items front count begins long in
    let is = ap (λ (w : FolderOnWay). (names_of c.args.self.now.known).found w.place name) (sym c.last-outer.ensures) ∙ sym c.place_in.ensures.found ∙ c.in-Some.is in
    record {
      walks = w;
      here = subst (λ f. IsPlaceOf e.sights f c.in-Some.known) (sym named) (is_found _ _ _ _ _ _ _ _ _ _ e name c.in-Some.known is);
    }
