-- What was found of the folder is kept by the next place.
use Rattle.std.proofs.Common.{◌-◌, List, ℕ, length, take, drop, ap, subst, ◌∙◌, arith}
use Rattle.glob_trees.specs.declared.on_way.FolderOnWay.{FolderOnWay}
use Rattle.glob_trees.specs.Known.{AddsFolder, names_of}
use Rattle.tree_commands.specs.declared.check_attr.walk.FoundFolder.{FoundFolder}
use Rattle.tree_commands.specs.Private.AttributeWays.{Sighting, file_seen}
use Rattle.tree_commands.proofs.lemmas.AttributeEntries.{known_more, known_place, outer_inside}
use Rattle.tree_commands.proofs.lemmas.AttributeSteps.{is_seen, named_at, outer_long}
use Rattle.tree_commands.proofs.check_attr.walk.FolderAttributes.remember.Goals as goal

pub slice_bounds-name-count : goal.slice_bounds-name-count
slice_bounds-name-count g c =
    let long = outer_long _ _ _ _ _ _ _ _ _ _ c.requires.looked.walks.entered in
    let inside = c.requires.before.inside in
    omega (arith, long, inside, ap (λ (w : FolderOnWay). w.length) c.last-outer.ensures)

pub slice_bounds-name-start : goal.slice_bounds-name-start
slice_bounds-name-start g c =
    let long = outer_long _ _ _ _ _ _ _ _ _ _ c.requires.looked.walks.entered in
    let inside = c.requires.before.inside in
    omega (arith, long, inside, ap (λ (w : FolderOnWay). w.length) c.last-outer.ensures)

pub add-requires : goal.add-requires
add-requires g c =
    let inside = outer_inside _ _ _ _ _ _ _ _ _ _ c.requires.looked.walks.entered in
    omega (arith, inside, ap (λ (w : FolderOnWay). w.place) c.last-outer.ensures)

pub returns-clause-knows : goal.returns-clause-knows
returns-clause-knows g c =
    let w = c.requires.looked.walks in
    let e = w.entered in
    let folder : List ℕ = c.args.folder.now in
    let new : Sighting = record { folder = folder; file = file_seen c.args.is_there c.args.self.now } in
    let found : FoundFolder = record { is_there = c.args.is_there; list = c.args.list } in
    let count : ℕ = c.last-outer.result.length in
    let name : List ℕ = take (length folder - count) (drop count folder) in
    let long = ap (λ (w : FolderOnWay). w.length) c.last-outer.ensures ∙ outer_long _ _ _ _ _ _ _ _ _ _ e in
    let named = named_at c.args.self.now.folder.items folder count c.requires.before.begins long in
    let adds = subst (λ (w : FolderOnWay). AddsFolder (names_of c.args.self.now.known) (names_of c.add.new.self) w.place name c.in_ok-place.place) c.last-outer.ensures c.in_ok-place.ensures in
    record {
      walks = record {
        asks = w.asks;
        macros = w.macros;
        source = w.source;
        read = w.read;
        has_read = w.has_read;
        entered = known_more _ _ _ _ _ _ _ _ _ _ e new found name named (record { shown = c.requires.looked.shown; has_read = c.requires.looked.noted }) (is_seen c.args.is_there c.args.self.now.file.items) c.requires.list (names_of c.add.new.self) c.in_ok-place.place adds c.push.new.self.items c.in_ok-push.ensures.items;
      };
      here = known_place _ _ _ _ _ _ _ _ _ _ e new found name named (record { shown = c.requires.looked.shown; has_read = c.requires.looked.noted }) (is_seen c.args.is_there c.args.self.now.file.items) c.requires.list (names_of c.add.new.self) c.in_ok-place.place adds c.push.new.self.items c.in_ok-push.ensures.items folder named;
    }
