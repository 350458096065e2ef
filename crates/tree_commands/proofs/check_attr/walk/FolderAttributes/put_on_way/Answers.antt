-- The folder is entered: its list, where it has one, is put on the way.
use Rattle.std.proofs.Common.{◌≡◌, ◌++◌, ◌∷◌, ◌+◌, ◌-◌, [], List, ℕ, Some, length, take, drop, ap, refl, sym, ◌∙◌, arith}
use Rattle.std.specs.Prelude.{is_some, slice_get}
use Rattle.std.proofs.lemmas.Option.{slice_get_read}
use Rattle.glob_trees.specs.declared.on_way.FolderOnWay.{FolderOnWay}
use Rattle.glob_trees.specs.Ways.{start_of}
use Rattle.glob_trees.proofs.lemmas.Stepping.{slash_next}
use Rattle.tree_commands.proofs.lemmas.AttributeLeaves.{moved}
use Rattle.tree_commands.proofs.lemmas.AttributePuts.{puts_list, puts_none}
use Rattle.tree_commands.proofs.lemmas.AttributeSteps.{begins_before, front_some, named_at, none_of, place_inside, some_of, start_some}
use Rattle.tree_commands.proofs.check_attr.walk.FolderAttributes.put_on_way.Given.{Over}
use Rattle.tree_commands.proofs.check_attr.walk.FolderAttributes.put_on_way.Goals as goal
use Rattle.tree_commands.proofs.check_attr.walk.FolderAttributes.put_on_way.Goals.{In_ok-push}

module _ (g : Over) (c : In_ok-push g) where
  -- the path of the folder and its slash
  grown : c.extend_from_slice.new.self.items ≡ take (c.args.place + 1) c.args.path.now
  grown =
      let text : List ℕ = take (c.args.place + 1) c.args.path.now in
      let count : ℕ = length c.as_slice-start.result.now in
      let more : c.extend_from_slice.new.self.items ≡ c.args.self.now.folder.items ++ take (length text - count) (drop count text) = c.in_ok-extend_from_slice.ensures.items in
      let inside = c.requires.before.inside in
      more
      ∙ sym (named_at c.args.self.now.folder.items text count (begins_before c.args.self.now.folder.items c.args.path.now (c.args.place + 1) c.requires.before.begins (omega (arith, inside))) (ap length c.as_slice-start.ensures.value))

  some : take c.args.place c.args.path.now ≡ [] → ⊥
  some = front_some c.args.path.now c.args.place c.requires.deep c.requires.slash.inside

  starts : c.extend_from_slice.new.self.items ≡ start_of (take c.args.place c.args.path.now)
  starts = grown ∙ slash_next c.args.path.now c.args.place c.requires.slash ∙ sym (start_some (take c.args.place c.args.path.now) some)

  there : slice_get c.args.self.now.found.items c.args.known ≡ Some c.index.result.now
  there =
      slice_get_read c.args.self.now.found.items (length c.args.self.now.found.items) c.args.known c.index.result.now refl
      (place_inside _ _ _ _ _ _ _ _ _ _ c.requires.knows.walks.entered (take c.args.place c.args.path.now) c.args.known c.requires.knows.here) c.index.ensures

  long : length c.as_slice.result.now ≡ length (start_of (take c.args.place c.args.path.now))
  long = ap length (c.as_slice.ensures.value ∙ starts)

  abbrev last : FolderOnWay
  last = record { place = c.args.known; length = length c.as_slice.result.now; has_list = c.is_some-has_list.result }

  way : c.push.new.self.items ≡ c.args.self.now.way.items ++ last ∷ []
  way = c.in_ok-push.ensures.items

  listed : c.is_some-has_list.result ≡ is_some c.index.result.now.list
  listed = c.is_some-has_list.ensures

pub returns-in_ok-put_list-clause-entered : goal.returns-in_ok-put_list-clause-entered
returns-in_ok-put_list-clause-entered g c =
    let at = (goal.at.returns-in_ok-put_list-clause-entered g c).In_ok-push in
    let w = c.requires.knows.walks in
    let list = some_of c.index.result.now.list (sym c.if-has_list.true ∙ listed g at) in
    record {
      asks = w.asks;
      macros = w.macros;
      source = w.source;
      read = w.read;
      has_read = w.has_read;
      entered = moved c.extend_from_slice.new.self.items c.push.new.self.items c.put_list.new.found.items (starts g at) (way g at) refl
          (puts_list _ _ _ _ c.args.self.now.lists.items _ _ _ _ _ w.entered c.args.known c.index.result.now (there g at) (c.requires.there c.index.result.now (there g at)) (last g at) refl
          c.put_list.new.lists.items c.put_list.new.found.items c.in_ok-put_list.ensures (take c.args.place c.args.path.now) (some g at) c.requires.knows.here c.requires.before.level (long g at) c.if-has_list.true list.0 list.1);
    }

pub returns-in_ok-put_list-clause-folder : goal.returns-in_ok-put_list-clause-folder
returns-in_ok-put_list-clause-folder g c = grown g (goal.at.returns-in_ok-put_list-clause-folder g c).In_ok-push

pub returns-else-has_list-clause-entered : goal.returns-else-has_list-clause-entered
returns-else-has_list-clause-entered g c =
    let at = (goal.at.returns-else-has_list-clause-entered g c).In_ok-push in
    let w = c.requires.knows.walks in
    let none = none_of c.index.result.now.list (sym c.if-has_list.false ∙ listed g at) in
    record {
      asks = w.asks;
      macros = w.macros;
      source = w.source;
      read = w.read;
      has_read = w.has_read;
      entered = moved c.extend_from_slice.new.self.items c.push.new.self.items c.args.self.now.found.items (starts g at) (way g at) refl
          (puts_none _ _ _ _ c.args.self.now.lists.items _ _ _ _ _ w.entered c.args.known c.index.result.now (there g at) (c.requires.there c.index.result.now (there g at)) (last g at) refl
          (take c.args.place c.args.path.now) (some g at) c.requires.knows.here c.requires.before.level (long g at) c.if-has_list.false none);
    }

pub returns-else-has_list-clause-folder : goal.returns-else-has_list-clause-folder
returns-else-has_list-clause-folder g c = grown g (goal.at.returns-else-has_list-clause-folder g c).In_ok-push
