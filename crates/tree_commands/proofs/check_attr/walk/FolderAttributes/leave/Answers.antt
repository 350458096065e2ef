-- The last folder isn't the top: its list is kept by its place, and the folder above it is the last one then.
use Rattle.std.proofs.Common.{◌≡◌, ◌<◌, ◌++◌, ◌∷◌, [], List, true, length, map, take, ap, refl, sym, subst, ◌∙◌, ⊎_elim, length-append, arith}
use Rattle.std.specs.Prelude.{IsSome}
use Rattle.std.specs.List.{flat_map}
use Rattle.std.specs.Option.{option_to_list}
use Rattle.std.proofs.lemmas.Bool.{false≢true}
use Rattle.std.proofs.lemmas.List.{length-map, map-append}
use Rattle.gix_glob.specs.EntryLists.{EntryList, entry_list_of}
use Rattle.glob_attributes.specs.States.{Assigned, Lists}
use Rattle.glob_attributes.specs.Views.{seen_assignments}
use Rattle.glob_trees.specs.declared.on_way.FolderOnWay.{FolderOnWay}
use Rattle.tree_commands.specs.CheckAttr.{macros_for}
use Rattle.tree_commands.specs.Private.AttributeWays.{IsListed, PatternList, kept_list, last_on, own_lists, top_sight}
use Rattle.tree_commands.proofs.lemmas.AttributeKept.{ends_same}
use Rattle.tree_commands.proofs.lemmas.AttributeLeaves.{left_listed, leaves_list, leaves_none, moved, none_on_way, place_at, shorter, standing, zips}
use Rattle.tree_commands.proofs.lemmas.AttributeWalks.{get_inside, last_cases}
use Rattle.tree_commands.proofs.check_attr.walk.FolderAttributes.leave.Given.{Over}
use Rattle.tree_commands.proofs.check_attr.walk.FolderAttributes.leave.Goals as goal
use Rattle.tree_commands.proofs.check_attr.walk.FolderAttributes.leave.Goals.{After-truncate}

-- the folder entered last was popped
popped : (g : Over) (c : After-truncate g) → c.args.self.now.way.items ≡ c.pop.new.self.items ++ c.in-Some.left ∷ []
popped g c = c.pop.ensures.items ∙ ap (λ o. c.pop.new.self.items ++ option_to_list o) c.in-Some.is

-- what is left of its path
cut : (g : Over) (c : After-truncate g) → c.truncate.new.self.items ≡ take (last_on c.pop.new.self.items).length c.args.self.now.folder.items
cut g c = c.truncate.ensures.items ∙ ap (λ (w : FolderOnWay). take w.length c.args.self.now.folder.items) c.last-outer.ensures

less : (g : Over) (c : After-truncate g) → length c.truncate.new.self.items < length c.args.self.now.folder.items
less g c =
    subst (λ f. length f < length c.args.self.now.folder.items) (sym (cut g c))
    (shorter _ _ _ _ _ _ _ _ _ _ c.requires.entered.entered c.requires.deep c.pop.new.self.items c.in-Some.left (popped g c))

-- its list, where it is on the way
on_way : (g : Over) (c : After-truncate g) → c.in-Some.left.has_list ≡ true
    → IsListed true (own_lists g.Q.Question.asked (macros_for g.Q.Question.files) (zips _ _ _ _ _ _ _ _ _ _ c.requires.entered.entered c.requires.deep c.pop.new.self.items c.in-Some.left (popped g c)).last)
on_way g c listed =
    subst (λ b. IsListed b (own_lists g.Q.Question.asked (macros_for g.Q.Question.files) (zips _ _ _ _ _ _ _ _ _ _ c.requires.entered.entered c.requires.deep c.pop.new.self.items c.in-Some.left (popped g c)).last)) listed
    (left_listed _ _ _ _ _ _ _ _ _ _ c.requires.entered.entered c.requires.deep c.pop.new.self.items c.in-Some.left (popped g c))

pub returns-in_default-clause-less : goal.returns-in_default-clause-less
returns-in_default-clause-less g c =
    let e = c.requires.entered.entered in
    ⊎_elim
    (λ (none : c.args.self.now.way.items ≡ []). omega (arith, c.requires.deep, ap length (none_on_way _ _ _ _ _ _ _ _ _ _ e none)))
    (λ (some : (init : List FolderOnWay) × (last : FolderOnWay) × (c.args.self.now.way.items ≡ init ++ last ∷ [])).
    absurd (false≢true (subst IsSome c.in_default.is (c.pop.ensures.variant.1 (omega (arith, ap length some.2, length-append some.0 (some.1 ∷ [])))))))
    (last_cases c.args.self.now.way.items)

pub keep_list-requires-clause-place : goal.keep_list-requires-clause-place
keep_list-requires-clause-place g c =
    let at = (goal.at.keep_list-requires-clause-place g c).After-truncate in
    let e = c.requires.entered.entered in
    let last = zips _ _ _ _ _ _ _ _ _ _ e c.requires.deep c.pop.new.self.items c.in-Some.left (popped g at) in
    let there = place_at _ _ _ _ _ _ _ _ _ _ e c.requires.deep c.pop.new.self.items c.in-Some.left (popped g at) in
    let inside = get_inside (top_sight ∷ e.sights) c.in-Some.left.place last.last there in
    omega (arith, inside, e.known.level)

pub keep_list-requires-clause-some : goal.keep_list-requires-clause-some
keep_list-requires-clause-some g c =
    let at = (goal.at.keep_list-requires-clause-some g c).After-truncate in
    let e = c.requires.entered.entered in
    let some = on_way g at c.if-left.true in
    let its = standing _ _ _ _ _ _ _ _ _ _ e c.requires.deep c.pop.new.self.items c.in-Some.left (popped g at) in
    let own = own_lists g.Q.Question.asked (macros_for g.Q.Question.files) in
    let init = (zips _ _ _ _ _ _ _ _ _ _ e c.requires.deep c.pop.new.self.items c.in-Some.left (popped g at)).init in
    let info = kept_list g.Q.Question.asked (macros_for g.Q.Question.files) [] g.Q.Question.files.info in
    let long = ap length (its ∙ ap (λ ls. (flat_map own init ++ ls) ++ info ∷ []) some.1) in
    omega (arith, long, length-map c.args.self.now.lists.items (entry_list_of seen_assignments), length-append (flat_map own init ++ some.0 ∷ []) (info ∷ []), length-append (flat_map own init) (some.0 ∷ []))

pub returns-then-left-clause-entered : goal.returns-then-left-clause-entered
returns-then-left-clause-entered g c =
    let at = (goal.at.returns-then-left-clause-entered g c).After-truncate in
    let w = c.requires.entered in
    let e = w.entered in
    let keeps = c.keep_list.ensures in
    let en : PatternList → EntryList (List Assigned) = entry_list_of seen_assignments in
    let some = on_way g at c.if-left.true in
    let its = standing _ _ _ _ _ _ _ _ _ _ e c.requires.deep c.pop.new.self.items c.in-Some.left (popped g at) in
    let own = own_lists g.Q.Question.asked (macros_for g.Q.Question.files) in
    let init = (zips _ _ _ _ _ _ _ _ _ _ e c.requires.deep c.pop.new.self.items c.in-Some.left (popped g at)).init in
    let info = kept_list g.Q.Question.asked (macros_for g.Q.Question.files) [] g.Q.Question.files.info in
    let before : Lists = flat_map own init in
    let same = ends_same (map en keeps.front) before (en keeps.list) (en keeps.last) some.0 info
    (sym (map-append en keeps.front (keeps.list ∷ keeps.last ∷ [])) ∙ ap (map en) (sym keeps.joined) ∙ its ∙ ap (λ ls. (before ++ ls) ++ info ∷ []) some.1) in
    let stands = ap (map en) keeps.left ∙ map-append en keeps.front (keeps.last ∷ []) ∙ ap (λ ls. ls ++ en keeps.last ∷ []) same.0 ∙ ap (λ l. before ++ l ∷ []) same.2 in
    record {
      asks = w.asks;
      macros = w.macros;
      source = w.source;
      read = w.read;
      has_read = w.has_read;
      entered = moved c.truncate.new.self.items c.pop.new.self.items c.keep_list.new.found.items (cut g at) refl keeps.here
          (leaves_list _ _ _ _ _ _ _ _ _ _ e c.requires.deep c.pop.new.self.items c.in-Some.left (popped g at) keeps.list keeps.old keeps.there (some.1 ∙ ap (λ l. l ∷ []) (sym same.1)) (map en c.keep_list.new.lists.items) stands);
    }

pub returns-then-left-clause-less : goal.returns-then-left-clause-less
returns-then-left-clause-less g c = less g (goal.at.returns-then-left-clause-less g c).After-truncate

pub returns-else-left-clause-entered : goal.returns-else-left-clause-entered
returns-else-left-clause-entered g c =
    let at = (goal.at.returns-else-left-clause-entered g c).After-truncate in
    let w = c.requires.entered in
    let e = w.entered in
    let own = own_lists g.Q.Question.asked (macros_for g.Q.Question.files) (zips _ _ _ _ _ _ _ _ _ _ e c.requires.deep c.pop.new.self.items c.in-Some.left (popped g at)).last in
    let none : own ≡ [] = subst (λ b. IsListed b own) c.if-left.false (left_listed _ _ _ _ _ _ _ _ _ _ e c.requires.deep c.pop.new.self.items c.in-Some.left (popped g at)) in
    record {
      asks = w.asks;
      macros = w.macros;
      source = w.source;
      read = w.read;
      has_read = w.has_read;
      entered = moved c.truncate.new.self.items c.pop.new.self.items c.args.self.now.found.items (cut g at) refl refl
          (leaves_none _ _ _ _ _ _ _ _ _ _ e c.requires.deep c.pop.new.self.items c.in-Some.left (popped g at) none);
    }

pub returns-else-left-clause-less : goal.returns-else-left-clause-less
returns-else-left-clause-less g c = less g (goal.at.returns-else-left-clause-less g c).After-truncate
