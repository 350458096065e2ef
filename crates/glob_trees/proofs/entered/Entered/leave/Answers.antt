-- The last folder isn't the top: its list is kept by its place, and the folder above it is the last one then.
use Rattle.std.proofs.Common.{◌≡◌, ◌<◌, ◌++◌, ◌∷◌, [], Some, true, false, length, map, take, ap, refl, sym, subst, ◌∙◌, ⊎_elim, append-nil, arith}
use Rattle.std.specs.Prelude.{slice_set}
use Rattle.std.specs.Option.{option_to_list}
use Rattle.std.proofs.lemmas.Bool.{false≢true}
use Rattle.std.proofs.lemmas.List.{length-map, length-set, map-append, take-append-le}
use Rattle.gix_glob.specs.EntryLists.{entry_list_of}
use Rattle.glob_trees.specs.declared.on_way.FolderOnWay.{FolderOnWay}
use Rattle.glob_trees.specs.Private.Entered.{EndsWith}
use Rattle.glob_trees.specs.Ways.{unless_empty}
use Rattle.glob_trees.proofs.lemmas.Known.{moved}
use Rattle.glob_trees.proofs.lemmas.Leaving.{few, keeps_list, keeps_none, last_list, leaves, list_apart, list_on_way, place_inside, shorter, some_list}
use Rattle.glob_trees.proofs.lemmas.WayLemmas.{last_same}
use Rattle.glob_trees.proofs.lemmas.WithEntries.{empty_or_not}
use Rattle.glob_trees.proofs.entered.Entered.leave.Given.{Over}
use Rattle.glob_trees.proofs.entered.Entered.leave.Goals as goal
use Rattle.glob_trees.proofs.entered.Entered.leave.Goals.{After-truncate}

-- what was popped was the last folder, and the others stand before it
popped : (g : Over) (c : After-truncate g) → (c.pop.new.self.items ≡ c.requires.under.1.ends.above) × (c.in-Some.left ≡ c.requires.under.1.ends.last)
popped g c =
    let under = c.requires.under.1 in
    last_same c.pop.new.self.items under.ends.above c.in-Some.left under.ends.last (sym (c.pop.ensures.items ∙ ap (λ o. c.pop.new.self.items ++ option_to_list o) c.in-Some.is) ∙ under.ends.joined)

outer : (g : Over) (c : After-truncate g) → EndsWith c.requires.under.1.ends.above c.last_on_way-outer.result
outer g c = subst (λ w. EndsWith w c.last_on_way-outer.result) (popped g c).0 c.last_on_way-outer.ensures

-- its list has entries where it is on the way
some : (g : Over) (c : After-truncate g) → c.in-Some.left.has_list ≡ true → unless_empty (c.requires.under.1.facts c.requires.under.1.ends.last.place).own ≡ (c.requires.under.1.facts c.requires.under.1.ends.last.place).own ∷ []
some g c listed = (list_on_way _ _ _ _ _ _ _ _ _ _ c.requires.under.0 c.requires.under.1 c.requires.deep).0 (sym (ap (λ (there : FolderOnWay). there.has_list) (popped g c).1) ∙ listed)

none : (g : Over) (c : After-truncate g) → c.in-Some.left.has_list ≡ false → unless_empty (c.requires.under.1.facts c.requires.under.1.ends.last.place).own ≡ []
none g c unlisted =
    let own = (c.requires.under.1.facts c.requires.under.1.ends.last.place).own in
    ⊎_elim
    (λ (empty : unless_empty own ≡ []). empty)
    (λ (full : unless_empty own ≡ own ∷ []). absurd (false≢true (sym unlisted ∙ ap (λ (there : FolderOnWay). there.has_list) (popped g c).1 ∙ (list_on_way _ _ _ _ _ _ _ _ _ _ c.requires.under.0 c.requires.under.1 c.requires.deep).1 full)))
    (empty_or_not own)

pub keep_last-requires-clause-place : goal.keep_last-requires-clause-place
keep_last-requires-clause-place g c =
    let at = (goal.at.keep_last-requires-clause-place g c).After-truncate in
    subst (λ (there : FolderOnWay). there.place < length c.args.self.now.kept.items) (sym (popped g at).1) (place_inside _ _ _ _ _ _ _ _ _ _ c.requires.under.0 c.requires.under.1 c.requires.deep)

pub keep_last-requires-clause-some : goal.keep_last-requires-clause-some
keep_last-requires-clause-some g c =
    let at = (goal.at.keep_last-requires-clause-some g c).After-truncate in
    subst (λ k. 0 < k) (length-map c.args.self.now.lists.items (entry_list_of g.T.Pattern.seen)) (some_list _ _ _ _ _ _ _ _ _ _ c.requires.under.0 c.requires.under.1 c.requires.deep (some g at c.if-left.true))

pub returns-then-left-clause-under : goal.returns-then-left-clause-under
returns-then-left-clause-under g c =
    let at = (goal.at.returns-then-left-clause-under g c).After-truncate in
    let seen = g.T.Pattern.seen in
    let under = c.requires.under.1 in
    let kept = c.keep_last.ensures in
    let less = map (entry_list_of seen) c.keep_last.new.lists.items in
    let full = some g at c.if-left.true in
    let joined = ap (map (entry_list_of seen)) kept.last ∙ map-append (entry_list_of seen) c.keep_last.new.lists.items (kept.list ∷ []) in
    let listed = list_apart _ _ _ _ _ _ _ _ _ _ c.requires.under.0 under c.requires.deep less (entry_list_of seen kept.list) joined full in
    let own = last_list _ _ _ _ _ _ _ _ _ _ c.requires.under.0 under c.requires.deep less (entry_list_of seen kept.list) joined full in
    let keeps = keeps_list _ _ _ _ _ _ _ _ _ _ c.requires.under.0 under c.requires.deep kept.list own full in
    let here = kept.here ∙ ap (λ (there : FolderOnWay). slice_set c.args.self.now.kept.items there.place (Some kept.list)) (popped g at).1 in
    let gone = leaves _ _ _ _ _ _ _ _ _ _ c.requires.under.0 under c.requires.deep less listed
    (slice_set c.args.self.now.kept.items under.ends.last.place (Some kept.list)) (length-set c.args.self.now.kept.items under.ends.last.place (Some kept.list)) keeps c.last_on_way-outer.result (outer g at) in
    (_, moved _ _ _ _ _ _ _ _ _ _ _ _ _ _ _ refl c.truncate.ensures.items (popped g at).0 here gone)

pub returns-then-left-clause-less : goal.returns-then-left-clause-less
returns-then-left-clause-less g c =
    let at = (goal.at.returns-then-left-clause-less g c).After-truncate in
    let seen = g.T.Pattern.seen in
    let under = c.requires.under.1 in
    let kept = c.keep_last.ensures in
    let less = map (entry_list_of seen) c.keep_last.new.lists.items in
    let full = some g at c.if-left.true in
    let joined = ap (map (entry_list_of seen)) kept.last ∙ map-append (entry_list_of seen) c.keep_last.new.lists.items (kept.list ∷ []) in
    let listed = list_apart _ _ _ _ _ _ _ _ _ _ c.requires.under.0 under c.requires.deep less (entry_list_of seen kept.list) joined full in
    subst (λ s. length s < length c.args.self.now.folder.items) (sym c.truncate.ensures.items) (shorter _ _ _ _ _ _ _ _ _ _ c.requires.under.0 under c.requires.deep less listed c.last_on_way-outer.result (outer g at))

pub returns-then-left-clause-keeps : goal.returns-then-left-clause-keeps
returns-then-left-clause-keeps g c =
    let at = (goal.at.returns-then-left-clause-keeps g c).After-truncate in
    let seen = g.T.Pattern.seen in
    let under = c.requires.under.1 in
    let kept = c.keep_last.ensures in
    let items = c.keep_last.new.lists.items in
    let full = some g at c.if-left.true in
    let joined = ap (map (entry_list_of seen)) kept.last ∙ map-append (entry_list_of seen) items (kept.list ∷ []) in
    let listed = list_apart _ _ _ _ _ _ _ _ _ _ c.requires.under.0 under c.requires.deep (map (entry_list_of seen) items) (entry_list_of seen kept.list) joined full in
    let many = few _ _ _ _ _ _ _ _ _ _ c.requires.under.0 under c.requires.deep (map (entry_list_of seen) items) listed in
    record {
      front_count = refl;
      rules = refl;
      fronts = sym (ap (take c.args.self.now.front_count) kept.last ∙ take-append-le c.args.self.now.front_count items (kept.list ∷ []) (omega (arith, many, length-map items (entry_list_of seen))));
      goes_on = λ folder list shown. shown;
    }

pub returns-else-left-clause-under : goal.returns-else-left-clause-under
returns-else-left-clause-under g c =
    let at = (goal.at.returns-else-left-clause-under g c).After-truncate in
    let under = c.requires.under.1 in
    let empty = none g at c.if-left.false in
    let lists = map (entry_list_of g.T.Pattern.seen) c.args.self.now.lists.items in
    let listed : lists ≡ lists ++ unless_empty (under.facts under.ends.last.place).own = sym (append-nil lists) ∙ ap (λ ls. lists ++ ls) (sym empty) in
    let kept = keeps_none _ _ _ _ _ _ _ _ _ _ c.requires.under.0 under c.requires.deep empty in
    let gone = leaves _ _ _ _ _ _ _ _ _ _ c.requires.under.0 under c.requires.deep lists listed c.args.self.now.kept.items refl kept c.last_on_way-outer.result (outer g at) in
    (_, moved _ _ _ _ _ _ _ _ _ _ _ _ _ _ _ refl c.truncate.ensures.items (popped g at).0 refl gone)

pub returns-else-left-clause-less : goal.returns-else-left-clause-less
returns-else-left-clause-less g c =
    let at = (goal.at.returns-else-left-clause-less g c).After-truncate in
    let under = c.requires.under.1 in
    let empty = none g at c.if-left.false in
    let lists = map (entry_list_of g.T.Pattern.seen) c.args.self.now.lists.items in
    let listed : lists ≡ lists ++ unless_empty (under.facts under.ends.last.place).own = sym (append-nil lists) ∙ ap (λ ls. lists ++ ls) (sym empty) in
    subst (λ s. length s < length c.args.self.now.folder.items) (sym c.truncate.ensures.items) (shorter _ _ _ _ _ _ _ _ _ _ c.requires.under.0 under c.requires.deep lists listed c.last_on_way-outer.result (outer g at))
