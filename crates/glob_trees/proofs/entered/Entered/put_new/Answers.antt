-- The folder follows those above it on the way, and its list where it has entries; it is found by its name now.
use Rattle.std.proofs.Common.{◌≡◌, ◌≤◌, ◌<◌, ◌+◌, ◌++◌, ◌∷◌, [], length, map, drop, take, ap, refl, sym, subst, ◌∙◌, length-append, arith}
use Rattle.std.specs.Prelude.{is_some, option_to_list}
use Rattle.std.proofs.lemmas.List.{map-append}
use Rattle.gix_glob.specs.Bytes.{slash}
use Rattle.gix_glob.specs.EntryLists.{entry_list_of}
use Rattle.glob_lists.specs.Deciding.{BasesAreFolders}
use Rattle.glob_trees.specs.declared.on_way.FolderOnWay.{FolderOnWay}
use Rattle.glob_trees.specs.Private.Entered.{AreUnderWay}
use Rattle.glob_trees.specs.Known.{AddsFolder, names_of}
use Rattle.glob_trees.specs.Ways.{start_of}
use Rattle.glob_trees.proofs.lemmas.InFolder.{many_fronts, tail}
use Rattle.glob_trees.proofs.lemmas.Known.{entered_anew, fits, last_inside, long_as_start, moved, start_next}
use Rattle.glob_trees.proofs.lemmas.Stepping.{err_gives, fronts_put, ok_both, on_err, slash_next, some_front}
use Rattle.glob_trees.proofs.lemmas.WithEntries.{if_any_listed, if_any_view}
use Rattle.glob_trees.proofs.entered.Entered.put_new.Given.{Over}
use Rattle.glob_trees.proofs.entered.Entered.put_new.Goals as goal
use Rattle.glob_trees.proofs.entered.Entered.put_new.Goals.{After-last_on_way-outer}

deep : (g : Over) (c : After-last_on_way-outer g) → ¬ (take c.args.place c.args.path.now ≡ [])
deep g c = some_front c.args.path.now c.args.place c.requires.slash c.requires.deep

-- the folder entered last
outer : (g : Over) (c : After-last_on_way-outer g) → c.last_on_way-outer.result ≡ c.requires.under.ends.last
outer g c = let under = c.requires.under in c.last_on_way-outer.ensures under.ends.above under.ends.last under.ends.joined

bound : (g : Over) (c : After-last_on_way-outer g) → c.last_on_way-outer.result.length ≤ length (take c.args.place c.args.path.now)
bound g c = fits _ _ _ _ _ _ _ _ _ _ (take c.args.place c.args.path.now) (deep g c) c.requires.under c.last_on_way-outer.result c.last_on_way-outer.ensures

bound_next : (g : Over) (c : After-last_on_way-outer g) → c.last_on_way-outer.result.length ≤ length (take (c.args.place + 1) c.args.path.now)
bound_next g c =
    let front = take c.args.place c.args.path.now in
    let within = bound g c in
    omega (arith, within, ap length (slash_next c.args.path.now c.args.place c.requires.slash), length-append front (slash ∷ []))

pub slice_bounds-name-count : goal.slice_bounds-name-count
slice_bounds-name-count g c = bound g (goal.at.slice_bounds-name-count g c).After-last_on_way-outer

pub slice_bounds-name-start : goal.slice_bounds-name-start
slice_bounds-name-start g c = bound g (goal.at.slice_bounds-name-start g c).After-last_on_way-outer

pub slice_bounds-extend_from_slice-count : goal.slice_bounds-extend_from_slice-count
slice_bounds-extend_from_slice-count g c = bound_next g (goal.at.slice_bounds-extend_from_slice-count g c).After-last_on_way-outer

pub slice_bounds-extend_from_slice-start : goal.slice_bounds-extend_from_slice-start
slice_bounds-extend_from_slice-start g c = bound_next g (goal.at.slice_bounds-extend_from_slice-start g c).After-last_on_way-outer

pub add-requires : goal.add-requires
add-requires g c =
    let under = c.requires.under in
    let at = (goal.at.add-requires g c).After-last_on_way-outer in
    subst (λ (there : FolderOnWay). there.place < (names_of c.args.self.now.known).count) (sym (outer g at)) (last_inside _ _ _ _ _ _ _ _ _ _ (take c.args.place c.args.path.now) under)

pub returns-in_err-known-clause-fails : goal.returns-in_err-known-clause-fails
returns-in_err-known-clause-fails g c =
    let under = c.requires.under in
    on_err c.from_residual.result _ (record { many = many_fronts _ _ _ _ _ _ _ under.stands; bases = under.stands.bases })

pub returns-in_err-push-clause-fails : goal.returns-in_err-push-clause-fails
returns-in_err-push-clause-fails g c =
    let under = c.requires.under in
    on_err c.from_residual-in_err-push.result _ (record { many = many_fronts _ _ _ _ _ _ _ under.stands; bases = under.stands.bases })

pub returns-in_err-extend_from_slice-clause-fails : goal.returns-in_err-extend_from_slice-clause-fails
returns-in_err-extend_from_slice-clause-fails g c =
    let under = c.requires.under in
    on_err c.from_residual-in_err-extend_from_slice.result _ (record { many = many_fronts _ _ _ _ _ _ _ under.stands; bases = under.stands.bases })

pub returns-clause-entered : goal.returns-clause-entered
returns-clause-entered g c =
    let at = (goal.at.returns-clause-entered g c).After-last_on_way-outer in
    let seen = g.T.Pattern.seen in
    let shows = g.S.FolderLists.shows g.T.Pattern.Seen c.args.self.now.source in
    let gave = g.S.FolderLists.gave c.args.self.now.source in
    let old = c.args.self.now in
    let path = c.args.path.now in
    let front = take c.args.place path in
    let under = c.requires.under in
    let list = entry_list_of seen c.args.list in
    let kept = c.prepared_if_any-list.result in
    let next = slash_next path c.args.place c.requires.slash in
    let more = names_of c.add.new.self in
    let start = old.folder.items in
    let last = under.ends.last in
    let long : c.last_on_way-outer.result.length ≡ length start = long_as_start _ _ seen old.front_count old.rules _ _ _ _ _ front under c.last_on_way-outer.result c.last_on_way-outer.ensures in
    let folder = c.in_ok-extend_from_slice.ensures.items
    ∙ ap (λ t. start ++ t) (tail c.last_on_way-outer.result.length (take (c.args.place + 1) path))
    ∙ ap (λ k. start ++ drop k (take (c.args.place + 1) path)) long
    ∙ ap (λ t. start ++ drop (length start) t) next
    ∙ start_next _ _ seen old.front_count old.rules _ _ _ _ _ front (deep g at) under in
    let adds : AddsFolder (names_of old.known) more last.place (drop last.length front) c.in_ok-known.known =
    subst (λ (there : FolderOnWay). AddsFolder (names_of old.known) more there.place (drop there.length front) c.in_ok-known.known) (outer g at)
    (subst (λ t. AddsFolder (names_of old.known) more c.last_on_way-outer.result.place t c.in_ok-known.known) (tail c.last_on_way-outer.result.length front) c.in_ok-known.ensures) in
    let none = sym (c.requires.none under.ends.above last under.ends.joined) in
    let all = entered_anew _ _ seen old.front_count old.rules _ _ _ _ _ front (deep g at) under list c.requires.of c.requires.kept more c.in_ok-known.known adds none gave (λ other given apart. (given, apart)) (is_some kept) (if_any_listed seen c.args.list kept c.prepared_if_any-list.ensures) in
    ok_both c.put_on_way.result _ _ _
    (λ way lists.
    subst (AreUnderWay shows gave seen old.front_count old.rules _ _ _ more _) (sym next)
    (moved shows gave seen old.front_count old.rules _ _ _ _ _ _ more _ _ _
    (ap (map (entry_list_of seen)) lists ∙ map-append (entry_list_of seen) old.lists.items (option_to_list kept) ∙ ap (λ ls. map (entry_list_of seen) old.lists.items ++ ls) (if_any_view seen c.args.list kept c.prepared_if_any-list.ensures))
    folder
    (way ∙ ap (λ k. old.way.items ++ (record { place = c.in_ok-known.known; length = k; has_list = c.is_some.result }) ∷ []) (ap length (c.as_slice.ensures.value ∙ folder)) ∙ ap (λ b. old.way.items ++ (record { place = c.in_ok-known.known; length = length (start_of front); has_list = b }) ∷ []) c.is_some.ensures)
    c.in_ok-push.ensures.items
    all))
    c.put_on_way.ensures.way c.put_on_way.ensures.lists

pub returns-clause-fails : goal.returns-clause-fails
returns-clause-fails g c =
    let under = c.requires.under in
    let many = many_fronts _ _ _ _ _ _ _ under.stands in
    err_gives c.put_on_way.result _ _
    (λ same. record {
      many = subst (λ ls. c.args.self.now.front_count ≤ length ls) (sym same) many;
      bases = subst (λ ls. BasesAreFolders (map (entry_list_of g.T.Pattern.seen) ls)) (sym same) under.stands.bases;
    })
    c.put_on_way.ensures.fails

pub returns-clause-keeps : goal.returns-clause-keeps
returns-clause-keeps g c =
    let under = c.requires.under in
    record {
      front_count = refl;
      rules = refl;
      fronts = fronts_put c.put_on_way.result c.args.self.now.front_count c.args.self.now.lists.items _ _ (many_fronts _ _ _ _ _ _ _ under.stands) c.put_on_way.ensures.lists c.put_on_way.ensures.fails;
      goes_on = λ folder list shown. shown;
    }
