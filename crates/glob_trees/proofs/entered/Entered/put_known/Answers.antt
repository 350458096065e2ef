-- The folder follows those above it on the way, and its list where one is kept.
use Rattle.std.proofs.Common.{◌≡◌, ◌≤◌, ◌+◌, ◌++◌, ◌∷◌, [], Some, length, map, drop, take, ap, refl, sym, subst, ◌∙◌, length-append, arith}
use Rattle.std.specs.Prelude.{is_some, option_to_list}
use Rattle.std.proofs.lemmas.List.{map-append, take-append-le}
use Rattle.gix_glob.specs.Bytes.{slash}
use Rattle.gix_glob.specs.EntryLists.{entry_list_of}
use Rattle.glob_lists.specs.Deciding.{BasesAreFolders}
use Rattle.glob_trees.specs.Known.{names_of}
use Rattle.glob_trees.specs.Private.Entered.{AreUnderWay}
use Rattle.glob_trees.specs.Private.Keeping.{PutsKept}
use Rattle.glob_trees.proofs.lemmas.InFolder.{many_fronts, tail}
use Rattle.glob_trees.proofs.lemmas.Known.{entered_again, moved, start_next, start_within}
use Rattle.glob_trees.proofs.lemmas.Stepping.{err_gives, fronts_kept, ok_gives, on_err, slash_next, some_front}
use Rattle.glob_trees.proofs.entered.Entered.put_known.Given.{Over}
use Rattle.glob_trees.proofs.entered.Entered.put_known.Goals as goal
use Rattle.glob_trees.proofs.entered.Entered.put_known.Goals.{Start, After-as_slice-start}

deep : (g : Over) (c : After-as_slice-start g) → ¬ (take c.args.place c.args.path.now ≡ [])
deep g c = some_front c.args.path.now c.args.place c.requires.slash c.requires.deep

named : (g : Over) (c : After-as_slice-start g) → (names_of c.args.self.now.known).found c.requires.under.ends.last.place (drop c.requires.under.ends.last.length (take c.args.place c.args.path.now)) ≡ Some c.args.known
named g c = let under = c.requires.under in sym (c.requires.named under.ends.above under.ends.last under.ends.joined)

-- what names the folder in the one above it ends before the slash
bound : (g : Over) (c : After-as_slice-start g) → length c.as_slice-start.result.now ≤ length (take (c.args.place + 1) c.args.path.now)
bound g c =
    let front = take c.args.place c.args.path.now in
    let within = start_within _ _ _ _ _ _ _ _ _ _ front (deep g c) c.requires.under in
    omega (arith, within, ap length c.as_slice-start.ensures.value, ap length (slash_next c.args.path.now c.args.place c.requires.slash), length-append front (slash ∷ []))

pub slice_bounds-extend_from_slice-count : goal.slice_bounds-extend_from_slice-count
slice_bounds-extend_from_slice-count g c = bound g (goal.at.slice_bounds-extend_from_slice-count g c).After-as_slice-start

pub slice_bounds-extend_from_slice-start : goal.slice_bounds-extend_from_slice-start
slice_bounds-extend_from_slice-start g c = bound g (goal.at.slice_bounds-extend_from_slice-start g c).After-as_slice-start

pub put_known_on_way-requires : goal.put_known_on_way-requires
put_known_on_way-requires g c =
    let under = c.requires.under in
    (under.known.links under.ends.last.place (drop under.ends.last.length (take c.args.place c.args.path.now)) c.args.known (named g (goal.at.put_known_on_way-requires g c).After-as_slice-start)).0

pub returns-in_err-extend_from_slice-clause-fails : goal.returns-in_err-extend_from_slice-clause-fails
returns-in_err-extend_from_slice-clause-fails g c =
    let under = c.requires.under in
    on_err c.from_residual.result _ (record { many = many_fronts _ _ _ _ _ _ _ under.stands; bases = under.stands.bases })

pub returns-clause-entered : goal.returns-clause-entered
returns-clause-entered g c =
    let at = (goal.at.returns-clause-entered g c).After-as_slice-start in
    let seen = g.T.Pattern.seen in
    let shows = g.S.FolderLists.shows g.T.Pattern.Seen c.args.self.now.source in
    let gave = g.S.FolderLists.gave c.args.self.now.source in
    let old = c.args.self.now in
    let path = c.args.path.now in
    let front = take c.args.place path in
    let under = c.requires.under in
    let next = slash_next path c.args.place c.requires.slash in
    let start = old.folder.items in
    let same = ap length c.as_slice-start.ensures.value in
    let folder = c.in_ok-extend_from_slice.ensures.items
    ∙ ap (λ t. start ++ t) (tail (length c.as_slice-start.result.now) (take (c.args.place + 1) path))
    ∙ ap (λ k. start ++ drop k (take (c.args.place + 1) path)) same
    ∙ ap (λ t. start ++ drop (length start) t) next
    ∙ start_next shows gave seen old.front_count old.rules _ _ _ _ _ front (deep g at) under in
    ok_gives c.put_known_on_way.result _ _
    (λ (puts : PutsKept c.args.known (length c.as_slice-bytes.result.now) old.way.items c.put_known_on_way.new.way.items old.lists.items c.put_known_on_way.new.lists.items old.kept.items c.put_known_on_way.new.kept.items).
    let kept = puts.takes.list in
    subst (AreUnderWay shows gave seen old.front_count old.rules _ _ _ (names_of old.known) _) (sym next)
    (moved shows gave seen old.front_count old.rules _ _ _ _ _ _ (names_of old.known) _ _ _
    (ap (map (entry_list_of seen)) puts.takes.put ∙ map-append (entry_list_of seen) old.lists.items (option_to_list kept))
    folder
    (puts.way ∙ ap (λ k. old.way.items ++ (record { place = c.args.known; length = k; has_list = is_some kept }) ∷ []) (ap length (c.as_slice-bytes.ensures.value ∙ folder)))
    puts.takes.taken
    (entered_again shows gave seen old.front_count old.rules _ _ _ _ _ front (deep g at) under c.args.known (named g at) kept puts.takes.there)))
    c.put_known_on_way.ensures.puts

pub returns-clause-fails : goal.returns-clause-fails
returns-clause-fails g c =
    let under = c.requires.under in
    let many = many_fronts _ _ _ _ _ _ _ under.stands in
    err_gives c.put_known_on_way.result _ _
    (λ same. record {
      many = subst (λ ls. c.args.self.now.front_count ≤ length ls) (sym same) many;
      bases = subst (λ ls. BasesAreFolders (map (entry_list_of g.T.Pattern.seen) ls)) (sym same) under.stands.bases;
    })
    c.put_known_on_way.ensures.fails

pub returns-clause-keeps : goal.returns-clause-keeps
returns-clause-keeps g c =
    let old = c.args.self.now in
    let many = many_fronts _ _ _ _ _ _ _ c.requires.under.stands in
    record {
      front_count = refl;
      rules = refl;
      fronts = fronts_kept c.put_known_on_way.result old.front_count old.lists.items _
          (ok_gives c.put_known_on_way.result _ _
          (λ (puts : PutsKept c.args.known (length c.as_slice-bytes.result.now) old.way.items c.put_known_on_way.new.way.items old.lists.items c.put_known_on_way.new.lists.items old.kept.items c.put_known_on_way.new.kept.items). ap (take old.front_count) puts.takes.put ∙ take-append-le old.front_count old.lists.items (option_to_list puts.takes.list) many)
          c.put_known_on_way.ensures.puts)
          c.put_known_on_way.ensures.fails;
      goes_on = λ folder list shown. shown;
    }
