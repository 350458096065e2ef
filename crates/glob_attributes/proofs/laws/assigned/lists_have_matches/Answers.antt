-- Each mapping of the list matches what its base leaves of the path, or doesn't.
use Rattle.std.proofs.Common.{◌<◌, length, map, Some, ap, subst, sym, arith}
use Rattle.std.proofs.lemmas.List.{length-map}
use Rattle.std.proofs.lemmas.Option.{slice_get_within}
use Rattle.gix_glob.specs.Entries.{entry_of}
use Rattle.gix_glob.specs.EntryLists.{entry_list_of}
use Rattle.gix_glob.specs.Paths.{IsFolder}
use Rattle.gix_glob.specs.Stripping.{NothingLeft, Rest}
use Rattle.gix_glob.proofs.lemmas.Elements.{All-map_at, slice_get-map_at}
use Rattle.glob_lists.specs.Deciding.{HasFolder}
use Rattle.glob_lists.proofs.lemmas.Deciding.Answering.{PairAnswers-nothing_left, PairAnswers-only, asked_rest}
use Rattle.glob_attributes.specs.Views.{seen_assignments}
use Rattle.glob_attributes.proofs.lemmas.MatchedLemmas.{asked-more, folder-of, list-more, nothing-of, rest-of}
use Rattle.glob_attributes.proofs.laws.assigned.lists_have_matches.Goals as goal

pub below-requires : goal.below-requires
below-requires c =
    subst IsFolder (sym c.base_of.ensures)
    (folder-of c.index-lists-place.result.base
    (All-map_at (entry_list_of seen_assignments) HasFolder c.args.lists.now c.args.place c.index-lists-place.result c.requires.folders c.requires.inside c.index-lists-place.is))

pub returns-in_default : goal.returns-in_default
returns-in_default c =
    let lists = map (entry_list_of seen_assignments) c.args.lists.now in
    let list = c.index-lists-place.result in
    let path = c.args.path.now in
    let there = slice_get-map_at (entry_list_of seen_assignments) c.args.lists.now c.args.place list c.requires.inside c.index-lists-place.is in
    let unlike : NothingLeft c.args.rules.case (Some c.base_of.result.now) path.bytes = rw c.in_default.is at c.below.ensures in
    let nothing = nothing-of c.args.rules list.base path.bytes (subst (λ b. NothingLeft c.args.rules.case (Some b) path.bytes) c.base_of.ensures unlike) in
    λ found h. list-more lists path.bytes path.is_dir c.args.rules c.args.place 0
    (λ m answers. absurd (PairAnswers-nothing_left lists path.bytes path.is_dir c.args.rules c.args.place m (entry_list_of seen_assignments list) there nothing answers))
    (found, h)

pub mappings-init : goal.mappings-init
mappings-init c = λ h. h

pub mappings-preserved : goal.mappings-preserved
mappings-preserved c =
    let lists = map (entry_list_of seen_assignments) c.args.lists.now in
    let list = c.index-lists-place.result in
    let path = c.args.path.now in
    let there = slice_get-map_at (entry_list_of seen_assignments) c.args.lists.now c.args.place list c.requires.inside c.index-lists-place.is in
    let within : c.mappings.m < length list.patterns.items = omega (arith, ap length c.as_slice-mappings.ensures.value) in
    let is = rw c.as_slice-mappings.ensures.value at c.index-mappings-m.is in
    let here = slice_get-map_at (entry_of seen_assignments) list.patterns.items c.mappings.m c.index-mappings-m.result within is in
    let left = rest-of c.args.rules list.base path.bytes c.in-Some.rest.bytes (subst (λ b. Rest c.args.rules.case b path.bytes c.in-Some.rest.bytes) c.base_of.ensures c.in-Some.ensures.0) in
    let told = asked_rest lists c.args.rules path c.args.place c.mappings.m (entry_list_of seen_assignments list) (entry_of seen_assignments c.index-mappings-m.result) there here
    c.in-Some.rest c.view.result.text.now c.view.result.mode c.is_matched_by.result (left, c.in-Some.ensures.1)
    (rw (← c.index-mappings-m.is) at c.view.ensures.text) (rw (← c.index-mappings-m.is) at c.view.ensures.mode)
    (c.is_matched_by.ensures c.view.ensures.lawful) in
    λ h. asked-more lists path.bytes path.is_dir c.args.rules c.args.place c.mappings.m c.is_matched_by.result told (c.mappings.invariant h)

pub returns : goal.returns
returns c =
    let lists = map (entry_list_of seen_assignments) c.args.lists.now in
    let list = c.index-lists-place.result in
    let path = c.args.path.now in
    let there = slice_get-map_at (entry_list_of seen_assignments) c.args.lists.now c.args.place list c.requires.inside c.index-lists-place.is in
    λ found h. list-more lists path.bytes path.is_dir c.args.rules c.args.place c.mappings.m
    (λ k answers.
    let at = PairAnswers-only lists path.bytes path.is_dir c.args.rules c.args.place k (entry_list_of seen_assignments list) there answers in
    let inside = slice_get_within (map (entry_of seen_assignments) list.patterns.items) k at.entry at.there in
    omega (arith, length-map list.patterns.items (entry_of seen_assignments), ap length c.as_slice-mappings.ensures.value, c.mappings-test.false))
    (c.mappings.invariant (found, h))
