-- The mappings are gone through from the first one on.
use Rattle.std.proofs.Common.{◌<◌, length, map, option_map, ap, arith}
use Rattle.std.specs.Vec.{vec_items}
use Rattle.std.proofs.lemmas.Bool.{iff_false}
use Rattle.std.proofs.lemmas.List.{length-map}
use Rattle.std.proofs.lemmas.Option.{slice_get_within}
use Rattle.gix_glob.specs.Entries.{entry_of}
use Rattle.gix_glob.specs.EntryLists.{entry_list_of}
use Rattle.gix_glob.specs.Stripping.{NothingLeft}
use Rattle.gix_glob.proofs.lemmas.Elements.{All-map_at, slice_get-map_at}
use Rattle.glob_lists.specs.Deciding.{HasFolder}
use Rattle.glob_lists.proofs.lemmas.Deciding.Answering.{PairAnswers-nothing_left, PairAnswers-only, asked_rest}
use Rattle.glob_lists.proofs.lemmas.Deciding.MatchesUpTo.{matches_more, matches_of_list, matches_skip}
use Rattle.glob_lists.proofs.deciding.Asked.push_matches.Goals as goal
use Rattle.glob_lists.proofs.deciding.Asked.push_matches.Goals.{then-is_matched_by+in_ok-push, else-is_matched_by}

pub under-requires : goal.under-requires
under-requires g c = All-map_at (entry_list_of g.T.Pattern.seen) HasFolder c.args.self.now.lists.now c.args.i c.index-lists-i.result c.requires.folders c.requires.inside c.index-lists-i.is

pub returns-in_default : goal.returns-in_default
returns-in_default g c =
    let lists = map (entry_list_of g.T.Pattern.seen) c.args.self.now.lists.now in
    let there = slice_get-map_at (entry_list_of g.T.Pattern.seen) c.args.self.now.lists.now c.args.i c.index-lists-i.result c.requires.inside c.index-lists-i.is in
    let nothing : NothingLeft c.args.self.now.rules.case (option_map vec_items c.index-lists-i.result.base) c.args.self.now.path.now.bytes = rw c.in_default.is at c.under.ensures in
    matches_of_list lists c.args.self.now.path.now.bytes c.args.self.now.path.now.is_dir c.args.self.now.rules c.args.i 0 c.args.pairs.now.items
    (λ m h. absurd (PairAnswers-nothing_left lists c.args.self.now.path.now.bytes c.args.self.now.path.now.is_dir c.args.self.now.rules c.args.i m (entry_list_of g.T.Pattern.seen c.index-lists-i.result) there nothing h))
    c.requires.found

pub mappings-preserved : goal.mappings-preserved
mappings-preserved g c =
    let lists = map (entry_list_of g.T.Pattern.seen) c.args.self.now.lists.now in
    let held = c.index-lists-i.result in
    let there = slice_get-map_at (entry_list_of g.T.Pattern.seen) c.args.self.now.lists.now c.args.i held c.requires.inside c.index-lists-i.is in
    let within : c.mappings.m < length held.patterns.items = omega (arith, ap length c.as_slice-mappings.ensures.value) in
    let is = rw c.as_slice-mappings.ensures.value at c.index-mappings-m.is in
    let here = slice_get-map_at (entry_of g.T.Pattern.seen) held.patterns.items c.mappings.m c.index-mappings-m.result within is in
    let told = asked_rest lists c.args.self.now.rules c.args.self.now.path.now c.args.i c.mappings.m (entry_list_of g.T.Pattern.seen held) (entry_of g.T.Pattern.seen c.index-mappings-m.result) there here
    c.in-Some.rest c.view.result.text.now c.view.result.mode c.is_matched_by.result c.in-Some.ensures (rw (← c.index-mappings-m.is) at c.view.ensures.text) (rw (← c.index-mappings-m.is) at c.view.ensures.mode)
    (c.is_matched_by.ensures c.view.ensures.lawful) in
    elim c.if-is_matched_by.branch [
      | then-is_matched_by+in_ok-push w ↦ rw w.pairs-is (rw w.in_ok-push.ensures.items
          (matches_more lists c.args.self.now.path.now.bytes c.args.self.now.path.now.is_dir c.args.self.now.rules c.args.i c.mappings.m c.mappings.pairs.items (told.0 w.if-is_matched_by.true) c.mappings.invariant))
      | else-is_matched_by w ↦ rw w.pairs-is
          (matches_skip lists c.args.self.now.path.now.bytes c.args.self.now.path.now.is_dir c.args.self.now.rules c.args.i c.mappings.m c.mappings.pairs.items (iff_false told w.if-is_matched_by.false) c.mappings.invariant)
    ]

pub returns : goal.returns
returns g c =
    let lists = map (entry_list_of g.T.Pattern.seen) c.args.self.now.lists.now in
    let held = c.index-lists-i.result in
    let there = slice_get-map_at (entry_list_of g.T.Pattern.seen) c.args.self.now.lists.now c.args.i held c.requires.inside c.index-lists-i.is in
    matches_of_list lists c.args.self.now.path.now.bytes c.args.self.now.path.now.is_dir c.args.self.now.rules c.args.i c.mappings.m c.mappings.pairs.items
    (λ k h.
    let at = PairAnswers-only lists c.args.self.now.path.now.bytes c.args.self.now.path.now.is_dir c.args.self.now.rules c.args.i k (entry_list_of g.T.Pattern.seen held) there h in
    let inside = slice_get_within (map (entry_of g.T.Pattern.seen) held.patterns.items) k at.entry at.there in
    omega (arith, length-map held.patterns.items (entry_of g.T.Pattern.seen), ap length c.as_slice-mappings.ensures.value, c.mappings-test.false))
    c.mappings.invariant
