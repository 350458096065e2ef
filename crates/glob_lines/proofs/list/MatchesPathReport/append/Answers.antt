-- A mapping that matches has its number next in the text.
use Rattle.std.proofs.Common.{◌<◌, ℕ, get_or, length, map, option_map, ap, refl, rules, arith}
use Rattle.std.proofs.lemmas.Option.{slice_get-get_or}
use Rattle.std.specs.Vec.{vec_items}
use Rattle.glob_lists.specs.Deciding.{AnswersUnder}
use Rattle.gix_glob.specs.Entries.{entry_of}
use Rattle.gix_glob.specs.EntryLists.{entry_list_of}
use Rattle.glob_lines.specs.Numbers.{text_of_numbers}
use Rattle.glob_lines.specs.Plain.{PlainEntry}
use Rattle.gix_glob.proofs.lemmas.Elements.{slice_get-map_at, slice_get-map_within}
use Rattle.glob_lines.proofs.lemmas.FoundLemmas.{ArePlacesOf, IsListedBehind-all, IsListedBehind-first, IsListedBehind-more, IsListedUpTo-nowhere, answers_behind, first_answers, places_in}
use Rattle.glob_lines.proofs.lemmas.MappingsLemmas.{numbers_of}
use Rattle.glob_lines.proofs.list.MatchesPathReport.append.Goals as goal
use Rattle.glob_lines.proofs.list.MatchesPathReport.append.Goals.{After-as_slice}

-- the pairs are the places of the entries that answer
places : (c : After-as_slice) → ArePlacesOf (λ entry. AnswersUnder (option_map vec_items c.args.self.now.list.now.base) entry c.args.path.now.bytes c.args.path.now.is_dir c.args.self.now.stack.rules)
    (map (entry_of (λ _. tt)) c.args.self.now.list.now.patterns.items) c.as_slice.result.now
places c =
    places_in (entry_list_of {V = Unit {0}} (λ _. tt) c.args.self.now.list.now) c.args.path.now.bytes c.args.path.now.is_dir c.args.self.now.stack.rules (map (entry_list_of {V = Unit {0}} (λ _. tt)) c.args.self.now.stack.lists)
    c.as_slice.result.now c.matches_into.new.pairs.items (ap (map (entry_list_of {V = Unit {0}} (λ _. tt))) c.args.self.now.one) c.as_slice.ensures.value c.in_ok-matches_into.ensures

pub returns-in_default-clause-written : goal.returns-in_default-clause-written
returns-in_default-clause-written c =
    let done = IsListedUpTo-nowhere _ _ c.args.text.now.items _ (places (goal.at.returns-in_default-clause-written c).After-as_slice) c.in_default.ensures.cases in
    record {
      added = text_of_numbers (numbers_of done.chosen);
      allowed = record { chosen = done.chosen; picks = done.picks; shown = refl };
      grown = done.grown;
    }

pub index-requires : goal.index-requires
index-requires c =
    let answer = first_answers _ _ c.args.text.now.items _ c.in-Some.first.now c.in-Some.others.now (places (goal.at.index-requires c).After-as_slice) c.in-Some.ensures.cases.0 in
    let inside : c.in-Some.first.now.1 < length c.args.self.now.list.now.patterns.items =
    slice_get-map_within {Y = PlainEntry} (entry_of (λ _. tt)) c.args.self.now.list.now.patterns.items c.in-Some.first.now.1 answer.0 answer.1 in
    omega (arith, c.args.self.now.list.now.patterns.ok.0)

pub loop-pair-init : goal.loop-pair-init
loop-pair-init c =
    let found = places (goal.at.loop-pair-init c).After-as_slice in
    let answer = first_answers _ _ c.args.text.now.items _ c.in-Some.first.now c.in-Some.others.now found c.in-Some.ensures.cases.0 in
    let inside : c.in-Some.first.now.1 < length c.args.self.now.list.now.patterns.items =
    slice_get-map_within {Y = PlainEntry} (entry_of (λ _. tt)) c.args.self.now.list.now.patterns.items c.in-Some.first.now.1 answer.0 answer.1 in
    let entry : PlainEntry = entry_of (λ _. tt) c.index.result.now in
    let there = slice_get-map_at {Y = PlainEntry} (entry_of (λ _. tt)) c.args.self.now.list.now.patterns.items c.in-Some.first.now.1 c.index.result.now inside c.index.ensures in
    IsListedBehind-first _ _ _ _ c.in-Some.first.now c.in-Some.others.now entry _ found c.in-Some.ensures.cases.0 there (search rules)

pub index-requires-in-loop-pair : goal.index-requires-in-loop-pair
index-requires-in-loop-pair c =
    let pair : ℕ × ℕ = get_or c.in-Some.others.now c.loop-pair.pair-index (0, 0) in
    let got = slice_get-get_or c.in-Some.others.now c.loop-pair.pair-index (0, 0) c.loop-pair-test.true in
    let answer = answers_behind _ _ _ c.in-Some.others.now c.loop-pair.pair-index _ c.loop-pair.invariant pair got in
    let inside : pair.1 < length c.args.self.now.list.now.patterns.items =
    slice_get-map_within {Y = PlainEntry} (entry_of (λ _. tt)) c.args.self.now.list.now.patterns.items pair.1 answer.0 answer.1 in
    omega (arith, c.args.self.now.list.now.patterns.ok.0)

pub loop-pair-preserved : goal.loop-pair-preserved
loop-pair-preserved c =
    let pair : ℕ × ℕ = get_or c.in-Some.others.now c.loop-pair.pair-index (0, 0) in
    let got = slice_get-get_or c.in-Some.others.now c.loop-pair.pair-index (0, 0) c.loop-pair-test.true in
    let answer = answers_behind _ _ _ c.in-Some.others.now c.loop-pair.pair-index _ c.loop-pair.invariant pair got in
    let inside : pair.1 < length c.args.self.now.list.now.patterns.items =
    slice_get-map_within {Y = PlainEntry} (entry_of (λ _. tt)) c.args.self.now.list.now.patterns.items pair.1 answer.0 answer.1 in
    let entry : PlainEntry = entry_of (λ _. tt) c.index-in-loop-pair.result.now in
    let there = slice_get-map_at {Y = PlainEntry} (entry_of (λ _. tt)) c.args.self.now.list.now.patterns.items pair.1 c.index-in-loop-pair.result.now inside c.index-in-loop-pair.ensures in
    IsListedBehind-more _ _ _ c.in-Some.others.now c.loop-pair.pair-index _ c.loop-pair.invariant pair entry _ got there (search rules)

pub returns-clause-written : goal.returns-clause-written
returns-clause-written c =
    let done = IsListedBehind-all _ _ _ c.in-Some.others.now c.loop-pair.pair-index _ c.loop-pair.invariant c.loop-pair-test.false in
    record {
      added = text_of_numbers (numbers_of done.chosen);
      allowed = record { chosen = done.chosen; picks = done.picks; shown = refl };
      grown = done.grown;
    }
