-- The mappings are gone through from the last one on.
use Rattle.std.proofs.Common.{◌≡◌, ◌↔◌, IsTrue, true, ◌+◌, ◌-◌, ◌<◌, ◌≤◌, drop, length, map, option_map, Some, ap, arith}
use Rattle.std.specs.Prelude.{slice_get, sum_by}
use Rattle.std.specs.Vec.{vec_items}
use Rattle.glob_lists.specs.Deciding.{AnswersAt, AnswersUnder}
use Rattle.gix_glob.specs.Entries.{entry_of}
use Rattle.gix_glob.specs.EntryLists.{entry_list_of}
use Rattle.gix_glob.specs.PatternParts.{mode_of, text_of}
use Rattle.gix_glob.specs.PatternLimits.{pattern_look_limit, pattern_step_limit}
use Rattle.gix_glob.specs.Stripping.{strip_looks}
use Rattle.glob_lists.proofs.lemmas.Deciding.Answering.{AnswersAt-only, AnswersAt-yes, AnswersUnder-tested}
use Rattle.glob_lists.proofs.lemmas.Deciding.DecisionSums.{counted-all, counted-all_after, counted-from, looks-under, steps-under}
use Rattle.gix_glob.proofs.lemmas.Elements.{slice_get-map_at}
use Rattle.glob_lists.proofs.lemmas.Deciding.LastNumbers.{NoneFrom-all, NoneFrom-less}
use Rattle.glob_lists.proofs.lemmas.Deciding.DecidingLemmas.{LastOf-found}
use Rattle.glob_lists.proofs.deciding.last_match.Given.{Over}
use Rattle.glob_lists.proofs.deciding.last_match.Goals as goal
use Rattle.glob_lists.proofs.deciding.last_match.Goals.{After-is_matched_with_counts}

-- the mapping that was tested is the entry at its place
tested_entry : (g : Over) (c : After-is_matched_with_counts g) → slice_get (map (entry_of g.T.Pattern.seen) c.args.list.now.patterns.items) (c.loop-m.m - 1) ≡ Some (entry_of g.T.Pattern.seen c.index-mappings-m.result)
tested_entry g c =
    let at = c.loop-m.m - 1 in
    let within : at < length c.args.list.now.patterns.items = omega (arith, ap length c.as_slice-mappings.ensures.value) in
    let is = rw c.as_slice-mappings.ensures.value at c.index-mappings-m.is in
    slice_get-map_at (entry_of g.T.Pattern.seen) c.args.list.now.patterns.items at c.index-mappings-m.result within is

-- what was tested has its text and its mode
tested_text : (g : Over) (c : After-is_matched_with_counts g) → c.view.result.text.now ≡ text_of c.index-mappings-m.result.pattern
tested_text g c = rw (← c.index-mappings-m.is) at c.view.ensures.text

tested_mode : (g : Over) (c : After-is_matched_with_counts g) → c.view.result.mode ≡ mode_of c.index-mappings-m.result.pattern
tested_mode g c = rw (← c.index-mappings-m.is) at c.view.ensures.mode

-- the test says whether it answers
told : (g : Over) (c : After-is_matched_with_counts g) → IsTrue c.is_matched_with_counts.result ↔ AnswersUnder (option_map vec_items c.args.list.now.base) (entry_of g.T.Pattern.seen c.index-mappings-m.result) c.args.path.now.bytes c.args.path.now.is_dir c.args.rules
told g c =
    AnswersUnder-tested (option_map vec_items c.args.list.now.base) c.args.path.now.bytes c.args.path.now.is_dir c.args.rules (entry_of g.T.Pattern.seen c.index-mappings-m.result) c.in_ok-rest.rest.bytes c.in_ok-rest.ensures.rest.0
    c.view.result.text.now c.view.result.mode c.in_ok-rest.rest.is_dir c.is_matched_with_counts.result (tested_text g c) (tested_mode g c) c.in_ok-rest.ensures.rest.1
    (c.is_matched_with_counts.ensures.exact c.view.ensures.lawful)

-- what the mappings from the tested one on have taken
tested_steps : (g : Over) (c : After-is_matched_with_counts g) → c.is_matched_with_counts.new.counts.steps
    ≤ c.args.counts.now.steps
    + sum_by (λ entry. pattern_step_limit (length entry.text) (length c.args.path.now.bytes)) (drop (c.loop-m.m - 1) (map (entry_of g.T.Pattern.seen) c.args.list.now.patterns.items))
tested_steps g c =
    let next : c.loop-m.m ≡ c.loop-m.m - 1 + 1 = omega arith in
    let counted = rw (tested_text g c) at c.is_matched_with_counts.ensures.steps in
    counted-from (λ entry. pattern_step_limit (length entry.text) (length c.args.path.now.bytes)) _ _ _ _ _ _ (entry_of g.T.Pattern.seen c.index-mappings-m.result) next (tested_entry g c)
    c.loop-m.invariant.steps
    (steps-under c.args.rules.case _ _ _ c.in_ok-rest.ensures.rest.0 (length (text_of c.index-mappings-m.result.pattern)) _ _ counted)

tested_looks : (g : Over) (c : After-is_matched_with_counts g) → c.is_matched_with_counts.new.counts.looks
    ≤ c.args.counts.now.looks + strip_looks (option_map vec_items c.args.list.now.base) (length c.args.path.now.bytes)
    + sum_by (λ entry. pattern_look_limit (length entry.text) (length c.args.path.now.bytes)) (drop (c.loop-m.m - 1) (map (entry_of g.T.Pattern.seen) c.args.list.now.patterns.items))
tested_looks g c =
    let next : c.loop-m.m ≡ c.loop-m.m - 1 + 1 = omega arith in
    let counted = rw (tested_text g c) at c.is_matched_with_counts.ensures.looks in
    counted-from (λ entry. pattern_look_limit (length entry.text) (length c.args.path.now.bytes)) _ _ _ _ _ _ (entry_of g.T.Pattern.seen c.index-mappings-m.result) next (tested_entry g c)
    c.loop-m.invariant.looks
    (looks-under c.args.rules.case _ _ _ c.in_ok-rest.ensures.rest.0 (length (text_of c.index-mappings-m.result.pattern)) _ _ counted)

pub returns-then-is_matched_with_counts-clause-last : goal.returns-then-is_matched_with_counts-clause-last
returns-then-is_matched_with_counts-clause-last g c =
    let list = entry_list_of g.T.Pattern.seen c.args.list.now in
    let at = c.loop-m.m - 1 in
    let next : c.loop-m.m ≡ at + 1 = omega arith in
    let after = (goal.at.returns-then-is_matched_with_counts-clause-last g c).After-is_matched_with_counts in
    LastOf-found list c.args.path.now.bytes c.args.path.now.is_dir c.args.rules c.loop-m.m at next c.loop-m.invariant.none
    (AnswersAt-yes list c.args.path.now.bytes c.args.path.now.is_dir c.args.rules at (entry_of g.T.Pattern.seen c.index-mappings-m.result) (tested_entry g after)
    ((told g after).0 c.if-is_matched_with_counts.true))

pub returns-then-is_matched_with_counts-clause-steps : goal.returns-then-is_matched_with_counts-clause-steps
returns-then-is_matched_with_counts-clause-steps g c =
    counted-all (λ entry. pattern_step_limit (length entry.text) (length c.args.path.now.bytes)) (map (entry_of g.T.Pattern.seen) c.args.list.now.patterns.items) _ _ (c.loop-m.m - 1)
    (tested_steps g (goal.at.returns-then-is_matched_with_counts-clause-steps g c).After-is_matched_with_counts)

pub returns-then-is_matched_with_counts-clause-looks : goal.returns-then-is_matched_with_counts-clause-looks
returns-then-is_matched_with_counts-clause-looks g c =
    counted-all_after (λ entry. pattern_look_limit (length entry.text) (length c.args.path.now.bytes)) (map (entry_of g.T.Pattern.seen) c.args.list.now.patterns.items) _ _ _ (c.loop-m.m - 1)
    (tested_looks g (goal.at.returns-then-is_matched_with_counts-clause-looks g c).After-is_matched_with_counts)

pub loop-m-preserved : goal.loop-m-preserved
loop-m-preserved g c =
    let after = (goal.at.loop-m-preserved g c).After-is_matched_with_counts in
    let list = entry_list_of g.T.Pattern.seen c.args.list.now in
    let at = c.loop-m.m - 1 in
    let next : c.loop-m.m ≡ at + 1 = omega arith in
    let refused : ¬ AnswersAt list c.args.path.now.bytes c.args.path.now.is_dir c.args.rules at = λ h.
    let answered : c.is_matched_with_counts.result ≡ true =
    (told g after).1 (AnswersAt-only list c.args.path.now.bytes c.args.path.now.is_dir c.args.rules at (entry_of g.T.Pattern.seen c.index-mappings-m.result) (tested_entry g after) h) in
    absurd (cc) in
    record {
      none = NoneFrom-less (AnswersAt list c.args.path.now.bytes c.args.path.now.is_dir c.args.rules) c.loop-m.m at next c.loop-m.invariant.none refused;
      grows = record {
        steps = omega (arith, c.loop-m.invariant.grows.steps, c.is_matched_with_counts.ensures.grows.steps);
        looks = omega (arith, c.loop-m.invariant.grows.looks, c.is_matched_with_counts.ensures.grows.looks);
      };
      steps = tested_steps g after;
      looks = tested_looks g after;
    }

pub returns-clause-last : goal.returns-clause-last
returns-clause-last g c = NoneFrom-all (AnswersAt (entry_list_of g.T.Pattern.seen c.args.list.now) c.args.path.now.bytes c.args.path.now.is_dir c.args.rules) c.loop-m.m (omega arith) c.loop-m.invariant.none
