-- A candidate is tested; those that were passed over don't pass.
use Rattle.std.proofs.Common.{◌≡◌, ◌↔◌, ◌+◌, ◌<◌, ℕ, IsTrue, List, get_or, length, map, option_map, Some, refl, sym, subst, arith}
use Rattle.std.specs.Prelude.{slice_get}
use Rattle.std.specs.Vec.{vec_items}
use Rattle.std.proofs.lemmas.Bool.{iff_false}
use Rattle.std.proofs.lemmas.List.{length-map}
use Rattle.std.proofs.lemmas.Option.{slice_get-get_or}
use Rattle.gix_glob.specs.Entries.{entry_of}
use Rattle.gix_glob.specs.EntryLists.{entry_list_of}
use Rattle.gix_glob.specs.PatternParts.{mode_of, text_of}
use Rattle.gix_glob.proofs.lemmas.Elements.{slice_get-map_at}
use Rattle.glob_lists.specs.declared.asks.row.Row.{Row}
use Rattle.glob_lists.specs.Deciding.{AnswersAt, AnswersUnder}
use Rattle.glob_lists.specs.Private.Asks.Rows.{Asks}
use Rattle.glob_lists.specs.Private.Lists.Answering.{IsWalkOf, NoneAnswers, SpendsDown}
use Rattle.glob_lists.specs.Private.Lists.Walking.{NonePasses, PassesAt}
use Rattle.glob_lists.proofs.lemmas.Deciding.Answering.{AnswersAt-only, AnswersAt-yes, AnswersUnder-tested}
use Rattle.glob_lists.proofs.lemmas.Deciding.DecisionSums.{looks-under, steps-under}
use Rattle.glob_lists.proofs.lemmas.Lists.ListLemmas.{NoneAnswers-joined, NoneAnswers-less, SpendsDown-asked, SpendsDown-passed}
use Rattle.glob_lists.proofs.lemmas.Lists.RowLemmas.{NoneAnswers-passed}
use Rattle.glob_lists.proofs.list.rows.ListRows.next_match.Given.{Over}
use Rattle.glob_lists.proofs.list.rows.ListRows.next_match.Goals as goal
use Rattle.glob_lists.proofs.list.rows.ListRows.next_match.Goals.{After-is_answer, After-next, After-view-pattern}

-- the place of the mapping that is tested lies within the rows, and within the list
row_within : (g : Over) (c : After-view-pattern g) → c.in-Some.m < length c.args.self.now.rows.items
row_within g c = omega (arith, c.in-Some.ensures.met.0, c.candidates.invariant.walk.inside.within)

within : (g : Over) (c : After-view-pattern g) → c.in-Some.m < length c.args.list.now.patterns.items
within g c =
    let long = length-map c.args.list.now.patterns.items (entry_of g.T.Pattern.seen) in
    let row = row_within g c in
    omega (arith, c.requires.of.asked.many)

-- the mapping is the entry at its place
tested_entry : (g : Over) (c : After-view-pattern g) → slice_get (map (entry_of g.T.Pattern.seen) c.args.list.now.patterns.items) c.in-Some.m ≡ Some (entry_of g.T.Pattern.seen c.index-mappings-m.result)
tested_entry g c =
    let is = rw c.as_slice-mappings.ensures.value at c.index-mappings-m.is in
    slice_get-map_at (entry_of g.T.Pattern.seen) c.args.list.now.patterns.items c.in-Some.m c.index-mappings-m.result (within g c) is

-- what is tested has its text and its mode
tested_text : (g : Over) (c : After-view-pattern g) → c.view-pattern.result.text.now ≡ text_of c.index-mappings-m.result.pattern
tested_text g c = rw (← c.index-mappings-m.is) at c.view-pattern.ensures.text

tested_mode : (g : Over) (c : After-view-pattern g) → c.view-pattern.result.mode ≡ mode_of c.index-mappings-m.result.pattern
tested_mode g c = rw (← c.index-mappings-m.is) at c.view-pattern.ensures.mode

-- what stands for a row that isn't there
abbrev blank : Row
blank = record { asked = 0; before = record { 0 = 0 }; spare = 0; part = 0 }

-- its row
abbrev row_of : (g : Over) (c : After-view-pattern g) → Row
row_of g c = get_or c.as_slice-rows.result.now c.in-Some.m blank

row_there : (g : Over) (c : After-view-pattern g) → slice_get c.args.self.now.rows.items c.in-Some.m ≡ Some (row_of g c)
row_there g c =
    let rows = c.args.self.now.rows.items in
    subst (λ (its : List Row). slice_get rows c.in-Some.m ≡ Some (get_or its c.in-Some.m blank)) (sym c.as_slice-rows.ensures.value) (slice_get-get_or rows c.in-Some.m blank (row_within g c))

-- the row asks for what it does
tested_row : (g : Over) (c : After-view-pattern g) → Asks c.view-pattern.result.text.now c.view-pattern.result.mode (row_of g c)
tested_row g c =
    let row = row_there g c in
    let asks = c.requires.of.asked.each c.in-Some.m (entry_of g.T.Pattern.seen c.index-mappings-m.result) (row_of g c) (tested_entry g c) row in
    subst (λ mode. Asks c.view-pattern.result.text.now mode (row_of g c)) (sym (tested_mode g c))
    (subst (λ (text : List ℕ). Asks text (mode_of c.index-mappings-m.result.pattern) (row_of g c)) (sym (tested_text g c)) asks)

-- the walk has gone on
walk_after : (g : Over) (c : After-next g) → IsWalkOf c.args.self.now c.args.question.now.probe c.next.new.self
walk_after g c =
    let walk = c.candidates.invariant.walk in record {
      inside = rw c.as_slice-rows.ensures.value at c.next.ensures.inside;
      other = rw c.as_slice-heads.ensures.value at c.next.ensures.other;
      over = rw (c.as_slice-rows.ensures.value, c.as_slice-heads.ensures.value) at (c.next.ensures.walk (rw (c.as_slice-rows.ensures.value, c.as_slice-heads.ensures.value) c.requires.of.chained)
          (rw (c.as_slice-rows.ensures.value, c.as_slice-heads.ensures.value) walk.over));
    }

-- the row passes, and none between it and where the walk was does
next_row : (g : Over) (c : After-is_answer g) → PassesAt c.args.self.now.rows.items c.args.question.now.probe c.in-Some.m
    × NonePasses c.args.self.now.rows.items c.args.question.now.probe (c.in-Some.m + 1) c.candidates.walk.passed_from
next_row g c =
    rw c.as_slice-rows.ensures.value at (c.in-Some.ensures.next (rw (c.as_slice-rows.ensures.value, c.as_slice-heads.ensures.value) c.requires.of.chained)
    (rw (c.as_slice-rows.ensures.value, c.as_slice-heads.ensures.value) c.candidates.invariant.walk.over))

-- the test says whether it answers
told : (g : Over) (c : After-is_answer g) → IsTrue c.is_answer.result
    ↔ AnswersUnder (option_map vec_items c.args.list.now.base) (entry_of g.T.Pattern.seen c.index-mappings-m.result) c.args.question.now.path.now.bytes c.args.question.now.path.now.is_dir c.args.question.now.rules
told g c =
    let path = c.args.question.now.path.now in
    let base = option_map vec_items c.args.list.now.base in
    let rest = c.requires.rest in
    let before = (goal.at.After-is_answer g c).After-view-pattern in
    AnswersUnder-tested base path.bytes path.is_dir c.args.question.now.rules (entry_of g.T.Pattern.seen c.index-mappings-m.result) c.args.rest.now.bytes rest.left
    c.view-pattern.result.text.now c.view-pattern.result.mode c.args.rest.now.is_dir c.is_answer.result (tested_text g before) (tested_mode g before) rest.is_dir
    (c.is_answer.ensures.exact ((next_row g c).0 (row_of g before) (row_there g before)) (tested_row g before) base path.bytes c.requires.folder c.requires.shows rest.left c.view-pattern.ensures.lawful)

-- no mapping answers between the one that is tested and those that were passed
none_between : (g : Over) (c : After-is_answer g) → NoneAnswers (entry_list_of g.T.Pattern.seen c.args.list.now) c.args.question.now.path.now c.args.question.now.rules (c.next.new.self.passed_from + 1) c.args.walk.now.passed_from
none_between g c =
    let list = entry_list_of g.T.Pattern.seen c.args.list.now in
    let path = c.args.question.now.path.now in
    let rules = c.args.question.now.rules in
    let from = c.next.new.self.passed_from + 1 in
    let to = c.candidates.walk.passed_from in
    NoneAnswers-joined list path rules from to c.args.walk.now.passed_from
    (NoneAnswers-passed list c.args.self.now.rows.items c.requires.of.asked path rules c.args.question.now.probe c.answering_patterns_pass.ensures c.requires.shows from to (subst (λ (n : ℕ). NonePasses c.args.self.now.rows.items c.args.question.now.probe (n + 1) to) (sym c.in-Some.ensures.met.1) (next_row g c).1))
    c.candidates.invariant.none

-- what the mappings down to the one that is tested may take
spent : (g : Over) (c : After-is_answer g) → SpendsDown (entry_list_of g.T.Pattern.seen c.args.list.now) (length c.args.question.now.path.now.bytes) c.args.walk.now.passed_from c.next.new.self.passed_from c.args.counts.now
    c.is_answer.new.counts
spent g c =
    let list = entry_list_of g.T.Pattern.seen c.args.list.now in
    let path = c.args.question.now.path.now in
    let base = option_map vec_items c.args.list.now.base in
    let left = c.requires.rest.left in
    let before = (goal.at.After-is_answer g c).After-view-pattern in
    let here : c.in-Some.m ≡ c.next.new.self.passed_from = sym c.in-Some.ensures.met.1 in
    let entry = subst (λ (n : ℕ). slice_get list.entries n ≡ Some (entry_of g.T.Pattern.seen c.index-mappings-m.result)) here (tested_entry g before) in
    let text = length (text_of c.index-mappings-m.result.pattern) in
    SpendsDown-asked list (length path.bytes) c.args.walk.now.passed_from c.candidates.walk.passed_from c.next.new.self.passed_from (entry_of g.T.Pattern.seen c.index-mappings-m.result)
    c.args.counts.now c.candidates.counts c.next.new.counts c.is_answer.new.counts (omega (arith, c.in-Some.ensures.met.0, here)) entry c.candidates.invariant.spent c.in-Some.ensures.looks c.is_answer.ensures.grows
    (steps-under c.args.question.now.rules.case base path.bytes c.args.rest.now.bytes left text _ _ (rw (tested_text g before) at c.is_answer.ensures.steps))
    (looks-under c.args.question.now.rules.case base path.bytes c.args.rest.now.bytes left text _ _ (rw (tested_text g before) at c.is_answer.ensures.looks))

pub returns-then-is_answer-clause-next : goal.returns-then-is_answer-clause-next
returns-then-is_answer-clause-next g c =
    let list = entry_list_of g.T.Pattern.seen c.args.list.now in
    let path = c.args.question.now.path.now in
    let after = (goal.at.returns-then-is_answer-clause-next g c).After-is_answer in
    let before = (goal.at.returns-then-is_answer-clause-next g c).After-view-pattern in record {
      here = sym c.in-Some.ensures.met.1;
      below = omega (arith, c.in-Some.ensures.met.0, c.in-Some.ensures.met.1, c.candidates.invariant.low);
      answers = AnswersAt-yes list path.bytes path.is_dir c.args.question.now.rules c.in-Some.m (entry_of g.T.Pattern.seen c.index-mappings-m.result) (tested_entry g before) ((told g after).0 c.if-is_answer.true);
      between = none_between g after;
    }

pub returns-then-is_answer-clause-spends : goal.returns-then-is_answer-clause-spends
returns-then-is_answer-clause-spends g c = spent g (goal.at.returns-then-is_answer-clause-spends g c).After-is_answer

pub candidates-preserved : goal.candidates-preserved
candidates-preserved g c =
    let list = entry_list_of g.T.Pattern.seen c.args.list.now in
    let path = c.args.question.now.path.now in
    let rules = c.args.question.now.rules in
    let after = (goal.at.candidates-preserved g c).After-is_answer in
    let before = (goal.at.candidates-preserved g c).After-view-pattern in
    let here : c.in-Some.m ≡ c.next.new.self.passed_from = sym c.in-Some.ensures.met.1 in
    let refused : ¬ AnswersAt list path.bytes path.is_dir rules c.in-Some.m = λ h.
    iff_false (told g after) c.if-is_answer.false (AnswersAt-only list path.bytes path.is_dir rules c.in-Some.m (entry_of g.T.Pattern.seen c.index-mappings-m.result) (tested_entry g before) h) in
    record {
      walk = walk_after g (goal.at.candidates-preserved g c).After-next;
      none = NoneAnswers-less list path rules c.next.new.self.passed_from (c.next.new.self.passed_from + 1) c.args.walk.now.passed_from refl
          (subst (λ (n : ℕ). ¬ AnswersAt list path.bytes path.is_dir rules n) here refused) (none_between g after);
      low = omega (arith, c.in-Some.ensures.falls, c.candidates.invariant.low);
      spent = spent g after;
    }

pub returns-clause-next : goal.returns-clause-next
returns-clause-next g c =
    let list = entry_list_of g.T.Pattern.seen c.args.list.now in
    let path = c.args.question.now.path.now in
    let rules = c.args.question.now.rules in
    let to = c.candidates.walk.passed_from in
    NoneAnswers-joined list path rules 0 to c.args.walk.now.passed_from
    (NoneAnswers-passed list c.args.self.now.rows.items c.requires.of.asked path rules c.args.question.now.probe c.answering_patterns_pass.ensures c.requires.shows 0 to
    (rw c.as_slice-rows.ensures.value at (c.in_default.ensures.next (rw (c.as_slice-rows.ensures.value, c.as_slice-heads.ensures.value) c.requires.of.chained)
    (rw (c.as_slice-rows.ensures.value, c.as_slice-heads.ensures.value) c.candidates.invariant.walk.over))))
    c.candidates.invariant.none

pub returns-clause-spends : goal.returns-clause-spends
returns-clause-spends g c =
    SpendsDown-passed (entry_list_of g.T.Pattern.seen c.args.list.now) (length c.args.question.now.path.now.bytes) c.args.walk.now.passed_from c.candidates.walk.passed_from c.next.new.self.passed_from
    c.args.counts.now c.candidates.counts c.next.new.counts c.in_default.ensures.falls c.candidates.invariant.spent c.in_default.ensures.looks

pub returns-then-is_answer-clause-walk : goal.returns-then-is_answer-clause-walk
returns-then-is_answer-clause-walk g c = walk_after g (goal.at.returns-then-is_answer-clause-walk g c).After-next

pub returns-clause-walk : goal.returns-clause-walk
returns-clause-walk g c = walk_after g (goal.at.returns-clause-walk g c).After-next
