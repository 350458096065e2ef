use Rattle.std.proofs.Common.{◌≡◌, ◌+◌, ◌≤◌, length, false, true, refl, arith}
use Rattle.glob_matcher.specs.Private.Prices.{amount, amount_of}
use Rattle.glob_matcher.proofs.lemmas.two_marks.States.{end_met, end_missed}
use Rattle.glob_matcher.proofs.lemmas.two_marks.Prices.{Takes-grows, Takes-within, TakesExactly-at_most, amount-same}
use Rattle.glob_matcher.proofs.lemmas.two_marks.Turns.{turn_on}
use Rattle.glob_matcher.proofs.lemmas.two_marks.Budget.{allows_test, test_of_one}
use Rattle.glob_matcher.proofs.wildmatch.engine.Engine.take_turn.Goals as goal

pub returns-then-ends_at : goal.returns-then-ends_at
returns-then-ends_at g c =
    let m = g.M.Texts in
    let past : length m.pattern ≤ c.args.state.place = omega (arith, c.if-state-pattern_len.true, c.pattern_len.ensures) in
    let low : c.args.state.place ≤ length m.pattern = c.requires.low in
    record {
      meaning = end_met c.requires (omega arith) (c.if-ends_at.ensures.answer.0 refl);
      allows = λ measure s n low a.
          let one : amount_of measure c.ends_at.new.self ≤ s + amount measure 1 1 =
          Takes-within measure s 0 0 low (TakesExactly-at_most c.ends_at.ensures.count) (omega arith) (omega arith) in
          allows_test c.requires.inside (test_of_one (omega (arith, one, amount-same measure 1))) a;
      progress = tt;
      grows = Takes-grows (TakesExactly-at_most c.ends_at.ensures.count);
    }

pub returns-then-state-pattern_len : goal.returns-then-state-pattern_len
returns-then-state-pattern_len g c =
    let m = g.M.Texts in
    let past : length m.pattern ≤ c.args.state.place = omega (arith, c.if-state-pattern_len.true, c.pattern_len.ensures) in
    let low : c.args.state.place ≤ length m.pattern = c.requires.low in
    record {
      meaning = record {
        stands = c.requires;
        missed =
            end_missed m.way m.pattern m.value c.args.state.place c.args.state.at (omega arith)
            (λ end. let wrong : false ≡ true = c.if-ends_at.ensures.answer.1 end in cc);
      };
      allows = λ measure s n low a.
          let one : amount_of measure c.ends_at.new.self ≤ s + amount measure 1 1 =
          Takes-within measure s 0 0 low (TakesExactly-at_most c.ends_at.ensures.count) (omega arith) (omega arith) in
          record { before = s; tested = test_of_one (omega (arith, one, amount-same measure 1)); allows = a };
      progress = omega (arith, c.ends_at.ensures.count.steps);
      grows = Takes-grows (TakesExactly-at_most c.ends_at.ensures.count);
    }

pub returns-then-byte-eq47 : goal.returns-then-byte-eq47
returns-then-byte-eq47 g c = turn_on (TakesExactly-at_most c.pattern_byte-byte.ensures.count) (omega arith) c.slash_turn.ensures

pub returns-then-stands_for_itself : goal.returns-then-stands_for_itself
returns-then-stands_for_itself g c = turn_on (TakesExactly-at_most c.pattern_byte-byte.ensures.count) (omega arith) c.literal_turns.ensures

pub returns-then-byte-eq91 : goal.returns-then-byte-eq91
returns-then-byte-eq91 g c = turn_on (TakesExactly-at_most c.pattern_byte-byte.ensures.count) (omega arith) c.set_turn.ensures

pub returns : goal.returns
returns g c = turn_on (TakesExactly-at_most c.pattern_byte-byte.ensures.count) (omega arith) c.special_turn.ensures
