use Rattle.std.proofs.Common.{◌+◌, ◌≤◌, subst, arith}
use Rattle.glob_matcher.specs.Steps.{Counts}
use Rattle.glob_matcher.specs.Private.Takes.{Takes}
use Rattle.glob_matcher.specs.Private.Prices.{amount, amount_of}
use Rattle.glob_matcher.proofs.lemmas.two_marks.TakenBytes.{set_missed}
use Rattle.glob_matcher.proofs.lemmas.two_marks.Prices.{Takes-grows, Takes-within, TakesExactly-at_most, amount-same}
use Rattle.glob_matcher.proofs.lemmas.two_marks.Budget.{test_of_one}
use Rattle.glob_matcher.proofs.wildmatch.engine.Engine.set_turn.Goals as goal

pub returns-then-state-value_len : goal.returns-then-state-value_len
returns-then-state-value_len g c =
    let m = g.M.Texts in
    let state = c.args.state in
    let takes = subst (λ (n : Counts). Takes n c.step.new.self 1 0) c.self.view_is (TakesExactly-at_most c.step.ensures) in
    record {
      meaning = record {
        stands = c.requires.stands;
        missed = λ all.
            set_missed m.way m.pattern m.value state.place state.at all.tokens all.read c.requires.bracket
            (omega (arith, c.if-state-value_len.true, c.value_len.ensures, c.requires.stands.inside)) all;
      };
      allows = λ measure s n low a.
          let one : amount_of measure c.step.new.self ≤ s + amount measure 1 1 =
          Takes-within measure s 0 1 low takes (omega arith) (omega arith) in
          record { before = s; tested = test_of_one (omega (arith, one, amount-same measure 1)); allows = a };
      progress = omega (arith, takes.steps);
      grows = Takes-grows takes;
    }

pub returns-in-Broken : goal.returns-in-Broken
returns-in-Broken g c = c.in-Broken.ensures c.args.state c.requires.stands
