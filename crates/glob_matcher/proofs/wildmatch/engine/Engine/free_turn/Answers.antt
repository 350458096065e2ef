use Rattle.std.proofs.Common.{◌≡◌, ◌≢◌, arith, length}
use Rattle.glob_matcher.proofs.lemmas.two_marks.MetStars.{free_last, free_known, stands_free_met}
use Rattle.glob_matcher.proofs.lemmas.two_marks.Prices.{NeverFall-same, Takes-grows, Takes-none, Takes-within, TakesExactly-at_most}
use Rattle.glob_matcher.proofs.lemmas.two_marks.MetStarCosts.{allows_free_met, free_last_counts}
use Rattle.glob_matcher.proofs.wildmatch.engine.Engine.free_turn.Goals as goal

pub returns-then-after-pattern_len : goal.returns-then-after-pattern_len
returns-then-after-pattern_len g c =
    let m = g.M.Texts in
    let last : c.args.after ≡ length m.pattern = omega (arith, c.if-after-pattern_len.true, c.pattern_len.ensures) in
    record {
      meaning = free_last c.requires.stands c.requires.token last;
      allows = λ measure s n low a.
          free_last_counts c.requires.token c.requires.stands.inside
          (Takes-within measure s 0 _ low Takes-none (omega arith) (omega arith)) a;
      progress = tt;
      grows = NeverFall-same;
    }

pub returns : goal.returns
returns g c =
    let m = g.M.Texts in
    let mark = c.set_mark-mark.ensures in
    let more : c.args.after ≢ length m.pattern = λ last. c.if-after-pattern_len.false (omega (arith, last, c.pattern_len.ensures)) in
    record {
      meaning =
          stands_free_met c.set_mark-mark.result c.requires.stands c.requires.token c.requires.inside more mark.place mark.at;
      allows = λ measure s n low a.
          allows_free_met c.set_mark-mark.result c.requires.token more (free_known m.value c.requires.token c.requires.inside more)
          c.requires.stands.inside mark.place mark.at (Takes-within measure s 0 _ low (TakesExactly-at_most mark.count) (omega arith) (omega arith)) a;
      progress = omega (arith, mark.count.steps);
      grows = Takes-grows (TakesExactly-at_most mark.count);
    }
