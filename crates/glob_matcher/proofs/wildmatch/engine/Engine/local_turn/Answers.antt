use Rattle.std.proofs.Common.{◌+◌, ◌-◌, ◌*◌, ℕ, sym, ap, subst, arith}
use Rattle.glob_matcher.specs.Bytes.{HasByte, slash}
use Rattle.glob_matcher.proofs.lemmas.two_marks.States.{Stands-places}
use Rattle.glob_matcher.proofs.lemmas.two_marks.MetStars.{stands_local_met}
use Rattle.glob_matcher.proofs.lemmas.two_marks.Prices.{Takes-both, Takes-grows, Takes-within, TakesExactly-at_most, amount-same}
use Rattle.glob_matcher.proofs.lemmas.two_marks.Budget.{Allows-places, allows_less}
use Rattle.glob_matcher.proofs.lemmas.two_marks.MetStarCosts.{allows_local_met}
use Rattle.glob_matcher.proofs.lemmas.two_marks.SlashesAhead.{allows_past_met, allows_slash_ahead, scan_prices, stands_past_met, stands_slash_ahead}
use Rattle.glob_matcher.proofs.wildmatch.engine.Engine.local_turn.Goals as goal

pub returns-then-not-has_byte : goal.returns-then-not-has_byte
returns-then-not-has_byte g c =
    let mark = c.set_mark-mark.ensures in
    let count = Takes-both (TakesExactly-at_most mark.count) c.has_byte.ensures.count in
    record {
      meaning = stands_local_met c.set_mark-mark.result c.requires.stands c.requires.token c.requires.inside mark.place mark.at;
      allows = λ measure s n low a.
          allows_local_met c.set_mark-mark.result c.requires.token c.requires.stands.inside mark.place mark.at
          (Takes-within measure s 0 _ low count (omega arith) (omega arith)) a;
      progress = omega (arith, count.steps);
      grows = Takes-grows count;
    }

pub returns-in-Undecided : goal.returns-in-Undecided
returns-in-Undecided g c =
    let m = g.M.Texts in
    let mark = c.set_mark-mark.ensures in
    let so = c.in-Undecided.ensures in
    let count = Takes-both (TakesExactly-at_most mark.count) c.has_byte.ensures.count in
    let passed = 2 * (c.in-Undecided.end.at - c.set_mark-mark.result.at) in
    let is : HasByte m.pattern c.set_mark-mark.result.place slash = subst (λ (i : ℕ). HasByte m.pattern i slash) (sym mark.place) (c.has_byte.ensures.answer.0 c.if-not-has_byte.false) in
    let met = Stands-places (stands_local_met c.set_mark-mark.result c.requires.stands c.requires.token c.requires.inside mark.place mark.at) mark.place mark.at in
    record {
      meaning = Stands-places (stands_slash_ahead met is so.meaning) c.place.ensures c.at.ensures;
      allows = λ measure s n low a.
          let here = Allows-places (allows_local_met c.set_mark-mark.result c.requires.token c.requires.stands.inside mark.place mark.at
          (Takes-within measure s 0 _ low count (omega arith) (omega arith)) a) mark.place mark.at in
          Allows-places
          (allows_less (omega (arith, amount-same measure 0, scan_prices measure passed 0 0 so.takes (omega arith) (omega arith)))
          (allows_slash_ahead met.local.path here so.meaning))
          c.place.ensures c.at.ensures;
      progress = omega (arith, count.steps, so.takes.steps);
      grows = Takes-grows (Takes-both count so.takes);
    }

pub returns-in-Found : goal.returns-in-Found
returns-in-Found g c =
    let m = g.M.Texts in
    let mark = c.set_mark-mark.ensures in
    let so = c.in-Found.ensures in
    let count = Takes-both (TakesExactly-at_most mark.count) c.has_byte.ensures.count in
    let passed = 2 * (c.in-Found.found.at - c.set_mark-mark.result.at) in
    let is : HasByte m.pattern c.set_mark-mark.result.place slash = subst (λ (i : ℕ). HasByte m.pattern i slash) (sym mark.place) (c.has_byte.ensures.answer.0 c.if-not-has_byte.false) in
    let there : HasByte m.pattern c.in-Found.found.place slash = subst (λ (i : ℕ). HasByte m.pattern i slash) (sym so.meaning.0.same) is in
    let met = Stands-places (stands_local_met c.set_mark-mark.result c.requires.stands c.requires.token c.requires.inside mark.place mark.at) mark.place mark.at in
    let ahead = stands_slash_ahead met is so.meaning.0 in
    let place = ap (λ (x : ℕ). x + 1) c.place-in-Found.ensures in
    let at = ap (λ (x : ℕ). x + 1) c.at-in-Found.ensures in
    record {
      meaning = Stands-places (stands_past_met ahead there so.meaning.1 so.meaning.2) place at;
      allows = λ measure s n low a.
          let here = Allows-places (allows_local_met c.set_mark-mark.result c.requires.token c.requires.stands.inside mark.place mark.at
          (Takes-within measure s 0 _ low count (omega arith) (omega arith)) a) mark.place mark.at in
          Allows-places
          (allows_less (scan_prices measure passed 1 8 so.takes (omega arith) (omega arith))
          (allows_past_met ahead (allows_slash_ahead met.local.path here so.meaning.0) there so.meaning.1 so.meaning.2))
          place at;
      progress = omega (arith, count.steps, so.takes.steps);
      grows = Takes-grows (Takes-both count so.takes);
    }
