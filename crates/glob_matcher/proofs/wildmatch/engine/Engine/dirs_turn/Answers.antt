use Rattle.std.proofs.Common.{arith}
use Rattle.glob_matcher.proofs.lemmas.two_marks.MetStars.{stands_dirs_met}
use Rattle.glob_matcher.proofs.lemmas.two_marks.Prices.{Takes-grows, Takes-within, TakesExactly-at_most}
use Rattle.glob_matcher.proofs.lemmas.two_marks.MetStarCosts.{allows_dirs_met}
use Rattle.glob_matcher.proofs.wildmatch.engine.Engine.dirs_turn.Goals as goal

pub returns : goal.returns
returns g c =
    let mark = c.set_mark-mark.ensures in
    record {
      meaning = stands_dirs_met c.set_mark-mark.result c.requires.stands c.requires.token c.requires.inside mark.place mark.at;
      allows = λ measure s n low a.
          allows_dirs_met c.set_mark-mark.result c.requires.token c.requires.stands.inside mark.place mark.at
          (Takes-within measure s 0 _ low (TakesExactly-at_most mark.count) (omega arith) (omega arith)) a;
      progress = omega (arith, mark.count.steps);
      grows = Takes-grows (TakesExactly-at_most mark.count);
    }
