use Rattle.std.proofs.Common.{subst, sym, arith}
use Rattle.glob_matcher.specs.declared.wildmatch.state.Crossing.{Crossing}
use Rattle.glob_matcher.specs.Private.Prices.{amount_of}
use Rattle.glob_matcher.specs.Private.Budget.{AllowsLeft}
use Rattle.glob_matcher.specs.Private.Turns.{IsBacktrack}
use Rattle.glob_matcher.proofs.lemmas.two_marks.States.{IsLeft-crossing, Stands-places}
use Rattle.glob_matcher.proofs.lemmas.two_marks.MovedMarks.{stands_dirs_moved}
use Rattle.glob_matcher.proofs.lemmas.two_marks.StuckMarks.{dirs_stuck, unmet_left}
use Rattle.glob_matcher.proofs.lemmas.two_marks.Prices.{NeverFall-same, Takes-grows, moves-price}
use Rattle.glob_matcher.proofs.lemmas.two_marks.Budget.{Allows-places, AllowsLeft-crossing, allows_left, allows_less}
use Rattle.glob_matcher.proofs.lemmas.two_marks.MovedMarkCosts.{allows_dirs_moved, dirs_stuck_counts}
use Rattle.glob_matcher.proofs.wildmatch.engine.Engine.back_to_crossing.Goals as goal

pub returns-in-Unmet : goal.returns-in-Unmet
returns-in-Unmet g c =
    record {
      meaning = unmet_left (IsLeft-crossing c.in-Unmet.is c.requires);
      allows = λ measure n a. allows_left a;
      progress = tt;
      grows = NeverFall-same;
    }

pub returns-in-Free : goal.returns-in-Free
returns-in-Free g c =
    let m = g.M.Texts in
    subst (λ (x : Crossing). IsBacktrack m.way m.pattern m.value (λ measure. AllowsLeft measure m.way m.pattern m.value x (amount_of measure c.args.self.now))
    c.back_to_free.result c.args.self.now c.back_to_free.new.self) (sym c.in-Free.is) c.back_to_free.ensures

pub returns-in-None : goal.returns-in-None
returns-in-None g c =
    let left = IsLeft-crossing c.in-Dirs.is c.requires in
    record {
      meaning = dirs_stuck left c.in-None.ensures.unable;
      allows = λ measure n a.
          dirs_stuck_counts (λ inside. moves-price measure (c.in-None.ensures.count inside)) (AllowsLeft-crossing c.in-Dirs.is a);
      progress = tt;
      grows = c.next_directory.ensures.grows;
    }

pub returns-in-Some : goal.returns-in-Some
returns-in-Some g c =
    let left = IsLeft-crossing c.in-Dirs.is c.requires in
    let moved = c.in-Some.ensures.moved in
    let moves = c.in-Some.ensures.moves in
    record {
      meaning = Stands-places (stands_dirs_moved left moved) c.place.ensures c.at.ensures;
      allows = λ measure n a.
          Allows-places (allows_less (moves-price measure moves) (allows_dirs_moved moved (AllowsLeft-crossing c.in-Dirs.is a)))
          c.place.ensures c.at.ensures;
      progress = omega (arith, moved.after.past, moves.steps);
      grows = Takes-grows moves;
    }
