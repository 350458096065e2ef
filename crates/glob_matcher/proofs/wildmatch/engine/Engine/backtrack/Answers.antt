use Rattle.glob_matcher.proofs.lemmas.two_marks.Prices.{NeverFall-on}
use Rattle.glob_matcher.proofs.lemmas.two_marks.Scans.{progress_on}
use Rattle.glob_matcher.proofs.wildmatch.engine.Engine.backtrack.Goals as goal

pub returns-in-Some : goal.returns-in-Some
returns-in-Some g c = record {
  meaning = c.in-Some.ensures.meaning;
  allows = λ measure n a. c.in-Some.ensures.allows measure n a;
  progress = c.in-Some.ensures.progress;
  grows = c.in-Some.ensures.grows;
}

pub returns-in-None : goal.returns-in-None
returns-in-None g c = record {
  meaning = c.back_to_crossing.ensures.meaning;
  allows = λ measure n a. c.back_to_crossing.ensures.allows measure n (c.in-None.ensures.allows measure n a);
  progress =
      progress_on c.back_to_crossing.result c.args.self.now.steps c.back_to_local.new.self.steps c.back_to_crossing.new.self.steps
      c.in-None.ensures.grows.steps c.back_to_crossing.ensures.progress;
  grows = NeverFall-on c.in-None.ensures.grows c.back_to_crossing.ensures.grows;
}
