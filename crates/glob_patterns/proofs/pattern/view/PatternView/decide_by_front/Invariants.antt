-- The texts are those of the call, and the counts are kept behind the reference that is passed.
use Rattle.std.proofs.Common.{◌-◌, ◌^◌, take}
use Rattle.glob_matcher.proofs.lemmas.two_marks.Texts.{short}
use Rattle.glob_patterns.proofs.pattern.view.PatternView.decide_by_front.Given as goal

abbrev pub ghosts-front_compared : goal.ghosts-front_compared
ghosts-front_compared g a = record {
  pattern = take (2 ^ 64 - 1) a.self.text.now;
  value = take (2 ^ 64 - 1) a.value.now;
  way = a.way;
  counts = a.counts.ghost_name;
  short_pattern = short a.self.text.now;
  short_value = short a.value.now;
}
