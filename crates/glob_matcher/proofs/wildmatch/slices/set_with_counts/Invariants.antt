-- The pattern is that of the call, the value is empty, and the counts are kept behind the reference that is passed.
use Rattle.std.proofs.Common.{◌-◌, ◌^◌, [], take, arith}
use Rattle.glob_matcher.proofs.lemmas.two_marks.Texts.{short}
use Rattle.glob_matcher.proofs.wildmatch.slices.set_with_counts.Given as goal

abbrev pub ghosts-set_over : goal.ghosts-set_over
ghosts-set_over g a = record {
  pattern = take (2 ^ 64 - 1) a.pattern.now;
  value = [];
  way = a.way;
  counts = a.counts.ghost_name;
  short_pattern = short a.pattern.now;
  short_value = omega arith;
}
