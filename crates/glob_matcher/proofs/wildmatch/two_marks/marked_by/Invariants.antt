-- The match is that of the call, and the count is kept behind the reference that is passed.
use Rattle.std.proofs.Common.{◌-◌, ◌^◌, take}
use Rattle.glob_matcher.proofs.lemmas.two_marks.Texts.{short}
use Rattle.glob_matcher.proofs.wildmatch.two_marks.marked_by.Given as goal

abbrev pub ghosts-ends_then_search : goal.ghosts-ends_then_search
ghosts-ends_then_search g a = record {
  pattern = take (2 ^ 64 - 1) a.pattern;
  value = take (2 ^ 64 - 1) a.value;
  way = a.way;
  counts = a.counts.ghost_name;
  short_pattern = short a.pattern;
  short_value = short a.value;
}
