-- The texts are those of the match, and the counts are kept behind the reference that is passed.
use Rattle.glob_matcher.proofs.wildmatch.set_apart.read_sets.Given as goal

abbrev pub ghosts-read_by : goal.ghosts-read_by
ghosts-read_by g a = record {
  pattern = g.M.Texts.pattern;
  value = g.M.Texts.value;
  way = g.M.Texts.way;
  counts = a.counts.ghost_name;
  short_pattern = g.M.Texts.short_pattern;
  short_value = g.M.Texts.short_value;
}
