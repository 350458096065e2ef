use Rattle.gix_glob_c.proofs.paths.last_match_of.Goals as goal

pub returns : goal.returns
returns c = record {
  inside = c.gix_glob_last_match.ensures.none;
  other = c.gix_glob_last_match.ensures.other;
  exact = c.gix_glob_last_match.ensures.exact;
}
