use Rattle.std.proofs.Common.{◌+◌, ◌≤◌, drop, length, map}
use Rattle.std.specs.Prelude.{option_map, sum_by}
use Rattle.std.specs.Vec.{vec_items}
use Rattle.glob_lists.specs.Deciding.{AnswersAt}
use Rattle.gix_glob.specs.Entries.{entry_of}
use Rattle.gix_glob.specs.EntryLists.{entry_list_of}
use Rattle.gix_glob.specs.Steps.{NeverFall}
use Rattle.gix_glob.specs.PatternLimits.{pattern_look_limit, pattern_step_limit}
use Rattle.gix_glob.specs.Stripping.{strip_looks}
use Rattle.glob_lists.proofs.lemmas.Deciding.LastNumbers.{NoneFrom}
use Rattle.glob_lists.proofs.deciding.last_match.Given as goal

-- no mapping from here on answers, and what was counted is what stripping the base and those mappings may take
abbrev pub invariant-loop-m : goal.invariant-loop-m
invariant-loop-m g l = record {
  none : NoneFrom (AnswersAt (entry_list_of g.T.Pattern.seen l.list) l.path.bytes l.path.is_dir l.rules) l.m;
  grows : NeverFall l.fn.counts l.counts;
  steps : l.counts.steps
      ≤ l.fn.counts.steps
      + sum_by (λ entry. pattern_step_limit (length entry.text) (length l.path.bytes)) (drop l.m (map (entry_of g.T.Pattern.seen) l.list.patterns.items));
  looks : l.counts.looks
      ≤ l.fn.counts.looks + strip_looks (option_map vec_items l.list.base) (length l.path.bytes)
      + sum_by (λ entry. pattern_look_limit (length entry.text) (length l.path.bytes)) (drop l.m (map (entry_of g.T.Pattern.seen) l.list.patterns.items));
}
