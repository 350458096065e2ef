use Rattle.std.proofs.Common.{◌≤◌, ◌<◌, map, take}
use Rattle.gix_glob.specs.EntryLists.{entry_list_of}
use Rattle.glob_lists.specs.Deciding.{PairAnswers}
use Rattle.glob_lists.specs.Matches.{entry_count}
use Rattle.glob_lists.proofs.stack.lists.PreparedLists.count_shown_from.Given as goal

-- as many were counted at most as the lists so far have, and one where the first pair answers
abbrev pub invariant-lists : goal.invariant-lists
invariant-lists g l = record {
  few : l.count ≤ entry_count (take l.k (map (entry_list_of g.T.Pattern.seen) l.self));
  some : l.i < l.k → PairAnswers (map (entry_list_of g.T.Pattern.seen) l.self) l.question.path.now.bytes l.question.path.now.is_dir l.question.rules l.i l.m → 0 < l.count;
}
