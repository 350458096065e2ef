use Rattle.std.proofs.Common.{length}
use Rattle.glob_lists.proofs.lemmas.Deciding.AskedLemmas.{SpendsFromWith}
use Rattle.glob_lists.proofs.lemmas.Deciding.DecidingLemmas.{NoListFrom}
use Rattle.glob_lists.proofs.deciding.among.decide_among.Given as goal

-- no list from here on has a mapping that answers, and what was counted is what those lists may take
abbrev pub invariant-lists : goal.invariant-lists
invariant-lists g l = record {
  none : NoListFrom (g.A.AskedLists.lists l.asked) (g.A.AskedLists.path l.asked).bytes (g.A.AskedLists.path l.asked).is_dir (g.A.AskedLists.rules l.asked) l.i;
  spent : SpendsFromWith (g.A.AskedLists.lists l.asked) g.A.AskedLists.more_looks (length (g.A.AskedLists.path l.asked).bytes) l.i l.fn.counts l.counts;
}
