-- The lists are gone through from the last one on.
use Rattle.std.proofs.Common.{◌-◌, length, arith}
use Rattle.glob_lists.proofs.lemmas.Deciding.AskedLemmas.{Decides-last, NoListFrom-last, SpendsFrom-all, SpendsFrom-asked, SpendsFromWith}
use Rattle.glob_lists.proofs.lemmas.Deciding.DecidingLemmas.{Decides-none}
use Rattle.glob_lists.proofs.lemmas.Elements.{slice_get-inside}
use Rattle.glob_lists.proofs.deciding.among.decide_among.Given.{Over}
use Rattle.glob_lists.proofs.deciding.among.decide_among.Goals as goal
use Rattle.glob_lists.proofs.deciding.among.decide_among.Goals.{After-last_match}

-- what the lists from the one that was asked on may take
spent : (g : Over) (c : After-last_match g) → SpendsFromWith (g.A.AskedLists.lists c.args.asked.now) g.A.AskedLists.more_looks (length (g.A.AskedLists.path c.args.asked.now).bytes) (c.lists.i - 1) c.args.counts.now c.last_match.new.counts
spent g c =
    let lists = g.A.AskedLists.lists c.args.asked.now in
    let at = slice_get-inside lists (c.lists.i - 1) (omega (arith, c.lists.auto.i, c.lists-test.true, c.count-i.ensures)) in
    SpendsFrom-asked lists g.A.AskedLists.more_looks (length (g.A.AskedLists.path c.args.asked.now).bytes) (c.lists.i - 1) c.lists.i at.0 c.args.counts.now c.lists.counts c.last_match.new.counts
    (omega (arith, c.lists-test.true)) at.1 c.lists.invariant.spent (c.last_match.ensures.spends at.0 at.1)

pub last_match-requires-clause-inside : goal.last_match-requires-clause-inside
last_match-requires-clause-inside g c = omega (arith, c.lists.auto.i, c.lists-test.true, c.count-i.ensures)

pub returns-in-Some-clause-exact : goal.returns-in-Some-clause-exact
returns-in-Some-clause-exact g c =
    Decides-last (g.A.AskedLists.lists c.args.asked.now) (g.A.AskedLists.path c.args.asked.now) (g.A.AskedLists.rules c.args.asked.now) c.lists.i (c.lists.i - 1) c.in-Some.m (omega (arith, c.lists-test.true)) c.lists.invariant.none
    c.in-Some.ensures.last

pub returns-in-Some-clause-spends : goal.returns-in-Some-clause-spends
returns-in-Some-clause-spends g c =
    SpendsFrom-all (g.A.AskedLists.lists c.args.asked.now) g.A.AskedLists.more_looks (length (g.A.AskedLists.path c.args.asked.now).bytes) (c.lists.i - 1) c.args.counts.now c.last_match.new.counts
    (spent g (goal.at.returns-in-Some-clause-spends g c).After-last_match)

pub lists-preserved : goal.lists-preserved
lists-preserved g c = record {
  none = NoListFrom-last (g.A.AskedLists.lists c.args.asked.now) (g.A.AskedLists.path c.args.asked.now) (g.A.AskedLists.rules c.args.asked.now) c.lists.i (c.lists.i - 1) (omega (arith, c.lists-test.true)) c.lists.invariant.none
      c.in_default.ensures.last;
  spent = spent g (goal.at.lists-preserved g c).After-last_match;
}

pub returns-clause-exact : goal.returns-clause-exact
returns-clause-exact g c = Decides-none _ _ _ _ c.lists.i (omega (arith, c.lists-test.false)) c.lists.invariant.none

pub returns-clause-spends : goal.returns-clause-spends
returns-clause-spends g c =
    SpendsFrom-all (g.A.AskedLists.lists c.args.asked.now) g.A.AskedLists.more_looks (length (g.A.AskedLists.path c.args.asked.now).bytes) c.lists.i c.args.counts.now c.lists.counts c.lists.invariant.spent
