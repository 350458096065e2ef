-- All lists were gone through, from the last one on.
use Rattle.std.proofs.Common.{◌≡◌, ℕ, map, sym, subst, arith}
use Rattle.gix_glob.specs.EntryLists.{entry_list_of}
use Rattle.glob_lists.specs.Matches.{AreMatches}
use Rattle.glob_lists.specs.Private.Stack.Finding.{AreFoundFrom}
use Rattle.glob_lists.proofs.lemmas.Stack.FoundPairs.{AreFoundFrom-all}
use Rattle.glob_lists.proofs.stack.lists.PreparedLists.matches_into.Goals as goal

pub returns : goal.returns
returns g c =
    let lists = map (entry_list_of g.T.Pattern.seen) c.args.self.now in
    let path = c.args.question.now.path.now in
    let first : c.lists.i ≡ 0 = omega (arith, c.lists-test.false) in
    subst (AreMatches lists path.bytes path.is_dir c.args.question.now.rules) (sym c.reverse.ensures.items)
    (AreFoundFrom-all lists path c.args.question.now.rules c.lists.pairs.items
    (subst (λ (i : ℕ). AreFoundFrom lists path c.args.question.now.rules i 0 c.lists.pairs.items) first c.lists.invariant))
