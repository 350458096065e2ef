-- The lists are as before at each try.
use Rattle.std.proofs.Common.{All, sym, subst, ◌∙◌}
use Rattle.std.proofs.lemmas.List.Elements.{All-push}
use Rattle.glob_lists.specs.Deciding.{BasesAreFolders}
use Rattle.glob_explain.specs.Causes.{IsCause, seen}
use Rattle.glob_explain.specs.Trying.{Turns}
use Rattle.glob_explain.specs.declared.near.Near.{Near}
use Rattle.glob_explain.proofs.near.Search.tried.Goals as goal

pub turns-requires-clause-folders : goal.turns-requires-clause-folders
turns-requires-clause-folders c = subst BasesAreFolders (sym c.found.invariant.same) c.requires.folders

pub turns-requires-clause-was : goal.turns-requires-clause-was
turns-requires-clause-was c = subst (λ lists. IsCause lists c.args.self.now.rules c.args.self.now.path.now c.args.self.now.before) (sym c.found.invariant.same) c.requires.was

pub found-preserved : goal.found-preserved
found-preserved c =
    let same = c.found.invariant.same in
    let P : Near → Type 0 = λ near. Turns (seen c.args.lists.now) c.args.self.now.rules c.args.self.now.path.now near.pair near.line.items in
    let near = c.in-Some.near in
    let turns : P near = subst (λ lists. Turns lists c.args.self.now.rules c.args.self.now.path.now near.pair near.line.items) same (c.in_ok-turns.ensures.told c.if-not-branch.false) in
    record {
      can = tt;
      finite = tt;
      same = c.in_ok-turns.ensures.same ∙ same;
      told = subst (All P) (sym c.in_ok-push.ensures.items) (All-push P c.found.told.items near c.found.invariant.told turns);
    }
