use Rattle.glob_trees.proofs.lemmas.Topmost.{NoneIgnoredBefore}
use Rattle.glob_trees.proofs.deciding.ignored_folder_by.Given as goal

-- where the lists are lawful, no folder that ends before the place is ignored
abbrev pub invariant-loop-place : goal.invariant-loop-place
invariant-loop-place g l = g.L.ListStack.is_lawful l.lists → NoneIgnoredBefore (g.L.ListStack.lists l.lists) l.rules l.path.bytes l.place
