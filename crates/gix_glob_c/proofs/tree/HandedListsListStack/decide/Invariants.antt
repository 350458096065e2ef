use Rattle.std.specs.Prelude.{All, map}
use Rattle.glob_lists.proofs.lemmas.Deciding.DecidingLemmas.{NoListFrom}
use Rattle.gix_glob_c.specs.Lists.{IsLawfulList, entry_list}
use Rattle.gix_glob_c.proofs.tree.HandedListsListStack.decide.Given as goal

-- no list from here on has a pattern that answers, where all of them are lawful
abbrev pub invariant-loop-i : goal.invariant-loop-i
invariant-loop-i l = All IsLawfulList l.self.lists.now → NoListFrom (map entry_list l.self.lists.now) l.path.bytes l.path.is_dir l.rules l.i
