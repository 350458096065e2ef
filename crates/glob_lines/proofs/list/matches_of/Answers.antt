-- The stack is that of the list.
use Rattle.std.proofs.Common.{map, subst, sym}
use Rattle.gix_glob.specs.EntryLists.{entry_list_of}
use Rattle.glob_lists.specs.Deciding.{BasesAreFolders}
use Rattle.glob_lines.proofs.lemmas.FoundLemmas.{folders_of_one}
use Rattle.glob_lines.proofs.list.matches_of.Goals as goal

pub new-requires : goal.new-requires
new-requires c = record {
  folders =
      subst (λ lists. BasesAreFolders (map (entry_list_of {V = Unit {0}} (λ _. tt)) lists)) (sym c.from_ref.ensures.value)
      (folders_of_one (entry_list_of {V = Unit {0}} (λ _. tt) c.args.list.now) c.requires);
}
