use Rattle.std.proofs.Common.{◌≡◌, ℕ, ◌≤◌, length}
use Rattle.glob_lists.specs.Deciding.{BasesAreFolders}
use Rattle.glob_trees.specs.Ways.{GivesOnly, start_of}
use Rattle.tree_commands.specs.declared.files.pending.Pending.{Pending}
use Rattle.tree_commands.specs.FileTrees.{StaysKnown}
use Rattle.tree_commands.specs.Files.{IsMet}
use Rattle.tree_commands.specs.Private.Listing.{Among, seen_lists, terms_of}
use Rattle.tree_commands.specs.Private.UnderWay.{OfKnown, beginning_of}
use Rattle.tree_commands.proofs.lemmas.FillingLemmas.{AreKept, IsSearching}
use Rattle.tree_commands.proofs.files.filling.lists_any.Given as goal

-- nothing is listed yet
abbrev pub invariant-paths : goal.invariant-paths
invariant-paths g l = record {
  searching : IsSearching (g.S.FileSource.shows l.fn.source) (terms_of l.fn.search.on_way.terms) (beginning_of l.fn.search) l.search.pending.items (seen_lists l.search.on_way.lists.items);
  folders : BasesAreFolders (seen_lists l.search.on_way.lists.items);
  terms : l.search.on_way.terms ≡ l.fn.search.on_way.terms;
  kept : (count : ℕ) → count ≤ length (seen_lists l.fn.search.on_way.lists.items) → ((next : Pending) → Among l.fn.search.pending.items next → count ≤ next.list_count)
      → AreKept count (seen_lists l.fn.search.on_way.lists.items) (seen_lists l.search.on_way.lists.items) l.search.pending.items;
  stays : StaysKnown g.S.FileSource.shows l.fn.source l.source;
  asks : GivesOnly (λ folder. OfKnown (g.S.FileSource.shows l.fn.source) (terms_of l.fn.search.on_way.terms) (beginning_of l.fn.search) (λ basis tree start. IsMet basis tree start (start_of folder)))
      (g.S.FileSource.asked l.fn.source) (g.S.FileSource.asked l.source);
}
