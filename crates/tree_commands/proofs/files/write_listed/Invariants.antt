use Rattle.std.proofs.Common.{◌≡◌}
use Rattle.byte_streams.specs.Watched.{inner}
use Rattle.glob_lists.specs.Deciding.{BasesAreFolders}
use Rattle.glob_trees.specs.Ways.{GivesOnly}
use Rattle.tree_commands.specs.FileTrees.{StaysKnown}
use Rattle.tree_commands.specs.Files.{IsMet, MayAsk, path_line}
use Rattle.tree_commands.specs.Private.Listing.{seen_lists, terms_of}
use Rattle.tree_commands.specs.Private.UnderWay.{IsWriting, OfKnown, beginning_of}
use Rattle.tree_commands.proofs.files.write_listed.Given as goal

-- the lines of what is listed so far are written, or are left
abbrev pub invariant-paths : goal.invariant-paths
invariant-paths g l = record {
  writing : IsWriting (path_line l.fn.lines.mark l.fn.lines.standpoint l.fn.lines.form) (g.S.FileSource.shows l.fn.source) (terms_of l.fn.lister.on_way.terms) (beginning_of l.fn.lister)
      (g.W.Write.contents (inner l.fn.writer)) (g.W.Write.contents (inner l.writer)) l.lines.text.items l.lister.pending.items (seen_lists l.lister.on_way.lists.items);
  folders : BasesAreFolders (seen_lists l.lister.on_way.lists.items);
  terms : l.lister.on_way.terms ≡ l.fn.lister.on_way.terms;
  standpoint : l.lines.standpoint ≡ l.fn.lines.standpoint;
  form : l.lines.form ≡ l.fn.lines.form;
  mark : l.lines.mark ≡ l.fn.lines.mark;
  stays : StaysKnown g.S.FileSource.shows l.fn.source l.source;
  asks : GivesOnly (λ folder. OfKnown (g.S.FileSource.shows l.fn.source) (terms_of l.fn.lister.on_way.terms) (beginning_of l.fn.lister) (λ basis tree start. MayAsk (IsMet basis tree start) basis tree folder))
      (g.S.FileSource.asked l.fn.source) (g.S.FileSource.asked l.source);
}
