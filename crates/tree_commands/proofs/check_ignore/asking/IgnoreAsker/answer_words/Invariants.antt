-- The first paths were answered.
use Rattle.std.proofs.Common.{◌≡◌, map, take}
use Rattle.tree_commands.specs.CheckIgnore.{IsIgnoreText}
use Rattle.tree_commands.specs.Private.Asking.{asked_by}
use Rattle.tree_commands.proofs.check_ignore.asking.IgnoreAsker.answer_words.Given as goal

abbrev pub invariant-paths : goal.invariant-paths
invariant-paths g l = record {
  asks : asked_by g.K.PathKinds.known l.self ≡ asked_by g.K.PathKinds.known l.fn.self;
  told : IsIgnoreText (asked_by g.K.PathKinds.known l.fn.self) (g.S.FolderLists.shows (Unit {0}) l.self.finder.tree.source) l.self.is_any (map (λ path. path.now) (take l.path-index l.paths)) l.text.items;
}
