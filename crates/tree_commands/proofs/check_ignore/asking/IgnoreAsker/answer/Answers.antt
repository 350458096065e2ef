use Rattle.tree_commands.specs.Private.Asking.{asked_by}
use Rattle.tree_commands.proofs.lemmas.IgnoreLemmas.{told_line, told_there}
use Rattle.tree_commands.proofs.check_ignore.asking.IgnoreAsker.answer.Goals as goal

pub append-requires-clause-there : goal.append-requires-clause-there
append-requires-clause-there g c = told_there (g.S.FolderLists.shows (Unit {0})) c.find.new.self.finder.tree _ _ c.in_ok-pair.pair c.in_ok-pair.ensures.found

pub returns-clause-answered : goal.returns-clause-answered
returns-clause-answered g c =
    let appended = c.in_ok-is_counted.ensures.appended in
    let asker = c.find.new.self in
    told_line (g.S.FolderLists.shows (Unit {0})) asker.finder.tree asker.standpoint.now asker.flags asker.tracked (g.K.PathKinds.known asker.finder.kinds) c.args.told.now.bytes.now c.in_ok-pair.pair appended.0
    (asked_by g.K.PathKinds.known c.args.self.now) c.find.ensures.asks c.in_ok-pair.ensures.found appended.1
    c.args.self.now.is_any c.in_ok-is_counted.is_counted appended.3 asker.is_any c.find.ensures.same c.args.text.now.items c.append.new.text.items appended.2
