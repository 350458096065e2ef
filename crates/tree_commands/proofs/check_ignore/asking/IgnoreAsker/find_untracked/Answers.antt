use Rattle.std.proofs.Common.{◌≡◌, ◌≢◌, IfOk, [], rules, take, ◌∙◌}
use Rattle.glob_lists.specs.Paths.{IsPlainPath}
use Rattle.tree_commands.specs.Private.Asking.{asked_by}
use Rattle.tree_commands.specs.Private.Finding.{IsFound}
use Rattle.tree_commands.proofs.lemmas.IgnoreLemmas.{question_kept, told_plain, told_top, told_unplain}
use Rattle.tree_commands.proofs.check_ignore.asking.IgnoreAsker.find_untracked.Goals as goal

pub returns-then-is_empty-clause-asks : goal.returns-then-is_empty-clause-asks
returns-then-is_empty-clause-asks g c = question_kept (g.S.FolderLists.shows (Unit {0})) c.args.self.now.finder.tree c.find_top.new.self.tree c.find_top.ensures.keeps c.args.self.now.standpoint.now c.args.self.now.flags c.args.self.now.tracked
    (g.K.PathKinds.known c.args.self.now.finder.kinds) (g.K.PathKinds.known c.find_top.new.self.kinds) c.find_top.ensures.kinds

pub returns-clause-asks : goal.returns-clause-asks
returns-clause-asks g c = question_kept (g.S.FolderLists.shows (Unit {0})) c.args.self.now.finder.tree c.find.new.self.tree c.find.ensures.keeps c.args.self.now.standpoint.now c.args.self.now.flags c.args.self.now.tracked
    (g.K.PathKinds.known c.args.self.now.finder.kinds) (g.K.PathKinds.known c.find.new.self.kinds) c.find.ensures.kinds

pub returns-then-is_empty-clause-found : goal.returns-then-is_empty-clause-found
returns-then-is_empty-clause-found g c =
    let asked = c.args.self.now.path.items in
    let none : asked ≡ [] = search rules in
    told_top (asked_by g.K.PathKinds.known c.args.self.now) c.args.told.now (take c.args.bare asked) asked c.requires.leads c.requires.asked c.requires.outside c.requires.free (g.S.FolderLists.shows (Unit {0})) c.find_top.new.self.tree c.find_top.result none c.find_top.ensures.found

pub returns-then-not-plain_path-clause-found : goal.returns-then-not-plain_path-clause-found
returns-then-not-plain_path-clause-found g c =
    let asked = c.args.self.now.path.items in
    let some : asked ≢ [] = search rules in
    let unplain : ¬ IsPlainPath asked = search rules in
    told_unplain (asked_by g.K.PathKinds.known c.args.self.now) c.args.told.now (take c.args.bare asked) asked c.requires.leads c.requires.asked c.requires.outside c.requires.free (g.S.FolderLists.shows (Unit {0})) c.args.self.now.finder.tree some unplain

pub returns-clause-found : goal.returns-clause-found
returns-clause-found g c =
    let question = asked_by g.K.PathKinds.known c.args.self.now in
    let shows = g.S.FolderLists.shows (Unit {0}) in
    let asked = c.args.self.now.path.items in
    let plain : IsPlainPath asked = search rules in
    let found : IfOk c.find.result (IsFound shows c.find.new.self.tree asked (question.known.kind_of (take c.args.bare asked))) = search rules in
    told_plain question c.args.told.now (take c.args.bare asked) asked c.requires.leads c.requires.asked c.requires.outside c.requires.free shows c.find.new.self.tree c.find.result plain found
