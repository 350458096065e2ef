use Rattle.std.proofs.Common.{◌≡◌, inl, Bool, Some, [], rules, false, ap, sym, ◌∙◌}
use Rattle.std.specs.Option.{option_and_then, option_map_or}
use Rattle.pathspecs.specs.Leading.{leads, names_folder_so, word_names_folder}
use Rattle.git_paths.specs.Standpoints.{led}
use Rattle.tree_commands.specs.CheckIgnore.{asked_path, told_path}
use Rattle.tree_commands.specs.Private.Asking.{asked_by}
use Rattle.tree_commands.proofs.lemmas.IgnoreLemmas.{asked_bare, led_here, none_below, none_held, question_kept, told_plain}
use Rattle.tree_commands.proofs.check_ignore.asking.IgnoreAsker.find.Goals as goal

pub returns-then-is_empty-clause-asks : goal.returns-then-is_empty-clause-asks
returns-then-is_empty-clause-asks g c = question_kept (g.S.FolderLists.shows (Unit {0})) c.args.self.now.finder.tree c.find.new.self.tree c.find.ensures.keeps c.args.self.now.standpoint.now c.args.self.now.flags c.args.self.now.tracked
    (g.K.PathKinds.known c.args.self.now.finder.kinds) (g.K.PathKinds.known c.find.new.self.kinds) c.find.ensures.kinds

pub returns-then-is_empty-clause-found : goal.returns-then-is_empty-clause-found
returns-then-is_empty-clause-found g c =
    let told = c.args.told.now in
    let question = asked_by g.K.PathKinds.known c.args.self.now in
    let spelt = c.is_path.ensures c.if-is_path.true in
    let way = c.requires.leads c.if-is_usual.true [] in
    let at_top = c.is_at_top.ensures.0 c.if-is_at_top.true in
    let here : led c.args.self.now.standpoint.now told ≡ Some told = led_here c.args.self.now.standpoint.now told at_top.0 at_top.1 (c.requires.plain c.if-is_usual.true).relative way.0 in
    let leads_so : question.leads told ≡ Some told = ap (option_and_then (leads c.args.self.now.standpoint.now)) spelt ∙ here in
    let bare : word_names_folder told ≡ false = ap (λ s. option_map_or names_folder_so s false) spelt ∙ way.1 in
    let none : question.tracked ≡ [] = search rules in
    let same : told ≡ told_path told told = sym (ap (λ (b : Bool). asked_path b told) bare ∙ asked_bare told) in
    told_plain question told told told (inl leads_so) same (none_below question.tracked told none) (none_held question.tracked told (question.literal told) none) (g.S.FolderLists.shows (Unit {0})) c.find.new.self.tree c.find.result
    (c.requires.plain c.if-is_usual.true)
    c.find.ensures.found
