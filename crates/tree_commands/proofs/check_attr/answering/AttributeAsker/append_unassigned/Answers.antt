-- Nothing is assigned to what is no path.
use Rattle.std.proofs.Common.{◌++◌, map, ap, ◌∙◌}
use Rattle.std.specs.Vec.{vec_items}
use Rattle.glob_trees.proofs.lemmas.Stepping.{ok_gives}
use Rattle.tree_commands.specs.Private.AttributeAnswers.{unspecified_text}
use Rattle.tree_commands.proofs.lemmas.AttributeAllowed.{unassigned_allowed}
use Rattle.tree_commands.proofs.check_attr.answering.AttributeAsker.append_unassigned.Goals as goal

pub returns-clause-written : goal.returns-clause-written
returns-clause-written g c =
    let asker = c.args.self.now in
    let shown = c.in_ok-shown.shown.now in
    ok_gives c.append_unspecified.result _ _
    (λ written. unassigned_allowed g.Q.Question.files g.Q.Question.asked g.Q.Question.case g.Q.Question.shows g.Q.Question.allows g.S.AttributeFolders.shows asker c.requires.ready c.args.told.now c.requires.leads c.requires.some c.requires.plain
    shown c.args.text.now.items c.append_unspecified.new.text.items c.in_ok-shown.ensures
    (written ∙ ap (λ ls. c.args.text.now.items ++ unspecified_text asker.form shown (map vec_items ls)) c.deref.ensures.value))
    c.append_unspecified.ensures.written
