-- Where the path shows nothing that the rows ask for together none answers.
use Rattle.std.proofs.Common.{refl}
use Rattle.gix_glob.specs.EntryLists.{entry_list_of}
use Rattle.glob_lists.proofs.lemmas.Lists.RowLemmas.{unseen_answers}
use Rattle.glob_lists.proofs.list.rows.ListRows.rest.Goals as goal

pub returns-then-is_passed_over-clause-rest : goal.returns-then-is_passed_over-clause-rest
returns-then-is_passed_over-clause-rest g c =
    unseen_answers (entry_list_of g.T.Pattern.seen c.args.list.now) c.args.self.now c.requires.of c.args.question.now.path.now c.args.question.now.rules c.args.question.now.probe c.args.self.now.sight refl
    c.answering_patterns_pass.ensures c.requires.shows (c.is_passed_over.ensures c.if-is_passed_over.true)
