-- The parts are those that were handed over.
use Rattle.std.proofs.Common.{None, refl}
use Rattle.glob_lists.proofs.lemmas.Deciding.Answering.{AnswersUnder-tested}
use Rattle.gix_glob_c.specs.Parsed.{entry_of_parts}
use Rattle.gix_glob_c.proofs.lemmas.Views.{view_is_lawful}
use Rattle.gix_glob_c.proofs.parsed.is_matched.Goals as goal

pub returns : goal.returns
returns c = λ lawful.
    let parts = c.args.pattern.now in
    let view = c.view.result in
    let path = c.args.path.now in
    let held = view_is_lawful parts view.text.now view.mode view.first_wildcard_pos c.view.ensures.text c.view.ensures.mode c.view.ensures.place lawful in
    AnswersUnder-tested None path.bytes path.is_dir c.args.rules (entry_of_parts parts) path.bytes refl view.text.now view.mode path.is_dir c.is_matched_by.result c.view.ensures.text c.view.ensures.mode refl
    (c.is_matched_by.ensures held)
