-- A word without a sign has a value where it has an equals sign.
use Rattle.std.proofs.Common.{sym, ◌∙◌}
use Rattle.std.proofs.lemmas.List.{take_rest}
use Rattle.glob_attributes.proofs.lemmas.AssignmentLemmas.{assignment_of-bare, assignment_of-value}
use Rattle.glob_attributes.proofs.lemmas.StartLemmas.{starts_with-byte}
use Rattle.glob_attributes.proofs.assignment.split_word.Goals as goal

pub returns-in-Some-first_equals : goal.returns-in-Some-first_equals
returns-in-Some-first_equals c =
    let word = c.args.word.now in
    rw take_rest (sym (assignment_of-value word c.in-Some-first_equals.place
    (starts_with-byte 45 word ∙ c.in_default.ensures.cases)
    (starts_with-byte 33 word ∙ c.in_default-strip_prefix.ensures.cases)
    (sym c.first_equals.ensures ∙ c.in-Some-first_equals.is)))

pub returns-in-None : goal.returns-in-None
returns-in-None c =
    let word = c.args.word.now in
    sym (assignment_of-bare word
    (starts_with-byte 45 word ∙ c.in_default.ensures.cases)
    (starts_with-byte 33 word ∙ c.in_default-strip_prefix.ensures.cases)
    (sym c.first_equals.ensures ∙ c.in-None.is))
