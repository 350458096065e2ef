-- The line was read, and has no other reading.
use Rattle.std.proofs.Common.{◌↔◌, false, IsTrue, subst}
use Rattle.gix_glob.specs.declared.pattern.Case.TheVariants.{Sensitive}
use Rattle.glob_lists.specs.Deciding.{AnswersFor}
use Rattle.glob_lists.specs.Rules.{by_crate}
use Rattle.glob_uses.proofs.matches_line.Goals as goal

pub returns-clause-answers : goal.returns-clause-answers
returns-clause-answers c = λ entry read plain.
    let view = c.in-Some-Some.pattern in
    let path = c.args.path.now in
    let answer = c.is_matched_by.result in
    let same = c.line_has_one_reading.ensures _ _ _ _ _ _ _ _ c.in-Some-Some.ensures.reads read in
    let exact = rw c.by_crate.ensures at (rw c.in-Some-Some.ensures'.1 at (c.is_matched_by.ensures c.in-Some-Some.ensures.lawful)) in
    subst (λ text. IsTrue answer ↔ AnswersFor text entry.mode path false (by_crate Sensitive)) same.0
    (subst (λ mode. IsTrue answer ↔ AnswersFor view.text.now mode path false (by_crate Sensitive)) same.1 exact)
