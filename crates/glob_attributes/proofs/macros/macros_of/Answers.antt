-- A line that defines a macro adds it, and another line none.
use Rattle.std.proofs.Common.{◌∙◌, ap, sym}
use Rattle.glob_attributes.specs.declared.macros.Macro.{Macro}
use Rattle.glob_attributes.specs.Macros.{definition_given}
use Rattle.glob_attributes.specs.Views.{seen_reading}
use Rattle.glob_attributes.proofs.lemmas.FileLemmas.{lines_of-rest}
use Rattle.glob_attributes.proofs.lemmas.MacroLemmas.{defined-more, defined-other, definition_given-other}
use Rattle.glob_attributes.proofs.macros.macros_of.Goals as goal

pub lines-preserved-in_ok-push : goal.lines-preserved-in_ok-push
lines-preserved-in_ok-push c =
    let added : Macro = record { name = c.in-Macro.name; assignments = c.in-Macro.assignments } in
    defined-more _ _ added _ _ c.in-Some.line.now _ c.in_ok-push.ensures.items (lines_of-rest _ _ _ c.in-Some.ensures.line)
    (ap definition_given (sym c.in_ok-name.ensures ∙ ap seen_reading c.in-Macro.is)) c.lines.invariant

pub lines-preserved : goal.lines-preserved
lines-preserved c =
    defined-other _ _ _ c.in-Some.line.now _ (lines_of-rest _ _ _ c.in-Some.ensures.line)
    (ap definition_given (sym c.in_ok-name.ensures) ∙ definition_given-other c.in_ok-name.field-0 c.in_default-2.not-Macro) c.lines.invariant
