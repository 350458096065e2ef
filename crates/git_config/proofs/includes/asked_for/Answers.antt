-- The value tells the path.
use Rattle.std.proofs.Common.{◌++◌, Some, option_map, sym, ap, ◌∙◌}
use Rattle.std.specs.Option.{option_copied}
use Rattle.std.specs.Vec.{vec_items}
use Rattle.git_config.specs.Grammar.{before_zero}
use Rattle.git_config.specs.Includes.{included_path}
use Rattle.git_config.specs.Private.Sections.{file_seen, seen_in}
use Rattle.git_config.proofs.lemmas.AskLemmas.{asks_path, included}
use Rattle.git_config.proofs.includes.asked_for.Goals as goal

pub returns-in-Some : goal.returns-in-Some
returns-in-Some c =
    let around = c.args.around.now in let s = seen_in c.args.scope.now.section.value c.args.entry.now in
    let key = ap before_zero (ap (λ l. s.section ++ l) (sym c.deref.ensures.value)) in
    let file = ap (λ f. included_path around f (Some c.deref-in-Some-2.result.now)) (c.file_of.ensures ∙ ap file_seen c.deref-in-Some.ensures) in
    let value = ap (λ l. included_path around s.file (Some l)) c.deref-in-Some-2.ensures.value ∙ sym (ap (λ v. included_path around s.file (option_map vec_items v)) c.in-Some.is) in
    asks_path around (option_copied c.args.real) s _ _ (included around (option_copied c.args.real) s c.in_ok-has_include.field-0 _ c.if-not-branch.false key c.in_ok-has_include.ensures) (file ∙ value) c.included_path.ensures

pub returns-in-None : goal.returns-in-None
returns-in-None c =
    let around = c.args.around.now in let s = seen_in c.args.scope.now.section.value c.args.entry.now in
    let key = ap before_zero (ap (λ l. s.section ++ l) (sym c.deref.ensures.value)) in
    (included around (option_copied c.args.real) s c.in_ok-has_include.field-0 _ c.if-not-branch.false key c.in_ok-has_include.ensures, ap (λ v. included_path around s.file (option_map vec_items v)) c.in-None.is)
