-- An escaped sign is taken back, and white space has no special byte.
use Rattle.std.proofs.Common.{◌≡◌, ◌∙◌, inl, ap, refl, sym, true}
use Rattle.std.proofs.lemmas.Bool.{false≢true}
use Rattle.gix_glob.specs.Patterns.{is_blank}
use Rattle.glob_attributes.proofs.lemmas.PatternLemmas.{first_special-blank}
use Rattle.glob_attributes.proofs.lemmas.ViewLemmas.{escaped_reading, without_negation-none}
use Rattle.glob_attributes.proofs.borrowed.view.view_of.Goals as goal

pub returns-in_default-clause-lawful : goal.returns-in_default-clause-lawful
returns-in_default-clause-lawful c =
    let bytes = c.args.bytes.now in
    let blank : is_blank bytes ≡ true = ap is_blank (sym (without_negation-none bytes c.requires)) ∙ c.in_default.ensures.blank.0 refl in
    record { placed = sym (first_special-blank bytes blank); ends = λ never. absurd (false≢true never) }

pub returns-clause-reads : goal.returns-clause-reads
returns-clause-reads c =
    inl (escaped_reading c.args.bytes.now c.in-Some.view.text.now c.in-Some.view.mode c.in-Some.view.first_wildcard_pos (sym c.is_escaped.ensures ∙ c.if-not-is_escaped.false) c.in-Some.ensures.reads).reads

pub returns-clause-lawful : goal.returns-clause-lawful
returns-clause-lawful c =
    (escaped_reading c.args.bytes.now c.in-Some.view.text.now c.in-Some.view.mode c.in-Some.view.first_wildcard_pos (sym c.is_escaped.ensures ∙ c.if-not-is_escaped.false) c.in-Some.ensures.reads).lawful c.in-Some.ensures.lawful
