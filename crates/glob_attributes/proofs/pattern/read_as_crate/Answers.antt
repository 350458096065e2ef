-- White space has no special byte, so it makes a pattern.
use Rattle.std.proofs.Common.{◌≡◌, ◌∙◌, None, ap, refl, subst, sym, true}
use Rattle.std.specs.Option.{IsNone}
use Rattle.std.proofs.lemmas.Bool.{false≢true}
use Rattle.gix_glob.specs.Patterns.{IsPattern, is_blank}
use Rattle.glob_attributes.proofs.lemmas.PatternLemmas.{first_special-blank}
use Rattle.glob_attributes.proofs.pattern.read_as_crate.Goals as goal

pub unreachable-requires : goal.unreachable-requires
unreachable-requires c =
    let text = c.in_ok-text.text.items in
    let blank : is_blank c.args.bytes.now ≡ true = c.in_ok-pattern.ensures.blank.0 (subst IsNone (sym c.in_default.is) refl) in
    let here : is_blank text ≡ true = ap is_blank c.in_ok-text.ensures.items ∙ blank in
    let is : IsPattern text (record { 0 = 1 }) None = record { placed = sym (first_special-blank text here); ends = λ never. absurd (false≢true never) } in
    false≢true (c.in-Err.ensures.exact.1 is)
