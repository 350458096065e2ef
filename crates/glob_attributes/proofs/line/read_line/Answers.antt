-- What is left of the line behind its blanks decides what it gives.
use Rattle.std.proofs.Common.{◌≡◌, ◌∙◌, ap, subst, sym}
use Rattle.std.specs.Prelude.{IfOk}
use Rattle.glob_attributes.specs.Readings.{Gives}
use Rattle.glob_attributes.specs.Private.Readings.{is_macro}
use Rattle.glob_attributes.specs.Views.{seen_reading}
use Rattle.glob_attributes.proofs.lemmas.LineLemmas.{gives-macro, gives-nothing, gives-pattern, gives-too_long, is_macro-length}
use Rattle.glob_attributes.proofs.line.read_line.Goals as goal

pub returns-then-says_nothing : goal.returns-then-says_nothing
returns-then-says_nothing c =
    gives-nothing c.args.is_top c.args.line.now c.before_zero-text.result.now c.after_blanks-inner.result.now
    (record { text_is = c.before_zero-text.ensures.bytes; inner_is = c.after_blanks-inner.ensures.bytes })
    (sym c.says_nothing.ensures ∙ c.if-says_nothing.true)

pub returns-then-text-ge-LINE_LIMIT : goal.returns-then-text-ge-LINE_LIMIT
returns-then-text-ge-LINE_LIMIT c =
    gives-too_long c.args.is_top c.args.line.now c.before_zero-text.result.now c.after_blanks-inner.result.now
    (record { text_is = c.before_zero-text.ensures.bytes; inner_is = c.after_blanks-inner.ensures.bytes })
    (sym c.says_nothing.ensures ∙ c.if-says_nothing.false) c.if-text-ge-LINE_LIMIT.true

pub read_macro-requires : goal.read_macro-requires
read_macro-requires c =
    let same : c.deref-then-is_macro.result.now ≡ c.deref.result.now = c.deref-then-is_macro.ensures.value ∙ sym c.deref.ensures.value in
    is_macro-length c.deref-then-is_macro.result.now (ap is_macro same ∙ sym c.is_macro.ensures ∙ c.if-is_macro.true)

pub returns-then-is_macro : goal.returns-then-is_macro
returns-then-is_macro c =
    let head = c.deref-then-is_macro.result.now in
    let rest = c.in_ok-head.rest.now in
    let same : head ≡ c.deref.result.now = c.deref-then-is_macro.ensures.value ∙ sym c.deref.ensures.value in
    subst (λ (g : Gives). IfOk c.read_macro.result (λ reading. seen_reading reading ≡ g))
    (gives-macro c.args.is_top c.args.line.now c.before_zero-text.result.now c.after_blanks-inner.result.now
    (record { text_is = c.before_zero-text.ensures.bytes; inner_is = c.after_blanks-inner.ensures.bytes }) head rest
    (sym c.says_nothing.ensures ∙ c.if-says_nothing.false) c.if-text-ge-LINE_LIMIT.false
    (ap (λ l. (l, rest)) c.deref-then-is_macro.ensures.value ∙ c.in_ok-head.ensures)
    (ap is_macro same ∙ sym c.is_macro.ensures ∙ c.if-is_macro.true))
    c.read_macro.ensures

pub returns : goal.returns
returns c =
    let head = c.deref-else-is_macro.result.now in
    let rest = c.in_ok-head.rest.now in
    let same : head ≡ c.deref.result.now = c.deref-else-is_macro.ensures.value ∙ sym c.deref.ensures.value in
    subst (λ (g : Gives). IfOk c.read_pattern.result (λ reading. seen_reading reading ≡ g))
    (gives-pattern c.args.is_top c.args.line.now c.before_zero-text.result.now c.after_blanks-inner.result.now
    (record { text_is = c.before_zero-text.ensures.bytes; inner_is = c.after_blanks-inner.ensures.bytes }) head rest
    (sym c.says_nothing.ensures ∙ c.if-says_nothing.false) c.if-text-ge-LINE_LIMIT.false
    (ap (λ l. (l, rest)) c.deref-else-is_macro.ensures.value ∙ c.in_ok-head.ensures)
    (ap is_macro same ∙ sym c.is_macro.ensures ∙ c.if-is_macro.false))
    c.read_pattern.ensures
