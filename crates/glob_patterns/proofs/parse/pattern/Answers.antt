-- The sign is taken off first, so what follows it decides whether there is a reading.
use Rattle.std.proofs.Common.{sym, ◌∙◌}
use Rattle.std.proofs.lemmas.Bool.{false≢true, true≢false}
use Rattle.glob_patterns.proofs.lemmas.ReadingLemmas.{HasReading-not_blank, is_blank-after_sign}
use Rattle.glob_patterns.proofs.parse.pattern.Goals as goal

pub returns-then-is_blank-clause-reads : goal.returns-then-is_blank-clause-reads
returns-then-is_blank-clause-reads c = λ r.
    false≢true (sym (HasReading-not_blank _ _ _ c.after_sign-negative.ensures.rest r) ∙ sym c.is_blank.ensures ∙ c.if-is_blank.true)

pub returns-clause-blank : goal.returns-clause-blank
returns-clause-blank c = (λ h. absurd (true≢false h), λ h. sym h ∙ sym (is_blank-after_sign _ _ _ c.after_sign-negative.ensures.rest) ∙ sym c.is_blank.ensures ∙ c.if-is_blank.false)
