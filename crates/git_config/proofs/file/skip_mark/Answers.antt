-- The mark's first byte is taken, and then each other one.
use Rattle.std.proofs.Common.{refl, sym, ◌∙◌}
use Rattle.std.proofs.lemmas.Result.{err_from_is_err_and}
use Rattle.git_config.specs.Grammar.{behind_mark, between, front}
use Rattle.std.specs.Prelude.{true, false}
use Rattle.git_config.proofs.lemmas.FrontLemmas.{front_as_between, mark_taken}
use Rattle.git_config.proofs.lemmas.ReadLemmas.{goes_byte}
use Rattle.git_config.proofs.lemmas.TurnLemmas.{front-mark}
use Rattle.git_config.proofs.file.skip_mark.Goals as goal

pub returns-then-not-begins_with_mark : goal.returns-then-not-begins_with_mark
returns-then-not-begins_with_mark c =
    front_as_between c.args.text.now.line c.args.text.now.rest.now (sym c.begins_with_mark.ensures ∙ c.if-not-begins_with_mark.true)

pub returns-in_err-skip_mark_byte : goal.returns-in_err-skip_mark_byte
returns-in_err-skip_mark_byte c =
    let old = c.args.text.now in
    let taken = mark_taken _ old.rest.now _ old.line _ (sym c.begins_with_mark.ensures ∙ c.if-not-begins_with_mark.false) c.take_byte.ensures in
    let is = goes_byte front (behind_mark false) taken (front-mark old.line 239 refl) in
    let p = err_from_is_err_and c.from_residual.result c.from_residual.ensures.1 in
    let reads = c.skip_mark_byte.ensures (behind_mark false) (behind_mark true) (λ b. refl) refl in
    rw (p.1, p.2) (rw is (rw c.in_err-skip_mark_byte.was at reads))

pub returns : goal.returns
returns c =
    let old = c.args.text.now in
    let taken = mark_taken _ old.rest.now _ old.line _ (sym c.begins_with_mark.ensures ∙ c.if-not-begins_with_mark.false) c.take_byte.ensures in
    let is = goes_byte front (behind_mark false) taken (front-mark old.line 239 refl) in
    let reads = c.skip_mark_byte.ensures (behind_mark false) (behind_mark true) (λ b. refl) refl in
    let first = rw c.in_ok-skip_mark_byte.was at reads in
    rw (is ∙ first) (c.skip_mark_byte-2.ensures (behind_mark true) between (λ b. refl) refl)
