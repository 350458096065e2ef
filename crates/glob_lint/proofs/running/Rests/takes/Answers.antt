-- Two bytes are alike, or each byte is tried.
use Rattle.std.proofs.Common.{sym, ◌∙◌, arith, below_more}
use Rattle.std.proofs.lemmas.Bool.{false≢true}
use Rattle.glob_matcher.specs.Matching.{Fits}
use Rattle.glob_lint.proofs.lemmas.Running.{alike_fits}
use Rattle.glob_lint.proofs.running.Rests.takes.Goals as goal

pub returns-in-Byte-Byte : goal.returns-in-Byte-Byte
returns-in-Byte-Byte c = λ left_after right_after x y yes.
    let two = c.in-Byte-Byte in
    alike_fits c.args.way two.byte two.wanted x.token y.token (sym two.is-0 ∙ x.same_kind) (sym two.is-1 ∙ y.same_kind) (c.alike.ensures.0 yes)

pub bytes-init : goal.bytes-init
bytes-init c = λ left_after right_after x y b none. absurd (omega arith)

pub returns-then-not-takes_byte : goal.returns-then-not-takes_byte
returns-then-not-takes_byte c = λ left_after right_after x y no. absurd (false≢true no)

pub bytes-preserved : goal.bytes-preserved
bytes-preserved c = λ left_after right_after x y.
    below_more (λ b. Fits c.args.way x.token b → Fits c.args.way y.token b) c.bytes.code
    (c.bytes.invariant left_after right_after x y) (c.takes_byte.ensures left_after right_after x y c.if-not-takes_byte.false)

pub returns : goal.returns
returns c = λ left_after right_after x y yes.
    record { each = λ b small. c.bytes.invariant left_after right_after x y b (omega arith) }
