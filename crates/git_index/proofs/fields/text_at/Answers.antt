use Rattle.std.proofs.Common.{inr, arith}
use Rattle.std.proofs.lemmas.Bool.{eqb-true, eq-eqb}
use Rattle.git_index.proofs.lemmas.Zeros.{until_zero-none, until_zero-split}
use Rattle.git_index.proofs.fields.text_at.Goals as goal

pub returns-in_default : goal.returns-in_default
returns-in_default c = inr (until_zero-none c.args.bytes.now (λ k lt is. c.in_default.ensures k (omega arith) lt (eq-eqb _ _ is)))

pub returns : goal.returns
returns c = until_zero-split c.args.bytes.now c.in-Some.end c.split_at.result.0.now c.split_at.result.1.now c.in-Some.ensures.0.high (eqb-true _ _ c.in-Some.ensures.1)
    (λ k lt is. c.in-Some.ensures.0.before k (omega arith) lt (eq-eqb _ _ is)) c.split_at.ensures.front c.split_at.ensures.back
