use Rattle.std.proofs.Common.{◌≡◌, ◌+◌, ◌*◌, ◌%◌, get_or, sym, ◌∙◌, inr, arith}
use Rattle.git_index.proofs.lemmas.Numbers.{number-above, number-full, number-last, number-more, number-none}
use Rattle.git_index.proofs.fields.shared_number.Goals as goal

pub returns-in_default-checked_mul-clause-gives : goal.returns-in_default-checked_mul-clause-gives
returns-in_default-checked_mul-clause-gives c =
    inr (sym c.loop-rest.invariant ∙ number-above c.args.limit c.loop-rest.high c.loop-rest.rest.now c.in-len1-up.len_at_least (omega (arith, c.in_default-checked_mul.ensures)))

pub returns-then-number-limit-clause-gives : goal.returns-then-number-limit-clause-gives
returns-then-number-limit-clause-gives c =
    inr (sym c.loop-rest.invariant ∙ number-above c.args.limit c.loop-rest.high c.loop-rest.rest.now c.in-len1-up.len_at_least (omega (arith, c.in-Some.ensures.1, c.in-Some-checked_add.ensures.1)))

pub returns-then-byte-lt128-clause-gives : goal.returns-then-byte-lt128-clause-gives
returns-then-byte-lt128-clause-gives c =
    let n : c.in-Some-checked_add.number ≡ c.loop-rest.high * 128 + get_or c.loop-rest.rest.now 0 0 % 128 = omega (arith, c.in-Some.ensures.1, c.in-Some-checked_add.ensures.1) in
    rw n (sym c.loop-rest.invariant ∙ number-last c.args.limit c.loop-rest.high c.loop-rest.rest.now c.in-len1-up.len_at_least (omega arith) (omega arith))

pub returns-then-number-limit-2-clause-gives : goal.returns-then-number-limit-2-clause-gives
returns-then-number-limit-2-clause-gives c =
    inr (sym c.loop-rest.invariant ∙ number-full c.args.limit c.loop-rest.high c.loop-rest.rest.now c.in-len1-up.len_at_least (omega (arith, c.in-Some.ensures.1, c.in-Some-checked_add.ensures.1)) (omega arith))

pub loop-rest-preserved : goal.loop-rest-preserved
loop-rest-preserved c =
    let n : c.in-Some-checked_add.number ≡ c.loop-rest.high * 128 + get_or c.loop-rest.rest.now 0 0 % 128 = omega (arith, c.in-Some.ensures.1, c.in-Some-checked_add.ensures.1) in
    rw n (sym (number-more c.args.limit c.loop-rest.high c.loop-rest.rest.now c.in-len1-up.len_at_least (omega arith) (omega arith)) ∙ c.loop-rest.invariant)

pub returns-clause-gives : goal.returns-clause-gives
returns-clause-gives c = inr (sym c.loop-rest.invariant ∙ number-none c.args.limit c.loop-rest.high c.loop-rest.rest.now c.in_default.len_below)
