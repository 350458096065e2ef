-- The token that the reader answers goes before the rest of the reading.
use Rattle.std.proofs.Common.{[], ◌∷◌, ◌≡◌, length, arith}
use Rattle.glob_matcher.proofs.laws.readings.each_pattern_has_a_reading.Goals as goal

pub tokens-preserved : goal.tokens-preserved
tokens-preserved c =
    let x = c.token_at-token.ensures in
    (λ ts rest. c.tokens.invariant.0 (x.token ∷ ts) (c.token_at-token.result.end, x.here, rest), x.inside)

pub returns : goal.returns
returns c =
    let inside = c.tokens.invariant.1 in
    let at_end : c.tokens.place ≡ length c.args.pattern.now = omega arith in
    c.tokens.invariant.0 [] at_end
