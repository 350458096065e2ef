use Rattle.std.proofs.Common.{◌≡◌, ℕ, ◌<◌, ◌≤◌, inl, length, ◌∙◌, ap, subst, arith, eq-eqb, eqb-true}
use Rattle.glob_matcher.specs.Tokens.{kind_of}
use Rattle.glob_matcher.proofs.lemmas.reading.Starts.{scan_next, scan_end}
use Rattle.glob_matcher.specs.Pruning.{IsBoundary}
use Rattle.glob_matcher.proofs.wildmatch.pruned.is_start_by.Goals as goal
use Rattle.glob_matcher.proofs.wildmatch.pruned.is_start_by.Goals.{then-tokens-test+else-start-place, else-tokens-test}

pub tokens-preserved : goal.tokens-preserved
tokens-preserved c =
    let s = c.token_at-token in
    scan_next s.ensures.token s.result.end c.tokens.invariant s.ensures.here
    (omega arith) (λ is next. let yes = c.if-ends_at_slash.ensures.1 (s.ensures.same_kind ∙ ap kind_of is, next) in cc)

pub returns : goal.returns
returns c = (
  λ same.
      let is : c.tokens.start ≡ c.args.place = eqb-true c.tokens.start c.args.place same in
      record { place = inl (subst (λ (n : ℕ). IsBoundary c.args.pattern.now n c.args.way) is c.tokens.invariant.boundary) },
  λ start.
      let stopped : c.tokens.start < c.args.place → length c.args.pattern.now ≤ c.tokens.start =
      elim c.tokens-test.branch [ then-tokens-test+else-start-place w ↦ λ before. absurd (omega arith) | else-tokens-test w ↦ λ before. omega arith ] in
      eq-eqb c.tokens.start c.args.place
      (scan_end c.tokens.invariant stopped start),
)
