-- The best one so far is a reason.
use Rattle.std.specs.Prelude.{IfSome}
use Rattle.glob_lint.specs.declared.why.Why.TheVariants.{Covered}
use Rattle.glob_lint.specs.Private.Reasons.{IsReason}
use Rattle.glob_lint.specs.Seen.{seen}
use Rattle.glob_lint.proofs.why.best_cover.Given as goal

abbrev pub invariant-candidates : goal.invariant-candidates
invariant-candidates l = IfSome l.best (λ best. IsReason l.rules (seen l.lists) l.pair (Covered best.0))
