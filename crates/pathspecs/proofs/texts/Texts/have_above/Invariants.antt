use Rattle.std.proofs.Common.{ℕ, ◌<◌}
use Rattle.pathspecs.specs.Private.Texts.{EndsAt}
use Rattle.pathspecs.proofs.texts.Texts.have_above.Given as goal

-- no text ends at a slash so far
abbrev pub invariant-places : goal.invariant-places
invariant-places l = (k : ℕ) → k < l.place → ¬ EndsAt l.self l.path k
