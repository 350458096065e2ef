-- The left token doesn't take the byte, or the right one does.
use Rattle.std.proofs.Common.{sym, ◌∙◌}
use Rattle.std.proofs.lemmas.Bool.{false≢true}
use Rattle.glob_lint.proofs.running.Rests.takes_byte.Goals as goal

pub returns-then-not-fits : goal.returns-then-not-fits
returns-then-not-fits c = λ left_after right_after x y yes fits. absurd (false≢true (sym c.if-not-fits.true ∙ (c.fits.ensures left_after x).1 fits))

pub returns-else-not-fits : goal.returns-else-not-fits
returns-else-not-fits c = λ left_after right_after x y yes fits. (c.fits-else-not-fits.ensures right_after y).0 yes
