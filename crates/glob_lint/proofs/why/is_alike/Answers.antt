-- The line comes elsewhere, or has the sign, or is apart.
use Rattle.glob_lint.proofs.why.is_alike.Goals as goal

pub returns : goal.returns
returns c = λ yes later before path is_dir real h k. absurd (c.are_apart_at.ensures yes path is_dir real h k)
