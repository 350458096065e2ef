use Rattle.std.proofs.Common.{inl, refl}
use Rattle.glob_trees.proofs.laws.ignored_folders_decide_below.Goals as goal

pub returns : goal.returns
returns g c = λ lists folder path is_dir rules pair above topmost ignored.
    inl (pair, record { folder = folder; above = above; ignored = ignored; topmost = topmost }, refl)
