use Rattle.std.proofs.Common.{◌≡◌, ℕ, ◌<◌, Vec, Global, slice_index_or}
use Rattle.glob_matcher.specs.declared.wildmatch.way.Way.TheVariants.{Path}
use Rattle.glob_matcher.specs.Matching.{SplitsBy}
use Rattle.git_config.proofs.conditions.is_among.Given as goal

-- no URL so far matches
abbrev pub invariant-loop-url : goal.invariant-loop-url
invariant-loop-url l =
    (k : ℕ) (url : Vec ℕ Global) → k < l.url-index → slice_index_or l.urls k url ≡ url → ¬ SplitsBy url.items l.told Path
