use Rattle.std.proofs.Common.{◌≡◌, false}
use Rattle.git_paths.specs.Private.Usual.{HasNoneOdd}
use Rattle.git_paths.proofs.usual.is_even.Given as goal

-- none of the bytes so far is odd, unless another one was found
abbrev pub invariant-bytes : goal.invariant-bytes
invariant-bytes l = l.is_other ≡ false → HasNoneOdd l.told 1 l.place
