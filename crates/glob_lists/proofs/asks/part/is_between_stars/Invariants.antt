-- No byte so far is special.
use Rattle.std.proofs.Common.{◌≡◌, ℕ, ◌<◌, ◌≤◌, false, get_or}
use Rattle.gix_glob.specs.LiteralBytes.{is_joining}
use Rattle.glob_lists.proofs.asks.part.is_between_stars.Given as goal

abbrev pub invariant-bytes : goal.invariant-bytes
invariant-bytes l = (m : ℕ) → 1 ≤ m → m < l.place → is_joining (get_or l.text m 0) ≡ false
