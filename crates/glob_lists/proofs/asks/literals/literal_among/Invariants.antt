use Rattle.std.proofs.Common.{◌≡◌, ◌<◌, ℕ, false}
use Rattle.gix_glob.specs.LiteralBytes.{is_joining}
use Rattle.glob_lists.specs.Private.Asks.Literals.{from_end}
use Rattle.glob_lists.proofs.asks.literals.literal_among.Given as goal

-- the bytes so far stand for themselves
abbrev pub invariant-bytes : goal.invariant-bytes
invariant-bytes l = (m : ℕ) → m < l.n → is_joining (from_end l.text m) ≡ false
