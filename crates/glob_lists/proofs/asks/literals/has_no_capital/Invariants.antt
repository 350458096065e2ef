use Rattle.std.proofs.Common.{◌≡◌, ◌<◌, ℕ}
use Rattle.std.specs.Char.{to_ascii_lowercase}
use Rattle.glob_lists.specs.Private.Asks.Literals.{from_end}
use Rattle.glob_lists.proofs.asks.literals.has_no_capital.Given as goal

-- the bytes so far are no capital letters
abbrev pub invariant-bytes : goal.invariant-bytes
invariant-bytes l = (m : ℕ) → m < l.n → to_ascii_lowercase (from_end l.text m) ≡ from_end l.text m
