-- A text has no more bytes than a place can count.
use Rattle.std.proofs.Common.{◌≡◌, ℕ, ◌-◌, ◌^◌, ◌<◌, List, length, take, sym, arith}
use Rattle.std.proofs.lemmas.List.{length-take, take_all}
use Rattle.std.proofs.Math.Nat.{min-le_left}

pub short : (text : List ℕ) → length (take (2 ^ 64 - 1) text) < 2 ^ 64
short text = omega (arith, length-take (2 ^ 64 - 1) text, min-le_left (2 ^ 64 - 1) (length text))

pub whole : (text : List ℕ) → length text < 2 ^ 64 → text ≡ take (2 ^ 64 - 1) text
whole text low = sym (take_all (2 ^ 64 - 1) text (omega arith))
