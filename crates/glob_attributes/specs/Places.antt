-- Where texts lie in memory, and what is left of a memory that parts are taken off.
use Rattle.std.specs.Prelude.{◌≡◌, ℕ, ◌+◌, ◌≤◌, List, drop, length, take}
use Rattle.std.specs.Borrow.{Bor, MutBor}

-- The text is a part of the bytes: it begins so many places behind the first byte, and ends where they end, or before.
pub record IsPartOf (text bytes : Bor (List ℕ)) : Type 0 where
  pub place : ℕ
  pub begins : text.ref_ptr ≡ (bytes.ref_ptr.0, bytes.ref_ptr.1 + place)
  pub inside : place + length text.now ≤ length bytes.now

-- The first bytes of a memory were taken off, so many: what is left lies behind them, and has the bytes that it had.
pub record IsLeft (count : ℕ) (old new : MutBor (List ℕ)) : Type 0 where
  pub begins : new.ref_ptr ≡ (old.ref_ptr.0, old.ref_ptr.1 + count)
  pub bytes : new.now ≡ drop count old.now
  pub inside : count ≤ length old.now

-- Bytes were cut in two: the first, so many, lie where the bytes began, and the others are left.
pub record AreCut (count : ℕ) (bytes first others : MutBor (List ℕ)) : Type 0 where
  pub begins : first.ref_ptr ≡ bytes.ref_ptr
  pub bytes_are : first.now ≡ take count bytes.now
  pub left : IsLeft count bytes others
