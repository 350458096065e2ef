-- Where a text lies in memory.
use Rattle.std.specs.Prelude.{ℕ, ◌+◌, List, length}
use Rattle.std.specs.Borrow.{Bor}

-- the place directly behind the text's last byte
abbrev pub end_of : Bor (List ℕ) → ℕ × ℕ
end_of text = (text.ref_ptr.0, text.ref_ptr.1 + length text.now)
