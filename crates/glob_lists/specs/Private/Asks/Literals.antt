-- The literal bytes of a text: the numbers and sets that are made of them, in which the case of letters doesn't count.
use Rattle.std.specs.Prelude.{◌≡◌, ◌⊎◌, ℕ, zero, suc, ◌+◌, ◌-◌, ◌*◌, ◌/◌, ◌%◌, ◌^◌, ◌<◌, ◌≤◌, false, List, length, slice_index}
use Rattle.std.specs.Char.{to_ascii_lowercase}
use Rattle.std.specs.Int.{bit_at}
use Rattle.gix_glob.specs.Bytes.{HasByte}
use Rattle.gix_glob.specs.LiteralBytes.{IsUnescapedUpTo, is_joining}

-- each element of the text is a byte
abbrev pub AreBytes : List ℕ → Type 0
AreBytes text = (j : ℕ) → slice_index text j < 256

-- the byte that is m bytes before the last
abbrev pub from_end : List ℕ → ℕ → ℕ
from_end text m = slice_index text (length text - (m + 1))

-- the number that the last n bytes make in base 256, the last byte first, modulo 2^64
abbrev pub end_key : List ℕ → ℕ → ℕ
end_key text zero = 0
end_key text (suc n) = ((end_key text n * 256) % (2 ^ 64) + to_ascii_lowercase (from_end text n)) % (2 ^ 64)

-- the number that the last n bytes make so, as they are
abbrev pub raw_end : List ℕ → ℕ → ℕ
raw_end text zero = 0
raw_end text (suc n) = raw_end text n * 256 + from_end text n

-- a number without so many of its last bytes
abbrev pub without_bytes : ℕ → ℕ → ℕ
without_bytes key zero = key
without_bytes key (suc n) = without_bytes key n / 256

-- each of the last n bytes is a token of its own, and ends no other
pub record EndsLiterally (text : List ℕ) (n : ℕ) : Type 0 where
  pub fits : n ≤ length text
  pub literal : (m : ℕ) → m < n → is_joining (from_end text m) ≡ false

-- the place of a byte in a set of bytes and pairs, a number of 64 bits: the bytes are its lower half
abbrev pub bit_of : ℕ → ℕ
bit_of b = to_ascii_lowercase b % 32

-- the place of two neighbouring bytes in the upper half
abbrev pub pair_of : ℕ → ℕ → ℕ
pair_of a b = (to_ascii_lowercase a * 5 + to_ascii_lowercase b) % 32

-- a byte at place j of the text that each value has to hold that the text matches, with its bit
pub record IsNeededAt (text : List ℕ) (j i : ℕ) : Type 0 where
  pub byte : ℕ
  pub there : HasByte text j byte
  pub unescaped : IsUnescapedUpTo text j
  pub literal : is_joining byte ≡ false
  pub bit : i ≡ bit_of byte

-- two bytes from place j on that each such value has to hold side by side, with the bit of the pair
pub record IsNeededPairAt (text : List ℕ) (j i : ℕ) : Type 0 where
  pub first : ℕ
  pub second : ℕ
  pub there : HasByte text j first
  pub behind : HasByte text (j + 1) second
  pub unescaped : IsUnescapedUpTo text (j + 1)
  pub literal : is_joining first ≡ false
  pub both : is_joining second ≡ false
  pub bit : i ≡ 32 + pair_of first second

-- the set has no bit but those of bytes and pairs that are needed
abbrev pub NeedsBits : List ℕ → ℕ → Type 0
NeedsBits text set = (i : ℕ) → bit_at set i ≡ 1 → (j : ℕ) × (IsNeededAt text j i ⊎ IsNeededPairAt text j i)

-- and none at place 0, which stays free: so a set of all else tells that nothing is known
pub record AsksForBits (text : List ℕ) (set : ℕ) : Type 0 where
  pub free : bit_at set 0 ≡ 0
  pub needs : NeedsBits text set
