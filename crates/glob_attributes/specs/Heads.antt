-- The head of a line: bare, or between quotes with escapes.
use Rattle.std.specs.Prelude.{◌≡◌, ◌≢◌, ◌⊎◌, ℕ, ◌+◌, ◌*◌, ◌≤◌, List, [], ◌∷◌, ◌++◌, codes}
use Rattle.std.specs.List.{AllZip, IsAmong, before_first, concat, zip}
use Rattle.std.specs.Str.{byte}
use Rattle.gix_glob.specs.Bytes.{backslash}
use Rattle.glob_attributes.specs.Words.{is_blank}

-- the bytes that make an escape with a backslash before them, each beside the byte that it spells
abbrev pub escapes : List (ℕ × ℕ)
escapes = zip (codes "abtnvfr\"\\") (7 ∷ 8 ∷ 9 ∷ 10 ∷ 11 ∷ 12 ∷ 13 ∷ codes "\"\\")

-- a spelling of a byte between quotes: itself, where it is no quote and no backslash, an escape, or a backslash and three octal digits
abbrev pub SpellsByte : ℕ → List ℕ → Type 0
SpellsByte b unit =
    ((b ≢ byte "\"") × (b ≢ backslash) × (unit ≡ b ∷ []))
    ⊎ ((letter : ℕ) × IsAmong escapes (letter, b) × (unit ≡ backslash ∷ letter ∷ []))
    ⊎ ((x y z : ℕ) × (x ≤ 3) × (y ≤ 7) × (z ≤ 7) × (unit ≡ backslash ∷ (48 + x) ∷ (48 + y) ∷ (48 + z) ∷ []) × (b ≡ 64 * x + 8 * y + z))

-- the text is a quote, a spelling of each byte of the head, a quote and the rest
abbrev pub IsQuotedHead : List ℕ → List ℕ → List ℕ → Type 0
IsQuotedHead text head rest =
    (units : List (List ℕ)) × AllZip SpellsByte head units × (text ≡ codes "\"" ++ (concat units ++ (codes "\"" ++ rest)))

-- The head of a text, and what follows it: a quoted head, or, where there is none, what stands before the first blank.
abbrev pub IsHead : List ℕ → List ℕ → List ℕ → Type 0
IsHead text head rest =
    IsQuotedHead text head rest
    ⊎ (((other behind : List ℕ) → ¬ IsQuotedHead text other behind) × (head ≡ before_first is_blank text) × (text ≡ head ++ rest))
