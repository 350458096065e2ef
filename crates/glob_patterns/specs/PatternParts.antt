-- What callers see of a pattern: its text, its mode and the place of its first special byte.
use Rattle.std.specs.Prelude.{◌≡◌, ℕ, Bool, List, Option}
use Rattle.std.specs.Cmp.Lexicographic.{slice_cmp}
use Rattle.std.specs.Option.{option_cmp}
use Rattle.std.specs.Ordering.{nat_cmp, ordering_then}
use Rattle.std.specs.declared.cmp.Ordering.{Ordering}
use Rattle.glob_patterns.specs.declared.pattern.Pattern.{Pattern}
use Rattle.glob_patterns.specs.declared.mode.Mode.{Mode}
use Rattle.glob_patterns.specs.Patterns.{Reads}

abbrev pub text_of : Pattern → List ℕ
text_of p = p.text.items

abbrev pub mode_of : Pattern → Mode
mode_of p = p.mode

abbrev pub place_of : Pattern → Option ℕ
place_of p = p.first_wildcard_pos

-- the pattern is the reading of the line
abbrev pub IsReadFrom : List ℕ → Bool → Pattern → Type 0
IsReadFrom line may_alter p = Reads line may_alter (text_of p) (mode_of p) (place_of p)

-- two patterns agree in all that callers see
pub record SamePattern (p q : Pattern) : Type 0 where
  pub text : text_of p ≡ text_of q
  pub mode : mode_of p ≡ mode_of q
  pub place : place_of p ≡ place_of q

-- the order of patterns: by text, then by the bits of the mode, then by place, where `None` comes first
abbrev pub pattern_cmp : Pattern → Pattern → Ordering
pattern_cmp p q =
    ordering_then (slice_cmp nat_cmp (text_of p) (text_of q))
    (ordering_then (nat_cmp (mode_of p).0 (mode_of q).0) (option_cmp nat_cmp (place_of p) (place_of q)))
