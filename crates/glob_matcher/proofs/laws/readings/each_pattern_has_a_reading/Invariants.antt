-- A reading from here on makes one from where the walk began.
use Rattle.std.proofs.Common.{◌-◌, ◌≤◌, List, length}
use Rattle.glob_matcher.specs.Tokens.{Token, From}
use Rattle.glob_matcher.proofs.laws.readings.each_pattern_has_a_reading.Given as goal

abbrev pub invariant-tokens : goal.invariant-tokens
invariant-tokens l =
    ((ts : List Token) → From l.way l.pattern l.place ts → (us : List Token) × From l.way l.pattern l.from us)
    × (l.place ≤ length l.pattern)

abbrev pub decreases-tokens : goal.decreases-tokens
decreases-tokens l = length l.pattern - l.place
