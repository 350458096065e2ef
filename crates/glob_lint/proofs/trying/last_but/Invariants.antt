-- Each of the pairs behind is this one.
use Rattle.std.proofs.Common.{◌≡◌, ℕ, ◌≤◌, Some}
use Rattle.std.specs.Prelude.{slice_get}
use Rattle.glob_lint.proofs.trying.last_but.Given as goal

abbrev pub invariant-found : goal.invariant-found
invariant-found l = (x : ℕ) (by : ℕ × ℕ) → l.at ≤ x → slice_get l.found x ≡ Some by → by ≡ l.pair
