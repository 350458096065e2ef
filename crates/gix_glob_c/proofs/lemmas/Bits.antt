-- A mode is its bits.
use Rattle.std.proofs.Common.{◌≡◌, ℕ, ap}
use Rattle.gix_glob.specs.declared.pattern.Mode as pattern
use Rattle.gix_glob.specs.declared.wildmatch.Mode as wildmatch

pub match_mode_of : (mode : wildmatch.Mode) (bits : ℕ) → mode.0 ≡ bits → mode ≡ record { 0 = bits }
match_mode_of mode bits same = let make : ℕ → wildmatch.Mode = λ n. record { 0 = n } in ap make same

pub pattern_mode_of : (mode : pattern.Mode) (bits : ℕ) → mode.0 ≡ bits → mode ≡ record { 0 = bits }
pattern_mode_of mode bits same = let make : ℕ → pattern.Mode = λ n. record { 0 = n } in ap make same
