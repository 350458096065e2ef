use Rattle.std.proofs.Common.{◌≡◌, ◌∷◌, take}
use Rattle.std.specs.List.{flat_map}
use Rattle.git_config.specs.Quoting.{quoted_byte}
use Rattle.git_config.proofs.quoting.quoted.Given as goal

-- the quote and the bytes so far are written
abbrev pub invariant-loop-byte : goal.invariant-loop-byte
invariant-loop-byte l = l.text.items ≡ 34 ∷ flat_map quoted_byte (take l.byte-index l.value)
