use Rattle.std.proofs.Common.{◌≡◌, false, take}
use Rattle.std.specs.List.{list_any}
use Rattle.git_paths.specs.Quoting.{is_unusual}
use Rattle.git_paths.proofs.unusual.has_unusual_byte.Given as goal

-- none of the bytes so far is unusual
abbrev pub invariant-bytes : goal.invariant-bytes
invariant-bytes l = list_any (is_unusual l.quoting) (take l.byte-index l.name) ≡ false
