use Rattle.std.proofs.Common.{◌≡◌, ◌++◌, take}
use Rattle.std.specs.List.{flat_map}
use Rattle.git_paths.specs.Quoting.{escaped}
use Rattle.git_paths.proofs.quoting.append_escaped_bytes.Given as goal

-- the bytes so far were appended
abbrev pub invariant-bytes : goal.invariant-bytes
invariant-bytes l = l.text.items ≡ l.fn.text.items ++ flat_map (escaped l.quoting) (take l.byte-index l.name)
