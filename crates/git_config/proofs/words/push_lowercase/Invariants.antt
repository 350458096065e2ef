use Rattle.std.proofs.Common.{◌≡◌, ◌++◌, map, take}
use Rattle.std.specs.Char.{to_ascii_lowercase}
use Rattle.git_config.proofs.words.push_lowercase.Given as goal

-- the bytes so far are added
abbrev pub invariant-loop-b : goal.invariant-loop-b
invariant-loop-b l = l.out.items ≡ l.initial.out.items ++ map to_ascii_lowercase (take l.b-index l.text)
