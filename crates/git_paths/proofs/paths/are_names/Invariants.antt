use Rattle.std.proofs.Common.{◌≡◌, true, false, drop}
use Rattle.std.specs.Prelude.{if◌then◌else◌}
use Rattle.git_paths.proofs.lemmas.NameLemmas.{are_names}
use Rattle.git_paths.proofs.paths.are_names.Given as goal

-- the bytes that are left tell the rest
abbrev pub invariant-bytes : goal.invariant-bytes
invariant-bytes l = are_names true l.told ≡ (if l.is_other then false else are_names l.is_start (drop l.byte-index l.told))
