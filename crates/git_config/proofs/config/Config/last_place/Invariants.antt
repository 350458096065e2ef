use Rattle.std.proofs.Common.{◌≡◌, ◌≤◌, [], drop, length}
use Rattle.git_config.specs.Configuration.{settings_of}
use Rattle.git_config.proofs.config.Config.last_place.Given as goal

-- the entries behind have other keys
abbrev pub invariant-places : goal.invariant-places
invariant-places l = record { none : settings_of l.key (drop l.left l.self) ≡ []; within : l.left ≤ length l.self }

abbrev pub decreases-places : goal.decreases-places
decreases-places l = l.left
