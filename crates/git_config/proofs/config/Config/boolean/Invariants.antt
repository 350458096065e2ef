use Rattle.std.proofs.Common.{◌≡◌, None, drop}
use Rattle.git_config.specs.Configuration.{last_said, settings_of}
use Rattle.git_config.proofs.config.Config.boolean.Given as goal

-- what is left decides, or else the last so far
abbrev pub invariant-places : goal.invariant-places
invariant-places l = last_said None (settings_of l.key l.self) ≡ last_said l.last (settings_of l.key (drop l.place l.self))
