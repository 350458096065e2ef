use Rattle.std.proofs.Common.{◌≡◌, ◌++◌, drop, map}
use Rattle.git_config.specs.Configuration.{seen_setting, settings_of}
use Rattle.git_config.proofs.config.Config.entries_of.Given as goal

-- the entries so far and those of what is left are all
abbrev pub invariant-places : goal.invariant-places
invariant-places l = map seen_setting l.found.items ++ settings_of l.key (drop l.place l.self) ≡ settings_of l.key l.self
