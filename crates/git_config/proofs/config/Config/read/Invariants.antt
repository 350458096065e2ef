use Rattle.std.proofs.Common.{◌≡◌, ◌+◌, [], drop}
use Rattle.git_config.specs.Configuration.{FromSources}
use Rattle.git_config.specs.Private.Settings.{Continues}
use Rattle.git_config.proofs.config.Config.read.Given as goal

-- the entries so far, and those of the sources that are left, are all
abbrev pub invariant-loop-source : goal.invariant-loop-source
invariant-loop-source g l =
    let Shows = g.F.ConfigFiles.shows l.files in
    record {
      place : l.place ≡ l.source-index;
      rest : Continues (FromSources Shows l.around 1 l.sources) (FromSources Shows l.around (l.place + 1) (drop l.source-index l.sources)) [] l.config;
    }
