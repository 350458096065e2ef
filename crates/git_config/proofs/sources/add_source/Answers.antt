-- The source is a file.
use Rattle.std.proofs.Common.{sym, subst}
use Rattle.git_config.specs.Configuration.{FromSource}
use Rattle.git_config.specs.Private.Settings.{Adds}
use Rattle.git_config.proofs.sources.add_source.Goals as goal

pub returns-in-File : goal.returns-in-File
returns-in-File g c =
    let Shows = g.F.ConfigFiles.shows c.args.reader.now.files.now in
    subst (λ s. Adds (FromSource Shows c.args.reader.now.around.now c.args.place s) c.args.out.now c.add_path.new.out c.add_path.result) (sym c.in-File.is)
    (c.add_path.ensures c.args.place)
