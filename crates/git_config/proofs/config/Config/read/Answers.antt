-- What the sources come to.
use Rattle.std.proofs.Common.{◌+◌, [], drop, arith}
use Rattle.std.proofs.lemmas.List.{drop_all, drop_more}
use Rattle.git_config.specs.Configuration.{FromSources}
use Rattle.git_config.proofs.lemmas.SourceLemmas.{source_fails, source_more, sources_end, told_by}
use Rattle.git_config.proofs.config.Config.read.Goals as goal

pub returns-in_err-add_source-clause-fault : goal.returns-in_err-add_source-clause-fault
returns-in_err-add_source-clause-fault g c =
    let Shows = g.F.ConfigFiles.shows c.args.files.now in let around = c.args.around.now in
    let now = c.loop-source.config in let new = c.add_source.new.out in
    told_by (FromSources Shows around 1 c.args.sources.now) [] new c.in_err-add_source.field-0.0 c.from_residual.result c.from_residual.ensures.1
    (source_fails Shows around (FromSources Shows around 1 c.args.sources.now) (c.loop-source.place + 1) _ _ _ [] now new c.in_err-add_source.field-0.0 c.add_source.result
    (drop_more c.args.sources.now c.loop-source.source-index _ c.loop-source-test.true) c.in_err-add_source.was c.add_source.ensures c.loop-source.invariant.rest)

pub loop-source-preserved : goal.loop-source-preserved
loop-source-preserved g c =
    let Shows = g.F.ConfigFiles.shows c.args.files.now in let around = c.args.around.now in
    record {
      place = omega (arith, c.loop-source.invariant.place);
      rest = source_more Shows around (FromSources Shows around 1 c.args.sources.now) (c.loop-source.place + 1) _ _ _ [] _ _ c.add_source.result (drop_more c.args.sources.now c.loop-source.source-index _ c.loop-source-test.true)
          c.in_ok-add_source.was c.add_source.ensures c.loop-source.invariant.rest;
    }

pub returns-clause-settings : goal.returns-clause-settings
returns-clause-settings g c =
    let Shows = g.F.ConfigFiles.shows c.args.files.now in let around = c.args.around.now in
    sources_end Shows around (FromSources Shows around 1 c.args.sources.now) (c.loop-source.place + 1) (drop c.loop-source.source-index c.args.sources.now) _ (drop_all _ _ c.loop-source-test.false) c.loop-source.invariant.rest
