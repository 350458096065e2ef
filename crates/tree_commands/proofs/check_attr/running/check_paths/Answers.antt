-- Nothing was written where memory was refused.
use Rattle.std.proofs.Common.{map}
use Rattle.byte_streams.specs.Watched.{inner}
use Rattle.tree_commands.proofs.lemmas.AttributeRuns.{none_first}
use Rattle.tree_commands.proofs.check_attr.running.check_paths.Goals as goal

pub returns-in_default-front_lists-clause-cut : goal.returns-in_default-front_lists-clause-cut
returns-in_default-front_lists-clause-cut g c = none_first g.Q.Question.allows (map (λ path. path.now) c.args.paths.now) (g.W.Write.contents (inner c.args.writer.now))

pub returns-in_default-new-clause-cut : goal.returns-in_default-new-clause-cut
returns-in_default-new-clause-cut g c = none_first g.Q.Question.allows (map (λ path. path.now) c.args.paths.now) (g.W.Write.contents (inner c.args.writer.now))

pub returns-in_default-asker_of-clause-cut : goal.returns-in_default-asker_of-clause-cut
returns-in_default-asker_of-clause-cut g c = none_first g.Q.Question.allows (map (λ path. path.now) c.args.paths.now) (g.W.Write.contents (inner c.args.writer.now))
