-- What one step does goes on what was done before.
use Rattle.byte_streams.specs.Watched.{has_failed}
use Rattle.byte_streams.proofs.lemmas.ProgressLemmas.{next_fails, next_finished, next_gives}
use Rattle.byte_streams.proofs.records.Records.next.Goals as goal

pub returns-clause-gives : goal.returns-clause-gives
returns-clause-gives g c = next_gives c.args.self.now c.read_next.new.self c.args.text.now.items c.read_next.new.text.items _ _ _ _ _ c.read_next.ensures.end c.read_next.result c.read_next.ensures.some c.read_next.ensures.ok c.read_next.ensures.out

pub returns-clause-finished : goal.returns-clause-finished
returns-clause-finished g c = next_finished c.args.self.now c.read_next.new.self c.args.text.now.items c.read_next.new.text.items c.read_next.new.bytes.items _ _ _ _ c.read_next.result c.read_next.ensures.ok c.read_next.ensures.out c.read_next.ensures.all

pub returns-clause-fails : goal.returns-clause-fails
returns-clause-fails g c =
    next_fails c.args.self.now c.read_next.new.self c.args.text.now.items c.read_next.new.text.items c.read_next.new.bytes.items _ _ _ _ c.read_next.result (has_failed c.read_next.new.reader) (has_failed c.read_next.new.writer) c.read_next.ensures.err c.read_next.ensures.unread c.read_next.ensures.endless c.read_next.ensures.cut
    c.read_next.ensures.read c.read_next.ensures.write
