-- The text of the records before the last one was written, or a front of it.
use Rattle.std.proofs.Common.{◌≡◌, ◌∙◌, Err, false, subst, sym, take, arith}
use Rattle.std.proofs.lemmas.Grind.{common_steps}
use Rattle.byte_streams.specs.Progress.{Exactly}
use Rattle.byte_streams.specs.Runs.{EndsRun}
use Rattle.byte_streams.specs.Watched.{inner}
use Rattle.byte_streams.specs.Transfers.{AppendsFront}
use Rattle.std.specs.Io.KnownBytes.{Appends}
use Rattle.byte_streams.specs.declared.fault.RecordFault.TheVariants.{Answer}
use Rattle.byte_streams.proofs.lemmas.ProgressLemmas.{IsUnderWay-refused, IsUnderWay-unwritten}
use Rattle.byte_streams.proofs.records.Records.stop.Goals as goal

pub returns-in-Ok-clause-ends : goal.returns-in-Ok-clause-ends
returns-in-Ok-clause-ends g c = λ end left rest old given last all way.
    let same : c.deref.result.now ≡ take c.args.answered c.args.text.now.items = grind (arith, common_steps) in
    let out = subst (Appends (g.W.Write.contents (inner c.args.writer.now)) (g.W.Write.contents (inner c.write_text.new.writer))) same c.in-Ok.ensures.ok in
    subst (λ failed. EndsRun {X = g.row.T.Denot} (λ _ _ _. ⊥) (Exactly given all) end (Err (Answer c.args.fault)) left rest old (g.W.Write.contents (inner c.write_text.new.writer)) false failed) c.in-Ok.ensures.write
    (IsUnderWay-refused end c.args.self.now _ left rest old _ given last all way c.args.fault _ out)

pub returns-in-Err-clause-ends : goal.returns-in-Err-clause-ends
returns-in-Err-clause-ends g c = λ end left rest old given last all way.
    let same : c.deref.result.now ≡ take c.args.answered c.args.text.now.items = grind (arith, common_steps) in
    let out = subst (AppendsFront (g.W.Write.contents (inner c.args.writer.now)) (g.W.Write.contents (inner c.write_text.new.writer))) same c.in-Err.ensures.cut in
    subst (λ failed. EndsRun {X = g.row.T.Denot} (λ _ _ _. ⊥) (Exactly given all) end (Err c.in-Err.unwritten) left rest old (g.W.Write.contents (inner c.write_text.new.writer)) false failed) c.in-Err.ensures.only
    (IsUnderWay-unwritten end c.args.self.now _ left rest old _ given last all way c.in-Err.unwritten _ out c.in-Err.ensures.read c.in-Err.ensures.endless (c.in-Err.ensures.write ∙ sym c.in-Err.ensures.only))
