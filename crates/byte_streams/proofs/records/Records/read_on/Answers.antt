-- Each read goes on the record that has begun.
use Rattle.std.proofs.Common.{◌≤◌, ◌+◌, ◌∙◌, refl, rules, arith}
use Rattle.byte_streams.proofs.lemmas.PullLemmas.{IsReading-ended, IsReading-further, front_of}
use Rattle.byte_streams.proofs.lemmas.StreamLemmas.{on_any_err}
use Rattle.byte_streams.proofs.records.Records.read_on.Goals as goal

pub returns-in_err-take_rest-in-Ok-clause-err : goal.returns-in_err-take_rest-in-Ok-clause-err
returns-in_err-take_rest-in-Ok-clause-err g c = on_any_err _ (IsReading-further c.args.self.now.end _ _ _ _ _ _ c.pieces.invariant.reading _ _ c.in-Ok.ensures.bytes.0)

pub returns-then-branch-clause-ok : goal.returns-then-branch-clause-ok
returns-then-branch-clause-ok g c =
    let less : c.pieces.self.reads_left ≤ c.take_rest.new.self.reads_left + 1 = omega (arith, c.take_rest.ensures.reads) in
    let whole = rw c.if-branch.true at c.in_ok-take_rest-in-Ok.ensures.ok in (
      refl,
      IsReading-ended c.args.self.now.end _ _ _ _ _ _ c.pieces.invariant.reading _ _ c.in-Ok.ensures.bytes.0 _ less _ c.in-Ok.ensures.bound.1 (λ none. let some = c.in-Ok.count-test in search rules)
          c.pieces.invariant.begun _ c.pieces.invariant.end _ (c.take_rest.ensures.ended ∙ c.pieces.invariant.unended) _ _ _ (front_of c.read.new.buf c.in-Ok.count) whole,
    )
