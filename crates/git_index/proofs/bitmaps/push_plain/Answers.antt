use Rattle.std.proofs.lemmas.Result.{err_from_is_err_and}
use Rattle.git_index.specs.Private.Reading.{pushed}
use Rattle.git_index.specs.Split.{low_bits}
use Rattle.git_index.proofs.lemmas.Marks.{plain_done, plain_fault, plain_goes}
use Rattle.git_index.proofs.bitmaps.push_plain.Goals as goal

pub returns-in_err-push_bits : goal.returns-in_err-push_bits
returns-in_err-push_bits c =
    let p = err_from_is_err_and c.from_residual.result c.from_residual.ensures.1 in
    rw (p.1, p.2) (plain_fault c.args.count c.loop.marks.items c.loop.counter c.loop.left c.in_err-push_bits.field-0.0 (pushed c.args.count c.args.marks.now.items (low_bits 64 c.args.word)) c.loop-test.true c.in_err-push_bits.ensures c.loop.invariant)

pub loop-preserved : goal.loop-preserved
loop-preserved c = plain_goes c.args.count c.loop.marks.items c.push_bits.new.marks.items c.loop.counter c.loop.left (pushed c.args.count c.args.marks.now.items (low_bits 64 c.args.word)) c.loop-test.true c.in_ok-push_bits.ensures c.loop.invariant

pub returns : goal.returns
returns c = plain_done c.args.count c.loop.marks.items c.loop.counter c.loop.left (pushed c.args.count c.args.marks.now.items (low_bits 64 c.args.word)) c.loop-test.false c.loop.invariant
