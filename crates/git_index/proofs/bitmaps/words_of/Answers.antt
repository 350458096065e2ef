use Rattle.std.proofs.Common.{[], inr}
use Rattle.std.proofs.lemmas.Result.{err_from_is_err_and}
use Rattle.git_index.specs.Private.Reading.{words_at}
use Rattle.git_index.proofs.lemmas.Marks.{words_are_cut, words_are_due, words_done, words_go_on, words_go_past}
use Rattle.git_index.proofs.bitmaps.words_of.Goals as goal

pub returns-in_err-word : goal.returns-in_err-word
returns-in_err-word c =
    let p = err_from_is_err_and c.from_residual.result c.from_residual.ensures.1 in
    rw (p.1, p.2) (words_are_cut c.args.count c.args.words c.loop.counter c.loop.due c.loop.marks.items c.loop.rest.now c.in_err-word.field-0.0 (words_at c.args.count c.args.words 0 [] c.args.bytes.now) c.loop-test.true c.in_err-word.ensures c.loop.invariant)

pub returns-in_err-due : goal.returns-in_err-due
returns-in_err-due c =
    let p = err_from_is_err_and c.from_residual-in_err-due.result c.from_residual-in_err-due.ensures.1 in
    rw (p.1, p.2) (words_go_past c.args.count c.args.words c.loop.counter c.loop.due c.loop.marks.items c.loop.rest.now c.in_ok-word.behind.now c.in_ok-word.word c.in_err-due.field-0.0 (words_at c.args.count c.args.words 0 [] c.args.bytes.now) c.loop-test.true
    c.in_ok-word.ensures c.in_err-due.ensures.marks c.loop.invariant)

pub loop-preserved : goal.loop-preserved
loop-preserved c =
    words_go_on c.args.count c.args.words c.loop.counter c.loop.due c.loop.marks.items c.push_word.new.marks.items c.loop.rest.now c.in_ok-word.behind.now c.in_ok-word.word c.in_ok-due.due (words_at c.args.count c.args.words 0 [] c.args.bytes.now) c.loop-test.true
    c.in_ok-word.ensures c.in_ok-due.ensures.marks c.in_ok-due.ensures.due c.loop.invariant

pub returns-then-due-gt0 : goal.returns-then-due-gt0
returns-then-due-gt0 c = inr (words_are_due c.args.count c.args.words c.loop.counter c.loop.due c.loop.marks.items c.loop.rest.now (words_at c.args.count c.args.words 0 [] c.args.bytes.now) c.loop-test.false c.if-due-gt0.true c.loop.invariant)

pub returns : goal.returns
returns c = words_done c.args.count c.args.words c.loop.counter c.loop.due c.loop.marks.items c.loop.rest.now (words_at c.args.count c.args.words 0 [] c.args.bytes.now) c.loop-test.false c.if-due-gt0.false c.loop.invariant
