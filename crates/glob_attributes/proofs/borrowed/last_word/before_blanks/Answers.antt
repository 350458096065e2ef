-- A blank at the end is no word.
use Rattle.std.proofs.Common.{◌≡◌, ◌+◌, ◌-◌, ◌<◌, true, length, take, get_or, sym, ap, ◌∙◌, arith}
use Rattle.std.proofs.lemmas.List.{take_more}
use Rattle.glob_attributes.specs.Words.{is_blank, words_of}
use Rattle.glob_attributes.proofs.lemmas.BehindLemmas.{words_of-blank_behind}
use Rattle.glob_attributes.proofs.borrowed.last_word.before_blanks.Goals as goal

pub loop-end-preserved : goal.loop-end-preserved
loop-end-preserved c =
    let text = c.args.text.now in
    let last = c.loop-end.end - 1 in
    let within : last < length text = omega (arith, c.loop-end.auto.end, c.loop-end-test.true) in
    let next : c.loop-end.end ≡ last + 1 = omega (arith, c.loop-end-test.true) in
    let blank : is_blank (get_or text last 0) ≡ true = sym c.is_blank.ensures ∙ c.if-not-is_blank.false in
    sym (words_of-blank_behind (take last text) (get_or text last 0) blank)
    ∙ ap words_of (sym (take_more text last 0 within))
    ∙ ap (λ n. words_of (take n text)) (sym next)
    ∙ c.loop-end.invariant
