-- A quoted head where one was measured, and else the bare one.
use Rattle.std.proofs.Common.{◌≡◌, ◌∙◌, List, ℕ, ap, sym, length}
use Rattle.std.proofs.lemmas.List.{length-take-le, take_rest}
use Rattle.std.specs.List.{before_first}
use Rattle.glob_attributes.specs.Equations.Heads.{quoted_from}
use Rattle.glob_attributes.specs.Words.{is_blank}
use Rattle.glob_attributes.proofs.lemmas.HeadLemmas.{head_of-none, quoted_tells}
use Rattle.glob_attributes.proofs.borrowed.head.borrow_head.Goals as goal

pub returns-in-Some-clause-read : goal.returns-in-Some-clause-read
returns-in-Some-clause-read c =
    let text = c.args.text.now in
    let found = c.in-Some.ensures.read in
    let tells = quoted_tells text (found.0, c.in-Some.rest.now) found.1 in
    let front = c.in_ok-head.ensures in
    let many : length found.0 ≡ length c.in_ok-head.head.now =
    found.2 ∙ sym (ap length front.bytes_are ∙ length-take-le c.in-Some.count c.args.memory.now.now front.left.inside) in
    ap (λ (l : List ℕ). (l, c.in-Some.rest.now))
    (c.decode.ensures (found.0, c.in-Some.rest.now) (ap (quoted_from 0) (take_rest text 1) ∙ tells.0) many)
    ∙ sym tells.1

pub returns-clause-read : goal.returns-clause-read
returns-clause-read c =
    let text = c.args.text.now in
    ap (λ l. (l, c.split_at_blank.result.1.now)) c.split_at_blank.ensures.word
    ∙ ap (λ l. (before_first is_blank text, l)) c.split_at_blank.ensures.rest
    ∙ sym (head_of-none text c.in_default.ensures.read)
