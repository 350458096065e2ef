use Rattle.std.proofs.Common.{◌+◌, subst, sym, arith, rules}
use Rattle.glob_matcher.specs.declared.wildmatch.items.Item.TheVariants as item
use Rattle.glob_matcher.specs.declared.wildmatch.sets.NextItem.TheVariants as next_item
use Rattle.glob_matcher.specs.declared.wildmatch.sets.SetPart.{SetPart}
use Rattle.glob_matcher.specs.declared.wildmatch.sets.Spelled.{Spelled}
use Rattle.glob_matcher.specs.Private.Reader.{IsNextItem, IsPartRead}
use Rattle.glob_matcher.proofs.lemmas.reading.LookLemmas.{if_some_map, paid_less, part_next_plain}
use Rattle.glob_matcher.proofs.wildmatch.engine.Engine.past_plain_item.Goals as goal

pub returns-in_default-next-clause-read : goal.returns-in_default-next-clause-read
returns-in_default-next-clause-read g c =
    let part = c.args.part in
    let s : Spelled = record { item = item.Member c.in-Some.next; next = part.cursor.place + 1; close = part.cursor.close } in
    let here : IsNextItem g.M.Texts.pattern part.cursor.is_first part.cursor.low part.cursor.place (next_item.Item s) = search rules in
    subst (λ (x : SetPart). IsPartRead g.M.Texts.way g.M.Texts.pattern c.args.byte x) (sym c.past.ensures)
    (part_next_plain s c.requires.case c.requires.read here)

pub returns-in-45-clause-paid : goal.returns-in-45-clause-paid
returns-in-45-clause-paid g c =
    let takes = c.in-Some.ensures.count in
    if_some_map c.past_plain_range.result
    (λ next on before first.
    on before
    (paid_less {spare = 2} {n = 1} first (record { steps = omega (arith, takes.steps); looks = omega (arith, takes.looks); low = omega (arith, takes.looks) })))
    c.past_plain_range.ensures.paid
