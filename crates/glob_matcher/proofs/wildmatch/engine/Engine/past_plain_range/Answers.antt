use Rattle.std.proofs.Common.{◌≡◌, ◌+◌, subst, sym, rules}
use Rattle.glob_matcher.specs.declared.wildmatch.items.Item.TheVariants as item
use Rattle.glob_matcher.specs.declared.wildmatch.sets.NextItem.TheVariants as next_item
use Rattle.glob_matcher.specs.declared.wildmatch.sets.SetPart.{SetPart}
use Rattle.glob_matcher.specs.declared.wildmatch.sets.Spelled.{Spelled}
use Rattle.glob_matcher.specs.declared.wildmatch.way.Way.TheVariants.{Plain}
use Rattle.glob_matcher.specs.Private.Reader.{IsNextItem, IsPartRead, part_past}
use Rattle.glob_matcher.proofs.lemmas.reading.LookLemmas.{part_next_plain}
use Rattle.glob_matcher.proofs.wildmatch.engine.Engine.past_plain_range.Goals as goal

pub returns-in-Some-look_at-clause-read : goal.returns-in-Some-look_at-clause-read
returns-in-Some-look_at-clause-read g c =
    let part = c.args.part in
    let s : Spelled = record { item = item.Range c.in-Some.from c.in-Some-look_at.high; next = part.cursor.place + 2; close = part.cursor.close } in
    let here : IsNextItem g.M.Texts.pattern part.cursor.is_first part.cursor.low part.cursor.place (next_item.Item s) = search rules in
    let past = c.past.ensures in
    let high = c.in-Some-look_at.high-is in
    let is : c.past.result ≡ part_past Plain c.args.byte part s = cc in
    subst (λ (x : SetPart). IsPartRead g.M.Texts.way g.M.Texts.pattern c.args.byte x) (sym is)
    (part_next_plain s c.requires.case c.requires.read here)
