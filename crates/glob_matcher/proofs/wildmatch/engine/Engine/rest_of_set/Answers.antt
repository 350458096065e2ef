use Rattle.std.proofs.Common.{◌∙◌, ℕ, ◌+◌, Bool, ap, refl, subst, sym, arith}
use Rattle.glob_matcher.specs.declared.wildmatch.sets.SetPart.{SetPart}
use Rattle.glob_matcher.specs.declared.wildmatch.way.Way.{Way}
use Rattle.glob_matcher.specs.Private.Looks.{IsPartPaid}
use Rattle.glob_matcher.specs.Private.Reader.{IsPartRead, IsSetThatHolds, part_holds}
use Rattle.glob_matcher.specs.Sets.{Set, SetAt}
use Rattle.glob_matcher.proofs.lemmas.reading.LookLemmas.{paid_next, part_broken, part_past_alike, part_next, part_read, search_front_here, search_front_inside}
use Rattle.glob_matcher.proofs.wildmatch.engine.Engine.rest_of_set.Goals as goal

pub items-init : goal.items-init
items-init g c = record { read = c.requires.read; place = refl; paid = λ before paid. paid }

pub items-preserved : goal.items-preserved
items-preserved g c =
    let so_far = c.items.invariant in
    let s = c.in-Item.spelled in
    let is = c.past-part.ensures ∙ part_past_alike c.args.way g.M.Texts.way c.args.byte c.items.part s (c.requires.alike s.item) in
    record {
      read = subst (λ (x : SetPart). IsPartRead g.M.Texts.way g.M.Texts.pattern c.args.byte x) (sym is) (part_next s so_far.read c.in-Item.ensures.item);
      place = ap (λ (x : SetPart). x.place) is ∙ so_far.place;
      paid = λ before paid.
          subst (λ (x : SetPart). IsPartPaid 0 before c.next_item.new.self x) (sym is)
          (paid_next g.M.Texts.way c.args.byte s (so_far.paid before paid) c.in-Item.ensures.count);
    }

pub items-smaller : goal.items-smaller
items-smaller g c =
    let on = ap (λ (x : SetPart). x.cursor.place) c.past-part.ensures in
    let here = c.in-Item.ensures.item in
    omega (arith, on, here.1.past, here.1.inside)

pub returns-in-Close-clause-read : goal.returns-in-Close-clause-read
returns-in-Close-clause-read g c =
    let so_far = c.items.invariant in
    let closed = c.in-Close.ensures.item in
    let held = c.holds.ensures ∙ ap (λ (w : Way). part_holds w c.args.byte c.items.part) c.way.ensures in
    subst (λ (n : ℕ). IsSetThatHolds g.M.Texts.way g.M.Texts.pattern n c.args.byte (c.items.part.cursor.place + 1) c.holds.result) so_far.place
    (subst (λ (h : Bool). IsSetThatHolds g.M.Texts.way g.M.Texts.pattern c.items.part.place c.args.byte (c.items.part.cursor.place + 1) h) (sym held)
    (part_read so_far.read closed.0 closed.1))

pub returns-in-Close-clause-count : goal.returns-in-Close-clause-count
returns-in-Close-clause-count g c = λ before first.
    let so_far = c.items.invariant in
    let paid = so_far.paid before first in
    let takes = c.in-Close.ensures.count in
    let ahead = search_front_here g.M.Texts.pattern c.items.part.cursor.place c.items.part.cursor.close so_far.read.known c.in-Close.ensures.item.0.1 in
    record {
      steps = omega (arith, paid.steps, takes.steps);
      looks = omega (arith, paid.looks, takes.looks, ahead, so_far.place);
      low = omega (arith, paid.low, takes.looks);
    }

pub returns-in-Broken-clause-read : goal.returns-in-Broken-clause-read
returns-in-Broken-clause-read g c =
    subst (λ (n : ℕ). (s : Set) (j : ℕ) → ¬ SetAt g.M.Texts.pattern n s j) c.items.invariant.place
    (part_broken c.items.invariant.read c.in-Broken.ensures.item)

pub returns-in-Broken-clause-count : goal.returns-in-Broken-clause-count
returns-in-Broken-clause-count g c = λ before first.
    let so_far = c.items.invariant in
    let paid = so_far.paid before first in
    let takes = c.in-Broken.ensures.count in
    let ahead = search_front_inside g.M.Texts.pattern c.items.part.cursor.place c.items.part.cursor.close so_far.read.known so_far.read.inside in
    record {
      steps = omega (arith, paid.steps, takes.steps);
      looks = omega (arith, paid.looks, takes.looks, ahead, so_far.place, so_far.read.inside);
      low = omega (arith, paid.low, takes.low);
    }
