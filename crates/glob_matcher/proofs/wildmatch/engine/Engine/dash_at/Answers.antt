use Rattle.std.proofs.Common.{ℕ, Option, sym, subst, arith, rules}
use Rattle.glob_matcher.specs.Sets.{BeginsRange}
use Rattle.glob_matcher.proofs.lemmas.reading.SetLemmas.{no_item_without_end}
use Rattle.glob_matcher.proofs.lemmas.reading.LookLemmas.{paid_same}
use Rattle.glob_matcher.proofs.wildmatch.engine.Engine.dash_at.Goals as goal

pub returns-in_default : goal.returns-in_default
returns-in_default g c =
    let takes = c.range_from.ensures.count in
    record { answer = search rules; paid = paid_same {after = c.range_from.new.self} 1 (omega (arith, takes.steps)) (omega arith) (omega (arith, takes.looks)) takes.low }

pub returns-in_default-upper_end : goal.returns-in_default-upper_end
returns-in_default-upper_end g c =
    let takes = c.range_from.ensures.count in
    let over = c.in_default-upper_end.ensures.count in
    let low = c.in-Some.ensures.low in
    let begins : BeginsRange g.M.Texts.pattern c.args.low c.args.place =
    subst (λ (from : Option ℕ). BeginsRange g.M.Texts.pattern from c.args.place) (sym low.0) low.1 in
    record {
      answer = no_item_without_end g.M.Texts.pattern c.args.low c.args.place begins c.in_default-upper_end.ensures.end;
      paid = record {
        steps = omega (arith, takes.steps, over.steps);
        looks = omega (arith, takes.looks, over.looks, low.1.inside);
        low = omega (arith, takes.low, over.low);
      };
    }
