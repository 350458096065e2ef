use Rattle.std.proofs.Common.{refl, arith, rules}
use Rattle.glob_matcher.proofs.lemmas.reading.LookLemmas.{search_front_low}
use Rattle.glob_matcher.proofs.wildmatch.engine.Engine.class_at.Goals as goal

pub returns-then-not-ends_class : goal.returns-then-not-ends_class
returns-then-not-ends_class g c =
    let takes = c.ends_class.ensures.count in
    let far = c.in-Some.ensures.close.low in
    λ low. record {
      answer = search rules;
      paid = record {
        steps = omega (arith, takes.steps, c.class_close.ensures.steps);
        looks = omega (arith, takes.looks, c.in-Some.ensures.looks, far);
        low = omega (arith, takes.low, c.class_close.ensures.low);
      };
    }

pub returns-in_default-class_named : goal.returns-in_default-class_named
returns-in_default-class_named g c =
    let takes = c.ends_class.ensures.count in
    let over = c.class_named.ensures.count in
    let from = search_front_low c.args.close c.args.place in
    let first = c.in-Some.ensures.close in
    λ low. record {
      answer = search rules;
      paid = record {
        steps = omega (arith, takes.steps, over.steps, c.class_close.ensures.steps);
        looks = omega (arith, takes.looks, over.looks, c.in-Some.ensures.looks, from, first.low, first.here.inside);
        low = omega (arith, takes.low, over.looks, c.class_close.ensures.low, (c.if-not-ends_class.ensures.answer.0 refl).0);
      };
    }

pub returns : goal.returns
returns g c =
    let takes = c.ends_class.ensures.count in
    let over = c.class_named.ensures.count in
    let far = c.in-Some.ensures.close.low in
    λ low. record {
      answer = search rules;
      paid = record {
        steps = omega (arith, takes.steps, over.steps, c.class_close.ensures.steps);
        looks = omega (arith, takes.looks, over.looks, c.in-Some.ensures.looks, far);
        low = omega (arith, takes.low, over.looks, c.class_close.ensures.low, (c.if-not-ends_class.ensures.answer.0 refl).0);
      };
    }
