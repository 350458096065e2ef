use Rattle.std.proofs.Common.{◌≡◌, ◌∙◌, ℕ, ◌+◌, ◌-◌, ◌*◌, ◌<◌, ◌≤◌, true, false, inl, inr, length, get_or, ap, refl, subst, sym, arith}
use Rattle.std.proofs.lemmas.Bool.{cases_lt, not-true, not-false}
use Rattle.glob_matcher.specs.Bytes.{HasByte, open_bracket}
use Rattle.glob_matcher.specs.declared.wildmatch.tokens.TokenKind.TheVariants as kind
use Rattle.glob_matcher.specs.Tokens.{OneOf, Nothing, IsToken}
use Rattle.glob_matcher.specs.Sets.{set_holds}
use Rattle.glob_matcher.specs.Steps.{Counts}
use Rattle.glob_matcher.specs.Private.Takes.{Takes}
use Rattle.glob_matcher.specs.Private.Prices.{amount, amount_of}
use Rattle.glob_matcher.proofs.lemmas.two_marks.States.{nothing_met}
use Rattle.glob_matcher.proofs.lemmas.two_marks.TakenBytes.{inner_of, misses_byte, stands_on}
use Rattle.glob_matcher.proofs.lemmas.two_marks.Prices.{Takes-both, Takes-grows, Takes-on, Takes-within, TakesExactly-at_most, amount-mono, amount-same, amount-sum}
use Rattle.glob_matcher.proofs.lemmas.two_marks.Turns.{set_looks}
use Rattle.glob_matcher.proofs.lemmas.two_marks.Budget.{allows_less, allows_test, test_of_token}
use Rattle.glob_matcher.proofs.lemmas.two_marks.TakenByteCosts.{allows_on}
use Rattle.glob_matcher.proofs.wildmatch.engine.Engine.pass_sets.Goals as goal

pub sets-init : goal.sets-init
sets-init g c =
    let at = c.args.places.now.at in
    let place = c.args.places.now.place in
    record {
      stands = λ state s. s;
      allows = λ state s measure n limit a.
          let none : amount measure (at - at) (8 * (place - place)) ≤ amount measure 0 0 = amount-mono measure (omega arith) (omega arith) in
          allows_less (omega (arith, none, amount-same measure 0)) a;
      low = omega arith;
      inside = omega (arith, c.requires.inside);
      wide = omega arith;
      start = λ is. refl;
      count = record { steps = omega arith; looks = omega arith; low = omega arith };
    }

pub sets-preserved : goal.sets-preserved
sets-preserved g c =
    let m = g.M.Texts in
    let so_far = c.sets.invariant in
    let place = c.sets.places.place in
    let at = c.sets.places.at in
    let end = c.in-Some.set.end in
    let found = c.in-Some.ensures.read in
    let here : c.value_byte-byte.result ≡ get_or m.value at 0 = c.value_byte-byte.ensures.here in
    let within : at < length m.value = omega (arith, c.sets-test.true, c.value_len.ensures) in
    let held : c.in-Some.set.holds ≡ true = not-false c.in-Some.set.holds c.if-not-set.false in
    let fits : set_holds m.way found.set (get_or m.value at 0) ≡ true = ap (λ (b : ℕ). set_holds m.way found.set b) (sym here) ∙ sym found.answer ∙ held in
    let x : IsToken m.way m.pattern place kind.Set end =
    record { token = OneOf found.set; here = found.here; same_kind = refl; past = found.past; inside = found.inside } in
    let one =
    set_looks c.has_byte.ensures.count (subst (λ (n : Counts). Takes n c.value_byte-byte.new.self 1 1) c.self-in-sets.view_is (TakesExactly-at_most c.value_byte-byte.ensures.count)) (omega (arith, found.past)) c.in-Some.ensures.count in
    record {
      stands = λ state s. stands_on (so_far.stands state s) x refl within fits (λ is. cc);
      allows = λ state s measure n limit a.
          let passed = at - c.args.places.now.at in
          let now = at + 1 - c.args.places.now.at in
          let price : amount measure now (8 * (end - c.args.places.now.place)) ≤ amount measure passed (8 * (place - c.args.places.now.place)) + amount measure 1 (8 * (end - place)) =
          amount-sum measure passed (8 * (place - c.args.places.now.place)) 1 (8 * (end - place)) (omega (arith, so_far.low)) (omega (arith, so_far.wide, found.past)) in
          allows_on {after = n + amount measure now (8 * (end - c.args.places.now.place))} x refl (omega arith) within fits
          (inner_of x.token (so_far.stands state s) fits (λ is. cc)) (so_far.allows state s measure n limit a);
      low = omega (arith, so_far.low);
      inside = omega (arith, within);
      wide = omega (arith, so_far.low, so_far.wide, found.past);
      start = λ is. absurd (omega (arith, so_far.low));
      count = Takes-on so_far.count one (omega (arith, so_far.low)) (omega (arith, so_far.wide, found.past));
    }

pub returns-then-not-set : goal.returns-then-not-set
returns-then-not-set g c state s =
    let m = g.M.Texts in
    let so_far = c.sets.invariant in
    let place = c.sets.places.place in
    let at = c.sets.places.at in
    let end = c.in-Some.set.end in
    let found = c.in-Some.ensures.read in
    let here : c.value_byte-byte.result ≡ get_or m.value at 0 = c.value_byte-byte.ensures.here in
    let x : IsToken m.way m.pattern place kind.Set end =
    record { token = OneOf found.set; here = found.here; same_kind = refl; past = found.past; inside = found.inside } in
    let one =
    set_looks c.has_byte.ensures.count (subst (λ (n : Counts). Takes n c.value_byte-byte.new.self 1 1) c.self-in-sets.view_is (TakesExactly-at_most c.value_byte-byte.ensures.count)) (omega (arith, found.past)) c.in-Some.ensures.count in
    record {
      meaning = record {
        stands = so_far.stands state s;
        missed =
            misses_byte m.value at x refl (so_far.stands state s).inside
            (λ fits.
            let held : c.in-Some.set.holds ≡ true = found.answer ∙ ap (λ (b : ℕ). set_holds m.way found.set b) here ∙ fits.1 in
            let other = not-true c.in-Some.set.holds c.if-not-set.true in cc);
      };
      allows = λ measure n limit low a.
          let passed = at - c.args.places.now.at in
          let over = place - c.args.places.now.place in
          let all : amount_of measure c.set_at.new.self ≤ n + amount measure (passed + 1) (8 * over + 8 * (end - place)) =
          Takes-within measure n 0 1 low (Takes-both so_far.count one) (omega arith) (omega (arith, found.past)) in
          let price : amount measure (passed + 1) (8 * over + 8 * (end - place)) ≤ amount measure passed (8 * over) + amount measure 1 (8 * (end - place)) =
          amount-sum measure passed (8 * over) 1 (8 * (end - place)) (omega arith) (omega arith) in
          record {
            before = n + amount measure passed (8 * over);
            tested = test_of_token x refl (omega arith);
            allows = so_far.allows state s measure n limit a;
          };
      progress = omega (arith, so_far.count.steps, one.steps);
      grows = Takes-grows (Takes-both so_far.count one);
    }

pub returns-in_default : goal.returns-in_default
returns-in_default g c state s =
    let m = g.M.Texts in
    let so_far = c.sets.invariant in
    let place = c.sets.places.place in
    let bracket = c.if-has_byte.ensures.answer.0 refl in
    let inside : place < length m.pattern = bracket.inside in
    let x : IsToken m.way m.pattern place kind.Nothing (length m.pattern) =
    record { token = Nothing; here = (inr (bracket, c.in_default.ensures.read), refl); same_kind = refl; past = inside; inside = omega arith } in
    let one =
    set_looks c.has_byte.ensures.count (subst (λ (n : Counts). Takes n c.value_byte-byte.new.self 1 1) c.self-in-sets.view_is (TakesExactly-at_most c.value_byte-byte.ensures.count)) (omega arith) c.in_default.ensures.count in
    record {
      meaning = nothing_met _ (so_far.stands state s) x.here;
      allows = λ measure n limit low a.
          let passed = c.sets.places.at - c.args.places.now.at in
          let over = place - c.args.places.now.place in
          let rest = length m.pattern - place in
          let all : amount_of measure c.set_at.new.self ≤ n + amount measure (passed + 1) (8 * over + 8 * rest) =
          Takes-within measure n 0 1 low (Takes-both so_far.count one) (omega arith) (omega arith) in
          let price : amount measure (passed + 1) (8 * over + 8 * rest) ≤ amount measure passed (8 * over) + amount measure 1 (8 * rest) =
          amount-sum measure passed (8 * over) 1 (8 * rest) (omega arith) (omega arith) in
          allows_test (so_far.stands state s).inside (test_of_token x refl (omega arith)) (so_far.allows state s measure n limit a);
      progress = omega (arith, so_far.count.steps, one.steps);
      grows = Takes-grows (Takes-both so_far.count one);
    }

pub returns-after-sets : goal.returns-after-sets
returns-after-sets g c state s =
    let so_far = c.sets.invariant in
    let moved : c.args.places.now.at < c.sets.places.at = omega (arith, c.sets-test.false, c.value_len.ensures, c.requires.inside) in
    record {
      meaning = so_far.stands state s;
      allows = λ measure n limit low a.
          allows_less (Takes-within measure n 0 1 low so_far.count (omega arith) (omega (arith, so_far.wide))) (so_far.allows state s measure n limit a);
      progress = omega (arith, so_far.count.steps);
      grows = Takes-grows so_far.count;
    }

pub returns-else-has_byte : goal.returns-else-has_byte
returns-else-has_byte g c state s =
    let m = g.M.Texts in
    let so_far = c.sets.invariant in
    let moved : c.args.places.now.at < c.sets.places.at = elim (cases_lt c.args.places.now.at c.sets.places.at) [
      | inl below ↦ below
      | inr high ↦
          let first : c.sets.places.at ≡ c.args.places.now.at = omega (arith, so_far.low) in
          let bracket = subst (λ (i : ℕ). HasByte m.pattern i open_bracket) (sym (so_far.start first)) c.requires.bracket in
          let wrong : false ≡ true = c.if-has_byte.ensures.answer.1 bracket in
          absurd cc
    ] in
    let all = Takes-both so_far.count c.has_byte.ensures.count in
    record {
      meaning = so_far.stands state s;
      allows = λ measure n limit low a.
          allows_less (Takes-within measure n 0 1 low all (omega arith) (omega (arith, so_far.wide))) (so_far.allows state s measure n limit a);
      progress = omega (arith, all.steps);
      grows = Takes-grows all;
    }
