use Rattle.std.proofs.Common.{◌≡◌, ◌+◌, ◌-◌, ◌/◌, ◌++◌, ◌<◌, ℕ, List, true, false, length, map, sym, ap, ◌∙◌, arith}
use Rattle.std.specs.Ordering.{is_lt}
use Rattle.git_index.specs.Entries.{tracked}
use Rattle.git_index.specs.Private.Search.{path_at}
use Rattle.git_index.proofs.lemmas.Search.{lower_half, upper_half}
use Rattle.git_index.specs.Folding.{folded}
use Rattle.git_index.specs.Private.Folds.{bare}
use Rattle.git_index.proofs.lemmas.Folding.{cmp}
use Rattle.git_index.proofs.lemmas.Sorted.{length_same, path_here}
use Rattle.git_index.proofs.sorted.first_from.Goals as goal

pub loop-low-preserved-then-is_lt : goal.loop-low-preserved-then-is_lt
loop-low-preserved-then-is_lt c =
    let entries = map bare (map tracked c.args.sorted.now) in
    let sought = folded (c.args.front.now ++ c.args.end.now) in
    let middle = c.loop-low.low + (c.loop-low.high - c.loop-low.low) / 2 in
    let within : middle < length c.args.sorted.now = omega arith in
    let at : path_at entries middle ≡ folded c.deref.result.now = path_here c.args.sorted.now middle c.index-sorted-middle.result within ∙ ap folded (sym c.deref.ensures.value) in
    let less : is_lt (cmp (path_at entries middle) sought) ≡ true = ap (λ (w : List ℕ). is_lt (cmp w sought)) at ∙ sym (ap is_lt c.compare_parts.ensures) ∙ sym c.is_lt.ensures ∙ c.if-is_lt.true in
    record {
      ordered = omega arith;
      within = c.loop-low.invariant.within;
      before = lower_half entries sought middle c.requires (omega (arith, length_same c.args.sorted.now)) less;
      behind = c.loop-low.invariant.behind;
    }

pub loop-low-preserved : goal.loop-low-preserved
loop-low-preserved c =
    let entries = map bare (map tracked c.args.sorted.now) in
    let sought = folded (c.args.front.now ++ c.args.end.now) in
    let middle = c.loop-low.low + (c.loop-low.high - c.loop-low.low) / 2 in
    let within : middle < length c.args.sorted.now = omega arith in
    let at : path_at entries middle ≡ folded c.deref.result.now = path_here c.args.sorted.now middle c.index-sorted-middle.result within ∙ ap folded (sym c.deref.ensures.value) in
    let behind : is_lt (cmp (path_at entries middle) sought) ≡ false = ap (λ (w : List ℕ). is_lt (cmp w sought)) at ∙ sym (ap is_lt c.compare_parts.ensures) ∙ sym c.is_lt.ensures ∙ c.if-is_lt.false in
    record {
      ordered = omega arith;
      within = omega arith;
      before = c.loop-low.invariant.before;
      behind = λ k le lt. upper_half entries sought middle c.requires behind k le (omega (arith, length_same c.args.sorted.now));
    }
