-- Rows without an end are passed over as long as they come after all others, and then the latest row with an end is met.
use Rattle.std.proofs.Common.{◌≡◌, ◌∙◌, ℕ, ◌+◌, ◌-◌, List, ap, get_or, length, subst, sym, arith}
use Rattle.std.proofs.lemmas.Bool.{iff_false}
use Rattle.std.proofs.lemmas.List.{length-set}
use Rattle.std.proofs.lemmas.Option.{slice_get-get_or}
use Rattle.glob_lists.specs.declared.asks.row.Row.{Row}
use Rattle.glob_lists.specs.declared.link.Link.{Link}
use Rattle.glob_lists.specs.declared.link.TheConstants.Link.{NONE}
use Rattle.glob_lists.specs.declared.list.walk.Walk.{Walk}
use Rattle.glob_lists.specs.Private.Lists.Chains.{AreChained, chains_of}
use Rattle.glob_lists.specs.Private.Lists.Walking.{IsLatest, IsWalk, NonePasses, next_of}
use Rattle.glob_lists.proofs.lemmas.Lists.WalkLemmas.{HasEnd-own, IsWalk-own, NonePasses-joined, NonePasses-place, PassesAt-row, Passes-own, apart_places, latest_below}
use Rattle.glob_lists.proofs.list.walk.Walk.next_chained.Given.{Over}
use Rattle.glob_lists.proofs.list.walk.Walk.next_chained.Goals as goal
use Rattle.glob_lists.proofs.list.walk.Walk.next_chained.Goals.{After-among-own, After-next_other}

-- what stands for a row that isn't there
abbrev blank : Row
blank = record { asked = 0; before = record { 0 = 0 }; spare = 0; part = 0 }

-- the latest next row is that of the walk
own_is : (g : Over) (c : After-among-own g) (heads : List Link) → AreChained c.args.rows.now heads → IsWalk (chains_of (length heads) c.args.rows.now) c.args.rows.now c.args.probe.now c.args.self.now
    → c.among-own.result ≡ get_or c.chains.self.nexts c.chains.self.latest NONE
own_is g c heads chained start =
    c.among-own.ensures.same (latest_below (length heads) c.args.rows.now c.args.probe.now c.chains.self (c.chains.invariant.walk heads chained start) c.chains.invariant.inside.latest)

-- rows without an end change nothing of which chain has the latest next row
latest_after : (g : Over) (c : After-next_other g) → IsLatest c.next_other.new.self
latest_after g c =
    let latest = c.chains.invariant.inside.latest in
    subst IsLatest (sym c.next_other.ensures.same) (record { within = latest.within; here = latest.here; most = latest.most })

own_after : (g : Over) (c : After-next_other g) (heads : List Link) → AreChained c.args.rows.now heads → IsWalk (chains_of (length heads) c.args.rows.now) c.args.rows.now c.args.probe.now c.args.self.now
    → next_of c.next_other.new.self c.next_other.new.self.latest ≡ c.among-own.result.0
own_after g c heads chained start = ap (λ (w : Walk). next_of w w.latest) c.next_other.ensures.same ∙ sym (ap (λ (link : Link). link.0) (own_is g (goal.at.After-next_other g c).After-among-own heads chained start))

pub among-own-requires : goal.among-own-requires
among-own-requires g c = λ is.
    let believed = c.requires.believed is in
    latest_below (length believed.heads) c.args.rows.now c.args.probe.now c.chains.self (c.chains.invariant.walk believed.heads believed.chained believed.at) c.chains.invariant.inside.latest

pub next_other-requires-clause-believed : goal.next_other-requires-clause-believed
next_other-requires-clause-believed g c = λ is.
    let believed = c.requires.believed is in
    (c.args.probe.now, record { heads = believed.heads; chained = believed.chained; at = c.chains.invariant.walk believed.heads believed.chained believed.at })

pub next_other-requires-clause-own_is : goal.next_other-requires-clause-own_is
next_other-requires-clause-own_is g c = λ is.
    let believed = c.requires.believed is in own_is g (goal.at.next_other-requires-clause-own_is g c).After-among-own believed.heads believed.chained believed.at

pub returns-in-Some-clause-chained : goal.returns-in-Some-clause-chained
returns-in-Some-clause-chained g c = λ heads chained start.
    let it = c.in-Some.ensures.chained heads c.args.probe.now chained (c.chains.invariant.walk heads chained start) (own_is g (goal.at.returns-in-Some-clause-chained g c).After-among-own heads chained start) in (
      it.0,
      (
        it.1.0,
        NonePasses-joined c.args.rows.now c.args.probe.now (c.in-Some.place + 1) c.chains.self.passed_from c.args.self.now.passed_from it.1.1 (c.chains.invariant.none heads chained start),
      ),
    )

pub returns-then-not-is_after-clause-chained : goal.returns-then-not-is_after-clause-chained
returns-then-not-is_after-clause-chained g c = λ heads chained start.
    let after = (goal.at.returns-then-not-is_after-clause-chained g c).After-next_other in
    let it = c.in_default.ensures.chained heads c.args.probe.now chained (c.chains.invariant.walk heads chained start) (own_is g (goal.at.returns-then-not-is_after-clause-chained g c).After-among-own heads chained start) in
    let own = own_after g after heads chained start in
    let here = c.in_default.ensures.here in
    let low = c.in_default.ensures.other in
    let not_after = iff_false c.is_after.ensures c.if-not-is_after.true in
    let zero = apart_places (length heads) c.args.rows.now c.args.probe.now c.next_other.new.self it.0 (latest_after g after) (omega arith) in
    let none : c.among-own.result.0 ≡ 0 = omega arith in (
      it.0,
      NonePasses-joined c.args.rows.now c.args.probe.now 0 c.chains.self.passed_from c.args.self.now.passed_from
          (subst (λ (n : ℕ). NonePasses c.args.rows.now c.args.probe.now n c.chains.self.passed_from) none it.1) (c.chains.invariant.none heads chained start),
    )

pub returns-then-has_end-clause-chained : goal.returns-then-has_end-clause-chained
returns-then-has_end-clause-chained g c = λ heads chained start.
    let rows = c.args.rows.now in
    let probe = c.args.probe.now in
    let after = (goal.at.returns-then-has_end-clause-chained g c).After-next_other in
    let it = c.in_default.ensures.chained heads probe chained (c.chains.invariant.walk heads chained start) (own_is g (goal.at.returns-then-has_end-clause-chained g c).After-among-own heads chained start) in
    let own = own_after g after heads chained start in
    let here = c.in_default.ensures.here in
    let is_after = c.is_after.ensures.0 c.if-not-is_after.false in
    let number = c.number-place.ensures in
    let place : ℕ = c.number-place.result - 1 in
    let next : place + 1 ≡ c.among-own.result.0 = omega arith in
    let low = c.among-own.ensures.below in
    let inside = c.chains.invariant.inside.within in
    let there = slice_get-get_or rows place blank (omega arith) in
    let latest = latest_after g after in
    let wide : length c.next_other.new.self.nexts ≡ 8 = ap (λ (w : Walk). length w.nexts) c.next_other.ensures.same ∙ c.chains.invariant.wide in (
      IsWalk-own rows heads chained probe c.next_other.new.self it.0 latest place _ there (omega arith) (omega arith) wide c.go_on.new.self (rw c.before-in-chains.ensures at c.go_on.ensures.same),
      (
        PassesAt-row rows probe place _ there (Passes-own rows heads chained probe c.next_other.new.self it.0 latest place _ there (omega arith) (c.has_end.ensures.0 c.if-has_end.true)),
        NonePasses-joined rows probe (place + 1) c.chains.self.passed_from c.args.self.now.passed_from
            (subst (λ (n : ℕ). NonePasses rows probe n c.chains.self.passed_from) (sym next) it.1) (c.chains.invariant.none heads chained start),
      ),
    )

pub chains-preserved : goal.chains-preserved
chains-preserved g c =
    let rows = c.args.rows.now in
    let probe = c.args.probe.now in
    let after = (goal.at.chains-preserved g c).After-next_other in
    let here = c.in_default.ensures.here in
    let is_after = c.is_after.ensures.0 c.if-not-is_after.false in
    let number = c.number-place.ensures in
    let place : ℕ = c.number-place.result - 1 in
    let next : place + 1 ≡ c.among-own.result.0 = omega arith in
    let low = c.among-own.ensures.below in
    let inside = c.chains.invariant.inside.within in
    let few = c.chains.invariant.inside.few in
    let there = slice_get-get_or rows place blank (omega arith) in
    let latest = latest_after g after in
    let wide : length c.next_other.new.self.nexts ≡ 8 = ap (λ (w : Walk). length w.nexts) c.next_other.ensures.same ∙ c.chains.invariant.wide in
    let from_is : c.go_on.new.self.passed_from ≡ place = ap (λ (w : Walk). w.passed_from) c.go_on.ensures.same in
    let count_is : c.go_on.new.self.count ≡ c.chains.self.count = ap (λ (w : Walk). w.count) c.go_on.ensures.same ∙ ap (λ (w : Walk). w.count) c.in_default.ensures.same in
    let other_is : c.go_on.new.self.other.0 ≡ c.next_other.new.self.other.0 = ap (λ (w : Walk). w.other.0) c.go_on.ensures.same in
    let its_steps = c.in_default.ensures.looks.steps in
    let its_from = c.in_default.ensures.looks.from in
    let its_to = c.in_default.ensures.looks.to in
    let old = c.chains.invariant.looks in
    let old_steps = old.steps in
    let old_from = old.from in
    let old_to = old.to in
    let old_low = c.chains.invariant.low in record {
      inside = record { within = omega arith; few = omega arith; latest = c.go_on.ensures.latest };
      wide = ap (λ (w : Walk). length w.nexts) c.go_on.ensures.same ∙ (length-set c.next_other.new.self.nexts c.next_other.new.self.latest _ ∙ wide);
      other = omega arith;
      low = omega arith;
      looks = record { steps = omega (arith, c.looks.ensures.steps); from = omega (arith, c.looks.ensures.looks); to = omega (arith, c.looks.ensures.looks) };
      walk = λ heads chained start. (
          let it = c.in_default.ensures.chained heads probe chained (c.chains.invariant.walk heads chained start) (own_is g (goal.at.chains-preserved g c).After-among-own heads chained start) in
          let own = own_after g after heads chained start in
          IsWalk-own rows heads chained probe c.next_other.new.self it.0 latest place _ there (omega arith) (omega arith) wide c.go_on.new.self (rw c.before-in-chains.ensures at c.go_on.ensures.same)
          );
      none = λ heads chained start. (
          let it = c.in_default.ensures.chained heads probe chained (c.chains.invariant.walk heads chained start) (own_is g (goal.at.chains-preserved g c).After-among-own heads chained start) in
          let own = own_after g after heads chained start in
          let later = NonePasses-joined rows probe (place + 1) c.chains.self.passed_from c.args.self.now.passed_from
          (subst (λ (n : ℕ). NonePasses rows probe n c.chains.self.passed_from) (sym next) it.1) (c.chains.invariant.none heads chained start) in
          subst (λ (n : ℕ). NonePasses rows probe n c.args.self.now.passed_from) (sym from_is)
          (NonePasses-place rows probe place c.args.self.now.passed_from _ there
          (λ passes. iff_false c.has_end.ensures c.if-has_end.false (HasEnd-own rows heads chained probe c.next_other.new.self it.0 latest place _ there (omega arith) passes)) later)
          );
    }
