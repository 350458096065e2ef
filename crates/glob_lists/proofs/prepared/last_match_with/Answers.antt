-- A candidate that doesn't match is passed over, and what the walk passed over doesn't match either.
use Rattle.std.proofs.Common.{◌≡◌, ◌+◌, ◌<◌, ◌↔◌, IsTrue, None, Some, get_or, length, map, refl, sym, subst, arith}
use Rattle.std.specs.Prelude.{All, slice_get}
use Rattle.std.proofs.lemmas.Bool.{iff_false}
use Rattle.std.proofs.lemmas.List.Elements.{All-get_or}
use Rattle.std.proofs.lemmas.Option.{none-some, slice_get-get_or, slice_get_within}
use Rattle.gix_glob.specs.Entries.{Entry}
use Rattle.gix_glob.proofs.lemmas.Elements.{slice_get-map_at}
use Rattle.glob_lists.specs.declared.asks.row.Row.{Row}
use Rattle.glob_lists.specs.Deciding.{AnswersAt, AnswersUnder}
use Rattle.glob_lists.specs.Prepared.{AreAsked, IsLawfulEntry, list_without_base}
use Rattle.glob_lists.specs.Private.Asks.Rows.{Asks}
use Rattle.glob_lists.specs.Private.Lists.Chains.{AreChained}
use Rattle.glob_lists.proofs.lemmas.Deciding.Answering.{AnswersUnder-tested}
use Rattle.glob_lists.proofs.lemmas.Deciding.LastNumbers.{NoneFrom}
use Rattle.glob_lists.proofs.lemmas.Lists.OneList.{Decides-here, Decides-no_list, NoneFrom-here, NoneFrom-passed, lawful_view}
use Rattle.glob_lists.proofs.prepared.last_match_with.Given.{Over}
use Rattle.glob_lists.proofs.prepared.last_match_with.Goals as goal
use Rattle.glob_lists.proofs.prepared.last_match_with.Goals.{After-is_answer}

-- what stands for a row that isn't there
abbrev blank : Row
blank = record { asked = 0; before = record { 0 = 0 }; spare = 0; part = 0 }

pub candidates-init : goal.candidates-init
candidates-init g c = record {
  inside = c.down-walk.ensures.inside;
  other = λ some. omega (arith, c.down-walk.ensures.other, c.down-walk.ensures.all);
  walk = c.down-walk.ensures.walk;
  none = λ lawful asked chained m low h. (
      let inside = slice_get_within (map g.P.Viewed.seen c.args.patterns.now) m h.entry h.there in
      let many = asked.many in absurd (omega (arith, c.down-walk.ensures.all))
      );
}

-- the pattern that is tested
module _ (g : Over) (c : After-is_answer g) where
  within : c.in-Some.place < length c.args.patterns.now
  within = omega (arith, c.in-Some.ensures.met.0, c.candidates.invariant.inside.within, c.requires.many)

  module _ (lawful : All (λ pattern. IsLawfulEntry (g.P.Viewed.seen pattern)) c.args.patterns.now) (asked : AreAsked (map g.P.Viewed.seen c.args.patterns.now) c.args.rows.now)
      (chained : 1 < length c.args.heads.now → AreChained c.args.rows.now c.args.heads.now) where
    -- none of the later ones answers
    later : NoneFrom (AnswersAt (list_without_base (map g.P.Viewed.seen c.args.patterns.now)) c.args.path.now.bytes c.args.path.now.is_dir c.args.rules) (c.in-Some.place + 1)
    later =
        NoneFrom-passed (map g.P.Viewed.seen c.args.patterns.now) c.args.rows.now asked c.args.path.now.bytes c.args.path.now.is_dir c.args.rules c.answering_patterns_pass.ensures c.new-probe.result (c.in-Some.place + 1)
        c.candidates.walk.passed_from (rw c.bytes-2.ensures at c.new-probe.ensures.shows) (c.in-Some.ensures.next chained (c.candidates.invariant.walk chained)).1 (c.candidates.invariant.none lawful asked chained)

    there : slice_get (map g.P.Viewed.seen c.args.patterns.now) c.in-Some.place ≡ Some (g.P.Viewed.seen c.index-patterns-place.result)
    there = slice_get-map_at g.P.Viewed.seen c.args.patterns.now c.in-Some.place c.index-patterns-place.result within c.index-patterns-place.is

    -- the test says whether it answers
    told : IsTrue c.is_answer.result ↔ AnswersUnder None (g.P.Viewed.seen c.index-patterns-place.result) c.args.path.now.bytes c.args.path.now.is_dir c.args.rules
    told =
        let path = c.args.path.now in
        let rows = c.args.rows.now in
        let place = c.in-Some.place in
        let entry : Entry (Unit {0}) = g.P.Viewed.seen c.index-patterns-place.result in
        let held = All-get_or (λ pattern. IsLawfulEntry (g.P.Viewed.seen pattern)) c.args.patterns.now place c.index-patterns-place.result within lawful in
        let lawful_entry : IsLawfulEntry entry = rw (← c.index-patterns-place.is) at held in
        let view = c.view-pattern.result in
        let row : Row = get_or rows place blank in
        let here : slice_get rows place ≡ Some row = slice_get-get_or rows place blank (let low = within in omega (arith, c.requires.many)) in
        let asks : Asks view.text.now view.mode row = rw c.view-pattern.ensures.text (rw c.view-pattern.ensures.mode (asked.each place entry row there here)) in
        let passes = (c.in-Some.ensures.next chained (c.candidates.invariant.walk chained)).0 row here in
        AnswersUnder-tested None path.bytes path.is_dir c.args.rules entry path.bytes refl view.text.now view.mode path.is_dir c.is_answer.result c.view-pattern.ensures.text c.view-pattern.ensures.mode refl
        (c.is_answer.ensures.exact passes asks None path.bytes (λ base is. absurd (none-some base is)) (rw c.bytes-2.ensures at c.new-probe.ensures.shows) refl
        (lawful_view entry view.text.now view.mode view.first_wildcard_pos c.view-pattern.ensures.text c.view-pattern.ensures.mode c.view-pattern.ensures.place lawful_entry))

pub returns-then-is_answer-clause-exact : goal.returns-then-is_answer-clause-exact
returns-then-is_answer-clause-exact g c = λ lawful asked chained.
    let after = (goal.at.returns-then-is_answer-clause-exact g c).After-is_answer in
    Decides-here (map g.P.Viewed.seen c.args.patterns.now) c.args.path.now.bytes c.args.path.now.is_dir c.args.rules c.in-Some.place (g.P.Viewed.seen c.index-patterns-place.result)
    (there g after lawful asked chained) (later g after lawful asked chained) ((told g after lawful asked chained).0 c.if-is_answer.true)

pub candidates-preserved : goal.candidates-preserved
candidates-preserved g c =
    let after = (goal.at.candidates-preserved g c).After-is_answer in record {
      inside = c.in-Some.ensures.inside;
      other = c.in-Some.ensures.other;
      walk = λ chained. c.in-Some.ensures.walk chained (c.candidates.invariant.walk chained);
      none = λ lawful asked chained. subst (NoneFrom (AnswersAt (list_without_base (map g.P.Viewed.seen c.args.patterns.now)) c.args.path.now.bytes c.args.path.now.is_dir c.args.rules)) (sym c.in-Some.ensures.met.1)
          (NoneFrom-here (map g.P.Viewed.seen c.args.patterns.now) c.args.path.now.bytes c.args.path.now.is_dir c.args.rules c.in-Some.place (g.P.Viewed.seen c.index-patterns-place.result)
          (there g after lawful asked chained) (later g after lawful asked chained) (iff_false (told g after lawful asked chained) c.if-is_answer.false));
    }

pub returns-clause-exact : goal.returns-clause-exact
returns-clause-exact g c = λ lawful asked chained.
    let entries = map g.P.Viewed.seen c.args.patterns.now in
    Decides-no_list (list_without_base entries) c.args.path.now.bytes c.args.path.now.is_dir c.args.rules
    (λ k. NoneFrom-passed entries c.args.rows.now asked c.args.path.now.bytes c.args.path.now.is_dir c.args.rules c.answering_patterns_pass.ensures c.new-probe.result 0 c.candidates.walk.passed_from
    (rw c.bytes-2.ensures at c.new-probe.ensures.shows) (c.in_default.ensures.next chained (c.candidates.invariant.walk chained)) (c.candidates.invariant.none lawful asked chained) k (omega arith))
