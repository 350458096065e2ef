-- The mappings are gone through from the last one on.
use Rattle.std.proofs.Common.{◌≡◌, ◌↔◌, IsTrue, false, true, [], refl, ◌+◌, ◌-◌, ◌<◌, length, map, Some, ap, sym, ◌∙◌, arith}
use Rattle.std.specs.Prelude.{slice_get}
use Rattle.gix_glob.specs.Entries.{entry_of}
use Rattle.gix_glob.specs.EntryLists.{entry_list_of}
use Rattle.gix_glob.specs.PatternParts.{mode_of, text_of}
use Rattle.gix_glob.specs.Patterns.{looks_at_name}
use Rattle.gix_glob.proofs.lemmas.Elements.{slice_get-map_at}
use Rattle.glob_lists.specs.Deciding.{AnswersFor}
use Rattle.glob_lists.proofs.lemmas.Deciding.LastNumbers.{NoneFrom-all, NoneFrom-less}
use Rattle.tree_commands.specs.Tops.{AnswersForTop}
use Rattle.tree_commands.proofs.lemmas.TopLemmas.{LastForTop-found, for_top-only, for_top-yes}
use Rattle.tree_commands.proofs.check_ignore.top.last_for_top.Given.{Over}
use Rattle.tree_commands.proofs.check_ignore.top.last_for_top.Goals as goal
use Rattle.tree_commands.proofs.check_ignore.top.last_for_top.Goals.{After-matches_top}

-- the mapping that was tested is the entry at its place
tested_entry : (g : Over) (c : After-matches_top g) → slice_get (map (entry_of g.T.Pattern.seen) c.args.list.now.patterns.items) (c.loop-m.m - 1) ≡ Some (entry_of g.T.Pattern.seen c.index-mappings-m.result)
tested_entry g c =
    let at = c.loop-m.m - 1 in
    let within : at < length c.args.list.now.patterns.items = omega (arith, ap length c.as_slice-mappings.ensures.value) in
    let is = rw c.as_slice-mappings.ensures.value at c.index-mappings-m.is in
    slice_get-map_at (entry_of g.T.Pattern.seen) c.args.list.now.patterns.items at c.index-mappings-m.result within is

-- the test says whether it answers
told : (g : Over) (c : After-matches_top g) → IsTrue c.matches_top.result
    ↔ (IsTrue (looks_at_name (mode_of c.index-mappings-m.result.pattern)) × AnswersFor (text_of c.index-mappings-m.result.pattern) (mode_of c.index-mappings-m.result.pattern) [] false c.args.rules)
told g c = rw (← c.index-mappings-m.is) at c.matches_top.ensures

pub returns-then-matches_top : goal.returns-then-matches_top
returns-then-matches_top g c =
    let after = (goal.at.returns-then-matches_top g c).After-matches_top in
    let list = entry_list_of g.T.Pattern.seen c.args.list.now in
    let at = c.loop-m.m - 1 in
    let next : c.loop-m.m ≡ at + 1 = omega arith in
    let all = c.if-not-is_of_all.ensures.0 refl in
    LastForTop-found list c.args.rules c.loop-m.m at next c.loop-m.invariant
    (for_top-yes list c.args.rules at (entry_of g.T.Pattern.seen c.index-mappings-m.result) (tested_entry g after) all ((told g after).0 c.if-matches_top.true))

pub loop-m-preserved : goal.loop-m-preserved
loop-m-preserved g c =
    let after = (goal.at.loop-m-preserved g c).After-matches_top in
    let list = entry_list_of g.T.Pattern.seen c.args.list.now in
    let at = c.loop-m.m - 1 in
    let next : c.loop-m.m ≡ at + 1 = omega arith in
    let refused : ¬ AnswersForTop list c.args.rules at = λ h.
    let answered : c.matches_top.result ≡ true = (told g after).1 (for_top-only list c.args.rules at (entry_of g.T.Pattern.seen c.index-mappings-m.result) (tested_entry g after) h) in
    absurd (cc) in
    NoneFrom-less (AnswersForTop list c.args.rules) c.loop-m.m at next c.loop-m.invariant refused

pub returns : goal.returns
returns g c = NoneFrom-all (AnswersForTop (entry_list_of g.T.Pattern.seen c.args.list.now) c.args.rules) c.loop-m.m (omega arith) c.loop-m.invariant
