-- What decides is a mapping of one of the lists.
use Rattle.std.proofs.Common.{◌<◌, length, rules, subst, sym}
use Rattle.std.proofs.lemmas.Result.{on_ok_weaker}
use Rattle.gix_glob.specs.Entries.{entry_of}
use Rattle.gix_glob.specs.EntryLists.{entry_list_of}
use Rattle.glob_lists.proofs.lemmas.Deciding.Answering.{PairAnswers-only}
use Rattle.gix_glob.proofs.lemmas.Elements.{slice_get-map_at, slice_get-map_within}
use Rattle.glob_lines.proofs.lemmas.DecisionsLemmas.{grown_on_ok, writes_none, writes_verdict}
use Rattle.glob_lines.proofs.decisions.DecisionPathReport.append.Given.{Over}
use Rattle.glob_lines.proofs.decisions.DecisionPathReport.append.Goals as goal
use Rattle.glob_lines.proofs.decisions.DecisionPathReport.append.Goals.{After-lists}

-- the list that decides is one of the lists
list_within : (g : Over) (c : After-lists g) → c.in-Some.i < length c.lists.result.now
list_within g c =
    let within = slice_get-map_within (entry_list_of g.T.Pattern.seen) c.args.self.now.stack.lists c.in-Some.i _ c.in-Some.ensures.answers.there in
    subst (λ l. c.in-Some.i < length l) (sym c.lists.ensures) within

pub bounds-lists-i : goal.bounds-lists-i
bounds-lists-i g c = list_within g (goal.at.bounds-lists-i g c).After-lists

pub offset_bounds-lists-i : goal.offset_bounds-lists-i
offset_bounds-lists-i g c =
    let within = list_within g (goal.at.offset_bounds-lists-i g c).After-lists in
    search rules

pub overflow_add-i : goal.overflow_add-i
overflow_add-i g c =
    let within = list_within g (goal.at.overflow_add-i g c).After-lists in
    search rules

pub index-mapping-requires : goal.index-mapping-requires
index-mapping-requires g c =
    let list = entry_list_of g.T.Pattern.seen c.index-lists-i.result in
    let within = list_within g (goal.at.index-mapping-requires g c).After-lists in
    let there = slice_get-map_at (entry_list_of g.T.Pattern.seen) c.lists.result.now c.in-Some.i c.index-lists-i.result within c.index-lists-i.is in
    let answers = PairAnswers-only _ _ _ _ c.in-Some.i c.in-Some.m list there (rw (← c.lists.ensures) at c.in-Some.ensures.answers) in
    let inside = slice_get-map_within (entry_of g.T.Pattern.seen) c.index-lists-i.result.patterns.items c.in-Some.m _ answers.there in
    rw (← c.index-lists-i.is) (subst (λ n. c.in-Some.m < n) (sym c.index-lists-i.result.patterns.ok.0) inside)

pub returns-in-Some-clause-written : goal.returns-in-Some-clause-written
returns-in-Some-clause-written g c =
    let list = entry_list_of g.T.Pattern.seen c.index-lists-i.result in
    let within = list_within g (goal.at.returns-in-Some-clause-written g c).After-lists in
    let there = slice_get-map_at (entry_list_of g.T.Pattern.seen) c.lists.result.now c.in-Some.i c.index-lists-i.result within c.index-lists-i.is in
    let there_in = rw c.lists.ensures at there in
    let answers = PairAnswers-only _ _ _ _ c.in-Some.i c.in-Some.m list there (rw (← c.lists.ensures) at c.in-Some.ensures.answers) in
    let inside = slice_get-map_within (entry_of g.T.Pattern.seen) c.index-lists-i.result.patterns.items c.in-Some.m _ answers.there in
    let here = rw (← c.index-lists-i.is) at c.index-mapping.ensures in
    on_ok_weaker c.append_verdict.result
    (writes_verdict _ c.args.self.now.stack.rules c.args.path.now.bytes c.args.path.now.is_dir _ _ c.in-Some.i c.in-Some.m list (entry_of g.T.Pattern.seen c.index-mapping.result.now)
    c.in-Some.ensures there_in
    (slice_get-map_at (entry_of g.T.Pattern.seen) c.index-lists-i.result.patterns.items c.in-Some.m c.index-mapping.result.now inside here))
    c.append_verdict.ensures

pub returns-in-None-clause-written : goal.returns-in-None-clause-written
returns-in-None-clause-written g c =
    on_ok_weaker c.extend_from_slice.result
    (writes_none _ c.args.self.now.stack.rules c.args.path.now.bytes c.args.path.now.is_dir _ _
    c.in-None.ensures)
    (grown_on_ok c.extend_from_slice.result _ _ _ c.extend_from_slice.ensures.items)
