-- A list more is counted.
use Rattle.std.proofs.Common.{◌≡◌, ℕ, ⊎_elim, List, Some, ap, length, map, refl, sym, subst, arith}
use Rattle.std.specs.Prelude.{slice_get}
use Rattle.std.proofs.lemmas.Bool.{cases_eq}
use Rattle.std.proofs.lemmas.List.Sums.{sum_by-take-drop}
use Rattle.std.proofs.lemmas.Option.{slice_get_read, slice_get_within}
use Rattle.gix_glob.specs.EntryLists.{EntryList, entry_list_of}
use Rattle.glob_lists.specs.Deciding.{PairAnswers}
use Rattle.glob_lists.proofs.lemmas.Deciding.Answering.{PairAnswers-only}
use Rattle.glob_lists.proofs.lemmas.Stack.CountLemmas.{entry_count-more}
use Rattle.glob_lists.proofs.lemmas.Elements.{slice_get-inside}
use Rattle.glob_lists.proofs.lemmas.Lists.RowLemmas.{row_passes}
use Rattle.glob_lists.proofs.stack.lists.PreparedLists.count_shown_from.Goals as goal
use Rattle.glob_lists.proofs.stack.lists.PreparedLists.count_shown_from.Goals.{then-k-i, else-k-i}

pub lists-preserved : goal.lists-preserved
lists-preserved g c =
    let lists = map (entry_list_of g.T.Pattern.seen) c.args.self.now in
    let path = c.args.question.now.path.now in
    let rules = c.args.question.now.rules in
    let k = c.lists.k in
    let its = c.index.result.now in
    let many = c.self.invariant.many in
    let at = slice_get-inside (map (entry_list_of g.T.Pattern.seen) c.self.inside.lists.now) k (omega (arith, c.lists-test.true, c.len-k-end.ensures)) in
    let list = at.0 in
    let there : slice_get lists k ≡ Some list = subst (λ (l : List _). slice_get (map (entry_list_of g.T.Pattern.seen) l) k ≡ Some list) c.self.view_is at.1 in
    let row_there = slice_get_read c.self.inside.rows.items (length c.self.inside.rows.items) k its refl (omega (arith, c.lists-test.true, c.len-k-end.ensures)) c.index.ensures in
    let are = c.self.invariant.each k list its at.1 row_there in
    let more = entry_count-more lists k list there in
    let sum = c.saturating_add-count.ensures in
    let few = c.count_shown.ensures.few in
    record {
      few = omega (arith, are.asked.many, c.lists.invariant.few);
      some = λ below answers. ⊎_elim
          (λ (here : c.args.i ≡ k).
          let at_list = PairAnswers-only lists path.bytes path.is_dir rules k c.args.m list there (subst (λ (i : ℕ). PairAnswers lists path.bytes path.is_dir rules i c.args.m) here answers) in
          let row = row_passes list its.rows.items are.asked path rules c.args.question.now.probe c.answering_patterns_pass.ensures c.requires.shows c.args.m at_list in
          elim c.if-k-i.branch [
            | then-k-i w ↦
                (let counted = c.count_shown.ensures.some row.0 (subst (λ (n : ℕ). slice_get its.rows.items n ≡ Some row.0) (sym w.from-is) row.1) row.2 in
                omega (arith, counted))
            | else-k-i w ↦ absurd (w.if-k-i.false (sym here))
          ])
          (λ (apart : c.args.i ≡ k → ⊥). let old = c.lists.invariant.some (omega arith) answers in omega (arith, old))
          (cases_eq c.args.i k);
    }

pub returns-clause-few : goal.returns-clause-few
returns-clause-few g c =
    let all = sum_by-take-drop (λ (l : EntryList g.T.Pattern.Seen). length l.entries) (map (entry_list_of g.T.Pattern.seen) c.args.self.now) c.lists.k in
    omega (arith, c.lists.invariant.few)

pub returns-clause-some : goal.returns-clause-some
returns-clause-some g c answers =
    let inside = slice_get_within (map (entry_list_of g.T.Pattern.seen) c.args.self.now) c.args.i answers.list answers.there in
    let same = ap (λ (l : List _). length (map (entry_list_of g.T.Pattern.seen) l)) c.self.view_is in
    let many = c.self.invariant.many in
    c.lists.invariant.some (omega (arith, c.lists-test.false, c.len-k-end.ensures)) answers
