use Rattle.std.proofs.Common.{◌≡◌, ◌≢◌, Bool, true, false, if◌then◌else◌, IfOk, List, Option, ℕ, ap, map, refl, sym, subst, ◌∙◌}
use Rattle.std.proofs.lemmas.Bool.{false≢true}
use Rattle.std.specs.Borrow.{Bor}
use Rattle.byte_streams.specs.Watched.{inner}
use Rattle.glob_lists.specs.Rules.{by_git}
use Rattle.tree_commands.specs.CheckIgnore.{Question, nothing_known, question_of}
use Rattle.globtree.specs.Answers.{ReadsIgnore, TellsIgnore}
use Rattle.globtree.specs.Tracked.{IsOfIndex}
use Rattle.globtree.specs.declared.index_use.IndexUse.{IndexUse}
use Rattle.globtree.specs.declared.index_use.IndexUse.TheVariants.{Nothing, Paths}
use Rattle.globtree.proofs.lemmas.FrontLemmas.{fronts_of_tree}
use Rattle.globtree.proofs.lemmas.InputLemmas.{read_from_front}
use Rattle.globtree.proofs.check_ignore.check_ignore.Goals as goal

-- without an index nothing is taken from it
not_asked : (no_index : Bool) (index : IndexUse) → index ≡ (if no_index then Nothing else Paths) → no_index ≡ true → index ≢ Paths
not_asked true index is told same = absurd (cc)
not_asked false index is told same = absurd (false≢true told)

pub returns-then-asked-clause-answered : goal.returns-then-asked-clause-answered
returns-then-asked-clause-answered g c =
    let fronts = c.in_ok-fronts.fronts in
    let tree = c.in_ok-tree.tree in
    let is_any = c.in_ok-is_any.is_any in
    let question : Question = question_of fronts.standpoint c.flags_of-flags.result c.new-tracked.result tree nothing_known in
    let left : Option (List ℕ) = g.I.Read.remaining (inner c.args.input.now) in
    let here : Option (List ℕ) = g.I.Read.remaining (inner c.refuse_settings_for.new.input) in
    let rest : Option (List ℕ) = g.I.Read.remaining (inner c.run_check_ignore-sources.new.records) in
    let old : Option (List ℕ) = g.O.Write.contents (inner c.args.output.now) in
    let new : Option (List ℕ) = g.O.Write.contents (inner c.run_check_ignore-sources.new.writer) in
    record {
      standpoint = fronts.standpoint;
      folds = fronts.folds;
      quoting = fronts.quoting;
      question = question;
      from = (refl, refl);
      of_index = subst IsOfIndex (sym c.new-tracked.ensures) c.in_ok-fronts.ensures.tracked;
      without = λ no. c.new-tracked.ensures ∙ c.in_ok-fronts.ensures.unread (not_asked c.args.asked.no_index c.index_by.result c.index_by.ensures no);
      before = fronts_of_tree tree.front_count tree.lists fronts.lists.items c.in_ok-tree.ensures.count c.in_ok-tree.ensures.before c.in_ok-fronts.ensures.before;
      by_rules = c.in_ok-tree.ensures.rules ∙ ap by_git c.case_of-case.ensures;
      asks = c.flags_of-flags.ensures;
      is_any = is_any;
      ends = c.status_by.ensures;
      read = λ _. read_from_front question is_any left here rest old new c.in_ok-refuse_settings_for.ensures.kept
          (subst (λ r. IfOk r (λ is_any. ReadsIgnore question is_any here rest old new)) c.in_ok-is_any.ensures c.run_check_ignore-sources.ensures.ends.ok);
      told = λ is. absurd (false≢true (sym is ∙ c.if-asked.true));
    }

pub returns-clause-answered : goal.returns-clause-answered
returns-clause-answered g c =
    let see : Bor (List ℕ) → List ℕ = λ word. word.now in
    let fronts = c.in_ok-fronts.fronts in
    let tree = c.in_ok-tree.tree in
    let is_any = c.in_ok-is_any-2.is_any in
    let question : Question = question_of fronts.standpoint c.flags_of-flags.result c.new-tracked.result tree nothing_known in
    let old : Option (List ℕ) = g.O.Write.contents (inner c.args.output.now) in
    let new : Option (List ℕ) = g.O.Write.contents (inner c.check_ignore_paths-sources.new.writer) in
    let paths = ap (map see) c.deref-2.ensures.value ∙ (c.in_ok-paths.ensures ∙ ap (map see) c.deref.ensures.value) in
    record {
      standpoint = fronts.standpoint;
      folds = fronts.folds;
      quoting = fronts.quoting;
      question = question;
      from = (refl, refl);
      of_index = subst IsOfIndex (sym c.new-tracked.ensures) c.in_ok-fronts.ensures.tracked;
      without = λ no. c.new-tracked.ensures ∙ c.in_ok-fronts.ensures.unread (not_asked c.args.asked.no_index c.index_by.result c.index_by.ensures no);
      before = fronts_of_tree tree.front_count tree.lists fronts.lists.items c.in_ok-tree.ensures.count c.in_ok-tree.ensures.before c.in_ok-fronts.ensures.before;
      by_rules = c.in_ok-tree.ensures.rules ∙ ap by_git c.case_of-case.ensures;
      asks = c.flags_of-flags.ensures;
      is_any = is_any;
      ends = c.status_by-2.ensures;
      read = λ is. absurd (false≢true (sym c.if-asked.false ∙ is));
      told = λ _. subst (λ paths. TellsIgnore question paths is_any old new) paths
          (subst (λ r. IfOk r (λ is_any. TellsIgnore question (map see c.deref-2.result.now) is_any old new)) c.in_ok-is_any-2.ensures c.check_ignore_paths-sources.ensures.ok);
    }
