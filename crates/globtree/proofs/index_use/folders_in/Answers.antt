use Rattle.std.proofs.Common.{◌≡◌, ◌⊎◌, ◌↔◌, IsTrue, List, Option, None, Some, ℕ, ap, inl, inr, map, subst, sym}
use Rattle.std.proofs.lemmas.List.{take_all}
use Rattle.std.proofs.lemmas.Option.{same_Some}
use Rattle.git_index.specs.Entries.{tracked}
use Rattle.tree_files.specs.Indexed.{is_indexed}
use Rattle.globtree.specs.Tracked.{GivesFolder, IsGiven}
use Rattle.globtree.proofs.lemmas.IndexLemmas.{known_more}
use Rattle.globtree.proofs.index_use.folders_in.Goals.{in-Some+in_ok-add, in_default}
use Rattle.globtree.proofs.index_use.folders_in.Goals as goal

pub entries-preserved : goal.entries-preserved
entries-preserved c = λ folder.
    let was = is_indexed c.entries.indexed folder in
    let now = is_indexed c.match-folder_of.indexed folder in
    let entry = tracked c.entry-item.result in
    let more : IsTrue now ↔ (IsTrue was ⊎ GivesFolder c.args.index entry folder) = elim c.match-folder_of.branch [
      | in-Some+in_ok-add w ↦ subst (λ made. IsTrue (is_indexed made folder) ↔ (IsTrue was ⊎ GivesFolder c.args.index entry folder)) (sym w.indexed-is) (
        λ holds. elim ((w.in_ok-add.ensures folder).0 holds) [ inl old ↦ inl old | inr same ↦ inr ((w.in-Some.ensures folder).0 (ap (λ f. Some f) (sym same))) ],
        λ either. elim either [ inl old ↦ (w.in_ok-add.ensures folder).1 (inl old) | inr gives ↦ (w.in_ok-add.ensures folder).1 (inr (sym (same_Some w.in-Some.folder.now folder ((w.in-Some.ensures folder).1 gives)))) ],
      )
      | in_default w ↦ subst (λ made. IsTrue (is_indexed made folder) ↔ (IsTrue was ⊎ GivesFolder c.args.index entry folder)) (sym w.indexed-is) (
        λ holds. inl holds,
        λ either. elim either [ inl old ↦ old | inr gives ↦ let none : ◌≡◌ {A = Option (List ℕ)} None (Some folder) = (w.in_default.ensures folder).1 gives in absurd (cc) ],
      )
    ] in
    known_more c.args.index c.args.entries.now c.entries.entry-index c.entry-item.result folder was now c.entries-test.true c.entry-item.is (c.entries.invariant folder) more

pub returns : goal.returns
returns c = λ folder. subst (λ all. IsTrue (is_indexed c.entries.indexed folder) ↔ IsGiven c.args.index (map tracked all) folder) (take_all c.entries.entry-index c.args.entries.now c.entries-test.false) (c.entries.invariant folder)
