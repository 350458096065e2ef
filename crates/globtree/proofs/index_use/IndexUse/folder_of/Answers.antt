use Rattle.std.proofs.Common.{◌≡◌, ◌⊎◌, inl, inr, sym, ◌∙◌}
use Rattle.std.proofs.lemmas.Bool.{eqb-true}
use Rattle.git_index.specs.Entries.{tracked}
use Rattle.globtree.proofs.lemmas.IndexLemmas.{of_attributes, of_patterns}
use Rattle.globtree.proofs.index_use.IndexUse.folder_of.Goals.{then-entry-eq0, else-entry-eq0}
use Rattle.globtree.proofs.index_use.IndexUse.folder_of.Goals as goal

pub returns-in-Attributes : goal.returns-in-Attributes
returns-in-Attributes c =
    let ours : (c.args.entry.now.stage ≡ 0) ⊎ (c.args.entry.now.stage ≡ 2) = elim c.if-entry-eq0.branch [ then-entry-eq0 w ↦ inl w.if-entry-eq0.true | else-entry-eq0 w ↦ inr (eqb-true c.args.entry.now.stage 2 (sym w.value-is ∙ c.if-entry-eq2.true)) ] in
    of_attributes c.args.self (tracked c.args.entry.now) c.deref.result.now c.folder_of_file.result c.in-Attributes.is ours c.deref.ensures.value c.folder_of_file.ensures

pub returns-in-Paths : goal.returns-in-Paths
returns-in-Paths c =
    of_patterns c.args.self (tracked c.args.entry.now) c.deref-in-Paths.result.now c.folder_of_file-in-Paths.result c.in-Paths.is c.if-entry.true c.if-entry-eq0-2.true c.deref-in-Paths.ensures.value c.folder_of_file-in-Paths.ensures
