use Rattle.std.proofs.Common.{◌≡◌, refl, sym, slice_index_or, ◌∙◌}
use Rattle.std.proofs.lemmas.Bool.{false≢true}
use Rattle.pathspecs.specs.Elements.{PathspecItem}
use Rattle.globtree.specs.Listed.{MeetsListed, seen_listed}
use Rattle.globtree.proofs.lemmas.ListedLemmas.{pass_over}
use Rattle.globtree.proofs.listed_path.ListedPath.is_met_by.Goals as goal

pub returns-then-is_met_as : goal.returns-then-is_met_as
returns-then-is_met_as c =
    let is : slice_index_or c.args.elements.now c.elements.element-index c.element-item.result ≡ c.element-item.result = sym c.element-item.is in
    let met = c.is_met_as.ensures.0 c.if-is_met_as.true in
    (λ _. (c.elements.element-index, c.element-item.result, c.elements-test.true, is, met), λ _. refl)

pub elements-preserved : goal.elements-preserved
elements-preserved c =
    pass_over (λ (item : PathspecItem). (item.magic.exclude ≡ c.args.exclude) × MeetsListed item (seen_listed c.args.self.now)) c.args.elements.now c.elements.element-index c.element-item.result
    c.elements-test.true c.element-item.is (λ met. false≢true (sym c.if-is_met_as.false ∙ c.is_met_as.ensures.1 met)) c.elements.invariant
