use Rattle.std.proofs.Common.{sym, ◌∙◌}
use Rattle.pathspecs.proofs.lemmas.WhichLemmas.{HasStrength, gives_way, is_which, same_best, stays}
use Rattle.pathspecs.proofs.lists.PathspecList.which.Goals as goal
use Rattle.pathspecs.proofs.lists.PathspecList.which.Goals.{then-strength-greatest, else-strength-greatest}

pub elements-preserved : goal.elements-preserved
elements-preserved c =
    let items = c.deref-element-items.result.now in
    let strength : HasStrength c.element-item.result c.args.path.now c.strength-strength.result = record { met = c.strength-strength.ensures.met; none = c.strength-strength.ensures.none } in
    elim c.if-strength-greatest.branch [
      | then-strength-greatest w ↦
          same_best items c.args.path.now _ _ _ _ _ w.which-is w.greatest-is
          (gives_way items c.args.path.now c.elements.place c.elements.which c.elements.greatest c.elements.invariant c.element-item.result c.elements-test.true c.element-item.is c.strength-strength.result strength w.if-strength-greatest.true)
      | else-strength-greatest w ↦
          same_best items c.args.path.now _ _ _ _ _ w.which-is w.greatest-is
          (stays items c.args.path.now c.elements.place c.elements.which c.elements.greatest c.elements.invariant c.element-item.result c.elements-test.true c.element-item.is c.strength-strength.result strength w.if-strength-greatest.false)
    ]

pub returns : goal.returns
returns c =
    is_which c.deref-element-items.result.now c.args.path.now c.elements.place c.elements.which c.elements.greatest c.args.self.now (sym c.self.view_is ∙ sym c.deref-element-items.ensures.value) c.elements-test.false c.elements.invariant
