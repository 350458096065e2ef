-- Nothing but the top is known then.
use Rattle.std.proofs.Common.{◌≡◌, ◌++◌, ◌∷◌, [], ℕ, length, take, ap, ◌∙◌, arith}
use Rattle.tree_commands.specs.Private.AttributeWays.{unknown}
use Rattle.tree_commands.proofs.lemmas.AttributeLeaves.{top_entered_as}
use Rattle.tree_commands.proofs.lemmas.AttributeSteps.{at_top}
use Rattle.tree_commands.proofs.check_attr.walk.FolderAttributes.forget.Goals as goal

take_none : (n : ℕ) → take {A = ℕ} n [] ≡ []
take_none n = grind arith

pub returns-clause-entered : goal.returns-clause-entered
returns-clause-entered g c =
    let w = c.leave_to.ensures.entered in
    let e = w.entered in
    let top = c.leave_to.ensures.begins ∙ take_none (length c.leave_to.new.self.folder.items) in
    let alone = at_top _ _ _ _ _ _ _ _ _ _ e top in
    record {
      asks = w.asks;
      macros = w.macros;
      source = w.source;
      read = w.read;
      has_read = w.has_read;
      entered = top_entered_as _ _ _ _ _ _ _ _ _ w.read alone.1 top alone.0
          (c.in_ok-know_top.ensures.found ∙ ap (λ fs. fs ++ unknown ∷ []) c.new-2.ensures.items)
          c.in_ok-know_top.ensures.known e.shown;
    }
