use Rattle.std.proofs.Common.{◌↔◌, IsTrue, List, ap, refl, subst, sym, ◌∙◌, ℕ}
use Rattle.std.specs.Option.{option_map_or}
use Rattle.pathspecs.specs.Leading.{front_of, word_front}
use Rattle.git_index.specs.Holding.{IsHeld}
use Rattle.tree_commands.proofs.lemmas.IgnoreLemmas.{held_as_asked}
use Rattle.tree_commands.proofs.check_ignore.asking.IgnoreAsker.is_held.Goals as goal

pub returns : goal.returns
returns g c =
    let tracked = c.args.self.now.tracked in
    let literal = word_front c.args.self.now.standpoint.now c.args.told.now in
    subst (λ (asked : List ℕ). IsTrue c.holds.result ↔ IsHeld tracked asked literal) c.deref.ensures.value
    (held_as_asked tracked tracked c.deref.result.now literal c.literal_front-literal.result refl
    (c.literal_front-literal.ensures ∙ ap (λ s. option_map_or (front_of c.args.self.now.standpoint.now) s 0) (sym c.requires)) c.holds.result c.holds.ensures)
