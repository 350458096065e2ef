-- The entry that lies at a place is the one of the configuration there.
use Rattle.std.proofs.Common.{◌≡◌, ◌<◌, ◌+◌, ◌∷◌, drop, length, sym, ap, subst, ◌∙◌}
use Rattle.git_config.specs.Private.Sections.{placed}
use Rattle.git_config.proofs.lemmas.TextLemmas.{entry_there}
use Rattle.git_config.proofs.config.Config.at.Goals as goal

pub returns : goal.returns
returns c =
    let text = c.self.inside.text.items in let place = c.args.place in let p = c.index.result.now in
    let within = subst (λ l. place < length l) (sym c.self.view_is) c.requires in
    let there = subst (λ l. drop place l ≡ placed text p ∷ drop (place + 1) l) c.self.view_is (entry_there text c.self.inside.places.items place p within c.index.ensures) in
    there ∙ ap (λ s. s ∷ drop (place + 1) c.args.self.now) (sym (c.setting.ensures ∙ ap (λ w. placed w p) c.deref.ensures.value))
