-- An item is a section's, or an entry.
use Rattle.std.proofs.Common.{◌++◌, ◌∷◌, ap, sym, ◌∙◌}
use Rattle.std.specs.Vec.{vec_items}
use Rattle.git_config.specs.Alone.{alone_from}
use Rattle.git_config.specs.Items.{item_with}
use Rattle.git_config.specs.Private.Sections.{seen_in}
use Rattle.git_config.proofs.lemmas.AloneLemmas.{entry_more}
use Rattle.git_config.proofs.lemmas.ItemLemmas.{told_as}
use Rattle.git_config.proofs.alone.add_item.Goals as goal

pub returns-in_ok-section_in-in-Section-clause-entries : goal.returns-in_ok-section_in-in-Section-clause-entries
returns-in_ok-section_in-in-Section-clause-entries c rest =
    let path = c.args.path.now.value.items in let old = c.args.out.now in
    ap (λ it. old ++ alone_from path c.args.section.value.keys.items (item_with vec_items it ∷ rest)) c.in-Section.is
    ∙ ap (λ l. old ++ alone_from path l rest) (sym c.in_ok-section_in-in-Section.ensures.keys)

pub returns-in_ok-push-in-Sets-clause-entries : goal.returns-in_ok-push-in-Sets-clause-entries
returns-in_ok-push-in-Sets-clause-entries c rest =
    let path = c.args.path.now.value.items in let section = c.args.section.value in
    let old = c.args.out.now in
    let s = seen_in section c.in-Sets.entry in
    ap (λ it. old ++ alone_from path section.keys.items (item_with vec_items it ∷ rest)) c.in-Sets.is
    ∙ entry_more path section.keys.items old s _ rest (told_as section path c.in-Sets.entry c.requires)
    ∙ ap (λ l. l ++ alone_from path section.keys.items rest) (sym c.in_ok-push-in-Sets.ensures)
