-- What is written of the entry lies behind those before.
use Rattle.std.proofs.Common.{◌≡◌, ◌++◌, ◌∷◌, [], false, arith, length, length-append, map, option_map, sym, ap, ◌∙◌}
use Rattle.std.specs.Vec.{vec_items}
use Rattle.git_config.specs.Private.Sections.{placed, seen_in}
use Rattle.git_config.specs.Shown.{behind_key}
use Rattle.git_config.proofs.lemmas.TextLemmas.{Goes, lie_all, placed_more, seen_there}
use Rattle.git_config.proofs.config.Config.push.Goals as goal

goes : (c : goal.Joined-entry-9) → Goes c.self.inside.text.items c.args.entry.name.items (option_map vec_items c.args.entry.value)
    (record { section = c.in_ok-clone.field-0; line = c.in_ok-short.field-0; start = c.in_ok-short-2.field-0; name_end = c.in_ok-short-3.field-0; end = c.in_ok-short-4.field-0 })
goes c =
    let name = c.args.entry.name.items in let value = option_map vec_items c.args.entry.value in
    let written : c.append_behind_key.new.text.items ≡ name ++ behind_key false value = c.in_ok-append_behind_key.ensures ∙ ap (λ o. name ++ behind_key false o) c.slice_of.ensures in
    record {
      start = omega (arith, c.in_ok-short-2.ensures, c.len-start.ensures, c.self.inside.text.ok.0);
      name_end = omega (arith, c.in_ok-short-3.ensures, c.len-start.ensures, c.len.ensures, c.self.inside.text.ok.0, c.args.entry.name.ok.0);
      end = omega (arith, c.in_ok-short-4.ensures, c.len-start.ensures, c.len-2.ensures, c.self.inside.text.ok.0, c.append_behind_key.new.text.ok.0, ap length written);
    }

pub invariant_of-self-2 : goal.invariant_of-self-2
invariant_of-self-2 c =
    let name = c.args.entry.name.items in let value = option_map vec_items c.args.entry.value in let text = c.self.inside.text.items in
    let written = c.deref.ensures.value ∙ c.in_ok-append_behind_key.ensures ∙ ap (λ o. name ++ behind_key false o) c.slice_of.ensures in
    rw (c.in_ok-extend_from_slice.ensures.items ∙ ap (λ w. text ++ w) written, c.in_ok-push.ensures.items) (lie_all text name value c.self.inside.places.items _ c.self.invariant (goes c))

pub returns : goal.returns
returns c =
    let name = c.args.entry.name.items in let value = option_map vec_items c.args.entry.value in let text = c.self.inside.text.items in
    let written = c.deref.ensures.value ∙ c.in_ok-append_behind_key.ensures ∙ ap (λ o. name ++ behind_key false o) c.slice_of.ensures in
    let there = seen_there text name value _ c.args.section.now.value c.args.entry.line (goes c) c.in_ok-clone.ensures.cases c.in_ok-short.ensures in
    rw (c.in_ok-extend_from_slice.ensures.items ∙ ap (λ w. text ++ w) written, c.in_ok-push.ensures.items)
    (placed_more text name value c.self.inside.places.items _ c.self.invariant ∙ ap (λ s. map (placed text) c.self.inside.places.items ++ s ∷ []) there ∙ ap (λ l. l ++ seen_in c.args.section.now.value c.args.entry ∷ []) c.self.view_is)
