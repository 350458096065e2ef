-- The parts are those that were handed over.
use Rattle.std.proofs.Common.{◌↔◌, ℕ, List, IsTrue, subst}
use Rattle.gix_glob.specs.declared.wildmatch.Mode as wildmatch
use Rattle.gix_glob.specs.Matching.{Splits}
use Rattle.gix_glob_c.proofs.lemmas.Bits.{match_mode_of}
use Rattle.gix_glob_c.proofs.lemmas.Views.{view_is_lawful}
use Rattle.gix_glob_c.proofs.gix_glob_matches.Goals as goal

pub returns : goal.returns
returns c = λ lawful.
    let parts = c.args.pattern.now in
    let view = c.view.result in
    let held = view_is_lawful parts view.text.now view.mode view.first_wildcard_pos c.view.ensures.text c.view.ensures.mode c.view.ensures.place lawful in
    let mode = match_mode_of c.from_bits_retain.result c.args.mode.bits (c.from_bits_retain.ensures tt) in
    subst (λ (t : List ℕ). IsTrue c.matches.result ↔ Splits c.args.value.now t (record { 0 = c.args.mode.bits })) c.view.ensures.text
    (subst (λ (m : wildmatch.Mode). IsTrue c.matches.result ↔ Splits c.args.value.now view.text.now m) mode
    (c.matches.ensures held))
