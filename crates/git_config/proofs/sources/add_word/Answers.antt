-- The word is an entry of no section.
use Rattle.std.proofs.Common.{List, [], ℕ, Option, None, Vec, Global, option_map, sym, ap, ◌∙◌}
use Rattle.std.specs.Vec.{vec_items}
use Rattle.std.specs.declared.rc.Rc.{Rc}
use Rattle.git_config.specs.Configuration.{Seen}
use Rattle.git_config.proofs.lemmas.SourceLemmas.{word_adds}
use Rattle.git_config.proofs.sources.add_word.Goals as goal

pub returns : goal.returns
returns g c =
    let Shows = g.F.ConfigFiles.shows c.args.reader.now.files.now in
    let key = sym c.in_ok-name.ensures ∙ ap (λ o. option_map vec_items o) c.in-Some.is in
    let section = c.in_ok-scope.scope.section.value in
    let file = ap (λ (o : Option (Rc (Vec ℕ Global) Global)). option_map (λ path. path.value.items) o) c.in_ok-scope.ensures.file in
    let keys = c.in_ok-scope.ensures.keys ∙ c.new.ensures.items in
    let is = ap (λ (x : Option (List ℕ)). let s : Seen = record { file = x; section = section.keys.items; entry = record { name = c.in-Some.name.items; value = option_map vec_items c.in_ok-value.value; line = c.args.place } } in s) file
    ∙ ap (λ (x : List ℕ). let s : Seen = record { file = None; section = x; entry = record { name = c.in-Some.name.items; value = option_map vec_items c.in_ok-value.value; line = c.args.place } } in s) keys
    ∙ ap (λ (x : Option (List ℕ)). let s : Seen = record { file = None; section = []; entry = record { name = c.in-Some.name.items; value = x; line = c.args.place } } in s) c.in_ok-value.ensures in
    word_adds Shows c.args.reader.now.around.now c.args.place c.args.key c.args.value c.in-Some.name.items _ _ _ c.add_entry.result key is c.add_entry.ensures
