-- What was found of the folder, with its file among those that were read.
use Rattle.std.proofs.Common.{◌++◌, ◌∷◌, [], List, ℕ, None, Some, true, sym, subst, ◌∙◌}
use Rattle.std.specs.Prelude.{if◌then◌else◌}
use Rattle.std.specs.List.{Contains}
use Rattle.std.proofs.lemmas.List.Elements.{Contains-push}
use Rattle.std.proofs.lemmas.Option.{same_Some}
use Rattle.tree_commands.specs.Private.AttributeWays.{HasLooked, HasRead, file_seen}
use Rattle.tree_commands.proofs.lemmas.AttributeEntries.{read_more}
use Rattle.tree_commands.proofs.lemmas.AttributeSteps.{names_more}
use Rattle.tree_commands.proofs.check_attr.walk.FolderAttributes.read_file.Goals as goal

pub returns-in_ok-note_names-in-Ok-true-clause-looked : goal.returns-in_ok-note_names-in-Ok-true-clause-looked
returns-in_ok-note_names-in-Ok-true-clause-looked g c =
    let w = c.requires.entered in
    let notes = c.in_ok-note_names-in-Ok-true.ensures in
    let folder : List ℕ = c.args.folder.now in
    let file : List ℕ = c.read_file.new.bytes.items in
    let stays = c.in-Ok-true.ensures.stays in
    let told : g.S.AttributeFolders.shows c.read_file.new.self folder (Some file) =
    subst (λ b. g.S.AttributeFolders.shows c.read_file.new.self folder (if b then Some file else None)) c.in-Ok-true.field-0-test c.in-Ok-true.ensures.shown in
    let shown : g.Q.Question.shows folder (Some file) = (w.source folder (Some file)).0 ((stays folder (Some file)).0 told) in
    subst (λ walk. HasLooked g.Q.Question.files g.Q.Question.asked g.Q.Question.shows g.S.AttributeFolders.shows walk folder (file_seen true walk)) (sym notes.0)
    (record {
      walks = record {
        asks = notes.1 ∙ w.asks;
        macros = w.macros;
        source = λ f o. (λ h. (w.source f o).0 ((stays f o).0 h), λ h. (stays f o).1 ((w.source f o).1 h));
        read = w.read ++ file ∷ [];
        has_read = subst (HasRead c.note_names.new.self.asking) (sym (names_more g.Q.Question.files w.read file)) (notes.2 _ w.has_read);
        entered = read_more _ _ _ _ _ _ _ _ _ _ w.entered file folder shown;
      };
      shown = shown;
      noted = λ bytes is. subst (Contains (w.read ++ file ∷ [])) (same_Some file bytes is) (Contains-push w.read file);
    })
