use Rattle.std.proofs.Common.{◌≡◌, ℕ, List, map, subst, sym, ◌∙◌}
use Rattle.std.specs.Prelude.{OnErr, OnOk}
use Rattle.std.specs.Borrow.{Bor}
use Rattle.std.specs.List.{flat_map}
use Rattle.std.specs.Io.KnownBytes.{Appends}
use Rattle.std.proofs.lemmas.List.Folds.{flat_map-map}
use Rattle.byte_streams.specs.Watched.{inner}
use Rattle.byte_streams.specs.Transfers.{AppendsFront}
use Rattle.tree_commands.specs.declared.files.mark.Mark.TheVariants as marks
use Rattle.tree_commands.specs.Files.{path_line}
use Rattle.tree_commands.proofs.tracked_files.write_paths.Goals as goal

pub returns-clause-ok : goal.returns-clause-ok
returns-clause-ok g c =
    let line = path_line marks.Bare c.args.standpoint.now c.args.form in
    let see : Bor (List ℕ) → List ℕ = λ path. path.now in
    let is : c.deref.result.now ≡ flat_map line (map see c.args.paths.now) = c.deref.ensures.value ∙ (c.in_ok-text.ensures ∙ sym (flat_map-map line see c.args.paths.now)) in
    subst (λ text. OnOk c.write_text.result (Appends (g.W.Write.contents (inner c.args.writer.now)) (g.W.Write.contents (inner c.write_text.new.writer)) text)) is c.write_text.ensures.ok

pub returns-clause-cut : goal.returns-clause-cut
returns-clause-cut g c =
    let line = path_line marks.Bare c.args.standpoint.now c.args.form in
    let see : Bor (List ℕ) → List ℕ = λ path. path.now in
    let is : c.deref.result.now ≡ flat_map line (map see c.args.paths.now) = c.deref.ensures.value ∙ (c.in_ok-text.ensures ∙ sym (flat_map-map line see c.args.paths.now)) in
    subst (λ text. OnErr c.write_text.result (AppendsFront (g.W.Write.contents (inner c.args.writer.now)) (g.W.Write.contents (inner c.write_text.new.writer)) text)) is c.write_text.ensures.cut
