use Rattle.std.proofs.Common.{◌≡◌, ℕ, false, List, [], map, ap, subst, sym, ◌∙◌}
use Rattle.std.specs.Borrow.{Bor}
use Rattle.std.specs.List.{list_any}
use Rattle.std.specs.Vec.{vec_items}
use Rattle.std.proofs.lemmas.Simd.{map-map}
use Rattle.git_index.specs.Entries.{Tracked}
use Rattle.byte_streams.specs.Watched.{inner}
use Rattle.byte_streams.specs.Records.{TextOf}
use Rattle.git_paths.specs.Standpoints.{shown}
use Rattle.tree_commands.specs.CheckIgnore.{IsIgnoreAnswer, question_of}
use Rattle.tree_commands.specs.declared.check_ignore.flags.IgnoreFlags.{IgnoreFlags}
use Rattle.tree_commands.specs.TrackedFiles.{is_signed, names_alone}
use Rattle.tree_commands.proofs.lemmas.IgnoreLemmas.{words_stay}
use Rattle.tree_commands.proofs.lemmas.OutcomeLemmas.{any_seen, ended_well}
use Rattle.tree_commands.proofs.tracked_files.write_ignored.Goals as goal

pub returns-clause-ok : goal.returns-clause-ok
returns-clause-ok g c =
    let see : Bor (List ℕ) → List ℕ = λ path. path.now in
    let paths = map see c.args.paths.now in
    let asked = λ (flags : IgnoreFlags) (tracked : List Tracked). question_of c.args.standpoint.now flags tracked c.args.tree (g.K.PathKinds.known c.args.kinds) in
    let shows = g.S.FolderLists.shows (Unit {0}) c.check_ignore_paths-sources.result.0.tree.source in
    let old = g.W.Write.contents (inner c.args.writer.now) in
    let new = g.W.Write.contents (inner c.check_ignore_paths-sources.new.writer) in
    let seen : map vec_items c.in-Ok.seen.items ≡ map (shown c.args.standpoint.now) paths = c.in-Ok.ensures ∙ sym (map-map (shown c.args.standpoint.now) see c.args.paths.now) in
    let none : list_any is_signed (map (shown c.args.standpoint.now) paths) ≡ false =
    ap (list_any is_signed) (sym seen) ∙ (sym (any_seen is_signed vec_items c.in-Ok.seen.items)
    ∙ (ap (list_any (λ name. is_signed (vec_items name))) (sym c.deref.ensures.value) ∙ (sym c.is_any_signed.ensures ∙ c.if-is_any_signed.false))) in
    let words : map see c.deref-3.result.now ≡ map (shown c.args.standpoint.now) paths =
    ap (map see) c.deref-3.ensures.value ∙ (c.in-Ok-bytes_of.ensures ∙ (ap (map vec_items) c.deref-2.ensures.value ∙ seen)) in
    ended_well c.check_ignore_paths-sources.result.1 c.without_status.result c.without_status.ensures _ _
    (λ is_any writes. (
      writes.0,
      (
        none,
        subst (λ told. TextOf (IsIgnoreAnswer (asked (names_alone c.args.form) []) shows) told writes.0) words
            (subst (λ flags. TextOf (IsIgnoreAnswer (asked flags []) shows) (map see c.deref-3.result.now) writes.0) c.names_alone-flags.ensures
            (subst (λ tracked. TextOf (IsIgnoreAnswer (asked c.names_alone-flags.result tracked) shows) (map see c.deref-3.result.now) writes.0) c.none-tracked.ensures
            (words_stay shows shows (λ _ _ same. same) _ is_any _ writes.0 writes.1))),
      ),
      writes.2,
    ))
    c.check_ignore_paths-sources.ensures.ok
