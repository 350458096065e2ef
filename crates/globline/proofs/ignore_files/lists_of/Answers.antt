-- Each file that gave a list has it next among the lists.
use Rattle.std.proofs.Common.{◌≡◌, ◌+◌, ◌++◌, [], ◌∷◌, true, map, take, subst, sym, ap, ◌∙◌, take_all}
use Rattle.std.proofs.lemmas.List.{map_more}
use Rattle.std.specs.Option.{option_copied}
use Rattle.std.specs.String.{string_bytes}
use Rattle.gix_glob.specs.EntryLists.{entry_list_of}
use Rattle.gix_glob.specs.Paths.{has_file_part}
use Rattle.globline.specs.Words.{AreIgnoreLists}
use Rattle.globline.proofs.lemmas.IgnoreFilesLemmas.{bases_are_folders, file_at, one_more_file}
use Rattle.globline.proofs.ignore_files.lists_of.Goals as goal

pub add_patterns_file-requires : goal.add_patterns_file-requires
add_patterns_file-requires g c = λ root given.
    subst (λ text. has_file_part text ≡ true) (sym (c.in_ok-source.ensures.ok ∙ c.as_str.ensures.value))
    (file_at string_bytes c.args.files.now c.loop-file.file-index c.file-item.result c.requires c.loop-file-test.true c.file-item.is)

pub loop-file-preserved : goal.loop-file-preserved
loop-file-preserved g c =
    let files = c.args.files.now in
    let i = c.loop-file.file-index in
    let one_more : map string_bytes (take (i + 1) files) ≡ map string_bytes (take i files) ++ string_bytes c.file-item.result ∷ [] =
    map_more string_bytes files i c.file-item.result c.loop-file-test.true
    ∙ ap (λ file. map string_bytes (take i files) ++ string_bytes file ∷ []) (sym c.file-item.is) in
    subst (λ texts. AreIgnoreLists (option_copied c.args.root) texts (map (entry_list_of {V = Unit {0}} (λ _. tt)) c.add_patterns_file.new.patterns.items)) (sym one_more)
    (one_more_file (c.ignore_entries_are_these.ensures (record {}) []) (λ _. tt) c.in-Ok._is_added c.add_patterns_file.new.buf.items (string_bytes c.file-item.result) (string_bytes c.in_ok-source.source)
    (option_copied c.args.root) (map string_bytes (take i files)) c.loop-file.lists.items c.add_patterns_file.new.patterns.items
    (c.in_ok-source.ensures.ok ∙ c.as_str.ensures.value) c.loop-file.invariant c.in-Ok.ensures.answer)

pub returns : goal.returns
returns g c =
    let lists = map (entry_list_of {V = Unit {0}} (λ _. tt)) c.loop-file.lists.items in
    let loaded : AreIgnoreLists (option_copied c.args.root) (map string_bytes c.args.files.now) lists =
    subst (λ files. AreIgnoreLists (option_copied c.args.root) (map string_bytes files) lists) (take_all _ _ c.loop-file-test.false) c.loop-file.invariant in
    record { loaded = loaded; folders = bases_are_folders c.bases_end_in_a_slash.ensures (option_copied c.args.root) (map string_bytes c.args.files.now) lists loaded }
