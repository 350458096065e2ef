-- The entries for names alone are kept of those that were read.
use Rattle.std.proofs.Common.{◌≡◌, List, [], None, Option, filter, map, option_map, string_bytes, ap, sym, ◌∙◌, ℕ}
use Rattle.std.specs.Vec.{vec_items}
use Rattle.gix_glob.specs.Entries.{Entry, entry_of}
use Rattle.gix_glob.specs.EntryLists.{EntryList}
use Rattle.gix_glob.specs.Patterns.{looks_at_name}
use Rattle.glob_attributes.specs.States.{Assigned}
use Rattle.glob_attributes.specs.Views.{seen_assignments}
use Rattle.glob_attributes.proofs.lemmas.KeptLemmas.{filter-map}
use Rattle.tree_commands.specs.CheckAttr.{list_in, names_alone}
use Rattle.tree_commands.specs.Private.AttributeWays.{asked_of, kept_entries}
use Rattle.tree_commands.proofs.check_attr.kept_lists.top_list.Goals as goal

-- a list of these parts
abbrev as_list : List (Entry (List Assigned)) → Option (List ℕ) → Option (List ℕ) → EntryList (List Assigned)
as_list entries source base = record { entries = entries; source = source; base = base }

pub returns : goal.returns
returns c =
    let list = c.in_ok-list.list in
    let kept = c.keep_asked.result in
    let asked = asked_of c.args.asked in
    let macros = c.args.macros.now in
    let read = c.in_ok-list.ensures in
    let named : List (Entry (List Assigned)) → List (Entry (List Assigned)) = λ entries. filter (λ entry. looks_at_name entry.mode) entries in
    let entries : map (entry_of seen_assignments) kept.patterns.items ≡ kept_entries asked macros (names_alone (list_in [] c.args.bytes.now)).entries =
    c.keep_asked.ensures.entries
    ∙ ap (λ (es : List (Entry (List Assigned))). kept_entries asked macros es)
    (ap (map (entry_of seen_assignments)) c.keep_names.ensures
    ∙ filter-map (entry_of seen_assignments) (λ entry. looks_at_name entry.mode) list.patterns.items
    ∙ ap named (ap (λ (l : EntryList (List Assigned)). l.entries) read)) in
    let source : option_map string_bytes kept.source ≡ None = ap (option_map string_bytes) c.keep_asked.ensures.source ∙ ap (λ (l : EntryList (List Assigned)). l.source) read in
    let base : option_map vec_items kept.base ≡ None = ap (option_map vec_items) c.keep_asked.ensures.base ∙ ap (λ (l : EntryList (List Assigned)). l.base) read in
    let all : List (Entry (List Assigned)) = kept_entries asked macros (names_alone (list_in [] c.args.bytes.now)).entries in
    ap (λ (es : List (Entry (List Assigned))). as_list es (option_map string_bytes kept.source) (option_map vec_items kept.base)) entries
    ∙ ap (λ (o : Option (List ℕ)). as_list all o (option_map vec_items kept.base)) source
    ∙ ap (λ (o : Option (List ℕ)). as_list all None o) base
