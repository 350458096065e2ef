use Rattle.std.proofs.Common.{◌∙◌, ℕ, Vec, ap, map}
use Rattle.std.specs.declared.alloc.Global.{Global}
use Rattle.gix_glob.specs.declared.search.pattern.mapping.Mapping.{Mapping}
use Rattle.gix_glob.specs.Entries.{entry_of}
use Rattle.gix_glob.specs.EntryLists.{entry_list_of}
use Rattle.glob_attributes.specs.declared.assignment.Assignment.{Assignment}
use Rattle.glob_attributes.specs.Narrowing.{concerns}
use Rattle.glob_attributes.specs.Private.Narrowing.{assigns_named}
use Rattle.glob_attributes.specs.Views.{seen_assignments}
use Rattle.glob_attributes.proofs.lemmas.KeptLemmas.{concerns-named, filter-alike, filter-map, needed, states_kept}
use Rattle.glob_attributes.proofs.narrowing.keep_named.Goals as goal

pub returns-clause-kept : goal.returns-clause-kept
returns-clause-kept c =
    let names = c.args.names.now in
    let macros = c.args.macros.now in
    c.keep_mappings.ensures
    ∙ filter-alike (λ (mapping : Mapping (Vec (Assignment (Vec ℕ Global)) Global)). assigns_named names macros (seen_assignments mapping.value))
    (λ (mapping : Mapping (Vec (Assignment (Vec ℕ Global)) Global)). concerns (map (λ name. name.now) names) macros (seen_assignments mapping.value))
    (λ mapping. concerns-named names macros (seen_assignments mapping.value)) c.args.list.now.patterns.items

pub returns-clause-states : goal.returns-clause-states
returns-clause-states c =
    let names = c.args.names.now in
    let macros = c.args.macros.now in
    states_kept names macros (entry_list_of seen_assignments c.args.list.now) (map (entry_of seen_assignments) c.keep_mappings.new.patterns.items)
    (ap (map (entry_of seen_assignments)) c.keep_mappings.ensures ∙ filter-map (entry_of seen_assignments) (needed names macros) c.args.list.now.patterns.items)
