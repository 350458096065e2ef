-- One more mapping has one more entry.
use Rattle.std.proofs.Common.{map, ap, ◌∙◌}
use Rattle.std.proofs.lemmas.List.{map_push}
use Rattle.gix_glob.specs.Entries.{entry_of}
use Rattle.gix_glob.specs.declared.search.pattern.mapping.Mapping.{Mapping}
use Rattle.glob_lines.proofs.entries.NumberedMappings.push.Goals as goal

pub returns-clause-entry : goal.returns-clause-entry
returns-clause-entry g c =
    let mapping : Mapping g.row.V.Denot = record { pattern = c.args.pattern; value = c.args.value; sequence_number = c.args.self.now.lines } in
    ap (map (entry_of (λ v. v))) c.in_ok-push.ensures.items ∙ map_push (entry_of (λ v. v)) c.args.self.now.mappings.items mapping
