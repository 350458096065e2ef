-- The text is at the front of the bytes that are left, and these are a part of what was left before.
use Rattle.std.proofs.Common.{◌∙◌, ℕ, List, Option, ap, sym, subst}
use Rattle.std.specs.Borrow.{Bor}
use Rattle.std.specs.Option.{ForSome, option_copied}
use Rattle.std.specs.Prelude.{◌==◌}
use Rattle.gix_glob_c.specs.Private.Parts.{BeginsSo}
use Rattle.gix_glob_c.specs.declared.ignore_file.TheConstants.{PATTERN}
use Rattle.glob_attributes.proofs.lemmas.PartLemmas.{part_of_part}
use Rattle.gix_glob_c.proofs.lemmas.PlacesLemmas.{line_begins}
use Rattle.gix_glob_c.proofs.ignore_file.gix_glob_parse_ignore_line.Goals as goal

pub read_text-requires : goal.read_text-requires
read_text-requires c =
    let bytes = c.unread-bytes.result.now in
    subst (λ (text : Option (Bor (List ℕ))). ForSome (option_copied text) (BeginsSo bytes)) (sym c.go_behind-text.ensures.text)
    (line_begins bytes (option_copied c.in-Some.line.text) c.in-Some.line.rest.now c.in-Some.ensures.line)

pub returns-clause-part : goal.returns-clause-part
returns-clause-part c = λ told.
    part_of_part c.read_text.new.out.text c.unread-bytes.result c.args.lines.now.rest (c.read_text.ensures.place (sym c.told.ensures.pattern ∙ ap (λ (n : ℕ). n == PATTERN) told)) c.unread-bytes.ensures.part
