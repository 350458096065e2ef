-- The byte behind a backslash.
use Rattle.std.proofs.Common.{List, ℕ, sym, ◌∙◌}
use Rattle.git_config.specs.declared.fault.Wrong.TheVariants.{Escape}
use Rattle.git_config.specs.Grammar.{in_escape, in_value, text_of, with_byte}
use Rattle.git_config.specs.Private.Parts.{part_of}
use Rattle.git_config.proofs.lemmas.ReadLemmas.{fails_byte, goes_byte, placed}
use Rattle.git_config.proofs.lemmas.PartLemmas.{escape_at_end}
use Rattle.git_config.proofs.lemmas.TurnLemmas.{escape-byte, escape-fails, escape-feed}
use Rattle.git_config.proofs.value.add_escaped.Goals as goal

pub returns-in_default-clause-reads : goal.returns-in_default-clause-reads
returns-in_default-clause-reads c = λ name. escape_at_end name (part_of c.args.part.now) c.in_default.ensures

pub returns-then-byte-eq10-clause-reads : goal.returns-then-byte-eq10-clause-reads
returns-then-byte-eq10-clause-reads c = λ name.
    let part = part_of c.args.part.now in
    goes_byte (in_escape name part) (in_value name part) c.in-Some.ensures (escape-feed c.args.text.now.line c.in-Some.byte name part c.if-byte-eq10.true)

pub returns-in_default-escaped-clause-reads : goal.returns-in_default-escaped-clause-reads
returns-in_default-escaped-clause-reads c = λ name.
    let part = part_of c.args.part.now in let line = c.args.text.now.line in
    fails_byte (in_escape name part) Escape line c.in-Some.ensures
    (escape-fails line c.in-Some.byte name part c.if-byte-eq10.false (sym c.escaped.ensures ∙ c.in_default-escaped.is))

pub returns-clause-reads : goal.returns-clause-reads
returns-clause-reads c = λ name.
    let part = part_of c.args.part.now in let new = c.take_byte.new.self in let meant = c.in-Some-escaped.meant in
    goes_byte (in_escape name part) (in_value name (with_byte part meant)) c.in-Some.ensures
    (escape-byte c.args.text.now.line c.in-Some.byte name part meant c.if-byte-eq10.false (sym c.escaped.ensures ∙ c.in-Some-escaped.is))
    ∙ placed (text_of new.rest.now) new.line (λ (bytes : List ℕ). in_value name (record { quoted = part.quoted; blanks = part.blanks; bytes = bytes })) (sym c.in_ok-push.ensures.items)
