-- The byte begins the head of a section, or an entry.
use Rattle.std.proofs.Common.{◌∷◌, [], false, sym, ◌∙◌}
use Rattle.std.specs.Char.{to_ascii_lowercase}
use Rattle.std.proofs.lemmas.Result.{err_from_is_err_and}
use Rattle.git_config.specs.declared.fault.Wrong.TheVariants.{Outside}
use Rattle.git_config.specs.Grammar.{between, in_head, in_name, text_of}
use Rattle.git_config.proofs.lemmas.ReadLemmas.{fails_here, goes_here}
use Rattle.git_config.proofs.lemmas.TurnLemmas.{between-fails, between-head, between-name, blank-no_feed}
use Rattle.git_config.proofs.file.read_item.Goals as goal

pub returns-in_err-read_head-clause-reads : goal.returns-in_err-read_head-clause-reads
returns-in_err-read_head-clause-reads c =
    let text = c.args.text.now in let b = c.args.byte in
    let is = goes_here b (text_of text.rest.now) text.line between (in_head []) (blank-no_feed b c.requires.no_blank) (between-head text.line b c.if-byte-eq91.true) in
    let p = err_from_is_err_and c.from_residual.result c.from_residual.ensures.1 in
    rw (p.1, p.2) (rw is c.in_err-read_head.ensures.reads)

pub returns-then-byte-eq91-clause-reads : goal.returns-then-byte-eq91-clause-reads
returns-then-byte-eq91-clause-reads c =
    let text = c.args.text.now in let b = c.args.byte in
    goes_here b (text_of text.rest.now) text.line between (in_head []) (blank-no_feed b c.requires.no_blank) (between-head text.line b c.if-byte-eq91.true)
    ∙ c.in_ok-read_head.ensures.reads

pub returns-in_err-read_entry-clause-reads : goal.returns-in_err-read_entry-clause-reads
returns-in_err-read_entry-clause-reads c =
    let text = c.args.text.now in let b = c.args.byte in
    let is = goes_here b (text_of text.rest.now) text.line between (in_name false (to_ascii_lowercase b ∷ [])) (blank-no_feed b c.requires.no_blank)
    (between-name text.line b c.requires.no_blank c.requires.no_mark c.if-byte-eq91.false (sym c.is_ascii_alphabetic.ensures.value ∙ c.if-is_ascii_alphabetic.true)) in
    let p = err_from_is_err_and c.from_residual-in_err-read_entry.result c.from_residual-in_err-read_entry.ensures.1 in
    rw (p.1, p.2) (rw is c.in_err-read_entry.ensures.reads)

pub returns-then-is_ascii_alphabetic-clause-reads : goal.returns-then-is_ascii_alphabetic-clause-reads
returns-then-is_ascii_alphabetic-clause-reads c =
    let text = c.args.text.now in let b = c.args.byte in
    goes_here b (text_of text.rest.now) text.line between (in_name false (to_ascii_lowercase b ∷ [])) (blank-no_feed b c.requires.no_blank)
    (between-name text.line b c.requires.no_blank c.requires.no_mark c.if-byte-eq91.false (sym c.is_ascii_alphabetic.ensures.value ∙ c.if-is_ascii_alphabetic.true))
    ∙ c.in_ok-read_entry.ensures.reads

pub returns-clause-reads : goal.returns-clause-reads
returns-clause-reads c =
    let text = c.args.text.now in let b = c.args.byte in
    fails_here b (text_of text.rest.now) text.line between Outside text.line
    (between-fails text.line b c.requires.no_blank c.requires.no_mark c.if-byte-eq91.false (sym c.is_ascii_alphabetic.ensures.value ∙ c.if-is_ascii_alphabetic.false))
