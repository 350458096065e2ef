use Rattle.std.proofs.Common.{◌∷◌, ◌++◌, [], sym, ap, ◌∙◌}
use Rattle.git_config.specs.declared.fault.Wrong.TheVariants.{Head}
use Rattle.git_config.specs.declared.item.Item.TheVariants.{Section}
use Rattle.git_config.specs.Grammar.{before, behind_quotes, between, line_behind, read, text_of}
use Rattle.git_config.proofs.lemmas.ReadLemmas.{at_end, failed, fails_byte, gives_byte}
use Rattle.git_config.proofs.lemmas.TurnLemmas.{end-bracket, end-fails}
use Rattle.git_config.proofs.head.read_end.Goals as goal

pub returns-in_default-clause-reads : goal.returns-in_default-clause-reads
returns-in_default-clause-reads c = at_end (behind_quotes c.args.key.items) c.in_default.ensures

pub returns-then-byte-ne93-clause-reads : goal.returns-then-byte-ne93-clause-reads
returns-then-byte-ne93-clause-reads c =
    let line = c.args.text.now.line in let b = c.in-Some.byte in
    fails_byte (behind_quotes c.args.key.items) Head (line_behind line b) c.in-Some.ensures (end-fails line b c.args.key.items c.if-byte-ne93.true)
    ∙ failed Head (sym c.in-Some.ensures.line)

pub returns-clause-reads : goal.returns-clause-reads
returns-clause-reads c =
    let key = c.args.key.items in
    gives_byte (behind_quotes key) (Section (key ++ 46 ∷ [])) c.in-Some.ensures (end-bracket c.args.text.now.line c.in-Some.byte key c.if-byte-ne93.false)
    ∙ ap (λ prefix. before (Section prefix) (read (text_of c.take_byte.new.self.rest.now) c.take_byte.new.self.line between)) (sym c.in_ok-push.ensures.items)
