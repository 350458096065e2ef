-- Each byte goes to the key, or is a backslash, or ends the quotes.
use Rattle.std.proofs.Common.{arith, ◌∷◌, ◌++◌, [], false, true, Bool, sym, ◌∙◌}
use Rattle.git_config.specs.declared.fault.Wrong.TheVariants.{Subsection}
use Rattle.git_config.specs.Grammar.{behind_quotes, in_quotes, text_of}
use Rattle.git_config.proofs.lemmas.ReadLemmas.{at_end, failed, fails_byte, goes_byte, placed}
use Rattle.git_config.proofs.lemmas.TurnLemmas.{quotes-backslash, quotes-byte, quotes-end, quotes-escaped, quotes-feed, same_line}
use Rattle.git_config.proofs.head.read_quotes.Goals as goal

pub returns-then-byte-eq10-clause-reads : goal.returns-then-byte-eq10-clause-reads
returns-then-byte-eq10-clause-reads c =
    let line = c.bytes.text.line in let key = c.bytes.key.items in let flag = c.bytes.behind_backslash in
    placed (text_of c.args.text.now.rest.now) c.args.text.now.line (in_quotes false) (sym c.in_ok-push.ensures.items) ∙ c.bytes.invariant.reads
    ∙ fails_byte (in_quotes flag key) Subsection line c.in-Some.ensures (quotes-feed line c.in-Some.byte flag key c.if-byte-eq10.true)
    ∙ failed Subsection c.bytes.invariant.line

pub bytes-preserved-in-Continue-branch-2 : goal.bytes-preserved-in-Continue-branch-2
bytes-preserved-in-Continue-branch-2 c =
    let line = c.bytes.text.line in let key = c.bytes.key.items in let b = c.in-Some.byte in let no = c.if-byte-eq10.false in
    let new = c.take_byte.new.self in
    record {
      line = c.in-Some.ensures.line ∙ same_line line b no ∙ c.bytes.invariant.line;
      reads = c.bytes.invariant.reads ∙ placed (text_of c.bytes.text.rest.now) line (λ (q : Bool). in_quotes q key) c.if-behind_backslash.true
          ∙ goes_byte (in_quotes true key) (in_quotes false (key ++ b ∷ [])) c.in-Some.ensures (quotes-escaped line b key no)
          ∙ placed (text_of new.rest.now) new.line (in_quotes false) (sym c.in_ok-push-2.ensures.items);
      fewer = omega (arith, c.in-Some.ensures.fewer, c.bytes.invariant.fewer);
    }

pub returns-then-byte-eq34-clause-reads : goal.returns-then-byte-eq34-clause-reads
returns-then-byte-eq34-clause-reads c =
    let line = c.bytes.text.line in let key = c.bytes.key.items in let b = c.in-Some.byte in
    let is = placed (text_of c.args.text.now.rest.now) c.args.text.now.line (in_quotes false) (sym c.in_ok-push.ensures.items) ∙ c.bytes.invariant.reads
    ∙ placed (text_of c.bytes.text.rest.now) line (λ (q : Bool). in_quotes q key) c.if-behind_backslash.false
    ∙ goes_byte (in_quotes false key) (behind_quotes key) c.in-Some.ensures (quotes-end line b key c.if-byte-eq34.true) in
    rw is c.read_end.ensures.reads

pub bytes-preserved-then-byte-eq92 : goal.bytes-preserved-then-byte-eq92
bytes-preserved-then-byte-eq92 c =
    let line = c.bytes.text.line in let key = c.bytes.key.items in let b = c.in-Some.byte in
    record {
      line = c.in-Some.ensures.line ∙ same_line line b c.if-byte-eq10.false ∙ c.bytes.invariant.line;
      reads = c.bytes.invariant.reads ∙ placed (text_of c.bytes.text.rest.now) line (λ (q : Bool). in_quotes q key) c.if-behind_backslash.false
          ∙ goes_byte (in_quotes false key) (in_quotes true key) c.in-Some.ensures (quotes-backslash line b key c.if-byte-eq92.true);
      fewer = omega (arith, c.in-Some.ensures.fewer, c.bytes.invariant.fewer);
    }

pub bytes-preserved : goal.bytes-preserved
bytes-preserved c =
    let line = c.bytes.text.line in let key = c.bytes.key.items in let b = c.in-Some.byte in let no = c.if-byte-eq10.false in
    let new = c.take_byte.new.self in let flag = c.if-behind_backslash.false in
    record {
      line = c.in-Some.ensures.line ∙ same_line line b no ∙ c.bytes.invariant.line;
      reads = c.bytes.invariant.reads ∙ placed (text_of c.bytes.text.rest.now) line (λ (q : Bool). in_quotes q key) flag
          ∙ goes_byte (in_quotes false key) (in_quotes false (key ++ b ∷ [])) c.in-Some.ensures (quotes-byte line b key no c.if-byte-eq34.false c.if-byte-eq92.false)
          ∙ placed (text_of new.rest.now) new.line (in_quotes false) (sym c.in_ok-push-3.ensures.items)
          ∙ placed (text_of new.rest.now) new.line (λ (q : Bool). in_quotes q c.push-else-byte-eq92.new.self.items) (sym flag);
      fewer = omega (arith, c.in-Some.ensures.fewer, c.bytes.invariant.fewer);
    }

pub returns-clause-reads : goal.returns-clause-reads
returns-clause-reads c =
    let line = c.bytes.text.line in
    placed (text_of c.args.text.now.rest.now) c.args.text.now.line (in_quotes false) (sym c.in_ok-push.ensures.items) ∙ c.bytes.invariant.reads
    ∙ at_end (in_quotes c.bytes.behind_backslash c.bytes.key.items) c.in_default.ensures
    ∙ failed Subsection c.bytes.invariant.line
