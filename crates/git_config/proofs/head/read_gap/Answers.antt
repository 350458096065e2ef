-- Each blank is passed over, up to the quote.
use Rattle.std.proofs.Common.{arith, ◌∷◌, ◌++◌, [], false, sym, ◌∙◌}
use Rattle.git_config.specs.declared.fault.Wrong.TheVariants.{Head}
use Rattle.git_config.specs.Grammar.{in_gap, in_quotes}
use Rattle.git_config.proofs.lemmas.ReadLemmas.{at_end, failed, fails_byte, goes_byte}
use Rattle.git_config.proofs.lemmas.TurnLemmas.{gap-fails, gap-quote, gap-space, same_line, space-no_feed}
use Rattle.git_config.proofs.head.read_gap.Goals as goal

pub returns-then-byte-eq34-clause-reads : goal.returns-then-byte-eq34-clause-reads
returns-then-byte-eq34-clause-reads c =
    let name = c.args.name.items in
    let is = c.bytes.invariant.reads ∙ goes_byte (in_gap name) (in_quotes false (name ++ 46 ∷ [])) c.in-Some.ensures (gap-quote c.bytes.text.line c.in-Some.byte name c.if-byte-eq34.true) in
    rw is c.read_quotes.ensures.reads

pub returns-then-not-is_space-clause-reads : goal.returns-then-not-is_space-clause-reads
returns-then-not-is_space-clause-reads c =
    let name = c.args.name.items in
    c.bytes.invariant.reads
    ∙ fails_byte (in_gap name) Head c.bytes.text.line c.in-Some.ensures (gap-fails c.bytes.text.line c.in-Some.byte name c.if-byte-eq34.false (sym c.is_space.ensures ∙ c.if-not-is_space.true))
    ∙ failed Head c.bytes.invariant.line

pub bytes-preserved : goal.bytes-preserved
bytes-preserved c =
    let name = c.args.name.items in let line = c.bytes.text.line in let b = c.in-Some.byte in
    let space = sym c.is_space.ensures ∙ c.if-not-is_space.false in
    record {
      line = c.in-Some.ensures.line ∙ same_line line b (space-no_feed b space) ∙ c.bytes.invariant.line;
      reads = c.bytes.invariant.reads ∙ goes_byte (in_gap name) (in_gap name) c.in-Some.ensures (gap-space line b name c.if-byte-eq34.false space);
      fewer = omega (arith, c.in-Some.ensures.fewer, c.bytes.invariant.fewer);
    }

pub returns-clause-reads : goal.returns-clause-reads
returns-clause-reads c = c.bytes.invariant.reads ∙ at_end (in_gap c.args.name.items) c.in_default.ensures ∙ failed Head c.bytes.invariant.line
