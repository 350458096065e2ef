-- Each byte has the bit that capital letters lack.
use Rattle.std.proofs.Common.{ℕ, ap, arith, bit_and, eqb-true, sym, ◌∙◌}
use Rattle.glob_lists.specs.Private.Asks.Literals.{AreBytes}
use Rattle.glob_lists.proofs.lemmas.Asks.EndNumbers.{raw_end-plain}
use Rattle.glob_lists.proofs.lemmas.Asks.RawBytes.{no_capital}
use Rattle.glob_lists.proofs.asks.literals.has_plain_end.Goals as goal

pub returns : goal.returns
returns c = λ plain.
    let bytes : AreBytes c.args.text.now = λ j. (let fits = c.type_inv.text j in omega arith) in record {
      bytes = bytes;
      fits = omega (arith, c.if-text-lt-LONGEST_END.false);
      small = raw_end-plain c.args.text.now bytes 8 (omega arith) (ap (λ (n : ℕ). bit_and n (no_capital 8)) (sym c.raw_end.ensures) ∙ eqb-true _ _ plain);
    }
