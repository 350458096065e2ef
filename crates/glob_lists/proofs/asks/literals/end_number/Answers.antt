-- Bytes of which none is a capital letter make the number as they are.
use Rattle.std.proofs.Common.{bit_and, ap, sym, ◌∙◌, ℕ, arith}
use Rattle.glob_lists.specs.Private.Asks.Literals.{AreBytes}
use Rattle.glob_lists.proofs.lemmas.Asks.EndNumbers.{HasEndKeys-whole, raw_end-small}
use Rattle.glob_lists.proofs.lemmas.Asks.RawBytes.{no_capital}
use Rattle.glob_lists.proofs.asks.literals.end_number.Goals as goal

pub returns-then-key-eq-NO_CAPITAL : goal.returns-then-key-eq-NO_CAPITAL
returns-then-key-eq-NO_CAPITAL c =
    let bytes : AreBytes c.args.text.now = λ j. (let fits = c.type_inv.text j in omega arith) in
    let key = c.raw_end-key.ensures in
    HasEndKeys-whole c.args.text.now bytes c.raw_end-key.result
    (key ∙ raw_end-small c.args.text.now bytes 8 (omega arith) (ap (λ (n : ℕ). bit_and n (no_capital 8)) (sym key) ∙ c.if-key-eq-NO_CAPITAL.true))
