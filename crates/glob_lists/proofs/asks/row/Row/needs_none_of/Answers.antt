use Rattle.std.proofs.Common.{◌<◌, ◌^◌, arith}
use Rattle.std.proofs.lemmas.Bool.{eq-eqb, eqb-true}
use Rattle.glob_lists.proofs.lemmas.Asks.BitLemmas.{none_lacked}
use Rattle.glob_lists.proofs.asks.row.Row.needs_none_of.Goals as goal

pub returns : goal.returns
returns c = λ probe lacks.
    let fits : c.args.self.now.asked < 2 ^ 64 = omega arith in
    let both = none_lacked _ c.args.self.now.asked c.of.result fits (rw c.part.ensures at (c.of.ensures probe lacks)) in (
      λ none. both.0 (eqb-true _ _ none),
      λ all. eq-eqb _ _ (both.1 all),
    )
