-- The row is the last of its chain, and is linked to what was the last before.
use Rattle.std.proofs.Common.{refl, arith}
use Rattle.glob_lists.proofs.lemmas.Lists.ChainLemmas.{AreChained-push}
use Rattle.glob_lists.proofs.list.chains.chain.Goals as goal

pub returns-clause-chained : goal.returns-clause-chained
returns-clause-chained c = λ rows some long whole chained.
    AreChained-push rows c.args.heads.now _ c.args.row c.after-linked.result c.chain_of-chain.result c.to.result c.chain_of-chain.ensures.within c.chain_of-chain.ensures.chain
    (omega (arith, c.to.ensures)) refl c.after-linked.ensures whole chained
