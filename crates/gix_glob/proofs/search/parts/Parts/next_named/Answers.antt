use Rattle.std.proofs.Common.{arith}
use Rattle.std.proofs.lemmas.Grind.{common_steps}
use Rattle.gix_glob.proofs.lemmas.PathParts.{named_parts-pieces}
use Rattle.gix_glob.proofs.search.parts.Parts.next_named.Goals as goal

pub returns-then-ne-clause-found : goal.returns-then-ne-clause-found
returns-then-ne-clause-found c =
    let step = named_parts-pieces c.pieces.self.rest.now in
    grind (arith, common_steps, step)
