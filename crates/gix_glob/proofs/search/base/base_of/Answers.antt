use Rattle.std.proofs.Common.{◌≡◌, ◌≢◌, ◌++◌, ℕ, List, rules}
use Rattle.gix_glob.specs.Paths.{parts}
use Rattle.gix_glob.specs.Private.PartsLeft.{parts_left}
use Rattle.gix_glob.proofs.lemmas.Bases.{Base-of_answer, Base-aside}
use Rattle.gix_glob.proofs.search.base.base_of.Goals as goal

pub returns-in-Some-parts_below : goal.returns-in-Some-parts_below
returns-in-Some-parts_below c =
    let joined : parts c.args.source.now ≡ parts c.in-Some.root.now ++ parts_left c.in-Some-parts_below.parts = search rules in
    rw c.in-Some.is (Base-of_answer c.args.source.now c.in-Some.root.now (parts_left c.in-Some-parts_below.parts) c.folders_of.result joined c.folders_of.ensures)

pub returns-in-None : goal.returns-in-None
returns-in-None c =
    let aside : (below : List (List ℕ)) → parts c.args.source.now ≢ parts c.in-Some.root.now ++ below = search rules in
    rw c.in-Some.is (Base-aside c.args.source.now c.in-Some.root.now aside)
