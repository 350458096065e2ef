use Rattle.std.proofs.Common.{List, IsTrue, subst, ap, not, ◌∙◌}
use Rattle.std.specs.Prelude.{◌↔◌, false, true}
use Rattle.std.specs.Vec.{vec_items}
use Rattle.pathspecs.specs.Elements.{PathspecItem}
use Rattle.globtree.specs.Listed.{IsMetListed, seen_listed}
use Rattle.globtree.proofs.lemmas.ListedLemmas.{first_unless, map_none, matches_alike}
use Rattle.globtree.proofs.listed_path.ListedPath.is_matched.Goals as goal

pub returns-then-is_met_by : goal.returns-then-is_met_by
returns-then-is_met_by c =
    let listed = seen_listed c.args.self.now in
    let items = c.args.list.now in
    first_unless (IsMetListed false items listed) (IsMetListed true items listed) c.is_met_by-then-is_met_by.result
    (subst (λ (its : List PathspecItem). IsMetListed false its listed) c.elements.ensures (c.is_met_by.ensures.0 c.if-is_met_by.true))
    (subst (λ (its : List PathspecItem). IsTrue c.is_met_by-then-is_met_by.result ↔ IsMetListed true its listed) c.elements-then-is_met_by.ensures c.is_met_by-then-is_met_by.ensures)

pub returns-then-is_none : goal.returns-then-is_none
returns-then-is_none c =
    let alike = matches_alike c.args.list.now (seen_listed c.args.self.now) (map_none vec_items c.args.self.now.folder (c.is_none.ensures ∙ ap not c.if-is_none.true)) in
    (λ is. alike.0 (c.matches.ensures.0 is), λ matches. c.matches.ensures.1 (alike.1 matches))
