use Rattle.std.proofs.Common.{◌≡◌, true, IfOk, IfSome, Bool, subst, arith}
use Rattle.std.proofs.lemmas.Grind.{common_steps}
use Rattle.glob_lists.specs.Paths.{Path}
use Rattle.tree_commands.specs.Private.Finding.{IsFoundAs}
use Rattle.tree_commands.proofs.lemmas.FindingLemmas.{if_found_as, keeps_on}
use Rattle.tree_commands.proofs.check_ignore.finding.Finder.find_by_kind.Goals as goal

pub returns-clause-found : goal.returns-clause-found
returns-clause-found g c =
    let is : c.in_ok-is_folder.field-0 ≡ true = grind (arith, common_steps) in
    let known = (g.K.PathKinds.known c.args.self.now.kinds).kind_of c.args.bare.now in
    if_found_as (g.S.FolderLists.shows (Unit {0})) c.find_as-2.new.tree c.args.path.now known true
    (subst (λ (b : Bool). IfSome known (λ is_folder. b ≡ is_folder)) is c.in_ok-is_folder.ensures.told) c.find_as-2.result
    (subst (λ (p : Path). IfOk c.find_as-2.result (IsFoundAs (g.S.FolderLists.shows (Unit {0})) c.find_as-2.new.tree p.bytes p.is_dir)) c.from_plain-2.ensures c.find_as-2.ensures.found)

pub returns-clause-keeps : goal.returns-clause-keeps
returns-clause-keeps g c =
    keeps_on (g.S.FolderLists.shows (Unit {0})) c.args.self.now.tree c.find_as.new.tree c.find_as-2.new.tree c.find_as.ensures.keeps c.find_as-2.ensures.keeps
