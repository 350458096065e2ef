use Rattle.std.proofs.Common.{◌≡◌, ℕ, List, take, true}
use Rattle.std.specs.Borrow.{Bor}
use Rattle.std.specs.List.{AllByRecursion}
use Rattle.glob_attributes.specs.Names.{is_name}
use Rattle.globtree.proofs.check_attr.wrong_name.Given as goal

-- the names so far can be an attribute's
abbrev pub invariant-names : goal.invariant-names
invariant-names l = AllByRecursion (λ (name : Bor (List ℕ)). is_name name.now ≡ true) (take l.name-index l.names)
