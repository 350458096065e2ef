-- What a fault is made of.
use Rattle.std.specs.Prelude.{◌≡◌}
use Rattle.glob_trees.specs.declared.fault.TreeFault.{TreeFault}
use Rattle.glob_trees.specs.declared.fault.TreeFault.TheVariants as tree
use Rattle.tree_answers.specs.declared.records.NameFault.{NameFault}
use Rattle.tree_answers.specs.declared.records.NameFault.TheVariants as name
use Rattle.tree_commands.specs.declared.check_ignore.fault.IgnoreFault.{IgnoreFault}
use Rattle.tree_commands.specs.declared.check_ignore.fault.IgnoreFault.TheVariants.{BadlyQuoted, Empty, InSubmodule, Memory, Outside, Source, Unspelt}

-- the fault that says why a record names no path
abbrev pub IsOfName : {F : Type 0} → NameFault → IgnoreFault F → Type 0
IsOfName name.Memory fault = fault ≡ Memory
IsOfName name.BadlyQuoted fault = fault ≡ BadlyQuoted

-- the fault of a tree
abbrev pub IsOfTree : {F : Type 0} → TreeFault F → IgnoreFault F → Type 0
IsOfTree tree.Memory fault = fault ≡ Memory
IsOfTree (tree.Source inner) fault = fault ≡ Source inner

-- a fault of a source, or want of memory
abbrev pub IsOfSources : {F : Type 0} → IgnoreFault F → Type 0
IsOfSources Memory = Unit {0}
IsOfSources Empty = ⊥
IsOfSources (Outside path) = ⊥
IsOfSources (InSubmodule path) = ⊥
IsOfSources (Unspelt word) = ⊥
IsOfSources BadlyQuoted = ⊥
IsOfSources (Source fault) = Unit {0}
