use Rattle.std.proofs.Common.{◌≡◌, ◌++◌, map, take}
use Rattle.std.specs.Io.{StartsWith}
use Rattle.glob_attributes.specs.States.{state_in}
use Rattle.tree_commands.specs.Private.AttributeAnswers.{shown_text}
use Rattle.tree_commands.proofs.check_attr.answering.append_named.Given as goal

-- the states of the names so far were appended
abbrev pub invariant-names : goal.invariant-names
invariant-names l =
    (l.text.items ≡ l.fn.text.items ++ shown_text l.form l.shown (map (λ name. record { name = name.now; state = state_in l.assigned name.now }) (take l.place l.names)))
    × StartsWith l.text.items l.fn.text.items
