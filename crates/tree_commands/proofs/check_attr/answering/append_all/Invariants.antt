use Rattle.std.proofs.Common.{◌≡◌, ◌++◌, map, take}
use Rattle.std.specs.Io.{StartsWith}
use Rattle.glob_attributes.specs.Views.{assignment_with}
use Rattle.tree_commands.specs.Private.AttributeAnswers.{shown_text}
use Rattle.tree_commands.proofs.check_attr.answering.append_all.Given as goal

-- the states so far were appended
abbrev pub invariant-all : goal.invariant-all
invariant-all l =
    (l.text.items ≡ l.fn.text.items ++ shown_text l.form l.shown (map (assignment_with (λ bytes. bytes.now)) (take l.assigned-index l.states)))
    × StartsWith l.text.items l.fn.text.items
