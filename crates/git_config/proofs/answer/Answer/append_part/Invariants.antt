use Rattle.std.proofs.Common.{◌≡◌, ◌-◌, ◌≤◌, drop, length}
use Rattle.git_config.specs.Answers.{PartWritten, asked_of}
use Rattle.git_config.specs.Private.Answering.{shown_from}
use Rattle.git_config.proofs.answer.Answer.append_part.Given as goal

-- what is left no more was written
abbrev pub invariant-entries : goal.invariant-entries
invariant-entries l =
    let a = l.initial.self-inside in let b = l.self-inside in
    record {
      written : PartWritten l.initial.text.items l.text.items (shown_from a.manner (asked_of a.question) (drop a.next a.config.now)) (shown_from b.manner (asked_of b.question) (drop b.next b.config.now));
      within : b.next ≤ length b.config.now;
    }

abbrev pub decreases-entries : goal.decreases-entries
decreases-entries l = length l.self-inside.config.now - l.self-inside.next
