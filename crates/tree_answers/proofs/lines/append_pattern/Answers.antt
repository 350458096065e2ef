use Rattle.std.proofs.Common.{arith}
use Rattle.std.proofs.lemmas.Grind.{common_steps}
use Rattle.std.specs.Io.{StartsWith}
use Rattle.git_paths.proofs.lemmas.FrontLemmas.{front_of_front}
use Rattle.tree_answers.proofs.lines.append_pattern.Goals as goal

pub returns-in_err-append_if-4-clause-kept : goal.returns-in_err-append_if-4-clause-kept
returns-in_err-append_if-4-clause-kept c =
    let grown : StartsWith c.extend_from_slice.new.self.items c.args.text.now.items = grind (arith, common_steps) in
    front_of_front c.args.text.now.items c.extend_from_slice.new.self.items c.append_if-4.new.text.items grown c.append_if-4.ensures.kept
