use Rattle.std.proofs.Common.{arith}
use Rattle.std.proofs.lemmas.Grind.{common_steps}
use Rattle.std.specs.Io.{StartsWith}
use Rattle.git_paths.proofs.lemmas.FrontLemmas.{front_of_front}
use Rattle.tree_answers.proofs.lines.append_deciding.Goals as goal

pub returns-clause-kept : goal.returns-clause-kept
returns-clause-kept c =
    let before : StartsWith c.push-2.new.self.items c.args.text.now.items = grind (arith, common_steps) in
    front_of_front c.args.text.now.items c.push-2.new.self.items c.append_pattern.new.text.items before c.append_pattern.ensures.kept
