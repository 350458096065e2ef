use Rattle.std.proofs.Common.{ap, sym, ◌∙◌}
use Rattle.std.specs.Str.{bytes_eq}
use Rattle.std.specs.Vec.{vec_items}
use Rattle.tree_commands.proofs.lemmas.PuttingLemmas.{is_last_of}
use Rattle.tree_commands.proofs.files.pending.is_last.Goals as goal

pub returns-in-Some : goal.returns-in-Some
returns-in-Some c =
    is_last_of vec_items c.args.paths.now c.in-Some.last.now c.args.path.now (sym c.in-Some.ensures.value) c.eq.result (c.eq.ensures ∙ ap (λ b. bytes_eq b c.args.path.now) c.as_slice.ensures.value)
