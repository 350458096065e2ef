use Rattle.std.proofs.Common.{◌∷◌, ◌+◌, take, ap, sym, ◌∙◌}
use Rattle.std.proofs.lemmas.List.{take_rest}
use Rattle.git_paths.specs.Paths.{parts_of}
use Rattle.git_paths.proofs.lemmas.PathLemmas.{first_part_at, first_part_whole}
use Rattle.git_paths.proofs.paths.first_part.Goals as goal

pub returns-in-Some : goal.returns-in-Some
returns-in-Some c =
    let bytes = c.args.bytes.now in
    let at = c.in-Some.at in
    first_part_at bytes at c.in-Some.ensures ∙ ap (λ rest. take at bytes ∷ parts_of rest) (sym (take_rest bytes (at + 1)))

pub returns-in-None : goal.returns-in-None
returns-in-None c = first_part_whole c.args.bytes.now c.in-None.ensures
