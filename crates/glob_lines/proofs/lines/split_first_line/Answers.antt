use Rattle.std.proofs.Common.{ap, sym, ◌∙◌, ◌∷◌, ◌+◌, take}
use Rattle.std.proofs.lemmas.List.{take_rest}
use Rattle.glob_lines.specs.Equations.Lines.{lines_of}
use Rattle.glob_lines.proofs.lemmas.LinesLemmas.{first_line, last_line}
use Rattle.glob_lines.proofs.lines.split_first_line.Goals as goal

pub returns-in-Some : goal.returns-in-Some
returns-in-Some c =
    let bytes = c.args.bytes.now in
    first_line bytes c.in-Some.end c.in-Some.ensures ∙ ap (λ rest. take c.in-Some.end bytes ∷ lines_of rest) (sym (take_rest bytes (c.in-Some.end + 1)))

pub returns-in-None : goal.returns-in-None
returns-in-None c = last_line c.args.bytes.now c.requires c.in-None.ensures
