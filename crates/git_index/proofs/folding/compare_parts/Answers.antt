use Rattle.std.proofs.Common.{sym, ◌∙◌, arith}
use Rattle.std.specs.Char.{to_ascii_lowercase}
use Rattle.std.proofs.lemmas.List.{length-map}
use Rattle.git_index.proofs.lemmas.Search.{cmp-shorter}
use Rattle.git_index.specs.Folding.{folded}
use Rattle.git_index.proofs.lemmas.Folding.{cut_parts, joined_parts}
use Rattle.git_index.proofs.folding.compare_parts.Goals as goal

pub returns-then-path-front : goal.returns-then-path-front
returns-then-path-front c =
    let path = c.args.path.now in
    let front = c.args.front.now in
    c.compare.ensures
    ∙ cmp-shorter (folded path) (folded front) (folded c.args.end.now) (omega (arith, length-map path to_ascii_lowercase, length-map front to_ascii_lowercase))
    ∙ sym (joined_parts path front c.args.end.now)

pub returns : goal.returns
returns c = rw (c.then.ensures, c.compare-2.ensures, c.compare-3.ensures, c.split_at.ensures.front, c.split_at.ensures.back) (cut_parts c.args.path.now c.args.front.now c.args.end.now c.if-path-front.false)
