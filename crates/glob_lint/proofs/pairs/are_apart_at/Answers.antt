-- What the one line matches, by its parts, the other one doesn't.
use Rattle.glob_lint.specs.Seen.{seen}
use Rattle.glob_lint.proofs.lemmas.Held.{meets_here}
use Rattle.glob_lint.proofs.pairs.are_apart_at.Goals as goal

pub returns : goal.returns
returns c = λ yes path is_dir real h k.
    let lists = seen c.args.lists.now in
    c.are_apart.ensures yes path is_dir real
    (meets_here lists c.args.pair c.line_at.result c.line_at.ensures c.args.rules path is_dir h)
    (meets_here lists c.args.other c.line_at-2.result c.line_at-2.ensures c.args.rules path is_dir k)
