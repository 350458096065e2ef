-- What the line matches, it matches by its parts.
use Rattle.glob_lint.specs.Seen.{seen}
use Rattle.glob_lint.proofs.lemmas.Held.{meets_here}
use Rattle.glob_lint.proofs.pairs.matches_nothing_at.Goals as goal

pub returns : goal.returns
returns c = λ yes path is_dir real h.
    c.matches_nothing.ensures yes path is_dir real
    (meets_here (seen c.args.lists.now) c.args.pair c.line_at.result c.line_at.ensures c.args.rules path is_dir h)
