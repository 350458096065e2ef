use Rattle.std.proofs.Common.{◌≡◌, ◌∙◌, arith}
use Rattle.git_index.proofs.lemmas.Search.{cmp, cmp-shorter, cmp-split}
use Rattle.git_index.proofs.search.compare.Goals as goal

pub returns-then-path-front : goal.returns-then-path-front
returns-then-path-front c = let e : c.cmp.result ≡ cmp c.args.path.now c.args.front.now = c.cmp.ensures in e ∙ cmp-shorter c.args.path.now c.args.front.now c.args.end.now (omega arith)

pub returns : goal.returns
returns c = rw (c.then.ensures, c.cmp-2.ensures, c.cmp-3.ensures, c.split_at.ensures.front, c.split_at.ensures.back) (cmp-split c.args.path.now c.args.front.now c.args.end.now c.if-path-front.false)
