use Rattle.std.proofs.Common.{None, false, ◌++◌, [], sym}
use Rattle.std.proofs.lemmas.List.{append-nil}
use Rattle.tree_answers.specs.Lines.{line_text}
use Rattle.globtree.proofs.lemmas.MatchLemmas.{grows_by, line_grows, matched, unmatched}
use Rattle.globtree.proofs.matching.PathMatcher.append.Goals as goal

pub returns-then-not-matches-clause-written : goal.returns-then-not-matches-clause-written
returns-then-not-matches-clause-written c =
    ([], unmatched c.args.self.now c.args.path.now c.args.told.now.bytes.now c.requires c.matches.result c.matches.ensures c.if-not-matches.true, sym (append-nil c.args.text.now.items))

pub returns-clause-written : goal.returns-clause-written
returns-clause-written c =
    let before = c.in_ok-append_head.ensures.written in
    let line = line_text false c.args.self.now.form None c.args.told.now.bytes.now in
    grows_by c.append_line.result
    (λ grown. (
      before.0 ++ line,
      matched c.args.self.now c.args.path.now c.args.told.now.bytes.now c.requires c.matches.result c.matches.ensures c.if-not-matches.false before.0 before.1,
      line_grows c.args.text.now.items c.append_head.new.text.items c.append_line.new.text.items before.0 line grown before.2,
    ))
    c.append_line.ensures.written
