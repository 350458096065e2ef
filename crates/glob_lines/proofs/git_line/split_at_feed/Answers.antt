-- What stands before the first line feed is the line.
use Rattle.std.proofs.Common.{◌≡◌, [], length, ap, arith, le_refl}
use Rattle.std.proofs.lemmas.List.{drop_all, take_rest}
use Rattle.glob_lines.specs.Lines.{EndsInFeed, line_feed}
use Rattle.glob_lines.proofs.lemmas.GitLineLemmas.{CutsLine-at_feed}
use Rattle.glob_lines.proofs.lemmas.IgnoreLemmas.{CutsLine-last}
use Rattle.byte_streams.proofs.lemmas.CutLemmas.{HasNo-not_found, IsCutAt-found}
use Rattle.glob_lines.proofs.git_line.split_at_feed.Goals as goal

pub returns-in-Some-clause-cut : goal.returns-in-Some-clause-cut
returns-in-Some-clause-cut c = rw take_rest (CutsLine-at_feed _ _ _ (IsCutAt-found line_feed c.args.bytes.now c.in-Some.end c.in-Some.ensures))

pub returns-in-None-clause-cut : goal.returns-in-None-clause-cut
returns-in-None-clause-cut c =
    let bytes = c.args.bytes.now in
    rw (take_rest, drop_all (length bytes) bytes (le_refl _))
    (CutsLine-last {Ends = EndsInFeed} bytes (λ (empty : bytes ≡ []). let none = ap length empty in absurd (omega arith)) (HasNo-not_found line_feed bytes c.in-None.ensures))
