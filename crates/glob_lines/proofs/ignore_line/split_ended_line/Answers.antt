-- A carriage return before the line feed is cut off.
use Rattle.std.proofs.Common.{◌≡◌, ◌+◌, [], length, take, drop, ap, arith, le_refl}
use Rattle.std.proofs.lemmas.List.{drop_all, take_rest}
use Rattle.glob_lines.specs.Lines.{line_feed}
use Rattle.glob_lines.proofs.lemmas.IgnoreLemmas.{CutsLine-before_feed, CutsLine-last}
use Rattle.byte_streams.proofs.lemmas.CutLemmas.{HasNo-not_found, IsCutAt-found}
use Rattle.glob_lines.proofs.ignore_line.split_ended_line.Goals as goal

pub returns-in-Some-clause-cut : goal.returns-in-Some-clause-cut
returns-in-Some-clause-cut c =
    let bytes = c.args.bytes.now in
    let end = c.in-Some.end in
    rw take_rest (CutsLine-before_feed bytes (take end bytes) c.without_return.result.now (drop (end + 1) bytes) (IsCutAt-found line_feed bytes end c.in-Some.ensures) c.without_return.ensures)

pub returns-in-None-clause-cut : goal.returns-in-None-clause-cut
returns-in-None-clause-cut c =
    let bytes = c.args.bytes.now in
    rw (take_rest, drop_all (length bytes) bytes (le_refl _))
    (CutsLine-last bytes (λ (empty : bytes ≡ []). let none = ap length empty in absurd (omega arith)) (HasNo-not_found line_feed bytes c.in-None.ensures))
