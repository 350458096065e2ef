-- What is reported of a path is written for the line that names it.
use Rattle.std.proofs.lemmas.Result.{on_ok_weaker}
use Rattle.glob_lines.proofs.lemmas.PathLineLemmas.{adds_for_path}
use Rattle.glob_lines.proofs.path_lines.append_line.Goals as goal

pub returns-clause-written : goal.returns-clause-written
returns-clause-written g c =
    on_ok_weaker c.append.result
    (adds_for_path (g.R.PathReport.writes (g.R.PathReport.basis c.args.report.now)) c.args.line.now c.in-Some.path.bytes c.in-Some.path.is_dir _ _ c.in-Some.ensures.0 c.in-Some.ensures.1)
    c.append.ensures.written
