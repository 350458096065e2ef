use Rattle.std.proofs.Common.{sym, refl}
use Rattle.glob_matcher.proofs.lemmas.reading.Reading.{plain_run, local_run, dirs_run, free_run}
use Rattle.glob_matcher.proofs.wildmatch.engine.Engine.run_at.Goals as goal

pub returns-then-not-is_path-clause-token : goal.returns-then-not-is_path-clause-token
returns-then-not-is_path-clause-token g c =
    plain_run g.M.Texts.way g.M.Texts.pattern c.args.place c.run_end-end.result (sym c.if-not-is_path.ensures)
    c.run_end-end.ensures.run c.run_end-end.ensures.inside

pub returns-then-not-is_bounded-clause-token : goal.returns-then-not-is_bounded-clause-token
returns-then-not-is_bounded-clause-token g c =
    local_run g.M.Texts.way g.M.Texts.pattern c.args.place c.run_end-end.result (sym c.if-not-is_path.ensures)
    c.run_end-end.ensures.run (λ bounded. let no_more = c.if-not-is_bounded.ensures.answer.1 bounded in cc)
    c.run_end-end.ensures.inside

pub returns-then-has_byte-clause-token : goal.returns-then-has_byte-clause-token
returns-then-has_byte-clause-token g c =
    dirs_run g.M.Texts.way g.M.Texts.pattern c.args.place c.run_end-end.result (sym c.if-not-is_path.ensures)
    c.run_end-end.ensures.run (c.if-not-is_bounded.ensures.answer.0 refl) (c.if-has_byte.ensures.answer.0 refl)

pub returns-clause-token : goal.returns-clause-token
returns-clause-token g c =
    free_run g.M.Texts.way g.M.Texts.pattern c.args.place c.run_end-end.result c.run_end-end.ensures.run
    (c.if-not-is_bounded.ensures.answer.0 refl) (λ here. let wrong = c.if-has_byte.ensures.answer.1 here in cc)
    c.run_end-end.ensures.inside
