-- The names of one line more were added, or only some of them.
use Rattle.std.proofs.Common.{ℕ, List, ap, refl, sym, subst, ◌∙◌}
use Rattle.std.specs.List.{flat_map}
use Rattle.glob_lines.specs.Equations.Ignore.{without_returns}
use Rattle.glob_lines.specs.Equations.Lines.{lines_of}
use Rattle.byte_streams.proofs.lemmas.StreamLemmas.{on_any_err}
use Rattle.glob_attributes.specs.Readings.{line_gives}
use Rattle.glob_attributes.specs.Told.{AddsSome, names_given, names_read, with_names}
use Rattle.glob_attributes.proofs.lemmas.FileLemmas.{lines_of-rest}
use Rattle.glob_attributes.proofs.lemmas.ToldLemmas.{some-here, some-more, up_to-more, up_to-none}
use Rattle.glob_attributes.proofs.names.AttributeNames.add_file.Goals as goal

pub lines-init : goal.lines-init
lines-init c =
    up_to-none c.args.self.now (names_read c.args.is_top c.args.bytes.now) (flat_map (λ line. names_given (line_gives c.args.is_top line)) (lines_of (without_returns c.file_lines-rest.result.now)))
    (ap (flat_map (λ line. names_given (line_gives c.args.is_top line))) (sym c.file_lines-rest.ensures))

pub lines-preserved : goal.lines-preserved
lines-preserved c =
    let given : List ℕ → List (List ℕ) = λ line. names_given (line_gives c.args.is_top line) in
    let others = flat_map given (lines_of (without_returns c.in-Some.more.now)) in
    up_to-more c.args.self.now (names_read c.args.is_top c.args.bytes.now) (flat_map given (lines_of (without_returns c.lines.rest.now))) c.lines.self
    (given c.in-Some.line.now) others c.add_line.new.self c.lines.invariant (ap (flat_map given) (lines_of-rest _ _ _ c.in-Some.ensures.line))
    (c.in_ok-add_line.ensures.added ∙ ap (λ g. with_names c.lines.self (names_given g)) c.in_ok-read_line.ensures)

pub returns-in_err-add_line-clause-err : goal.returns-in_err-add_line-clause-err
returns-in_err-add_line-clause-err c =
    let given : List ℕ → List (List ℕ) = λ line. names_given (line_gives c.args.is_top line) in
    let others = flat_map given (lines_of (without_returns c.in-Some.more.now)) in
    on_any_err _ (some-more c.args.self.now (names_read c.args.is_top c.args.bytes.now) (flat_map given (lines_of (without_returns c.lines.rest.now))) c.lines.self
    (given c.in-Some.line.now) others c.add_line.new.self c.lines.invariant (ap (flat_map given) (lines_of-rest _ _ _ c.in-Some.ensures.line))
    (subst (λ g. AddsSome c.lines.self (names_given g) c.add_line.new.self) c.in_ok-read_line.ensures c.in_err-add_line.ensures.err))

pub returns-in_err-read_line-clause-err : goal.returns-in_err-read_line-clause-err
returns-in_err-read_line-clause-err c =
    let given : List ℕ → List (List ℕ) = λ line. names_given (line_gives c.args.is_top line) in
    on_any_err _ (some-here c.args.self.now (names_read c.args.is_top c.args.bytes.now) (flat_map given (lines_of (without_returns c.lines.rest.now))) c.lines.self c.lines.self
    c.lines.invariant refl)
