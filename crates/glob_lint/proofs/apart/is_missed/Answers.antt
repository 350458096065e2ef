-- The literal is the only rest that it matches, and the other line doesn't.
use Rattle.std.proofs.Common.{◌≡◌, true, not, None, sym, ap, ◌∙◌, subst}
use Rattle.std.proofs.lemmas.Bool.{false≢true}
use Rattle.glob_patterns.specs.Patterns.{first_special, looks_at_name}
use Rattle.glob_lists.specs.Deciding.{AnswersFor}
use Rattle.glob_lists.specs.Paths.{Path}
use Rattle.glob_lint.specs.Lines.{LineParts}
use Rattle.glob_lint.specs.Private.LineRows.{IsBytesOf}
use Rattle.glob_lint.proofs.lemmas.OtherLiterals.{none_there, other_literal_by, texts_equal}
use Rattle.glob_lint.proofs.apart.is_missed.Goals as goal
use Rattle.glob_lint.proofs.apart.is_missed.Goals.{else-looks_at_name-via-then-looks_at_name+else-not-looks_at_name, else-looks_at_name-via-else-looks_at_name}

pub returns-in-Some : goal.returns-in-Some
returns-in-Some c = λ missed git.
    let literal = c.args.literal.now in
    let line = c.args.line.now in
    let names : looks_at_name literal.mode ≡ true → looks_at_name line.mode ≡ true = λ t. elim c.else-looks_at_name.branch [
      | else-looks_at_name-via-then-looks_at_name+else-not-looks_at_name w ↦ ap (λ (l : LineParts). looks_at_name l.mode) (sym c.line.view_is) ∙ sym w.looks_at_name-then-looks_at_name.ensures ∙ w.if-not-looks_at_name.false
      | else-looks_at_name-via-else-looks_at_name w ↦
          absurd (false≢true (sym w.if-looks_at_name.false ∙ c.looks_at_name.ensures ∙ ap (λ (l : LineParts). looks_at_name l.mode) c.literal.view_is ∙ t))
    ] in
    let none : first_special literal.text ≡ None =
    ap (λ (l : LineParts). first_special l.text) (sym c.literal.view_is) ∙ sym c.literal.invariant.placed ∙ none_there c.literal.inside.pattern.first_wildcard_pos (sym c.is_some.ensures ∙ c.if-is_some.false) in
    let base : IsBytesOf line.base c.base_bytes.result.now =
    subst (IsBytesOf line.base) (sym (texts_equal c.base_bytes.result.now c.base_bytes-2.result.now c.ne.result c.ne.ensures c.if-ne.false)) c.base_bytes-2.ensures in
    other_literal_by literal line c.base_bytes.result.now c.base_bytes.ensures base none names c.args.rules c.in-Sensitive.is git
    (λ answers.
    let own = c.line.inside.pattern in
    let one = subst (λ (l : LineParts). AnswersFor l.text l.mode literal.text true c.args.rules) (sym c.line.view_is) answers in
    let two = subst (λ (l : LineParts). AnswersFor own.text.now own.mode l.text true c.args.rules) (sym c.literal.view_is) one in
    let three = subst (λ (path : Path). AnswersFor own.text.now own.mode path.bytes path.is_dir c.args.rules) (sym c.in-Some.ensures.1) two in
    false≢true (subst (λ b. not b ≡ true) ((c.is_matched_by.ensures c.line.invariant).1 three) missed))
