-- A name's tokens stand behind folders of any name, a path's behind its literal front.
use Rattle.std.proofs.Common.{◌++◌, ◌-◌, [], true, false, length, take, drop, take_all, refl, sym, subst, ◌∙◌, length-drop, arith}
use Rattle.glob_lint.specs.Lines.{LineParts}
use Rattle.glob_lint.specs.Private.LineRows.{IsBytesOf, IsRowOf}
use Rattle.glob_lint.proofs.lemmas.LineRows.{ends_front, name_row, path_row_of}
use Rattle.glob_lint.proofs.line.Line.tokens.Goals as goal

pub returns-then-looks_at_name : goal.returns-then-looks_at_name
returns-then-looks_at_name c = λ case.
    let pattern = c.self.inside.pattern in
    let bytes = c.base_bytes-base.result.now in
    let base = subst (λ (line : LineParts). IsBytesOf line.base bytes) (sym c.self.view_is) c.base_bytes-base.ensures in
    let looks = sym c.looks_at_name.ensures ∙ c.if-looks_at_name.true in
    subst (λ (line : LineParts). IsRowOf case line (record { bytes = bytes ++ []; any_folder = true; text = pattern.text.now; place = 0 })) c.self.view_is
    (name_row case _ bytes base looks (c.is_name_text.ensures c.if-not-is_name_text.false))

pub returns : goal.returns
returns c = λ case.
    let pattern = c.self.inside.pattern in
    let bytes = c.base_bytes-base.result.now in
    let n = c.unwrap_or-front_end.result in
    let base = subst (λ (line : LineParts). IsBytesOf line.base bytes) (sym c.self.view_is) c.base_bytes-base.ensures in
    let looks = sym c.looks_at_name.ensures ∙ c.if-looks_at_name.false in
    let text = pattern.text.now in
    let front = take n text in
    let rest = take (length text - n) (drop n text) in
    subst (λ (line : LineParts). IsRowOf case line (record { bytes = bytes ++ front; any_folder = false; text = rest; place = 0 })) c.self.view_is
    (path_row_of case _ bytes base n (ends_front text pattern.first_wildcard_pos n c.self.invariant.placed c.unwrap_or-front_end.ensures) looks front rest
    refl (take_all (length text - n) (drop n text) (omega (arith, length-drop n text))))
