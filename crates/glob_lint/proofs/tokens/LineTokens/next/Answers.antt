-- The next token is the first byte in front, or else folders of any name, or else what stands at the place of the text.
use Rattle.glob_lint.proofs.lemmas.Rows.{ends_in_parts, next_of_base, next_of_folders, next_of_front, next_of_text}
use Rattle.glob_lint.proofs.tokens.LineTokens.next.Goals as goal

pub returns-in-len1-up : goal.returns-in-len1-up
returns-in-len1-up c =
    let row = c.args.self.now in next_of_base c.args.way row.base.now row.front.now row.any_folder row.text.now row.place c.in-len1-up.len_at_least

pub returns-in-len1-up-front : goal.returns-in-len1-up-front
returns-in-len1-up-front c =
    let row = c.args.self.now in
    next_of_front c.args.way row.base.now row.front.now row.any_folder row.text.now row.place c.in_default.len_below c.in-len1-up-front.len_at_least

pub returns-then-self : goal.returns-then-self
returns-then-self c =
    let row = c.args.self.now in
    next_of_folders c.args.way row.text.now row.place row.base.now row.front.now row.any_folder c.in_default.len_below c.in_default-front.len_below c.if-self.true

pub returns-then-self-2 : goal.returns-then-self-2
returns-then-self-2 c =
    let row = c.args.self.now in
    ends_in_parts c.args.way row.text.now row.place row.base.now row.front.now row.any_folder c.in_default.len_below c.in_default-front.len_below c.if-self.false c.if-self-2.true

pub returns : goal.returns
returns c =
    let row = c.args.self.now in
    next_of_text c.args.way row.text.now row.place row.base.now row.front.now row.any_folder _ _ c.in_default.len_below c.in_default-front.len_below c.if-self.false
    c.token_at-token.ensures
