-- What a token of each kind makes of what is read.
use Rattle.std.proofs.Common.{◌≡◌, ap, sym, ◌∙◌, subst}
use Rattle.std.proofs.lemmas.Bool.{false≢true}
use Rattle.glob_matcher.specs.declared.wildmatch.tokens.TokenKind.{TokenKind}
use Rattle.glob_matcher.specs.declared.wildmatch.tokens.TokenKind.TheVariants as kind
use Rattle.glob_lint.specs.Private.Parts.{StandsAt}
use Rattle.glob_lint.specs.Private.Rows.{IsNext}
use Rattle.glob_lint.proofs.lemmas.Parts.{nothing_next, other_behind, slash_ends_badly, slash_ends_well}
use Rattle.glob_lint.proofs.nothing.Part.behind.Goals as goal

pub returns-in-Nothing : goal.returns-in-Nothing
returns-in-Nothing c = λ way row later after x stands.
    nothing_next way row later after c.args.self stands (subst (λ (k : TokenKind). IsNext way later k after) c.in-Nothing.is x)

pub returns-then-may_end : goal.returns-then-may_end
returns-then-may_end c = λ way row later after x stands.
    let is : c.args.kind ≡ kind.Byte 47 = c.in-Byte-eq47.is ∙ ap (λ b. kind.Byte b) (sym c.in-Byte-eq47.field-0-is ∙ c.in-Byte-eq47.field-0-test) in
    slash_ends_well way row later after (subst (StandsAt way row later) (c.may_end.ensures.0 c.if-may_end.true) stands)
    (subst (λ (k : TokenKind). IsNext way later k after) is x)

pub returns-else-may_end : goal.returns-else-may_end
returns-else-may_end c = λ way row later after x stands.
    let is : c.args.kind ≡ kind.Byte 47 = c.in-Byte-eq47.is ∙ ap (λ b. kind.Byte b) (sym c.in-Byte-eq47.field-0-is ∙ c.in-Byte-eq47.field-0-test) in
    slash_ends_badly way row later after c.args.self (λ other. false≢true (sym c.if-may_end.false ∙ c.may_end.ensures.1 other)) stands
    (subst (λ (k : TokenKind). IsNext way later k after) is x)

pub returns-in-Byte-eq46 : goal.returns-in-Byte-eq46
returns-in-Byte-eq46 c = λ way row later after x stands.
    let is : c.args.kind ≡ kind.Byte 46 = c.in-Byte-eq46.is ∙ ap (λ b. kind.Byte b) (sym c.in-Byte-eq46.field-0-is ∙ c.in-Byte-eq46.field-0-test) in
    c.with_dot.ensures way row later after (subst (λ (k : TokenKind). IsNext way later k after) is x) stands

pub returns-in-Dirs : goal.returns-in-Dirs
returns-in-Dirs c = λ way row later after x stands.
    c.behind_folders.ensures way row later after (subst (λ (k : TokenKind). IsNext way later k after) c.in-Dirs.is x) stands

pub returns-in_default : goal.returns-in_default
returns-in_default c = λ way row later after x stands. other_behind way row later after c.args.self c.args.kind stands x

pub returns-in_default-2 : goal.returns-in_default-2
returns-in_default-2 c = λ way row later after x stands. other_behind way row later after c.args.self c.args.kind stands x
