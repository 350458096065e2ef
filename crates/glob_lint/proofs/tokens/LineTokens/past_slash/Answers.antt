-- The token that was met is a slash, or the search goes on behind it.
use Rattle.std.proofs.Common.{ap, sym, ◌∙◌}
use Rattle.glob_matcher.specs.declared.wildmatch.tokens.TokenKind.TheVariants as kind
use Rattle.glob_lint.specs.Private.Rows.{row_of}
use Rattle.glob_lint.proofs.lemmas.Running.{reaches_next, slash_reached}
use Rattle.glob_lint.proofs.tokens.LineTokens.past_slash.Goals as goal

pub returns-in-Byte-eq47 : goal.returns-in-Byte-eq47
returns-in-Byte-eq47 c =
    slash_reached c.args.way (row_of c.args.self.now) (row_of c.tokens.left) (row_of c.in-Some.next.after) c.in-Some.next.kind c.tokens.invariant c.in-Some.ensures
    (c.in-Byte-eq47.is ∙ ap (λ b. kind.Byte b) (sym c.in-Byte-eq47.field-0-is ∙ c.in-Byte-eq47.field-0-test))

pub tokens-preserved : goal.tokens-preserved
tokens-preserved c =
    reaches_next c.args.way (row_of c.args.self.now) (row_of c.tokens.left) (row_of c.in-Some.next.after) c.in-Some.next.kind c.tokens.invariant c.in-Some.ensures
