use Rattle.std.proofs.Common.{◌≡◌, ℕ, true, false, sym, ap, ◌∙◌, subst, arith}
use Rattle.glob_matcher.specs.declared.wildmatch.way.Way.{Way}
use Rattle.glob_matcher.specs.ExactFolding.{is_dead}
use Rattle.glob_matcher.specs.declared.wildmatch.tokens.TokenKind.TheVariants as kind
use Rattle.glob_matcher.specs.Tokens.{IsToken}
use Rattle.glob_matcher.proofs.lemmas.reading.TokenLemmas.{stands_for_itself}
use Rattle.glob_matcher.proofs.lemmas.reading.Reading.{escaped_token, bare_token, any_token, broken_token, dead_backslash, lone_backslash}
use Rattle.glob_matcher.proofs.wildmatch.engine.Engine.token_at.Goals as goal

pub returns-in-Some-clause-token : goal.returns-in-Some-clause-token
returns-in-Some-clause-token g c =
    let way = g.M.Texts.way in
    let byte = c.in-Some.byte in
    let dead : is_dead way byte ≡ true = ap (λ (w : Way). is_dead w byte) (sym c.way.ensures) ∙ sym c.is_dead.ensures ∙ c.if-is_dead.true in
    subst (λ (n : ℕ). IsToken way g.M.Texts.pattern c.args.place kind.Nothing n) (sym c.pattern_len.ensures)
    (broken_token way g.M.Texts.pattern c.args.place c.requires.place (dead_backslash way g.M.Texts.pattern c.args.place byte c.in-Some.ensures.byte dead))

pub returns-in-Some-2-clause-token : goal.returns-in-Some-2-clause-token
returns-in-Some-2-clause-token g c =
    let way = g.M.Texts.way in
    let byte = c.in-Some.byte in
    let live : is_dead way byte ≡ false = ap (λ (w : Way). is_dead w byte) (sym c.way.ensures) ∙ sym c.is_dead.ensures ∙ c.if-is_dead.false in
    escaped_token way g.M.Texts.pattern c.args.place byte c.in-Some.ensures.byte live

pub returns-in-None-clause-token : goal.returns-in-None-clause-token
returns-in-None-clause-token g c =
    subst (λ (n : ℕ). IsToken g.M.Texts.way g.M.Texts.pattern c.args.place kind.Nothing n) (sym c.pattern_len-in-None.ensures)
    (broken_token g.M.Texts.way g.M.Texts.pattern c.args.place c.requires.place
    (lone_backslash g.M.Texts.way g.M.Texts.pattern c.args.place (record { inside = c.requires.place; is = sym c.pattern_byte.ensures.here ∙ c.in-92.is }) c.in-None.ensures.byte))

pub returns-in-63-clause-token : goal.returns-in-63-clause-token
returns-in-63-clause-token g c = any_token g.M.Texts.way g.M.Texts.pattern c.args.place (record { inside = c.requires.place; is = sym c.pattern_byte.ensures.here ∙ c.in-63.is })

pub returns-in_default-clause-token : goal.returns-in_default-clause-token
returns-in_default-clause-token g c =
    bare_token g.M.Texts.way g.M.Texts.pattern c.args.place c.pattern_byte.result
    (record { inside = c.requires.place; is = sym c.pattern_byte.ensures.here })
    (stands_for_itself c.pattern_byte.result (λ e. omega arith) (λ e. omega arith) (λ e. c.requires.other (sym c.pattern_byte.ensures.here ∙ e)) (λ e. omega arith))
