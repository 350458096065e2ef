-- The line goes, and the line that it needs stays.
use Rattle.std.proofs.Common.{◌≡◌, false, [], ◌∷◌, ◌++◌, sym, ap, subst, ◌∙◌}
use Rattle.glob_lint.specs.Private.Reasons.{MayAllGo}
use Rattle.glob_lint.specs.Without.{is_among}
use Rattle.glob_lint.proofs.lemmas.Going.{needs_none, one_backed, one_more}
use Rattle.glob_lint.proofs.removable.add_line.Goals as goal

pub returns-in_default : goal.returns-in_default
returns-in_default c = λ rules lists reason may.
    let stay = c.args.stay.now.items in
    let pair = c.args.pair in
    let unneeded : is_among stay pair.0 pair.1 ≡ false = ap (λ xs. is_among xs pair.0 pair.1) (sym c.deref.ensures.value) ∙ (sym c.is_among.ensures ∙ c.if-is_among.false) in
    subst (λ gone. MayAllGo rules lists gone stay) (sym c.in_ok-push.ensures.items)
    (one_more rules lists c.args.removable.now.items stay may pair c.args.why reason unneeded (needs_none rules lists stay pair c.args.why c.in_default.ensures))

pub returns : goal.returns
returns c = λ rules lists reason may.
    let stay = c.args.stay.now.items in
    let gone = c.args.removable.now.items in
    let pair = c.args.pair in
    let by = c.in-Some.by in
    let unneeded : is_among stay pair.0 pair.1 ≡ false = ap (λ xs. is_among xs pair.0 pair.1) (sym c.deref.ensures.value) ∙ (sym c.is_among.ensures ∙ c.if-is_among.false) in
    let kept : is_among gone by.0 by.1 ≡ false = ap (λ xs. is_among xs by.0 by.1) (sym c.deref-2.ensures.value) ∙ (sym c.is_among-2.ensures ∙ c.if-is_among-2.false) in
    let both = one_backed rules lists gone stay may pair c.args.why reason unneeded by c.in-Some.ensures.0 c.in-Some.ensures.1 kept in
    subst (λ xs. MayAllGo rules lists xs c.push-2.new.self.items) (sym c.in_ok-push-3.ensures.items)
    (subst (λ xs. MayAllGo rules lists (gone ++ pair ∷ []) xs) (sym c.in_ok-push-2.ensures.items) both)
