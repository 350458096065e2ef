use Rattle.std.proofs.Common.{◌≡◌, ◌∙◌, true, false, refl, sym}
use Rattle.git_index.proofs.lemmas.Joined.{are_replacements_by, none_follow, too_few}
use Rattle.git_index.proofs.split.are_replacements.Goals as goal

pub returns-then-own-count-clause-are : goal.returns-then-own-count-clause-are
returns-then-own-count-clause-are c = sym (too_few c.args.own.now c.args.count c.if-own-count.true)

pub returns-then-is_unnamed-clause-are : goal.returns-then-is_unnamed-clause-are
returns-then-is_unnamed-clause-are c =
    let set : c.is_unnamed.result ≡ true = c.if-is_unnamed.true in
    sym (are_replacements_by c.args.own.now c.split_at.result.0.now c.split_at.result.1.now c.args.count c.is_unnamed.result c.is_named.result c.if-own-count.false c.split_at.ensures.front c.split_at.ensures.back c.is_unnamed.ensures c.is_named.ensures ∙ rw set refl)

pub returns-else-is_unnamed-clause-are : goal.returns-else-is_unnamed-clause-are
returns-else-is_unnamed-clause-are c =
    let unset : c.is_unnamed.result ≡ false = c.if-is_unnamed.false in
    unset ∙ sym (none_follow c.args.own.now c.split_at.result.0.now c.split_at.result.1.now c.args.count c.is_unnamed.result c.if-own-count.false c.split_at.ensures.front c.split_at.ensures.back c.is_unnamed.ensures unset)
