use Rattle.std.proofs.Common.{sym, ◌∙◌}
use Rattle.std.proofs.lemmas.Bool.{false≢true}
use Rattle.tree_commands.specs.declared.files.choosing.Chosen.TheVariants.{Unignored}
use Rattle.tree_commands.specs.declared.files.choosing.Folders.TheVariants.{NamedIfEmpty}
use Rattle.tree_commands.proofs.lemmas.BesideSearches.{asked_beside, outside, says_other, says_searched}
use Rattle.tree_commands.proofs.lemmas.FillingLemmas.{empty_is_plain, may_search_others}
use Rattle.tree_commands.proofs.files.lister.Lister.is_all_ignored.Goals as goal

pub returns-then-not-may_be_all_ignored-clause-ignored : goal.returns-then-not-may_be_all_ignored-clause-ignored
returns-then-not-may_be_all_ignored-clause-ignored g c =
    says_other _ _ _ _ c.requires.may (λ folder is may. (let it = c.may_be_all_ignored.ensures.each folder is in false≢true (sym c.if-not-may_be_all_ignored.true ∙ it.1 may)))

pub has_listed-requires-clause-standing : goal.has_listed-requires-clause-standing
has_listed-requires-clause-standing g c =
    let some = c.may_be_all_ignored.ensures.some c.if-not-may_be_all_ignored.false in
    let each = c.may_be_all_ignored.ensures.each some.0 some.1 in
    let may = each.0 c.if-not-may_be_all_ignored.false in
    may_search_others _ _ _ NamedIfEmpty may.asks.1 (outside _ _ _ some.0 may)

pub has_listed-requires-clause-plain : goal.has_listed-requires-clause-plain
has_listed-requires-clause-plain g c = empty_is_plain

pub returns-in_err-has_other-clause-asks : goal.returns-in_err-has_other-clause-asks
returns-in_err-has_other-clause-asks g c =
    let some = c.may_be_all_ignored.ensures.some c.if-not-may_be_all_ignored.false in
    let each = c.may_be_all_ignored.ensures.each some.0 some.1 in
    let may = each.0 c.if-not-may_be_all_ignored.false in
    asked_beside _ _ _ _ NamedIfEmpty Unignored may.asks.0 _ _ c.has_listed.ensures.asks

pub returns-clause-ignored : goal.returns-clause-ignored
returns-clause-ignored g c =
    says_searched _ _ _ _ c.requires.may (λ folder is. (let each = c.may_be_all_ignored.ensures.each folder is in each.0 c.if-not-may_be_all_ignored.false)) c.in_ok-has_other.has_other c.in_ok-has_other.ensures.any

pub returns-clause-may : goal.returns-clause-may
returns-clause-may g c =
    let some = c.may_be_all_ignored.ensures.some c.if-not-may_be_all_ignored.false in
    let each = c.may_be_all_ignored.ensures.each some.0 some.1 in
    let may = each.0 c.if-not-may_be_all_ignored.false in
    λ yes. (some.0, some.1, may)

pub returns-clause-asks : goal.returns-clause-asks
returns-clause-asks g c =
    let some = c.may_be_all_ignored.ensures.some c.if-not-may_be_all_ignored.false in
    let each = c.may_be_all_ignored.ensures.each some.0 some.1 in
    let may = each.0 c.if-not-may_be_all_ignored.false in
    asked_beside _ _ _ _ NamedIfEmpty Unignored may.asks.0 _ _ c.has_listed.ensures.asks
