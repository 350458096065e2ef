use Rattle.std.proofs.Common.{inl, sym, ap, ◌∙◌, arith}
use Rattle.std.proofs.lemmas.Bool.{false≢true}
use Rattle.tree_commands.specs.Private.Listing.{terms_of}
use Rattle.tree_commands.proofs.lemmas.FillingLemmas.{asks_one, flag_says, says_ignored, says_others, says_unfilled, standing_as}
use Rattle.tree_commands.proofs.lemmas.ListsLemmas.{seen_as_many}
use Rattle.tree_commands.proofs.files.lister.Lister.is_filled.Goals as goal

pub returns-in_err-has_chosen-clause-asks : goal.returns-in_err-has_chosen-clause-asks
returns-in_err-has_chosen-clause-asks g c =
    asks_one _ _ _ _ c.args.self.now.on_way.terms.chosen _ _ c.has_listed.ensures.asks

pub returns-then-not-has_chosen-clause-filled : goal.returns-then-not-has_chosen-clause-filled
returns-then-not-has_chosen-clause-filled g c =
    says_unfilled _ _ _ _ c.in_ok-has_chosen.has_chosen c.in_ok-has_chosen.ensures.any c.if-not-has_chosen.true

pub returns-then-place-clause-filled : goal.returns-then-place-clause-filled
returns-then-place-clause-filled g c =
    says_ignored _ _ _ _ c.in_ok-has_chosen.has_chosen c.in_ok-has_chosen.ensures.any c.requires.may c.requires.ends c.if-not-has_chosen.false (c.wants_ignored.ensures.0 c.if-not-wants_ignored.false) (λ folder is. inl c.if-place.true)

pub is_ignored_at-requires-clause-count : goal.is_ignored_at-requires-clause-count
is_ignored_at-requires-clause-count g c =
    let same = seen_as_many _ _ c.in_ok-has_chosen.ensures.lists in
    omega (arith, same, c.requires.count)

pub returns-then-is_ignored_at-clause-filled : goal.returns-then-is_ignored_at-clause-filled
returns-then-is_ignored_at-clause-filled g c =
    let told = c.wants_ignored.ensures.0 c.if-not-wants_ignored.false in
    let flag = flag_says _ _ _ _ _ c.is_ignored_at.result (ap terms_of c.has_listed.ensures.terms) c.in_ok-has_chosen.ensures.lists told c.requires.ends c.is_ignored_at.ensures in
    says_ignored _ _ _ _ c.in_ok-has_chosen.has_chosen c.in_ok-has_chosen.ensures.any c.requires.may c.requires.ends c.if-not-has_chosen.false told (λ folder is. (let it = flag folder is in it.0 c.if-is_ignored_at.true))

pub returns-then-is_ignored_at-clause-asks : goal.returns-then-is_ignored_at-clause-asks
returns-then-is_ignored_at-clause-asks g c =
    asks_one _ _ _ _ c.args.self.now.on_way.terms.chosen _ _ c.has_listed.ensures.asks

pub has_listed-requires-2-clause-count : goal.has_listed-requires-2-clause-count
has_listed-requires-2-clause-count g c = c.requires.count ∙ seen_as_many _ _ c.in_ok-has_chosen.ensures.lists

pub returns-clause-filled : goal.returns-clause-filled
returns-clause-filled g c =
    let told = c.wants_ignored.ensures.0 c.if-not-wants_ignored.false in
    let flag = flag_says _ _ _ _ _ c.is_ignored_at.result (ap terms_of c.has_listed.ensures.terms) c.in_ok-has_chosen.ensures.lists told c.requires.ends c.is_ignored_at.ensures in
    says_others _ _ _ _ c.in_ok-has_chosen.has_chosen c.in_ok-has_chosen.ensures.any c.requires.may c.requires.ends c.if-not-has_chosen.false told
    (λ folder is ignored. (let it = flag folder is in false≢true (sym c.if-is_ignored_at.false ∙ it.1 ignored)))
    c.in_ok-has_other.has_other
    (standing_as _ _ _ _ _ _ _ _ c.has_listed.ensures.stays (ap terms_of c.has_listed.ensures.terms) c.in_ok-has_chosen.ensures.lists c.in_ok-has_other.ensures.any)
