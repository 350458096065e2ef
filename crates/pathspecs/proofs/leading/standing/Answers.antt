use Rattle.std.proofs.Common.{◌≡◌, rules, ◌==◌, length}
use Rattle.std.specs.List.{list_any}
use Rattle.std.proofs.lemmas.Iterator.Search.{any_from_yields_List}
use Rattle.std.proofs.lemmas.Iterator.Splits.{YieldsList-from_slice_split}
use borrow.Author.Tests.{tests}
use Rattle.git_paths.specs.Paths.{is_slash, parts_of}
use Rattle.pathspecs.proofs.leading.standing.Goals as goal

pub returns-then-any : goal.returns-then-any
returns-then-any c =
    let some : c.any.result ≡ list_any (λ part. length part == 0) (parts_of c.unwrap_or-bare.result.now) =
    any_from_yields_List (λ part. length part == 0) _ _ _ c.any.ensures.ran
    (YieldsList-from_slice_split _ is_slash c.unwrap_or-bare.result.now c.split.ensures.rest c.split.ensures.done c.split.ensures.closure (λ x b q k. search (rules, tests)))
    (λ x b q k. search (rules, tests)) in
    search (rules, some)

pub returns : goal.returns
returns c =
    let some : c.any.result ≡ list_any (λ part. length part == 0) (parts_of c.unwrap_or-bare.result.now) =
    any_from_yields_List (λ part. length part == 0) _ _ _ c.any.ensures.ran
    (YieldsList-from_slice_split _ is_slash c.unwrap_or-bare.result.now c.split.ensures.rest c.split.ensures.done c.split.ensures.closure (λ x b q k. search (rules, tests)))
    (λ x b q k. search (rules, tests)) in
    search (rules, some)
