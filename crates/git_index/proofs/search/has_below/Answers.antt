use Rattle.std.proofs.Common.{◌≡◌, ◌<◌, ℕ, List, length, map, sym, subst, ◌∙◌, arith}
use Rattle.std.proofs.lemmas.Bool.{false≢true}
use Rattle.std.proofs.lemmas.List.{length-map}
use Rattle.git_index.specs.Entries.{tracked}
use Rattle.git_index.specs.Private.Search.{Continues, path_at}
use Rattle.git_index.proofs.lemmas.Search.{below_is_first, first_has_below, path_at-get}
use Rattle.git_index.proofs.search.has_below.Goals as goal

pub returns-then-first-entries : goal.returns-then-first-entries
returns-then-first-entries c =
    (λ f. absurd (false≢true f), λ has. absurd (omega (arith, (below_is_first (map tracked c.args.entries.now) c.args.folder.now c.first_from-first.result c.requires c.first_from-first.ensures has).0, length-map c.args.entries.now tracked)))

pub returns : goal.returns
returns c =
    let entries = map tracked c.args.entries.now in
    let first = c.first_from-first.result in
    let at : path_at entries first ≡ c.deref.result.now = path_at-get c.args.entries.now first c.index-entries-first.result (omega arith) ∙ sym c.deref.ensures.value in
    let lt : first < length entries = omega (arith, length-map c.args.entries.now tracked) in (
      λ yes. first_has_below entries c.args.folder.now first lt (subst (λ (w : List ℕ). Continues w c.args.folder.now) (sym at) (c.is_below.ensures.0 yes)),
      λ has. c.is_below.ensures.1 (subst (λ (w : List ℕ). Continues w c.args.folder.now) at (below_is_first entries c.args.folder.now first c.requires c.first_from-first.ensures has).1),
    )
