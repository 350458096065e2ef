use Rattle.std.proofs.Common.{◌≡◌, ◌<◌, length, map, sym, ◌∙◌, arith}
use Rattle.std.proofs.lemmas.Bool.{false≢true}
use Rattle.std.proofs.lemmas.Bool.Decides.{Decides-eqb}
use Rattle.std.proofs.lemmas.List.{length-map}
use Rattle.std.proofs.lemmas.Slice.Eq.{slice_eq-Decides}
use Rattle.git_index.specs.Entries.{tracked}
use Rattle.git_index.specs.Private.Search.{path_at}
use Rattle.git_index.proofs.lemmas.Search.{first_is_tracked, path_at-get, tracked_is_first}
use Rattle.git_index.proofs.search.is_tracked.Goals as goal

pub returns-then-first-entries : goal.returns-then-first-entries
returns-then-first-entries c =
    (λ f. absurd (false≢true f), λ has. absurd (omega (arith, (tracked_is_first (map tracked c.args.entries.now) c.args.path.now c.first_from-first.result c.requires c.first_from-first.ensures has).0, length-map c.args.entries.now tracked)))

pub returns : goal.returns
returns c =
    let entries = map tracked c.args.entries.now in
    let first = c.first_from-first.result in
    let d = slice_eq-Decides Decides-eqb c.as_slice.result.now c.args.path.now c.eq.result c.eq.ensures in
    let at : path_at entries first ≡ c.as_slice.result.now = path_at-get c.args.entries.now first c.index-entries-first.result (omega arith) ∙ sym c.as_slice.ensures.value in
    let lt : first < length entries = omega (arith, length-map c.args.entries.now tracked) in
    (λ yes. first_is_tracked entries c.args.path.now first lt (at ∙ d.0 yes), λ has. d.1 (sym at ∙ (tracked_is_first entries c.args.path.now first c.requires c.first_from-first.ensures has).1))
