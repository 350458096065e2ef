use Rattle.std.proofs.Common.{◌≡◌, map, refl, sym, ◌∙◌, arith}
use Rattle.std.proofs.lemmas.Bool.{false≢true}
use Rattle.std.proofs.lemmas.Bool.Decides.{Decides-eqb}
use Rattle.std.proofs.lemmas.List.{length-map}
use Rattle.std.proofs.lemmas.Slice.Eq.{slice_eq-Decides}
use Rattle.git_index.specs.declared.entry.Kind.TheVariants.{Submodule}
use Rattle.git_index.specs.Entries.{tracked}
use Rattle.git_index.specs.Private.Search.{path_at}
use Rattle.git_index.proofs.lemmas.Search.{path_at-get}
use Rattle.git_index.proofs.lemmas.Submodules.{begin_at_first, is_found, kind_at, none_at_the_end, none_behind_another, other_kind_at, pass_over}
use Rattle.git_index.proofs.search.is_submodule.Goals.{in-Submodule, in_default}
use Rattle.git_index.proofs.search.is_submodule.Goals as goal

pub loop-place-init : goal.loop-place-init
loop-place-init c = record {
  within = omega (arith, c.first_from-place.ensures.within, length-map c.args.entries.now tracked);
  low = λ k le lt. c.first_from-place.ensures.behind k le (omega (arith, length-map c.args.entries.now tracked));
  behind = begin_at_first (map tracked c.args.entries.now) c.args.path.now c.first_from-place.result c.first_from-place.ensures;
}

pub returns-then-matches : goal.returns-then-matches
returns-then-matches c =
    let d = slice_eq-Decides Decides-eqb c.as_slice.result.now c.args.path.now c.eq.result c.eq.ensures in
    let kind : c.index-entries-place.result.kind ≡ Submodule = elim c.match-matches.branch [ in-Submodule w ↦ kind_at c.args.entries.now c.loop-place.place c.index-entries-place.result _ Submodule c.loop-place-test.true c.index-entries-place.is w.in-Submodule.is | in_default w ↦ absurd (false≢true (sym w.matches-is ∙ c.if-matches.true)) ] in
    (λ yes. is_found c.args.entries.now c.args.path.now c.loop-place.place c.index-entries-place.result c.loop-place-test.true c.index-entries-place.is (sym c.as_slice.ensures.value ∙ d.0 c.if-eq.true) kind, λ has. refl)

pub loop-place-preserved : goal.loop-place-preserved
loop-place-preserved c =
    let other : c.index-entries-place.result.kind ≡ Submodule → ⊥ = elim c.match-matches.branch [ in-Submodule w ↦ λ k. false≢true (sym c.if-matches.false ∙ w.matches-is) | in_default w ↦ other_kind_at c.args.entries.now c.loop-place.place c.index-entries-place.result _ Submodule c.loop-place-test.true c.index-entries-place.is w.in_default.not-Submodule ] in
    record {
      within = omega arith;
      low = λ k le lt. c.loop-place.invariant.low k (omega arith) lt;
      behind = pass_over c.args.entries.now c.args.path.now c.loop-place.place c.index-entries-place.result c.loop-place-test.true c.index-entries-place.is other c.loop-place.invariant.behind;
    }

pub returns-else-eq : goal.returns-else-eq
returns-else-eq c =
    let d = slice_eq-Decides Decides-eqb c.as_slice.result.now c.args.path.now c.eq.result c.eq.ensures in
    let at : path_at (map tracked c.args.entries.now) c.loop-place.place ≡ c.as_slice.result.now = path_at-get c.args.entries.now c.loop-place.place c.index-entries-place.result c.loop-place-test.true ∙ sym c.as_slice.ensures.value in (
      λ f. absurd (false≢true f),
      λ has. absurd (none_behind_another (map tracked c.args.entries.now) c.args.path.now c.loop-place.place c.requires (c.loop-place.invariant.low c.loop-place.place (omega arith) c.loop-place-test.true) c.loop-place.invariant.behind
          (λ same. false≢true (sym c.if-eq.false ∙ d.1 (sym at ∙ same))) has),
    )

pub returns-after-loop-place : goal.returns-after-loop-place
returns-after-loop-place c =
    (λ f. absurd (false≢true f), λ has. absurd (none_at_the_end (map tracked c.args.entries.now) c.args.path.now c.loop-place.place (omega (arith, length-map c.args.entries.now tracked, c.loop-place-test.false)) c.loop-place.invariant.behind has))
