use Rattle.std.proofs.Common.{◌≡◌, ◌+◌, map, refl, sym, ◌∙◌}
use Rattle.std.proofs.lemmas.Bool.{false≢true}
use Rattle.git_index.specs.declared.entry.Kind.TheVariants.{Submodule}
use Rattle.git_index.specs.Entries.{Tracked, tracked}
use Rattle.git_index.specs.Private.Parts.{HasSubmodules}
use Rattle.git_index.proofs.lemmas.PassedOver.{StandBehind, has_entry, none_at_the_end, pass_over}
use Rattle.git_index.proofs.asked_paths.has_submodules.Goals.{in-Submodule, in_default}
use Rattle.git_index.proofs.asked_paths.has_submodules.Goals as goal

pub returns-then-matches : goal.returns-then-matches
returns-then-matches c =
    let has : HasSubmodules (map tracked c.args.entries.now) =
    elim c.match-matches.branch [
      | in-Submodule w ↦ has_entry (λ (e : Tracked). e.kind ≡ Submodule) c.args.entries.now c.loop-entry.entry-index c.entry-item.result c.loop-entry-test.true c.entry-item.is w.in-Submodule.is
      | in_default w ↦ absurd (false≢true (sym w.matches-is ∙ c.if-matches.true))
    ] in
    (λ yes. has, λ h. refl)

pub loop-entry-preserved : goal.loop-entry-preserved
loop-entry-preserved c =
    let behind : StandBehind (λ (e : Tracked). e.kind ≡ Submodule) (map tracked c.args.entries.now) (c.loop-entry.entry-index + 1) =
    elim c.match-matches.branch [
      | in-Submodule w ↦ absurd (false≢true (sym c.if-matches.false ∙ w.matches-is))
      | in_default w ↦ pass_over (λ (e : Tracked). e.kind ≡ Submodule) c.args.entries.now c.loop-entry.entry-index c.entry-item.result c.loop-entry-test.true c.entry-item.is w.in_default.not-Submodule c.loop-entry.invariant
    ] in
    behind

pub returns : goal.returns
returns c = (λ f. absurd (false≢true f), λ has. absurd (none_at_the_end (λ (e : Tracked). e.kind ≡ Submodule) c.args.entries.now c.loop-entry.entry-index c.loop-entry-test.false c.loop-entry.invariant has))
