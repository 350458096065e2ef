use Rattle.std.proofs.Common.{ℕ, List, refl, sym, subst, ◌∙◌}
use Rattle.std.proofs.lemmas.Bool.{false≢true}
use Rattle.git_index.specs.Entries.{Tracked}
use Rattle.git_index.specs.Private.Parts.{Fits}
use Rattle.git_index.proofs.lemmas.PassedOver.{has_entry, none_at_the_end, pass_over}
use Rattle.git_index.proofs.patterns.is_fitted.Goals as goal

pub returns-then-fits : goal.returns-then-fits
returns-then-fits c =
    let front = c.args.front.now in
    let pattern = c.args.pattern.now in
    let fits = subst (λ (w : List ℕ). Fits w front pattern) c.deref.ensures.value (c.fits.ensures.0 c.if-fits.true) in
    (λ yes. has_entry (λ (e : Tracked). Fits e.path front pattern) c.args.entries.now c.loop-entry.entry-index c.entry-item.result c.loop-entry-test.true c.entry-item.is fits, λ h. refl)

pub loop-entry-preserved : goal.loop-entry-preserved
loop-entry-preserved c =
    let front = c.args.front.now in
    let pattern = c.args.pattern.now in
    pass_over (λ (e : Tracked). Fits e.path front pattern) c.args.entries.now c.loop-entry.entry-index c.entry-item.result c.loop-entry-test.true c.entry-item.is
    (λ fits. false≢true (sym c.if-fits.false ∙ c.fits.ensures.1 (subst (λ (w : List ℕ). Fits w front pattern) (sym c.deref.ensures.value) fits))) c.loop-entry.invariant

pub returns : goal.returns
returns c =
    let front = c.args.front.now in
    let pattern = c.args.pattern.now in
    (λ f. absurd (false≢true f), λ has. absurd (none_at_the_end (λ (e : Tracked). Fits e.path front pattern) c.args.entries.now c.loop-entry.entry-index c.loop-entry-test.false c.loop-entry.invariant has))
