use Rattle.std.proofs.Common.{inr, refl, sym, ap, ◌∙◌}
use Rattle.std.proofs.lemmas.Bool.{false≢true}
use Rattle.tree_commands.specs.declared.files.terms.Terms as held
use Rattle.tree_commands.specs.Private.Listing.{terms_of}
use Rattle.tree_commands.proofs.lemmas.TellingLemmas.{asked_if_filled, told_file, told_if_filled, told_unasked}
use Rattle.tree_commands.proofs.files.lister.Lister.tell_visited.Goals.{then-not-asks_filled-via-then-not-asks_filled, then-not-asks_filled-via-else-not-asks_filled+then-not-ends_in_slash}
use Rattle.tree_commands.proofs.files.lister.Lister.tell_visited.Goals as goal

pub returns-in_default-clause-tells : goal.returns-in_default-clause-tells
returns-in_default-clause-tells g c = inr (rw c.in_default.is at c.in_ok-path.ensures.visits)

pub returns-then-not-asks_filled-clause-tells : goal.returns-then-not-asks_filled-clause-tells
returns-then-not-asks_filled-clause-tells g c =
    let listed = rw c.in-Some.is at c.in_ok-path.ensures.visits in
    elim c.then-not-asks_filled.branch [
      | then-not-asks_filled-via-then-not-asks_filled w ↦ told_unasked listed
          (λ asks. false≢true (sym w.if-not-asks_filled.true ∙ c.asks_filled.ensures.1 (ap (λ (t : held.Terms). t.folders) c.visit.ensures.terms ∙ asks)))
      | then-not-asks_filled-via-else-not-asks_filled+then-not-ends_in_slash w ↦ told_file listed
          (λ ends. false≢true (sym w.if-not-ends_in_slash.true ∙ w.ends_in_slash.ensures.1 (rw w.deref.ensures.value ends)))
    ]

pub returns-in_err-is_filled-clause-asks : goal.returns-in_err-is_filled-clause-asks
returns-in_err-is_filled-clause-asks g c =
    asked_if_filled c.visit.ensures.stays (ap terms_of c.visit.ensures.terms) (c.asks_filled.ensures.0 c.if-not-asks_filled.false) refl refl (rw c.in-Some.is at c.in_ok-path.ensures.visits) c.visit.ensures.asks c.is_filled.ensures.asks

pub returns-clause-tells : goal.returns-clause-tells
returns-clause-tells g c =
    rw c.only_if.ensures
    (told_if_filled c.visit.ensures.stays (ap terms_of c.visit.ensures.terms) (c.asks_filled.ensures.0 c.if-not-asks_filled.false) refl refl (rw c.in-Some.is at c.in_ok-path.ensures.visits)
    c.in_ok-is_filled.is_filled c.in_ok-is_filled.ensures.filled c.in_ok-is_filled.ensures.lists (ap (λ ps. ps.items) c.is_filled.ensures.pending)
    (rw (sym c.deref.ensures.value) (c.ends_in_slash.ensures.0 c.if-not-ends_in_slash.false)) c.requires.may.whole)

pub returns-clause-asks : goal.returns-clause-asks
returns-clause-asks g c =
    asked_if_filled c.visit.ensures.stays (ap terms_of c.visit.ensures.terms) (c.asks_filled.ensures.0 c.if-not-asks_filled.false) refl refl (rw c.in-Some.is at c.in_ok-path.ensures.visits) c.visit.ensures.asks c.is_filled.ensures.asks
