use Rattle.std.proofs.Common.{inl, inr, sym, ◌∙◌}
use Rattle.std.proofs.lemmas.Bool.{false≢true}
use Rattle.tree_commands.proofs.lemmas.FillingLemmas.{asked_searched, kept_file, kept_otherwise, kept_unfree, says_replaced}
use Rattle.tree_commands.proofs.lemmas.PathLemmas.{start_marked}
use Rattle.tree_commands.proofs.files.lister.Lister.is_replaced.Goals as goal

pub returns-then-not-replaces_filled-clause-replaced : goal.returns-then-not-replaces_filled-clause-replaced
returns-then-not-replaces_filled-clause-replaced g c =
    kept_otherwise _ _ _ _ (λ asks. false≢true (sym c.if-not-replaces_filled.true ∙ c.replaces_filled.ensures.1 asks))

pub returns-in_default-clause-replaced : goal.returns-in_default-clause-replaced
returns-in_default-clause-replaced g c =
    let file = rw c.deref.ensures.value at c.in_default.ensures in
    kept_file _ _ _ _ file.0 file.1

pub returns-then-not-is_free-clause-replaced : goal.returns-then-not-is_free-clause-replaced
returns-then-not-is_free-clause-replaced g c =
    let start = sym c.deref.ensures.value ∙ c.in-Some.ensures in
    kept_unfree _ _ _ _ c.in-Some.folder.now start (λ free. false≢true (sym c.if-not-is_free.true ∙ c.is_free.ensures.1 free))

pub is_filled-requires-clause-ends : goal.is_filled-requires-clause-ends
is_filled-requires-clause-ends g c =
    let start = sym c.deref.ensures.value ∙ c.in-Some.ensures in
    let free = c.is_free.ensures.0 c.if-not-is_free.false in
    record { front = c.in-Some.folder.now; joined = start ∙ start_marked c.in-Some.folder.now free.0 }

pub returns-in_err-is_filled-clause-asks : goal.returns-in_err-is_filled-clause-asks
returns-in_err-is_filled-clause-asks g c =
    asked_searched _ _ _ _ (inr (inl (c.replaces_filled.ensures.0 c.if-not-replaces_filled.false))) _ _ c.is_filled.ensures.asks

pub returns-clause-replaced : goal.returns-clause-replaced
returns-clause-replaced g c =
    let start = sym c.deref.ensures.value ∙ c.in-Some.ensures in
    says_replaced _ _ _ _ c.in-Some.folder.now start (c.replaces_filled.ensures.0 c.if-not-replaces_filled.false) (c.is_free.ensures.0 c.if-not-is_free.false) c.in_ok-is_filled.is_filled c.in_ok-is_filled.ensures.filled

pub returns-clause-starts : goal.returns-clause-starts
returns-clause-starts g c =
    let start = sym c.deref.ensures.value ∙ c.in-Some.ensures in
    let free = c.is_free.ensures.0 c.if-not-is_free.false in
    λ yes. (c.in-Some.folder.now, start, free.0)

pub returns-clause-asks : goal.returns-clause-asks
returns-clause-asks g c =
    asked_searched _ _ _ _ (inr (inl (c.replaces_filled.ensures.0 c.if-not-replaces_filled.false))) _ _ c.is_filled.ensures.asks
