use Rattle.gix_glob.proofs.search.pattern.stripping.strip_base.Goals as goal

pub returns-in-Sensitive : goal.returns-in-Sensitive
returns-in-Sensitive c = rw c.in-Sensitive.is c.strip_exact.ensures

pub returns-in-Fold : goal.returns-in-Fold
returns-in-Fold c = rw c.in-Fold.is c.strip_folded.ensures
