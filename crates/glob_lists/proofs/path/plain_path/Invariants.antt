use Rattle.glob_lists.proofs.lemmas.Deciding.PathsLemmas.{IsPlainUpTo}
use Rattle.glob_lists.proofs.path.plain_path.Given as goal

-- whether the bytes so far are those of a plain path
abbrev pub invariant-bytes : goal.invariant-bytes
invariant-bytes l = IsPlainUpTo l.path l.n l.has_two_slashes
