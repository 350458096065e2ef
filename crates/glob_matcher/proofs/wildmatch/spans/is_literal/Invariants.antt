-- If all bytes so far are literal, each of them is.
use Rattle.std.proofs.Common.{ℕ, ◌+◌, ◌<◌, get_or, IsTrue}
use Rattle.glob_matcher.specs.Private.Finding.{IsLiterally}
use Rattle.glob_matcher.proofs.wildmatch.spans.is_literal.Given as goal

abbrev pub invariant-bytes : goal.invariant-bytes
invariant-bytes l = IsTrue l.literal → (m : ℕ) → m < l.at → IsLiterally (get_or l.pattern (l.from + m) 0)
