-- Where all bytes so far are alike, or come after the special ones, each of them is or does.
use Rattle.std.proofs.Common.{◌≡◌, ℕ, ◌+◌, ◌<◌, get_or, IsTrue}
use Rattle.glob_matcher.specs.Bytes.{fold}
use Rattle.glob_matcher.specs.Private.Finding.{IsLiterally}
use Rattle.glob_matcher.proofs.wildmatch.spans.passes_span.Given as goal

abbrev pub invariant-bytes : goal.invariant-bytes
invariant-bytes l = record {
  alike : IsTrue l.alike → (m : ℕ) → m < l.at → fold l.way (get_or l.value (l.from + m) 0) ≡ fold l.way (get_or l.pattern (l.from + m) 0);
  past : IsTrue l.past → (m : ℕ) → m < l.at → IsLiterally (get_or l.pattern (l.from + m) 0);
}
