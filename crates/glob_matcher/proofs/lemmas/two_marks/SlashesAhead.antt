-- A run of stars before a slash, which fits at no place before the next slash of the value: its mark moves there at once.
use Rattle.std.proofs.Common.{◌≡◌, ℕ, ◌+◌, ◌-◌, ◌*◌, ◌<◌, ◌≤◌, IsTrue, List, length, get_or, Some, None, refl, sym, ◌∙◌, ap, arith}
use Rattle.glob_matcher.specs.declared.wildmatch.way.Way.{Way}
use Rattle.glob_matcher.specs.declared.wildmatch.marks.Mark.{Mark}
use Rattle.glob_matcher.specs.declared.wildmatch.state.Crossing.{Crossing}
use Rattle.glob_matcher.specs.Bytes.{HasByte, fold, is_path, slash}
use Rattle.glob_matcher.specs.Matching.{SplitsFrom}
use Rattle.glob_matcher.specs.Steps.{Counts}
use Rattle.glob_matcher.specs.Private.Takes.{Takes}
use Rattle.glob_matcher.specs.Private.Scans.{HasPassed}
use Rattle.glob_matcher.specs.Private.States.{IsLiteralMet, StandsAt}
use Rattle.glob_matcher.specs.Private.Prices.{Measure, Steps, Looks, amount, amount_of}
use Rattle.glob_matcher.specs.Private.Budget.{AllowsAt}
use Rattle.glob_matcher.proofs.lemmas.cutting.SlashLemmas.{fold_slash}
use Rattle.glob_matcher.proofs.lemmas.reading.Reading.{literal_token}
use Rattle.glob_matcher.proofs.lemmas.two_marks.States.{state_of}
use Rattle.glob_matcher.proofs.lemmas.two_marks.TakenBytes.{misses_byte}
use Rattle.glob_matcher.proofs.lemmas.two_marks.Scans.{IsLocalPast, allows_found, allows_local_skipped, slash_is_itself, stands_found, stands_local_skipped}

module _ {way : Way} {p v : List ℕ} {B : ℕ → Type 0} {m x : Mark} where
  missed_before : HasByte p m.place slash → HasPassed v (λ b. b ≡ slash) B m x
      → (k : ℕ) → m.at ≤ k → k < x.at → ¬ SplitsFrom v k p m.place way
  missed_before is passed k low below =
      misses_byte v k (literal_token way p m.place is.inside (slash_is_itself (get_or p m.place 0) is.is)) refl
      (omega (arith, passed.inside)) (λ fits. passed.unsuited k low below (fold_slash way (get_or v k 0) (fits.1 ∙ ap (fold way) is.is)))

  pub stands_slash_ahead : {c : Crossing} → StandsAt way p v (state_of m.place m.at c (Some m)) → HasByte p m.place slash
      → HasPassed v (λ b. b ≡ slash) B m x → StandsAt way p v (state_of x.place x.at c (Some x))
  stands_slash_ahead st is passed =
      stands_local_skipped x st passed.same passed.low passed.inside (record { at = passed.unsuited }) (missed_before is passed)

  pub allows_slash_ahead : {measure : Measure} {c : Crossing} {spent limit : ℕ} → IsTrue (is_path way)
      → AllowsAt measure way p v (state_of m.place m.at c (Some m)) spent limit → HasPassed v (λ b. b ≡ slash) B m x
      → AllowsAt measure way p v (state_of x.place x.at c (Some x)) (spent + 2 * (x.at - m.at)) limit
  allows_slash_ahead path a passed =
      allows_local_skipped x path a passed.same passed.low passed.inside (record { at = passed.unsuited })

-- the slash is met, and the mark is forgotten
forgotten : {p : List ℕ} {x : Mark} → HasByte p x.place slash → IsLocalPast p x.place (Some x) None
forgotten is = record { at_slash = λ same. refl; at_other = λ other. absurd (other is.is) }

module _ {way : Way} {p v : List ℕ} where
  slash_met : {i k : ℕ} → HasByte p i slash → k < length v → get_or v k 0 ≡ slash → IsLiteralMet way p v i k
  slash_met {i} is inside here = record {
    place = is.inside;
    literal = slash_is_itself (get_or p i 0) is.is;
    at = inside;
    fits = ap (fold way) (here ∙ sym is.is);
  }

  pub stands_past_met : {c : Crossing} {x : Mark} → StandsAt way p v (state_of x.place x.at c (Some x)) → HasByte p x.place slash → x.at < length v
      → get_or v x.at 0 ≡ slash → StandsAt way p v (state_of (x.place + 1) (x.at + 1) c None)
  stands_past_met st is inside here = stands_found st (slash_met is inside here) (forgotten is)

  pub allows_past_met : {measure : Measure} {c : Crossing} {x : Mark} {spent limit : ℕ} → StandsAt way p v (state_of x.place x.at c (Some x))
      → AllowsAt measure way p v (state_of x.place x.at c (Some x)) spent limit → HasByte p x.place slash → x.at < length v
      → get_or v x.at 0 ≡ slash → AllowsAt measure way p v (state_of (x.place + 1) (x.at + 1) c None) (spent + amount measure 1 8) limit
  allows_past_met st a is inside here = allows_found st a (slash_met is inside here) (forgotten is)

-- what a scan took, and a test at its end
pub scan_prices : (measure : Measure) {before after : Counts} (n c d : ℕ) {a b : ℕ} → Takes before after a b → a ≤ n + c → b ≤ n + d
    → amount_of measure after ≤ amount_of measure before + n + amount measure c d
unfolding amount_of amount
scan_prices Steps n c d t steps looks = omega (arith, t.steps)
scan_prices Looks n c d t steps looks = omega (arith, t.looks)
