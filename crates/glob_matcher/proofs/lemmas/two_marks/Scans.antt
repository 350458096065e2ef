-- The scans from a mark: what they pass over, the engine need not test in turn.
use Rattle.std.proofs.Common.{◌≡◌, ◌≢◌, inl, inr, ℕ, zero, suc, ◌+◌, ◌-◌, ◌*◌, ◌<◌, ◌≤◌, Bool, true, false, IsTrue, List, length, get_or, Option, Some, None, refl, sym, ◌∙◌, ap, subst, arith, if◌then◌else◌}
use Rattle.std.proofs.lemmas.Bool.{cases_eq, cases_lt}
use Rattle.std.specs.Char.{to_ascii_lowercase}
use Rattle.std.specs.Prelude.{OnSome}
use Rattle.glob_matcher.specs.declared.wildmatch.way.Way.{Way}
use Rattle.glob_matcher.specs.declared.wildmatch.marks.Mark.{Mark}
use Rattle.glob_matcher.specs.declared.wildmatch.needle.Follow.{Follow}
use Rattle.glob_matcher.specs.declared.wildmatch.needle.Follow.TheVariants as follow
use Rattle.glob_matcher.specs.declared.wildmatch.scan.Scan.{Scan}
use Rattle.glob_matcher.specs.declared.wildmatch.scan.Scan.TheVariants as scan
use Rattle.glob_matcher.specs.declared.wildmatch.state.State.{State}
use Rattle.glob_matcher.specs.declared.wildmatch.state.Crossing.{Crossing}
use Rattle.glob_matcher.specs.declared.wildmatch.state.Crossing.TheVariants as crossing
use Rattle.glob_matcher.specs.Bytes.{NoSlash, StandsForItself, fold, folds, is_path, is_special, slash}
use Rattle.glob_matcher.specs.Tokens.{Byte}
use Rattle.glob_matcher.specs.Matching.{SplitsFrom, Fits}
use Rattle.glob_matcher.specs.Private.Scans.{Follows, IsScan, HasPassed, reached_by}
use Rattle.glob_matcher.specs.Private.States.{IsLiteralMet, IsMiss, IsScanFor, StandsAt}
use Rattle.glob_matcher.specs.Steps.{Counts}
use Rattle.glob_matcher.specs.Private.Takes.{Takes}
use Rattle.glob_matcher.specs.Private.Prices.{Measure, amount, move}
use Rattle.glob_matcher.specs.Private.Budget.{AllowsAt, AllowsMiss}
use Rattle.glob_matcher.proofs.lemmas.reading.Reading.{literal_token}
use Rattle.glob_matcher.proofs.lemmas.two_marks.Components.{ends-inner}
use Rattle.glob_matcher.proofs.lemmas.two_marks.States.{end_missed, mark_of, mark_eq, miss_of, state_of}
use Rattle.glob_matcher.proofs.lemmas.two_marks.TakenBytes.{inner_of, misses_byte, stands_on, stands_past_slash}
use Rattle.glob_matcher.proofs.lemmas.two_marks.MovedMarks.{stands_free_moved, stands_local_moved}
use Rattle.glob_matcher.proofs.lemmas.two_marks.StuckMarks.{left_without}
use Rattle.glob_matcher.proofs.lemmas.two_marks.Budget.{allows_less, allows_missed}
use Rattle.glob_matcher.proofs.lemmas.two_marks.TakenByteCosts.{allows_on, allows_past_slash}
use Rattle.glob_matcher.proofs.lemmas.two_marks.MovedMarkCosts.{allows_free_moved, allows_local_moved, left_missed}
use Rattle.glob_matcher.proofs.lemmas.two_marks.Prices.{amount-mono, move-some, Takes-on}

fold-exact : (way : Way) (b : ℕ) → folds way ≡ false → fold way b ≡ b
fold-exact way b off = ap (λ (on : Bool). if on then to_ascii_lowercase b else b) off

fold-lowercase : (way : Way) (b : ℕ) → folds way ≡ true → fold way b ≡ to_ascii_lowercase b
fold-lowercase way b on = ap (λ (x : Bool). if x then to_ascii_lowercase b else b) on

-- a byte of the value is what follows
abbrev pub Suits : Follow → ℕ → Type 0
Suits (follow.Byte b) = λ c. c ≡ b
Suits (follow.Folded b) = λ c. to_ascii_lowercase c ≡ to_ascii_lowercase b
Suits follow.End = λ c. ⊥

-- a byte that is what follows is taken by the token there
pub fits_what_follows : (way : Way) (p : List ℕ) (i : ℕ) (f : Follow) (c : ℕ) → Follows way p i f → Suits f c
    → (i < length p) × StandsForItself (get_or p i 0) × Fits way (Byte (get_or p i 0)) c
fits_what_follows way p i (follow.Byte b) c is suits = (
  is.0.inside,
  subst StandsForItself (sym is.0.is) is.1,
  ap (fold way) (suits ∙ sym is.0.is),
)
fits_what_follows way p i (follow.Folded b) c is suits = (
  is.0.inside,
  subst StandsForItself (sym is.0.is) is.1,
  fold-lowercase way c is.2 ∙ (suits ∙ (sym (fold-lowercase way b is.2) ∙ ap (fold way) (sym is.0.is))),
)
fits_what_follows way p i follow.End c is suits = absurd suits

-- where the value has not what follows, the token there takes no byte
pub misses_what_follows : (way : Way) (p v : List ℕ) (i k : ℕ) (f : Follow) → Follows way p i f → k < length v → ¬ Suits f (get_or v k 0)
    → ¬ SplitsFrom v k p i way
misses_what_follows way p v i k (follow.Byte b) is inside other =
    misses_byte v k (literal_token way p i is.0.inside (subst StandsForItself (sym is.0.is) is.1)) refl (omega arith)
    (λ fits. other (sym (fold-exact way (get_or v k 0) is.2) ∙ (fits.1 ∙ (fold-exact way (get_or p i 0) is.2 ∙ is.0.is))))
misses_what_follows way p v i k (follow.Folded b) is inside other =
    misses_byte v k (literal_token way p i is.0.inside (subst StandsForItself (sym is.0.is) is.1)) refl (omega arith)
    (λ fits.
    other
    (sym (fold-lowercase way (get_or v k 0) is.2)
    ∙ (fits.1 ∙ (fold-lowercase way (get_or p i 0) is.2 ∙ ap to_ascii_lowercase is.0.is))))
misses_what_follows way p v i k follow.End is inside other = end_missed way p v i k is (λ past. omega arith)

-- A scan for what follows is a scan for the rest of the pattern, after the look at what follows.
scan_for_mark : (way : Way) (p : List ℕ) {v : List ℕ} (f : Follow) {B : ℕ → Type 0} {from : Mark} {s : Scan} {before between after : Counts}
    → Follows way p from.place f → Takes before between 0 1 → IsScan v (Suits f) B from s between after
    → IsScanFor way p v B from s before after
scan_for_mark way p {v} f {from} {s = scan.Found m} is looked found =
    let so = found.meaning in
    let here : Follows way p m.place f = subst (λ (i : ℕ). Follows way p i f) (sym so.0.same) is in
    let fits = fits_what_follows way p m.place f (get_or v m.at 0) here so.2 in
    record {
      same = so.0.same;
      low = so.0.low;
      inside = so.0.inside;
      missed = λ k low below. misses_what_follows way p v from.place k f is (omega (arith, so.0.inside)) (so.0.unsuited k low below);
      free = so.0.free;
      met = record { place = fits.0; literal = fits.1; at = so.1; fits = fits.2 };
      takes = Takes-on looked found.takes (omega arith) (omega arith);
    }
scan_for_mark way p {v} f {from} {s = scan.Blocked m} is looked found =
    let so = found.meaning in
    let here : Follows way p m.place f = subst (λ (i : ℕ). Follows way p i f) (sym so.0.same) is in
    record {
      same = so.0.same;
      low = so.0.low;
      inside = so.0.inside;
      missed = λ k low below. misses_what_follows way p v from.place k f is (omega (arith, so.0.inside)) (so.0.unsuited k low below);
      free = so.0.free;
      met = (so.1, so.3, misses_what_follows way p v m.place m.at f here so.1 so.2);
      takes = Takes-on looked found.takes (omega arith) (omega arith);
    }
scan_for_mark way p {v} f {from} {s = scan.Undecided m} is looked found =
    let so = found.meaning in
    record {
      same = so.same;
      low = so.low;
      inside = so.inside;
      missed = λ k low below. misses_what_follows way p v from.place k f is (omega (arith, so.inside)) (so.unsuited k low below);
      free = so.free;
      met = tt;
      takes = Takes-on looked found.takes (omega arith) (omega arith);
    }

pub scan_for : {way : Way} {p v : List ℕ} {f g : Follow} {B : ℕ → Type 0} {i : ℕ} {from : Mark} {s : Scan} {before between after : Counts} → f ≡ g
    → Takes before between 0 1 → IsScan v (Suits g) B from s between after → i ≡ from.place → Follows way p i f
    → IsScanFor way p v B from s before after
scan_for {way} {p} {f = f} {g} {from = from} same looked found same_place follows =
    scan_for_mark way p g (subst (λ (x : Follow). Follows way p from.place x) same
    (subst (λ (i : ℕ). Follows way p i f) same_place follows)) looked found

-- what holds at a place and goes on by one place holds at each place after it
holds_after : (Q : ℕ → Type 0) (a d : ℕ) → Q a → ((k : ℕ) → a ≤ k → k < a + d → Q k → Q (k + 1)) → Q (a + d)
holds_after Q a zero here on = let same : a ≡ a + 0 = omega arith in subst Q same here
holds_after Q a (suc d) here on =
    let same : a + d + 1 ≡ a + suc d = omega arith in
    subst Q same (on (a + d) (omega arith) (omega arith) (holds_after Q a d here (λ k low below. on k low (omega arith))))

holds_later : (Q : ℕ → Type 0) (a b : ℕ) → a ≤ b → Q a → ((k : ℕ) → a ≤ k → k < b → Q k → Q (k + 1)) → Q b
holds_later Q a b low here on =
    let same : a + (b - a) ≡ b = omega arith in
    subst Q same (holds_after Q a (b - a) here (λ k from below. on k from (omega arith)))

-- what holds of a mark and goes on by one place holds of it at each place after it
holds_moved : (Q : Mark → Type 0) {m : Mark} (x : Mark) → Q m → x.place ≡ m.place → m.at ≤ x.at
    → ((k : ℕ) → m.at ≤ k → k < x.at → Q (mark_of m.place k) → Q (mark_of m.place (k + 1))) → Q x
holds_moved Q {m} x here same low on =
    subst Q (mark_eq x m.place x.at same refl) (holds_later (λ k. Q (mark_of m.place k)) m.at x.at low here on)

module _ {way : Way} {p v : List ℕ} where
  -- The crossing mark of a run of stars moves on over places from which the rest of the pattern splits nothing.
  pub stands_free_skipped : {m : Mark} (x : Mark) → StandsAt way p v (state_of m.place m.at (crossing.Free m) None)
      → x.place ≡ m.place → m.at ≤ x.at → x.at ≤ length v → ((k : ℕ) → m.at ≤ k → k < x.at → ¬ SplitsFrom v k p m.place way)
      → StandsAt way p v (state_of x.place x.at (crossing.Free x) None)
  stands_free_skipped {m} x st same low inside missed =
      holds_moved (λ y. StandsAt way p v (state_of y.place y.at (crossing.Free y) None)) x st same low
      (λ k from below at.
      stands_free_moved (mark_of m.place (k + 1)) (left_without (miss_of at (missed k from below)) refl) (omega arith) refl refl)

  -- The local mark moves on within its component, over places from which the rest of the pattern splits nothing.
  pub stands_local_skipped : {c : Crossing} {m : Mark} (x : Mark) → StandsAt way p v (state_of m.place m.at c (Some m))
      → x.place ≡ m.place → m.at ≤ x.at → x.at ≤ length v → NoSlash v m.at x.at
      → ((k : ℕ) → m.at ≤ k → k < x.at → ¬ SplitsFrom v k p m.place way) → StandsAt way p v (state_of x.place x.at c (Some x))
  stands_local_skipped {c} {m} x st same low inside bare missed =
      holds_moved (λ y. StandsAt way p v (state_of y.place y.at c (Some y))) x st same low
      (λ k from below at.
      stands_local_moved (mark_of m.place (k + 1)) (miss_of at (missed k from below)) refl (omega arith)
      (bare.at k from below) refl refl)

module _ {measure : Measure} {way : Way} {p v : List ℕ} where
  pub allows_free_skipped : {m : Mark} (x : Mark) {spent limit : ℕ}
      → AllowsAt measure way p v (state_of m.place m.at (crossing.Free m) None) spent limit → x.place ≡ m.place → m.at ≤ x.at
      → x.at ≤ length v → AllowsAt measure way p v (state_of x.place x.at (crossing.Free x) None) (spent + 2 * (x.at - m.at)) limit
  allows_free_skipped {m} x {spent} {limit} a same low inside =
      holds_moved (λ y. AllowsAt measure way p v (state_of y.place y.at (crossing.Free y) None) (spent + 2 * (y.at - m.at)) limit)
      x (allows_less (omega arith) a) same low
      (λ k from below a.
      allows_less (omega (arith, move-some measure))
      (allows_free_moved (mark_of m.place (k + 1)) (omega arith) refl refl (left_missed (omega arith) (allows_missed a))))

  pub allows_local_skipped : {c : Crossing} {m : Mark} (x : Mark) {spent limit : ℕ} → IsTrue (is_path way)
      → AllowsAt measure way p v (state_of m.place m.at c (Some m)) spent limit → x.place ≡ m.place → m.at ≤ x.at
      → x.at ≤ length v → NoSlash v m.at x.at
      → AllowsAt measure way p v (state_of x.place x.at c (Some x)) (spent + 2 * (x.at - m.at)) limit
  allows_local_skipped {c} {m} x {spent} {limit} path a same low inside bare =
      holds_moved (λ y. AllowsAt measure way p v (state_of y.place y.at c (Some y)) (spent + 2 * (y.at - m.at)) limit)
      x (allows_less (omega arith) a) same low
      (λ k from below a.
      allows_less (omega (arith, move-some measure))
      (allows_local_moved (mark_of m.place (k + 1)) (allows_missed a) refl (omega arith)
      (ends-inner way (get_or v k 0) path (bare.at k from below)) refl refl))

-- a byte is known by its token
pub byte_of : {b d : ℕ} → Byte b ≡ Byte d → b ≡ d
byte_of e = cc

byte_price : (measure : Measure) (i spent : ℕ) → spent + amount measure 1 8 ≤ spent + amount measure 1 (8 * (i + 1 - i))
byte_price measure i spent =
    let more : amount measure 1 8 ≤ amount measure 1 (8 * (i + 1 - i)) = amount-mono measure (omega arith) (omega arith) in omega arith

-- what the local mark is past the byte at place i of the pattern: a slash forgets it
pub record IsLocalPast (p : List ℕ) (i : ℕ) (l next : Option Mark) : Type 0 where
  pub at_slash : get_or p i 0 ≡ slash → next ≡ None
  pub at_other : get_or p i 0 ≢ slash → next ≡ l

-- where no local mark is set, there is none past a byte
pub unset_past : {p : List ℕ} {i : ℕ} → IsLocalPast p i None None
unset_past = record { at_slash = λ is. refl; at_other = λ other. refl }

-- a scan that slashes block has passed none
no_slash_passed : {way : Way} {p v : List ℕ} {from : Mark} {s : Scan} {before after : Counts}
    → IsScanFor way p v (λ b. b ≡ slash) from s before after → NoSlash v from.at (reached_by s).at
no_slash_passed so = record { at = so.free }

module _ {way : Way} {p v : List ℕ} where
  -- The byte after a run of stars is found where its mark is.
  pub stands_found : {i k : ℕ} {c : Crossing} {l next : Option Mark} → StandsAt way p v (state_of i k c l)
      → IsLiteralMet way p v i k → IsLocalPast p i l next → StandsAt way p v (state_of (i + 1) (k + 1) c next)
  stands_found {i} {k} {c} st met past =
      let token = literal_token way p i met.place met.literal in
      elim (cases_eq (get_or p i 0) slash) [
        | inl is ↦
            subst (λ (x : Option Mark). StandsAt way p v (state_of (i + 1) (k + 1) c x)) (sym (past.at_slash is))
            (stands_past_slash st token refl met.at met.fits (ap Byte is))
        | inr other ↦
            subst (λ (x : Option Mark). StandsAt way p v (state_of (i + 1) (k + 1) c x)) (sym (past.at_other other))
            (stands_on st token refl met.at met.fits (λ is. other (byte_of is)))
      ]

  -- A scan from the local mark, once it has moved: the engine stands where the scan has come to.
  pub local_scanned : {state : State} {m x : Mark} {s : Scan} {before after : Counts} → IsMiss way p v state → state.local ≡ Some m
      → m.at < length v → get_or v m.at 0 ≢ slash → x.place ≡ m.place → x.at ≡ m.at + 1
      → IsScanFor way p v (λ b. b ≡ slash) x s before after
      → StandsAt way p v (state_of (reached_by s).place (reached_by s).at state.crossing (Some (reached_by s)))
  local_scanned {x = x} {s} miss is inside other same at so =
      stands_local_skipped (reached_by s) (stands_local_moved x miss is inside other same at) so.same so.low so.inside (no_slash_passed so) so.missed

module _ {measure : Measure} {way : Way} {p v : List ℕ} where
  pub allows_found : {i k : ℕ} {c : Crossing} {l next : Option Mark} {spent limit : ℕ} → StandsAt way p v (state_of i k c l)
      → AllowsAt measure way p v (state_of i k c l) spent limit → IsLiteralMet way p v i k → IsLocalPast p i l next
      → AllowsAt measure way p v (state_of (i + 1) (k + 1) c next) (spent + amount measure 1 8) limit
  allows_found {i} {k} {c} {spent = spent} {limit} st a met past =
      let token = literal_token way p i met.place met.literal in
      elim (cases_eq (get_or p i 0) slash) [
        | inl is ↦
            subst (λ (x : Option Mark). AllowsAt measure way p v (state_of (i + 1) (k + 1) c x) (spent + amount measure 1 8) limit) (sym (past.at_slash is))
            (allows_past_slash token refl (byte_price measure i spent) met.at met.fits a)
        | inr other ↦
            subst (λ (x : Option Mark). AllowsAt measure way p v (state_of (i + 1) (k + 1) c x) (spent + amount measure 1 8) limit) (sym (past.at_other other))
            (allows_on token refl (byte_price measure i spent) met.at met.fits
            (inner_of token.token st met.fits (λ is. other (byte_of is))) a)
      ]

  pub local_scanned_counts : {state : State} {m x : Mark} {s : Scan} {before after : Counts} {spent limit : ℕ} → IsMiss way p v state
      → state.local ≡ Some m → m.at < length v → get_or v m.at 0 ≢ slash → x.place ≡ m.place → x.at ≡ m.at + 1
      → IsScanFor way p v (λ b. b ≡ slash) x s before after → AllowsMiss measure way p v state spent limit
      → AllowsAt measure way p v (state_of (reached_by s).place (reached_by s).at state.crossing (Some (reached_by s)))
      (spent + move measure + 2 * ((reached_by s).at - x.at)) limit
  local_scanned_counts {state} {m} {x} {s} miss is inside other same at so a =
      let st : StandsAt way p v (state_of x.place x.at state.crossing (Some x)) = stands_local_moved x miss is inside other same at in
      let within = ends-inner way (get_or v m.at 0) st.local.path other in
      allows_local_skipped (reached_by s) st.local.path (allows_local_moved x a is inside within same at) so.same so.low so.inside (no_slash_passed so)

-- scans, one after the other
pub passed_on : {v : List ℕ} {P B : ℕ → Type 0} {a b c : Mark} → HasPassed v P B a b → HasPassed v P B b c → HasPassed v P B a c
passed_on {b} x y = record {
  same = y.same ∙ x.same;
  low = omega (arith, x.low, y.low);
  inside = y.inside;
  unsuited = λ k low below. elim (cases_lt k b.at) [
    | inl before ↦ x.unsuited k low before
    | inr later ↦ y.unsuited k later below
  ];
  free = λ k low below. elim (cases_lt k b.at) [
    | inl before ↦ x.free k low before
    | inr later ↦ y.free k later below
  ];
}

-- a scan that goes on from where another has come to
pub scan_on : {v : List ℕ} {P B : ℕ → Type 0} {a b : Mark} {s : Scan} {before between after : Counts} → HasPassed v P B a b
    → Takes before between (2 * (b.at - a.at)) (2 * (b.at - a.at)) → IsScan v P B b s between after → IsScan v P B a s before after
scan_on {s = scan.Found m} x taken y = record {
  meaning = (passed_on x y.meaning.0, y.meaning.1, y.meaning.2);
  takes = Takes-on taken y.takes (omega (arith, x.low, y.meaning.0.low)) (omega (arith, x.low, y.meaning.0.low));
}
scan_on {s = scan.Blocked m} x taken y = record {
  meaning = (passed_on x y.meaning.0, y.meaning.1, y.meaning.2, y.meaning.3);
  takes = Takes-on taken y.takes (omega (arith, x.low, y.meaning.0.low)) (omega (arith, x.low, y.meaning.0.low));
}
scan_on {s = scan.Undecided m} x taken y = record {
  meaning = passed_on x y.meaning;
  takes = Takes-on taken y.takes (omega (arith, x.low, y.meaning.low)) (omega (arith, x.low, y.meaning.low));
}

-- no mark, where it is none of all
pub none_of : (l : Option Mark) → ((m : Mark) → l ≡ Some m → ⊥) → l ≡ None
none_of None other = refl
none_of (Some m) other = absurd (other m refl)

-- the steps go on, from before a call as from after it
pub progress_on : (x : Option State) (a b c : ℕ) → a ≤ b → OnSome x (b < c) → OnSome x (a < c)
progress_on None a b c low more = more
progress_on (Some s) a b c low more = omega arith

pub slash_is_itself : (b : ℕ) → b ≡ slash → StandsForItself b
slash_is_itself b is = ap is_special is
