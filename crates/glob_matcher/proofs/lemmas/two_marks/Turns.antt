-- A turn of the engine with two marks, after looks at its token; and the front that is passed before the first turn.
use Rattle.std.proofs.Common.{◌≡◌, ℕ, ◌+◌, ◌-◌, ◌*◌, ◌<◌, ◌≤◌, Bool, true, false, List, length, refl, arith}
use Rattle.glob_matcher.specs.declared.wildmatch.way.Way.{Way}
use Rattle.glob_matcher.specs.declared.wildmatch.state.State.{State}
use Rattle.glob_matcher.specs.declared.wildmatch.state.Turn.{Turn}
use Rattle.glob_matcher.specs.declared.wildmatch.state.Turn.TheVariants as turn
use Rattle.glob_matcher.specs.Steps.{Counts}
use Rattle.glob_matcher.specs.Private.Takes.{Takes}
use Rattle.glob_matcher.specs.declared.wildmatch.tokens.TokenKind.{TokenKind}
use Rattle.glob_matcher.specs.Private.Looks.{LookedOver}
use Rattle.glob_matcher.specs.Private.Reader.{IsTokenRead, is_star}
use Rattle.glob_matcher.specs.Private.Budget.{AllowsAt, CountsOutcome}
use Rattle.glob_matcher.specs.Private.Prices.{Measure, amount, amount_of}
use Rattle.glob_matcher.specs.Private.States.{StandsAt}
use Rattle.glob_matcher.specs.Private.Turns.{IsFront, IsTurn, at_front}
use Rattle.glob_matcher.proofs.lemmas.two_marks.Prices.{NeverFall-on, Takes-grows, Takes-within, amount-sum}
use Rattle.glob_matcher.proofs.lemmas.two_marks.Budget.{allows_less}

counts_on : (t : Turn) (a b c : ℕ) → b ≡ a → CountsOutcome t b c → CountsOutcome t a c
counts_on turn.Match a b c same more = tt
counts_on turn.NoMatch a b c same more = omega arith
counts_on (turn.Miss s) a b c same more = omega arith
counts_on (turn.On s) a b c same more = omega arith

pub turn_on : {way : Way} {p v : List ℕ} {state : State} {t : Turn} {before between after : Counts} {looks looked all : ℕ}
    → Takes before between 0 looks → looked + looks ≤ all → IsTurn way p v state all t between after
    → IsTurn way p v state looked t before after
turn_on {t = t} {before} {between} {after} {looked = looked} taken enough so = record {
  meaning = so.meaning;
  allows = λ measure s n low a. so.allows measure s n (Takes-within measure s 0 looked low taken (omega arith) enough) a;
  progress = counts_on t before.steps between.steps after.steps (omega (arith, taken.steps)) so.progress;
  grows = NeverFall-on (Takes-grows taken) so.grows;
}

-- the looks of the readers
pub token_looks : {before after : Counts} {i : ℕ} {kind : TokenKind} {j : ℕ} → i < j → IsTokenRead before after i kind j
    → Takes before after 0 (6 * (j - i))
token_looks {before} {after} {i} {kind} {j} past read = cases (is_star kind) refl where
  cases : (star : Bool) → is_star kind ≡ star → Takes before after 0 (6 * (j - i))
  cases true star = record { steps = omega (arith, read.steps); looks = omega (arith, read.run star); low = read.low }
  cases false one = record { steps = omega (arith, read.steps); looks = omega (arith, read.other one); low = read.low }

pub star_looks : {before after : Counts} {i : ℕ} {kind : TokenKind} {j : ℕ} → i < j → is_star kind ≡ true → IsTokenRead before after i kind j
    → Takes before after 0 (5 * (j - i) - 3)
star_looks {i = i} {j = j} past star read = record { steps = omega (arith, read.steps); looks = omega (arith, read.run star); low = read.low }

-- a set is looked for, and tested at a byte
pub set_looks : {x y z end : Counts} {i j : ℕ} → Takes x y 0 1 → Takes y z 1 1 → i ≤ j → LookedOver 4 z end i j → Takes x end 1 (4 * (j - i) + 2)
set_looks {i = i} {j} looked tested inside paid = record {
  steps = omega (arith, looked.steps, tested.steps, paid.steps);
  looks = omega (arith, looked.looks, tested.looks, paid.looks);
  low = omega (arith, looked.low, tested.low, paid.low);
}

-- The front of both texts is passed, each byte by a step and two looks, and the next one was looked at, and maybe tested.
pub front_passed : {way : Way} {p v : List ℕ} {k tests : ℕ} {before after : Counts} → StandsAt way p v (at_front k)
    → ((measure : Measure) (spent limit : ℕ) → AllowsAt measure way p v (at_front 0) spent limit
    → AllowsAt measure way p v (at_front k) (spent + amount measure k (8 * k)) limit)
    → Takes before after (k + tests) (2 * k + 2) → tests ≤ length v → IsFront way p v k before after
front_passed {v = v} {k} {tests} {before} stands allows takes in_vain = record {
  meaning = stands;
  allows = λ measure limit a.
      let all = Takes-within measure (amount_of measure before) 0 0 {e = k + tests} {f = 2 * k + 2} (omega arith) takes (omega arith) (omega arith) in
      let sum = amount-sum measure (length v) 2 k (8 * k) {e = k + tests} {f = 2 * k + 2} (omega (arith, in_vain)) (omega arith) in
      allows_less (omega (arith, all, sum)) (allows measure (amount_of measure before + amount measure (length v) 2) limit a);
  counted = omega (arith, takes.steps);
  grows = Takes-grows takes;
}
