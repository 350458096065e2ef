-- What is left of the lines that match tells what decides without the line.
use Rattle.std.proofs.Common.{◌≡◌, ℕ, [], ◌∷◌, None, Some, subst}
use Rattle.std.specs.Prelude.{slice_get}
use Rattle.std.proofs.lemmas.Bool.{false≢true}
use Rattle.glob_lint.specs.Private.Asking.{IsLastOther}
use Rattle.glob_lint.specs.Seen.{seen}
use Rattle.glob_lint.specs.Without.{is_among}
use Rattle.glob_lint.proofs.lemmas.Held.{sign_of, stands}
use Rattle.glob_lint.proofs.lemmas.LastLeft.{last_decides, last_is_left, none_left}
use Rattle.glob_lint.proofs.lemmas.Left.{sign_stays}
use Rattle.glob_lint.proofs.lemmas.Ranks.{rank}
use Rattle.glob_lint.proofs.trying.ignores_without.Goals as goal
use Rattle.glob_lint.proofs.trying.ignores_without.Goals.{In-Some}

abbrev last_of : (c : In-Some) → IsLastOther c.matches_into.new.found.items c.args.line.now.pair c.in-Some.last
last_of c = subst (λ found. IsLastOther found c.args.line.now.pair c.in-Some.last) c.deref.ensures.value c.in-Some.ensures

pub is_negative-requires : goal.is_negative-requires
is_negative-requires c =
    let is = last_of (goal.at.is_negative-requires c).In-Some in
    stands (seen c.args.line.now.asked.now.lists.now) c.in-Some.last c.args.line.now.asked.now.rules c.args.path.now.bytes c.args.path.now.is_dir (c.in_ok-matches_into.ensures.each is.place c.in-Some.last is.at)

pub returns-in-Some : goal.returns-in-Some
returns-in-Some c =
    let lists = seen c.args.line.now.asked.now.lists.now in
    let rules = c.args.line.now.asked.now.rules in
    let path = c.args.path.now in
    let found = c.matches_into.new.found.items in
    let are = c.in_ok-matches_into.ensures in
    let last = c.in-Some.last in
    let is = last_of (goal.at.returns-in-Some c).In-Some in
    let left = last_is_left lists c.args.line.now.pair path.bytes path.is_dir rules found are last is in
    let there = stands lists last rules path.bytes path.is_dir (are.each is.place last is.at) in
    let sign = sign_of lists last there c.is_negative.result (c.is_negative.ensures there.0 there.1) in
    let stays = sign_stays lists (c.args.line.now.pair ∷ []) path.bytes path.is_dir rules last (last.0, rank (is_among (c.args.line.now.pair ∷ []) last.0) 0 last.1) left in (
      Some (last.0, rank (is_among (c.args.line.now.pair ∷ []) last.0) 0 last.1),
      last_decides lists c.args.line.now.pair path.bytes path.is_dir rules found are last is,
      (λ h. stays.0 (sign.0 h), λ h. sign.1 (stays.1 h)),
    )

pub returns-in-None : goal.returns-in-None
returns-in-None c =
    let lists = seen c.args.line.now.asked.now.lists.now in
    let path = c.args.path.now in
    let only = subst (λ found. (x : ℕ) (by : ℕ × ℕ) → slice_get found x ≡ Some by → by ≡ c.args.line.now.pair) c.deref.ensures.value c.in-None.ensures in
    (None, none_left lists c.args.line.now.pair path.bytes path.is_dir c.args.line.now.asked.now.rules c.matches_into.new.found.items c.in_ok-matches_into.ensures only, (λ h. absurd (false≢true h), λ h. absurd h))
