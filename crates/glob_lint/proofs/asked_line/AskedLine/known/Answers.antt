-- Up to the end of the base it is known.
use Rattle.std.proofs.Common.{◌≡◌, ◌++◌, true, length, drop, sym, subst}
use Rattle.std.specs.Prelude.{[], ◌∷◌}
use Rattle.std.proofs.lemmas.Bool.Decides.{Decides-eqb}
use Rattle.std.proofs.lemmas.Slice.Eq.{starts_is}
use Rattle.glob_lint.specs.Private.Asking.{NoneIgnoredUpTo, base_at}
use Rattle.glob_lint.specs.Seen.{seen}
use Rattle.glob_lint.specs.Without.{lists_but}
use Rattle.glob_lint.proofs.lemmas.Free.{known_with, known_without}
use Rattle.glob_lint.proofs.asked_line.AskedLine.known.Goals as goal
use Rattle.glob_lint.proofs.asked_line.AskedLine.known.Goals.{After-starts_with}

-- the path begins with the base
joined : (c : After-starts_with) → c.starts_with.result ≡ true → c.args.path.now ≡ base_at (seen c.args.self.now.asked.now.lists.now) c.args.self.now.pair.0 ++ drop (length c.base_of-base.result.now) c.args.path.now
joined c told =
    let base = c.base_of-base.result.now in
    let front = (starts_is Decides-eqb c.args.path.now base c.starts_with.result c.starts_with.ensures.value).0 told in
    subst (λ b. c.args.path.now ≡ b ++ drop (length base) c.args.path.now) c.base_of-base.ensures front

pub returns-then-starts_with-clause-with : goal.returns-then-starts_with-clause-with
returns-then-starts_with-clause-with c =
    let line = c.args.self.now in
    let lists = seen line.asked.now.lists.now in
    let at = (goal.at.returns-then-starts_with-clause-with c).After-starts_with in
    subst (λ b. NoneIgnoredUpTo lists line.asked.now.rules c.args.path.now (length b)) (sym c.base_of-base.ensures)
    (known_with lists line.asked.now.rules line.pair c.args.path.now (drop (length c.base_of-base.result.now) c.args.path.now) (joined at c.if-starts_with.true) (line.free c.if-self.true))

pub returns-then-starts_with-clause-without : goal.returns-then-starts_with-clause-without
returns-then-starts_with-clause-without c =
    let line = c.args.self.now in
    let lists = seen line.asked.now.lists.now in
    let at = (goal.at.returns-then-starts_with-clause-without c).After-starts_with in
    subst (λ b. NoneIgnoredUpTo (lists_but (line.pair ∷ []) 0 lists) line.asked.now.rules c.args.path.now (length b)) (sym c.base_of-base.ensures)
    (known_without lists line.asked.now.rules line.pair c.args.path.now (drop (length c.base_of-base.result.now) c.args.path.now) (joined at c.if-starts_with.true) (line.free c.if-self.true))
