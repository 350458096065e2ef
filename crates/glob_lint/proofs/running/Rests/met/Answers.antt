-- A star takes nothing, or both tokens take a byte.
use Rattle.std.proofs.Common.{inl, inr, [], sym, ◌∙◌}
use Rattle.glob_matcher.specs.Matching.{Lang}
use Rattle.glob_lint.specs.Private.Rows.{row_of}
use Rattle.glob_lint.proofs.lemmas.Running.{both_taken, dirs_takes_none, free_takes_none, local_takes_none, star_passed}
use Rattle.glob_lint.proofs.running.Rests.met.Goals as goal

pub returns-in-Local : goal.returns-in-Local
returns-in-Local c =
    let x = c.in_ok-right.ensures in
    let none : Lang c.args.way x.token [] = elim c.in-Local.is [
      | inl local ↦ local_takes_none c.args.way x.token (sym local ∙ x.same_kind)
      | inr other ↦ elim other [
        | inl free ↦ free_takes_none c.args.way x.token (sym free ∙ x.same_kind)
        | inr dirs ↦ dirs_takes_none c.args.way x.token (sym dirs ∙ x.same_kind)
      ]
    ] in
    star_passed c.args.way (row_of c.args.self.now.left) (row_of c.args.self.now.right) (row_of c.in_ok-right.right.after) c.in_ok-right.right.kind x none

pub returns : goal.returns
returns c =
    let x = c.in_ok-left.ensures in
    let y = c.in_ok-right.ensures in
    both_taken c.args.way (row_of c.args.self.now.left) (row_of c.in_ok-left.left.after) (row_of c.args.self.now.right) (row_of c.in_ok-right.right.after)
    c.in_ok-left.left.kind c.in_ok-right.right.kind x y
    (c.is_of_one_byte.ensures c.args.way x.token x.same_kind c.if-not-is_of_one_byte.false)
    (c.takes.ensures (row_of c.in_ok-left.left.after) (row_of c.in_ok-right.right.after) x y c.if-not-takes.false)
