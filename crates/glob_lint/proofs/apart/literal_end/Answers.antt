-- A byte more, or the bytes begin anew; at the end they are what is left of the text.
use Rattle.std.proofs.Common.{ℕ, ◌-◌, length, drop, take_all, sym, subst, length-drop, arith}
use Rattle.glob_lint.specs.Private.Ends.{EndsIn, IsBareSince}
use Rattle.glob_lint.specs.Private.Rows.{row_of}
use Rattle.glob_lint.proofs.lemmas.Ends.{bare_anew, bare_ends, bare_more}
use Rattle.glob_lint.proofs.apart.literal_end.Goals as goal
use Rattle.glob_lint.proofs.apart.literal_end.Goals.{then-not-is_bare_byte, else-not-is_bare_byte}

pub tokens-preserved : goal.tokens-preserved
tokens-preserved c =
    let way = c.args.way in
    let row = row_of c.args.tokens in
    let later = row_of c.tokens.left in
    let after = row_of c.in-Some.next.after in
    elim c.if-not-is_bare_byte.branch [
      | then-not-is_bare_byte w ↦ subst (λ (n : ℕ). IsBareSince way row after n) (sym w.from-is)
          (bare_anew way row later after c.tokens.from c.in-Some.next.kind c.tokens.invariant c.in-Some.ensures c.tokens.left.inside)
      | else-not-is_bare_byte w ↦ subst (λ (n : ℕ). IsBareSince way row after n) (sym w.from-is)
          (bare_more way row later after c.tokens.from c.in-Some.next.kind c.tokens.invariant c.in-Some.ensures (c.is_bare_byte.ensures w.if-not-is_bare_byte.false))
    ]

pub returns : goal.returns
returns c =
    let text = c.args.tokens.text.now in
    let n = c.tokens.from in
    let all = take_all (length text - n) (drop n text) (omega (arith, length-drop n text)) in
    subst (EndsIn c.args.way (row_of c.args.tokens)) (sym all)
    (bare_ends c.args.way (row_of c.args.tokens) (row_of c.tokens.left) n c.tokens.invariant c.in_default.ensures)
