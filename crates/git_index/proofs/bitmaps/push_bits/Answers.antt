use Rattle.std.proofs.Common.{◌≡◌, ◌+◌, ◌-◌, ◌<◌, ◌≤◌, ◌++◌, ◌∙◌, ℕ, true, length, take, replicate, ap, arith, inr}
use Rattle.git_index.proofs.lemmas.Marks.{run_is, run_past}
use Rattle.git_index.proofs.bitmaps.push_bits.Goals.{else-bit-via-then-bit+else-len-room, else-bit-via-else-bit}
use Rattle.git_index.proofs.bitmaps.push_bits.Goals as goal

pub returns-then-len-room : goal.returns-then-len-room
returns-then-len-room c =
    let marks = c.args.marks.now in
    let past : c.args.count - length marks.items < c.args.len = omega (arith, marks.ok.0) in
    inr (rw c.if-bit.true (run_past c.args.count marks.items c.args.len past))

pub returns : goal.returns
returns c =
    let marks = c.args.marks.now in
    let all = c.len-2.result + c.min.result in
    let fits : c.args.bit ≡ true → c.args.len ≤ c.args.count - length marks.items =
    λ set. elim c.else-bit.branch [
      | else-bit-via-then-bit+else-len-room w ↦ omega (arith, w.if-len-room.false, marks.ok.0)
      | else-bit-via-else-bit w ↦ let unset = w.if-bit.false in absurd cc
    ] in
    run_is c.args.count marks.items c.args.len c.args.bit all c.resize.new.self.items fits (omega (arith, marks.ok.0)) (c.in_ok-resize.ensures.items ∙ ap (λ (n : ℕ). take all marks.items ++ replicate (all - n) c.args.bit) marks.ok.0)
