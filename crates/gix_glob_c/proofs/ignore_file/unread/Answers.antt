-- What the mark leaves ends where the bytes end.
use Rattle.std.proofs.Common.{◌≤◌, length, sym, subst, List, ℕ}
use Rattle.gix_glob_c.proofs.lemmas.PlacesLemmas.{mark_shorter, part_at_end}
use Rattle.gix_glob_c.proofs.ignore_file.unread.Goals as goal

pub returns-then-lines-eq0-clause-part : goal.returns-then-lines-eq0-clause-part
returns-then-lines-eq0-clause-part c =
    let rest = c.args.lines.now.rest in
    part_at_end c.without_byte_order_mark.result rest c.without_byte_order_mark.ensures.place
    (subst (λ (bytes : List ℕ). length bytes ≤ length rest.now) (sym c.without_byte_order_mark.ensures.bytes) (mark_shorter rest.now))
