-- Each record goes on what was read and written before it.
use Rattle.std.proofs.Common.{◌≡◌, ◌++◌, ◌∷◌, List, ℕ, [], Option, drop, length, sym, subst, rules}
use Rattle.std.proofs.lemmas.List.{take-append-drop}
use Rattle.byte_streams.specs.Progress.{IsUnderWay}
use Rattle.byte_streams.specs.Watched.{inner}
use Rattle.globtree.proofs.lemmas.WayLemmas.{way_grows}
use Rattle.globtree.proofs.explain.answer_records.Goals as goal

pub records-init : goal.records-init
records-init g c =
    let reader = g.I.Read.remaining (inner c.args.input.now) in
    let writer = g.O.Write.contents (inner c.args.output.now) in
    let end = c.end.result in
    let way : IsUnderWay end c.new-records.result c.new-text.result.items reader reader writer writer [] [] =
    subst (λ text. IsUnderWay end c.new-records.result text reader reader writer writer [] []) (sym c.new-text.ensures.items) (c.new-records.ensures reader writer) in
    record { readable = c.requires.readable; writable = c.requires.writable; way = (_, _, _, _, _, way) }

pub next-requires-clause-under_way : goal.next-requires-clause-under_way
next-requires-clause-under_way g c = c.records.invariant.way

pub records-preserved : goal.records-preserved
records-preserved g c =
    let way = c.records.invariant.way in
    let next = c.in_ok-next.ensures.gives c.if-branch.true way.0 way.1 way.2 way.3 way.4 way.5 in
    let text = c.next.new.text.items in
    let new = c.answer_record.new.text.items in
    let grown : text ++ drop (length text) new ≡ new =
    subst (λ t. t ++ drop (length text) new ≡ new) c.answer_record.ensures (take-append-drop (length text) new) in
    let more = way_grows _ _ text (drop (length text) new) _ _ _ _ _ _ next in
    let given = way.3 ++ c.next.new.bytes.items ∷ [] in
    let all = way.4 ++ drop (length text) new in
    let way_of : List ℕ → Type 0 = λ t. IsUnderWay way.0 c.next.new.self t way.1 (g.I.Read.remaining (inner c.next.new.reader)) way.2 (g.O.Write.contents (inner c.next.new.writer)) given all in
    record {
      readable = search rules;
      writable = search rules;
      way = (way.0, way.1, way.2, given, all, subst way_of grown more);
    }
