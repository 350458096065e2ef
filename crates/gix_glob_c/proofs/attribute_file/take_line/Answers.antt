-- A line was cut off, so there were bytes; and what is answered is none of what says that none was.
use Rattle.std.proofs.Common.{◌≡◌, ⊎_elim, ℕ, List, ◌++◌, length, ap, subst, sym, ◌∙◌, arith}
use Rattle.std.proofs.lemmas.List.{length-append, length-drop}
use Rattle.glob_attributes.specs.Borrowed.{memory_for, place_of, spelled_head}
use Rattle.glob_attributes.proofs.lemmas.MemoryLemmas.{memory_for-short}
use Rattle.glob_attributes.proofs.lemmas.PartLemmas.{part_of_part}
use Rattle.glob_lines.specs.Ignore.{EndsIgnoreLine}
use Rattle.glob_lines.specs.Lines.{CutsLine}
use Rattle.gix_glob_c.proofs.lemmas.PlacesLemmas.{lies_wider}
use Rattle.std.proofs.lemmas.Bool.{false≢true}
use Rattle.glob_lines.proofs.lemmas.IgnoreLemmas.{CutsLine-shorter_by}
use Rattle.gix_glob_c.proofs.attribute_file.take_line.Goals as goal

pub returns-clause-large : goal.returns-clause-large
returns-clause-large c =
    let taken = c.write_parts.ensures.taken in (
      λ same. absurd (omega (arith, taken.1, same)),
      λ large. absurd (false≢true (c.if-is_too_large.ensures ∙ large)),
    )

pub returns-clause-ended : goal.returns-clause-ended
returns-clause-ended c =
    let taken = c.write_parts.ensures.taken in
    let bytes = c.unread-bytes.result.now in
    let shorter = CutsLine-shorter_by bytes c.in-Some.line.now c.in-Some.rest.now c.in-Some.ensures.line in (
      λ same. absurd (omega (arith, taken.0, same)),
      λ ended. (let empty : length bytes ≡ 0 = ap length (c.unread-bytes.ensures.bytes ∙ ended.1) in absurd (omega (arith, shorter, empty))),
    )

pub returns-clause-left : goal.returns-clause-left
returns-clause-left c =
    let taken = c.write_parts.ensures.taken in
    ⊎_elim (λ same. absurd (omega (arith, taken.0, same))) (λ same. absurd (omega (arith, taken.1, same)))

pub returns-in_default-line_parts-clause-room : goal.returns-in_default-line_parts-clause-room
returns-in_default-line_parts-clause-room c = λ enough.
    let line = c.front_part-line.result.now in
    let short = memory_for-short line in
    let in_bytes = c.front_part-line.ensures.place.inside in
    let in_lines = c.unread-bytes.ensures.part.inside in
    let some = c.in_default-line_parts.ensures.room (omega (arith, enough, short, in_bytes, in_lines)) in
    absurd (false≢true some)

pub returns-clause-room : goal.returns-clause-room
returns-clause-room c = λ enough. (
  λ same. (let taken = c.write_parts.ensures.taken in absurd (omega (arith, taken.1, same))),
  (let short = memory_for-short c.front_part-line.result.now in
      let left = c.in-Some-line_parts.ensures.left in
      let cut = c.in-Some.ensures.line in
      let whole = ap length c.front_part-line.ensures.bytes in
      let joined = ap length cut.joined ∙ length-append c.in-Some.line.now (cut.ending ++ c.in-Some.rest.now) in
      let behind = length-append cut.ending c.in-Some.rest.now in
      let shorter = ap length left.bytes ∙ length-drop (memory_for c.front_part-line.result.now) c.args.memory.now.rest.now in
      let in_lines = c.unread-bytes.ensures.part.inside in
      omega (arith, enough, short, whole, joined, behind, shorter, in_lines)),
)

pub returns-clause-memory : goal.returns-clause-memory
returns-clause-memory c = λ taken.
    let lines = c.args.lines.now in
    let line = c.front_part-line.result in
    let memory = c.args.memory.now.rest in
    let bytes = c.unread-bytes.result in
    let inside = part_of_part line bytes lines.rest c.front_part-line.ensures.place c.unread-bytes.ensures.part in
    let lies = c.write_parts.ensures.lies (place_of (spelled_head line.now) memory lines.rest) lines.rest
    (lies_wider c.in-Some-line_parts.parts (spelled_head line.now) memory line lines.rest inside c.in-Some-line_parts.ensures.lies) in
    record {
      line = line.now;
      cut = subst (λ (b : List ℕ). CutsLine EndsIgnoreLine b line.now c.in-Some.rest.now) c.unread-bytes.ensures.bytes
          (subst (λ (l : List ℕ). CutsLine EndsIgnoreLine bytes.now l c.in-Some.rest.now) (sym c.front_part-line.ensures.bytes) c.in-Some.ensures.line);
      left = c.in-Some-line_parts.ensures.left;
      texts = lies;
    }

pub returns-clause-unmoved : goal.returns-clause-unmoved
returns-clause-unmoved c = λ same. (let taken = c.write_parts.ensures.taken in absurd (omega (arith, taken.1, same)))

pub returns-clause-kept : goal.returns-clause-kept
returns-clause-kept c = λ not. absurd (not c.write_parts.ensures.taken)
