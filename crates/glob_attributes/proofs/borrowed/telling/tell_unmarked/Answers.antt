-- The last word that is left is told.
use Rattle.std.proofs.Common.{◌≡◌, ◌+◌, ◌-◌, ◌<◌, [], false, length, map, reverse, replicate, set, refl, sym, ap, ◌∙◌, arith}
use Rattle.std.proofs.lemmas.List.{length-map, length-set, reverse-append}
use Rattle.glob_attributes.specs.Borrowed.{assigned_by, definition_of, row_of}
use Rattle.glob_attributes.specs.Private.Telling.{unmarked_count}
use Rattle.glob_attributes.specs.declared.borrowed.telling.Text.{Text}
use Rattle.glob_attributes.proofs.lemmas.TellingLemmas.{row_of-set, row_of-taken_at, seen, told-end, told-found, told-more, told-new, unmarked_count-new}
use Rattle.glob_attributes.proofs.borrowed.telling.tell_unmarked.Goals as goal

pub left-init : goal.left-init
left-init c =
    let macros = c.args.macros.now in
    let count = ap unmarked_count c.requires.unmarked ∙ unmarked_count-new (length macros) in
    record {
      told = told-new (map definition_of macros) _ _ c.args.marks.now c.args.name.now (c.requires.unmarked ∙ ap (λ n. replicate n false) (sym (length-map macros definition_of))) refl;
      inside = c.requires.inside;
      room = omega (arith, count);
      long = refl;
    }

pub returns-then-eq-clause-told : goal.returns-then-eq-clause-told
returns-then-eq-clause-told c =
    let macros = c.args.macros.now in
    let texts = c.left.texts in
    let left = c.left.left in
    let before = left - 1 in
    let text : Text = record { bytes = c.in-Some.rest } in
    let a = seen c.split_word-assignment.result in
    let next : left ≡ before + 1 = omega (arith, c.left-test.true) in
    let within : before < length texts = omega (arith, c.left.invariant.inside, c.left-test.true) in
    let taken = row_of-taken_at texts left before text c.in-Some.word.now a next within c.in-Some.ensures c.split_word-assignment.ensures in
    let found = told-found (map definition_of macros) _ c.left.marks (reverse (row_of texts left)) c.args.name.now c.left.invariant.told
    a (reverse (row_of (set texts before text) left)) taken (sym c.eq.ensures ∙ c.if-eq.true) in
    (found.filled, found.filled_in, found.decides)

pub left-preserved-in-Some-put_in : goal.left-preserved-in-Some-put_in
left-preserved-in-Some-put_in c =
    let macros = c.args.macros.now in
    let texts = c.left.texts in
    let left = c.left.left in
    let before = left - 1 in
    let text : Text = record { bytes = c.in-Some.rest } in
    let words : Text = record { bytes = c.in-Some-put_in.words } in
    let fewer = set texts before text in
    let a = seen c.split_word-assignment.result in
    let h = c.left.invariant.told in
    let next : left ≡ before + 1 = omega (arith, c.left-test.true) in
    let within : before < length texts = omega (arith, c.left.invariant.inside, c.left-test.true) in
    let taken = row_of-taken_at texts left before text c.in-Some.word.now a next within c.in-Some.ensures c.split_word-assignment.ensures in
    let long = length-set texts before text in
    let longer = length-set fewer left words in
    let room : left < length fewer = omega (arith, c.left.invariant.inside, long, c.if-left-texts.false) in
    let added = ap reverse (row_of-set fewer left words room) ∙ reverse-append (row_of fewer left) (assigned_by words.bytes.now) in
    record {
      told = told-more (map definition_of macros) _ c.left.marks (reverse (row_of texts left)) c.args.name.now h
          a (reverse (row_of fewer left)) (reverse (assigned_by words.bytes.now)) (reverse (row_of (set fewer left words) (left + 1))) c.put_in.new.marks
          taken (sym c.eq.ensures ∙ c.if-eq.false) (c.in-Some-put_in.ensures.put_in (reverse h.told) h.marked) added (c.in-Some-put_in.ensures.marked (reverse h.told) h.marked);
      inside = omega (arith, room, longer);
      room = omega (arith, c.left.invariant.room, c.in-Some-put_in.ensures.room);
      long = longer ∙ long ∙ c.left.invariant.long;
    }

pub left-preserved : goal.left-preserved
left-preserved c =
    let macros = c.args.macros.now in
    let texts = c.left.texts in
    let left = c.left.left in
    let before = left - 1 in
    let text : Text = record { bytes = c.in-Some.rest } in
    let fewer = set texts before text in
    let a = seen c.split_word-assignment.result in
    let h = c.left.invariant.told in
    let next : left ≡ before + 1 = omega (arith, c.left-test.true) in
    let within : before < length texts = omega (arith, c.left.invariant.inside, c.left-test.true) in
    let taken = row_of-taken_at texts left before text c.in-Some.word.now a next within c.in-Some.ensures c.split_word-assignment.ensures in
    let long = length-set texts before text in
    record {
      told = told-more (map definition_of macros) _ c.left.marks (reverse (row_of texts left)) c.args.name.now h
          a (reverse (row_of fewer left)) [] (reverse (row_of fewer left)) c.put_in.new.marks
          taken (sym c.eq.ensures ∙ c.if-eq.false) (c.in_default-put_in.ensures.put_in (reverse h.told) h.marked) refl (c.in_default-put_in.ensures.marked (reverse h.told) h.marked);
      inside = omega (arith, c.left.invariant.inside, long);
      room = omega (arith, c.left.invariant.room, c.in_default-put_in.ensures.room);
      long = long ∙ c.left.invariant.long;
    }

pub returns-clause-told : goal.returns-clause-told
returns-clause-told c =
    let none : c.left.left ≡ 0 = omega (arith, c.left-test.false) in
    let end = told-end (map definition_of c.args.macros.now) _ c.left.marks (reverse (row_of c.left.texts c.left.left)) c.args.name.now c.left.invariant.told
    (ap (λ n. reverse (row_of c.left.texts n)) none) in
    (end.filled, end.filled_in, end.decides)
