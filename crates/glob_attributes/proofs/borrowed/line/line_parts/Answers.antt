-- What is left of the line behind its blanks decides what it gives.
use Rattle.std.proofs.Common.{◌∙◌, ℕ, List, Option, subst, sym}
use Rattle.glob_attributes.specs.Borrowed.{GivesParts, LieIn, place_of, spelled_head}
use Rattle.glob_attributes.specs.Places.{IsPartOf}
use Rattle.glob_attributes.specs.Readings.{Gives}
use Rattle.glob_attributes.specs.Private.Heads.{spelled}
use Rattle.glob_attributes.proofs.lemmas.LineLemmas.{IsInner, gives-macro, gives-nothing, gives-pattern, gives-too_long, spelled-inner}
use Rattle.glob_attributes.proofs.lemmas.PartLemmas.{part_of_part, part_of_place}
use Rattle.glob_attributes.proofs.borrowed.line.line_parts.Goals.{then-is_macro, else-is_macro}
use Rattle.glob_attributes.proofs.borrowed.line.line_parts.Goals as goal

pub returns-then-says_nothing-clause-read : goal.returns-then-says_nothing-clause-read
returns-then-says_nothing-clause-read c =
    sym (gives-nothing c.args.is_top c.args.line.now c.before_zero-text.result.now c.after_blanks-inner.result.now
    (record { text_is = c.before_zero-text.ensures.bytes; inner_is = c.after_blanks-inner.ensures.bytes })
    (sym c.says_nothing.ensures ∙ c.if-says_nothing.true))

pub returns-then-text-ge-LINE_LIMIT-clause-read : goal.returns-then-text-ge-LINE_LIMIT-clause-read
returns-then-text-ge-LINE_LIMIT-clause-read c =
    sym (gives-too_long c.args.is_top c.args.line.now c.before_zero-text.result.now c.after_blanks-inner.result.now
    (record { text_is = c.before_zero-text.ensures.bytes; inner_is = c.after_blanks-inner.ensures.bytes })
    (sym c.says_nothing.ensures ∙ c.if-says_nothing.false) c.if-text-ge-LINE_LIMIT.true)

pub returns-clause-read : goal.returns-clause-read
returns-clause-read c =
    let is_top = c.args.is_top in
    let line = c.args.line.now in
    let head = c.in_ok-head.head.now in
    let rest = c.in_ok-head.rest.now in
    let inner : IsInner line c.before_zero-text.result.now c.after_blanks-inner.result.now = record { text_is = c.before_zero-text.ensures.bytes; inner_is = c.after_blanks-inner.ensures.bytes } in
    let says = sym c.says_nothing.ensures ∙ c.if-says_nothing.false in
    elim c.if-is_macro.branch [
      | then-is_macro w ↦
          subst (GivesParts c.args.reading _) (sym w.result-is)
          (subst (λ (g : Gives). GivesParts c.args.reading g w.macro_parts.result)
          (gives-macro is_top line c.before_zero-text.result.now c.after_blanks-inner.result.now inner head rest says c.if-text-ge-LINE_LIMIT.false
          c.in_ok-head.ensures.read (sym c.is_macro.ensures ∙ w.if-is_macro.true))
          (w.macro_parts.ensures.gives c.args.reading))
      | else-is_macro w ↦
          subst (GivesParts c.args.reading _) (sym w.result-is)
          (subst (λ (g : Gives). GivesParts c.args.reading g w.pattern_parts.result)
          (gives-pattern is_top line c.before_zero-text.result.now c.after_blanks-inner.result.now inner head rest says c.if-text-ge-LINE_LIMIT.false
          c.in_ok-head.ensures.read (sym c.is_macro.ensures ∙ w.if-is_macro.false))
          w.pattern_parts.ensures.gives)
    ]

pub returns-clause-lies : goal.returns-clause-lies
returns-clause-lies c =
    let line = c.args.line in
    let inner : IsInner line.now c.before_zero-text.result.now c.after_blanks-inner.result.now = record { text_is = c.before_zero-text.ensures.bytes; inner_is = c.after_blanks-inner.ensures.bytes } in
    let spells = spelled-inner line.now _ _ inner c.if-text-ge-LINE_LIMIT.false in
    let in_line = part_of_part _ _ line c.after_blanks-inner.ensures.place c.before_zero-text.ensures.place in
    let place = place_of (spelled_head line.now) c.args.memory.now line in
    let head = subst (λ (bytes : Option (List ℕ)). IsPartOf c.in_ok-head.head (place_of bytes c.args.memory.now line)) (sym spells) (part_of_place (spelled c.after_blanks-inner.result.now) c.args.memory.now _ _ line in_line c.in_ok-head.ensures.head) in
    let rest = part_of_part _ _ line c.in_ok-head.ensures.rest in_line in
    elim c.if-is_macro.branch [
      | then-is_macro w ↦ subst (LieIn place line) (sym w.result-is) (w.macro_parts.ensures.lies place line head rest)
      | else-is_macro w ↦ subst (LieIn place line) (sym w.result-is) (w.pattern_parts.ensures.lies place line head rest)
    ]
