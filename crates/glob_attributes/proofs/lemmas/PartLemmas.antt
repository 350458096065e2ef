-- Parts of texts, and parts of parts.
use Rattle.std.proofs.Common.{◌∙◌, ℕ, ◌+◌, List, Option, None, Some, ap, arith}
use Rattle.std.specs.Borrow.{Bor, MutBor}
use Rattle.glob_attributes.specs.Borrowed.{place_of}
use Rattle.glob_attributes.specs.Places.{IsPartOf}

pub part_of_part : (text middle bytes : Bor (List ℕ)) → IsPartOf text middle → IsPartOf middle bytes → IsPartOf text bytes
part_of_part text middle bytes inner outer = record {
  place = outer.place + inner.place;
  begins = inner.begins
      ∙ ap (λ (at : ℕ × ℕ). (at.0, at.1 + inner.place)) outer.begins
      ∙ ap (λ n. (bytes.ref_ptr.0, n)) (omega arith);
  inside = omega (arith, inner.inside, outer.inside);
}

-- what lies in a part of a line, or in a memory
pub part_of_place : (spelled : Option (List ℕ)) (memory : MutBor (List ℕ)) (text part line : Bor (List ℕ)) → IsPartOf part line
    → IsPartOf text (place_of spelled memory part) → IsPartOf text (place_of spelled memory line)
part_of_place None memory text part line outer inner = part_of_part text part line inner outer
part_of_place (Some bytes) memory text part line outer inner = inner
