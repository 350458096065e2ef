-- The text of the pattern is a part of what it was read of, and so of the head.
use Rattle.std.proofs.Common.{subst, sym, arith}
use Rattle.glob_attributes.specs.Borrowed.{GivesParts, LieIn}
use Rattle.glob_attributes.proofs.lemmas.PartLemmas.{part_of_part}
use Rattle.gix_glob_c.specs.Places.{IsPartOf}
use Rattle.gix_glob_c.proofs.lemmas.PlacesLemmas.{attribute_read_before}
use Rattle.gix_glob_c.proofs.attribute_file.write_parts.Goals as goal

pub part_of-requires : goal.part_of-requires
part_of-requires c =
    let gives = subst (GivesParts c.args.reading c.requires.0) c.in-Pattern.is c.requires.1 in
    attribute_read_before c.args.reading c.in-Pattern.bytes.now _ _ _ gives.1

pub returns-in-Pattern-clause-lies : goal.returns-in-Pattern-clause-lies
returns-in-Pattern-clause-lies c = λ head line lies.
    let lie = subst (LieIn head line) c.in-Pattern.is lies in
    record {
      pattern_lies = λ pattern. (
        subst (λ text. IsPartOf text head) (sym c.parts_of.ensures.lies) (part_of_part _ c.in-Pattern.bytes head c.part_of.ensures.place lie.0),
        lie.1,
      );
      macro_lies = λ same. absurd (omega (arith, same));
    }
