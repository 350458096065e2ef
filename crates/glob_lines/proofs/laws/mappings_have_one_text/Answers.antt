-- The entries and the base are the same for both.
use Rattle.std.proofs.Common.{◌≡◌, [], sym, subst, ◌∙◌}
use Rattle.glob_lists.specs.Rules.{by_crate}
use Rattle.glob_lines.specs.Lines.{WritesLines}
use Rattle.glob_lines.specs.Mappings.{WritesNumbers}
use Rattle.glob_lines.specs.PathLines.{WritesForPath}
use Rattle.glob_lines.proofs.lemmas.OneText.{base_once, for_path_once, numbers_once, text_once}
use Rattle.glob_lines.proofs.laws.mappings_have_one_text.Goals as goal

pub returns : goal.returns
returns c source root case input text other x y =
    let entries : y.entries ≡ x.entries =
    (c.plain_entries_are_these.ensures (record {}) [] input.patterns y.entries).0 y.meant
    ∙ sym ((c.plain_entries_are_these.ensures (record {}) [] input.patterns x.entries).0 x.meant) in
    let base : y.base ≡ x.base = base_once source root y.base x.base y.based x.based in
    let matches : WritesLines (WritesForPath (WritesNumbers x.entries x.base (by_crate case))) input.paths other =
    subst (λ b. WritesLines (WritesForPath (WritesNumbers x.entries b (by_crate case))) input.paths other) base
    (subst (λ es. WritesLines (WritesForPath (WritesNumbers es y.base (by_crate case))) input.paths other) entries y.matches) in
    text_once (WritesForPath (WritesNumbers x.entries x.base (by_crate case))) (for_path_once (WritesNumbers x.entries x.base (by_crate case)) (numbers_once x.entries x.base (by_crate case)))
    input.paths text other x.matches matches
