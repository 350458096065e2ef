use Rattle.glob_lists.specs.Rules.{by_crate}
use Rattle.glob_lines.specs.Decisions.{WritesDecision}
use Rattle.glob_lines.specs.PathLines.{WritesForPath}
use Rattle.glob_lines.proofs.lemmas.OneText.{decision_once, for_path_once, text_once}
use Rattle.glob_lines.proofs.laws.decisions_have_one_text.Goals as goal

pub returns : goal.returns
returns g c lists case paths text other =
    text_once (WritesForPath (WritesDecision lists (by_crate case)))
    (for_path_once (WritesDecision lists (by_crate case)) (decision_once lists (by_crate case) (λ path is_dir. c.decides_one_pair.ensures lists path is_dir (by_crate case)))) paths text other
