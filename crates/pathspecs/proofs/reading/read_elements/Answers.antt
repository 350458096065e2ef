use Rattle.std.proofs.Common.{◌≡◌, ℕ, List, [], ◌∷◌, ◌++◌, take, true, rules, map, length, codes, sym, ap, ◌∙◌}
use Rattle.std.proofs.lemmas.Iterator.Search.{all_from_yields_List}
use Rattle.std.proofs.lemmas.Iterator.{YieldsList-from_slice}
use borrow.Author.Tests.{tests}
use Rattle.std.specs.Prelude.{if◌then◌else◌}
use Rattle.std.specs.List.{list_all}
use Rattle.std.specs.Result.{result_ok}
use Rattle.pathspecs.specs.declared.settings.Settings.{Settings}
use Rattle.pathspecs.specs.Elements.{PathspecItem}
use Rattle.pathspecs.specs.Reading.{counted, item_of}
use Rattle.pathspecs.proofs.lemmas.ReadLemmas.{reads_here}
use Rattle.pathspecs.proofs.reading.read_elements.Goals as goal
use Rattle.pathspecs.proofs.reading.read_elements.Goals.{then-is_empty, else-is_empty}

pub returns-clause-read : goal.returns-clause-read
returns-clause-read c =
    let same : c.if-is_empty.settings ≡ counted c.args.settings (length c.args.words.now) = elim c.if-is_empty.branch [ then-is_empty w ↦ search rules | else-is_empty w ↦ search rules ] in
    let all : c.all.result ≡ list_all (λ (item : PathspecItem). item.magic.exclude) c.in_ok-elements.elements.items =
    all_from_yields_List (λ (item : PathspecItem). item.magic.exclude) _ _ _ c.all.ensures.ran (YieldsList-from_slice c.in_ok-elements.elements.items (search rules)) (λ x b q k. search (rules, tests)) in
    let tested : list_all (λ (item : PathspecItem). item.magic.exclude) c.in_ok-elements.elements.items ≡ true = search (rules, all) in
    let own : List (List ℕ) = map (λ word. word.now) c.args.words.now in
    let asked : List (List ℕ) = own ++ (if list_all (λ (item : PathspecItem). item.magic.exclude) (take (length own) c.push.new.elements.items) then codes "." ∷ [] else []) in
    reads_here (item_of c.args.standpoint.now c.if-is_empty.settings) (λ item. item.magic.exclude) own c.in_ok-elements.elements.items c.push.new.elements.items (codes ".") c.in-Ok.here
    c.in_ok-elements.ensures.read tested (sym (ap result_ok c.in-Ok.is) ∙ c.in_ok-here.ensures) c.in_ok-push-in-Ok.ensures
    ∙ ap (λ (s : Settings). map (item_of c.args.standpoint.now s) asked) same
