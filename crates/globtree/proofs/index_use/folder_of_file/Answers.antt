use Rattle.std.proofs.Common.{None, Some, sym, ◌∙◌}
use Rattle.std.proofs.lemmas.Bool.Decides.{Decides-eqb}
use Rattle.std.proofs.lemmas.Slice.Eq.{strip_suffix_is}
use Rattle.globtree.proofs.lemmas.IndexLemmas.{file_of_folder, file_of_top, no_bytes, no_file, some_bytes}
use Rattle.globtree.proofs.index_use.folder_of_file.Goals as goal

pub returns-in_default : goal.returns-in_default
returns-in_default c = no_file c.args.path.now c.args.name.now (strip_suffix_is Decides-eqb c.args.path.now c.args.name.now None c.in_default.ensures.cases)

pub returns-then-is_empty : goal.returns-then-is_empty
returns-then-is_empty c =
    let ends = strip_suffix_is Decides-eqb c.args.path.now c.args.name.now (Some c.in-Some.front) c.in-Some.ensures.cases in
    file_of_top c.args.path.now c.args.name.now c.in-Some.front.now ends (no_bytes c.in-Some.front.now (sym c.is_empty.ensures ∙ c.if-is_empty.true))

pub returns : goal.returns
returns c =
    let ends = strip_suffix_is Decides-eqb c.args.path.now c.args.name.now (Some c.in-Some.front) c.in-Some.ensures.cases in
    file_of_folder c.args.path.now c.args.name.now c.in-Some.front.now c.strip_suffix-2.result ends (some_bytes c.in-Some.front.now (sym c.is_empty.ensures ∙ c.if-is_empty.false)) (strip_suffix_is Decides-eqb c.in-Some.front.now _ c.strip_suffix-2.result c.strip_suffix-2.ensures.cases)
