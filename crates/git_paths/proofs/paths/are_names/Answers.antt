use Rattle.std.proofs.Common.{suc, false, drop, get_or, ap, ◌∙◌}
use Rattle.std.specs.Prelude.{if◌then◌else◌}
use Rattle.std.proofs.Math.Seq.{drop-cons}
use Rattle.std.proofs.lemmas.List.{drop_all}
use native.Mathlib.Numerals.{unary_clauses}
use Rattle.git_paths.proofs.lemmas.NameLemmas.{are_names, are_names-ended, are_names-step, names_lead_below}
use Rattle.git_paths.proofs.paths.are_names.Goals as goal

pub bytes-preserved : goal.bytes-preserved
bytes-preserved c =
    let told = c.args.told.now in
    let at = c.bytes.byte-index in
    simp unary_clauses (
    c.bytes.invariant
    ∙ (ap (λ rest. if c.bytes.is_other then false else are_names c.bytes.is_start rest) (drop-cons told at 0 c.bytes-test.true)
    ∙ are_names-step c.bytes.is_other c.bytes.is_start (get_or told at 0) (drop (suc at) told)))

pub returns : goal.returns
returns c = λ ended path.
    let told = c.args.told.now in
    let none = drop_all c.bytes.byte-index told c.bytes-test.false in
    names_lead_below told (c.bytes.invariant ∙ are_names-ended c.bytes.is_other c.bytes.is_start (drop c.bytes.byte-index told) none ended) path
