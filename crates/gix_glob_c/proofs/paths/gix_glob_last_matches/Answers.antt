-- The path at a place is told behind those before it.
use Rattle.std.proofs.Common.{◌≡◌, ◌∷◌, ◌++◌, ◌+◌, ◌<◌, ◌∙◌, ℕ, false, List, [], length, take, slice_index_or, slice_set, sym, subst, arith}
use Rattle.std.specs.List.{AllZip}
use Rattle.std.proofs.lemmas.List.{drop-set-lt, length-set, take_all, take_more, take_more_set}
use Rattle.gix_glob_c.specs.declared.paths.GlobPath.{GlobPath}
use Rattle.gix_glob_c.specs.Lists.{IsToldOf}
use Rattle.gix_glob_c.proofs.lemmas.Zipped.{AllZip-more}
use Rattle.gix_glob_c.proofs.paths.gix_glob_last_matches.Goals as goal

abbrev blank : GlobPath
blank = record { bytes = record { ref_ptr = (0, 0); now = [] }; is_dir = false }

pub paths-preserved : goal.paths-preserved
paths-preserved c =
    let i = c.paths.i in
    let paths = c.args.paths.now in
    let places = c.paths.places in
    let place = c.last_match_of.result in
    let R : GlobPath → ℕ → Type 0 = IsToldOf c.args.list.now c.args.fold in
    let within : i < length paths = omega arith in
    let room : i < length places = omega (arith, c.paths.invariant.long) in
    let more = AllZip-more R (take i paths) (take i places) (slice_index_or paths i blank) place c.paths.invariant.told c.last_match_of.ensures in record {
      long = length-set places i place ∙ c.paths.invariant.long;
      rest = drop-set-lt (length paths) places i place within ∙ c.paths.invariant.rest;
      told = subst (λ (xs : List GlobPath). AllZip R xs (take (i + 1) (slice_set places i place))) (sym (take_more paths i blank within))
          (subst (λ (ys : List ℕ). AllZip R (take i paths ++ slice_index_or paths i blank ∷ []) ys) (sym (take_more_set places i place room)) more);
    }

pub returns-clause-told : goal.returns-clause-told
returns-clause-told c = λ _.
    let paths = c.args.paths.now in
    let R : GlobPath → ℕ → Type 0 = IsToldOf c.args.list.now c.args.fold in
    let all : c.paths.i ≡ length paths = omega arith in
    let told = subst (λ (n : ℕ). AllZip R (take n paths) (take n c.paths.places)) all c.paths.invariant.told in
    subst (λ (xs : List GlobPath). AllZip R xs (take (length paths) c.paths.places)) (take_all (length paths) paths (omega arith)) told
