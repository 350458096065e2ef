-- The topmost ignored folder above a path, looked for from the front.
use Rattle.std.proofs.Common.{◌≡◌, ⊎_elim, ℕ, ◌+◌, ◌<◌, ◌≤◌, List, length, take, ap, refl, subst, ◌∙◌, arith}
use Rattle.std.proofs.lemmas.Bool.{cases_lt}
use Rattle.std.proofs.lemmas.List.{length-take-le}
use Rattle.glob_lists.specs.declared.rules.Rules.{Rules}
use Rattle.gix_glob.specs.Bytes.{HasByte, slash}
use Rattle.gix_glob.specs.EntryLists.{EntryList}
use Rattle.glob_trees.specs.Trees.{HasNoneIgnored, Ignores, IsAbove, IsBelowIgnored}
use Rattle.glob_trees.proofs.lemmas.Folders.{above_above, above_is_front, above_is_shorter, above_slash, slash_below}

module _ {V : Type 0} (lists : List (EntryList V)) (rules : Rules) (path : List ℕ) where
  -- no folder that ends before the place is ignored
  abbrev pub NoneIgnoredBefore : ℕ → Type 0
  NoneIgnoredBefore place = (folder : List ℕ) (pair : ℕ × ℕ) → IsAbove folder path → length folder < place → ¬ Ignores lists rules folder pair

  module _ (place : ℕ) (none : NoneIgnoredBefore place) where
    pub topmost_here : (pair : ℕ × ℕ) → HasByte path place slash → Ignores lists rules (take place path) pair → (by : IsBelowIgnored lists rules path pair) × (by.folder ≡ take place path) × HasByte path place slash
    topmost_here pair here ignored =
        let above = above_slash path place here in
        let inside : place < length path = here.inside in (
          record {
            folder = take place path;
            above = above;
            ignored = ignored;
            topmost = λ top by higher.
                let shorter = above_is_shorter top (take place path) higher in
                none top by (above_above top (take place path) path higher above) (omega (arith, shorter, length-take-le place path (omega arith)));
          },
          refl,
          here,
        )

    -- a folder that ends up to the place ends before it, or there
    one_more : ((folder : List ℕ) (pair : ℕ × ℕ) → IsAbove folder path → length folder ≡ place → ¬ Ignores lists rules folder pair) → NoneIgnoredBefore (place + 1)
    one_more here folder pair above less ignored = ⊎_elim
        (λ (before : length folder < place). none folder pair above before ignored)
        (λ (from : place ≤ length folder). here folder pair above (omega (arith, less)) ignored)
        (cases_lt (length folder) place)

    pub passed_slash : ((pair : ℕ × ℕ) → ¬ Ignores lists rules (take place path) pair) → NoneIgnoredBefore (place + 1)
    passed_slash kept = one_more (λ folder pair above level ignored.
        kept pair (subst (λ f. Ignores lists rules f pair) (above_is_front folder path above ∙ ap (λ n. take n path) level) ignored))

    pub passed_byte : ¬ HasByte path place slash → NoneIgnoredBefore (place + 1)
    passed_byte other = one_more (λ folder pair above level ignored. other (subst (λ n. HasByte path n slash) level (slash_below folder path above)))

    pub all_passed : length path ≤ place → HasNoneIgnored lists rules path
    all_passed past folder pair above = let shorter = above_is_shorter folder path above in none folder pair above (omega (arith, shorter))
