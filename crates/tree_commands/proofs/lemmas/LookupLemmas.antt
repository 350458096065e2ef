-- What a listing looks up: the entries that count where it is told.
use Rattle.std.proofs.Common.{◌≡◌, ℕ, ◌==◌, Bool, true, false, cond, List, [], ◌∷◌, Some, length, nat_eq, refl, sym, ap, ◌∙◌, arith}
use Rattle.std.specs.List.{starts_with}
use Rattle.std.proofs.lemmas.Bool.{eqb-true}
use Rattle.git_index.specs.Entries.{Tracked, starting_with}
use Rattle.git_paths.specs.Paths.{names_folder, parts_of}
use Rattle.git_paths.specs.Standpoints.{led}
use Rattle.tree_commands.specs.declared.files.Listing.{Listing}
use Rattle.tree_commands.specs.Listings.{asked_basis, counted, told_in}
use Rattle.tree_commands.specs.Lookups.{LookedUp}

begins_so : (path : List ℕ) → starts_with nat_eq path [] ≡ true
begins_so [] = refl
begins_so (b ∷ path) = refl

-- all count at the top
all_count : (entries : List Tracked) → entries ≡ starting_with [] entries
all_count [] = refl
all_count (e ∷ entries) =
    ap (λ (w : List Tracked). e ∷ w) (all_count entries)
    ∙ ap (λ (w : Bool). cond w (e ∷ starting_with [] entries) (starting_with [] entries)) (sym (begins_so e.path))

pub all_count_at : (folder : List ℕ) (entries : List Tracked) → (length folder == 0) ≡ true → entries ≡ starting_with folder entries
all_count_at [] entries none = all_count entries
all_count_at (b ∷ folder) entries none = let zero_long : length (b ∷ folder) ≡ 0 = eqb-true (length (b ∷ folder)) 0 none in absurd (omega (arith, zero_long))

-- those that count where a path is told that was led to
pub looks_up : (listing : Listing) (told path seen : List ℕ) (is_told : Bool) (tracked part : List Tracked) (looked : LookedUp)
    → led listing.standpoint told ≡ Some path → is_told ≡ names_folder false (parts_of told) → seen ≡ path → part ≡ starting_with (told_in seen is_told) tracked
    → looked ≡ record { case = listing.case; entries = part } → looked ≡ (asked_basis listing told tracked).terms.tracked
looks_up listing told path seen is_told tracked part looked leads is same part-is looks =
    let counts : starting_with (told_in seen is_told) tracked ≡ counted listing.standpoint told tracked = rw (leads, is, same) refl in
    looks ∙ ap (λ (entries : List Tracked). record { case = listing.case; entries = entries }) (part-is ∙ counts)
