-- Told paths that are names without an unusual byte.
use Rattle.std.proofs.Common.{◌≡◌, ◌≢◌, inl, inr, ℕ, zero, suc, ◌+◌, ◌-◌, ◌<◌, ◌≤◌, Bool, true, false, List, [], ◌∷◌, length, ap, ap₂, sym, ◌∙◌, refl, subst, arith}
use Rattle.std.specs.Prelude.{◌||◌, if◌then◌else◌, Some, slice_index}
use Rattle.std.specs.List.{list_any}
use Rattle.std.specs.Str.{byte}
use Rattle.std.proofs.lemmas.Bool.{cases_lt, false≢true, ne_eqb}
use Rattle.std.proofs.lemmas.Grind.{common_steps}
use Rattle.std.proofs.lemmas.List.Elements.{All-from_get_or}
use Rattle.std.proofs.lemmas.List.Folds.{list_any_none}
use Rattle.git_paths.specs.declared.quoting.Quoting.{Quoting}
use Rattle.git_paths.specs.declared.quoting.Quoting.TheVariants.{AsciiOnly, Full}
use Rattle.git_paths.specs.Paths.{AreNames, below, is_slash, names_folder, parts_of, walk}
use Rattle.git_paths.specs.Quoting.{is_unusual}
use Rattle.git_paths.specs.Private.Usual.{BeginAsNames, HasNoneOdd, HasNoneUnusual, begins_no_name, is_odd}
use Rattle.git_paths.proofs.lemmas.NameLemmas.{are_names, names_are, names_lead_below}

-- what a byte that isn't odd is not
record IsEven (before b : ℕ) : Type 0 where
  pub usual : is_unusual Full b ≡ false
  pub begins : begins_no_name before b ≡ false

neither : (x y : Bool) → (x || y) ≡ false → (x ≡ false) × (y ≡ false)
neither true y is = absurd (false≢true (sym is))
neither false y is = (refl, is)

both_false : (x y : Bool) → x ≡ false → y ≡ false → (x || y) ≡ false
both_false true y is other = is
both_false false y is other = other

otherwise : (c x : Bool) → c ≡ false → x ≡ true → (if c then false else x) ≡ true
otherwise true x other is = absurd (false≢true (sym other))
otherwise false x other is = is

-- runs that follow one another, or overlap
pub both_runs : (told : List ℕ) (i j m n : ℕ) → HasNoneOdd told i j → HasNoneOdd told m n → m ≤ j → HasNoneOdd told i n
both_runs told i j m n first second meet k from to = elim (cases_lt k j) [
  | inl early ↦ first k from early
  | inr late ↦ second k (omega arith) to
]

pub both_usual_runs : (told : List ℕ) (i j m n : ℕ) → HasNoneUnusual told i j → HasNoneUnusual told m n → m ≤ j → HasNoneUnusual told i n
both_usual_runs told i j m n first second meet k from to = elim (cases_lt k j) [
  | inl early ↦ first k from early
  | inr late ↦ second k (omega arith) to
]

-- what is usual where names are quoted in full is usual otherwise, too
usual_by : (quoting : Quoting) (b : ℕ) → is_unusual Full b ≡ false → is_unusual quoting b ≡ false
usual_by Full b usual = usual
usual_by AsciiOnly b usual = grind (arith, common_steps)

pub none_unusual_by : (quoting : Quoting) (name : List ℕ) → list_any (is_unusual Full) name ≡ false → list_any (is_unusual quoting) name ≡ false
none_unusual_by quoting [] none = refl
none_unusual_by quoting (b ∷ name) none =
    let each = neither (is_unusual Full b) (list_any (is_unusual Full) name) none in
    both_false (is_unusual quoting b) (list_any (is_unusual quoting) name) (usual_by quoting b each.0) (none_unusual_by quoting name each.1)

pub has_no_unusual : (quoting : Quoting) (name : List ℕ) → HasNoneUnusual name 0 (length name) → list_any (is_unusual quoting) name ≡ false
has_no_unusual quoting name none =
    none_unusual_by quoting name (list_any_none (is_unusual Full) name (All-from_get_or (λ b. is_unusual Full b ≡ false) name 0 (λ i inside. none i (omega arith) inside)))

-- bytes of which none is unusual, and before which names begin
pub none_odd : (told : List ℕ) (i j : ℕ) → HasNoneUnusual told i j → BeginAsNames told i j → HasNoneOdd told i j
none_odd told i j usual names k from to = both_false (is_unusual Full (slice_index told k)) (begins_no_name (slice_index told (k - 1)) (slice_index told k)) (usual k from to) (names k from to)

even : (before b : ℕ) → is_odd before b ≡ false → IsEven before b
even before b is =
    let each = neither (is_unusual Full b) (begins_no_name before b) is in
    record { usual = each.0; begins = each.1 }

-- none of some bytes is odd, which come behind another one
abbrev AreEven : ℕ → List ℕ → Type 0
AreEven before bytes = (k : ℕ) → k < length bytes → is_odd (slice_index (before ∷ bytes) k) (slice_index bytes k) ≡ false

usual_by_place : (before : ℕ) (bytes : List ℕ) → AreEven before bytes → list_any (is_unusual Full) bytes ≡ false
usual_by_place before [] each = refl
usual_by_place before (b ∷ bytes) each =
    let first = even before b (each 0 (omega arith)) in
    let later = usual_by_place b bytes (λ k inside. each (suc k) (omega (arith, inside))) in
    both_false (is_unusual Full b) (list_any (is_unusual Full) bytes) first.usual later

names_by_place : (before : ℕ) (bytes : List ℕ) → AreEven before bytes → is_slash (slice_index (before ∷ bytes) (length bytes)) ≡ false → are_names (is_slash before) bytes ≡ true
names_by_place before [] each last = rw last refl
names_by_place before (b ∷ bytes) each last =
    let first = even before b (each 0 (omega arith)) in
    let later = names_by_place b bytes (λ k inside. each (suc k) (omega (arith, inside))) last in
    otherwise (begins_no_name before b) (are_names (is_slash b) bytes) first.begins later

-- told bytes that come behind no other, as if behind a slash
are_even : (told : List ℕ) → is_odd (byte "/") (slice_index told 0) ≡ false → HasNoneOdd told 1 (length told) → AreEven (byte "/") told
are_even told first behind zero inside = first
are_even told first behind (suc k) inside =
    let back : suc k - 1 ≡ k = omega arith in
    subst (λ m. is_odd (slice_index told m) (slice_index told (suc k)) ≡ false) back (behind (suc k) (omega arith) inside)

last_byte : (told : List ℕ) → 0 < length told → is_slash (slice_index told (length told - 1)) ≡ false → is_slash (slice_index (byte "/" ∷ told) (length told)) ≡ false
last_byte [] some last = absurd (omega (arith, some))
last_byte (b ∷ told) some last =
    let back : length (b ∷ told) - 1 ≡ length told = omega arith in
    subst (λ m. is_slash (slice_index (b ∷ told) m) ≡ false) back last

pub none_unusual : (told : List ℕ) → is_odd (byte "/") (slice_index told 0) ≡ false → HasNoneOdd told 1 (length told) → list_any (is_unusual Full) told ≡ false
none_unusual told first behind = usual_by_place (byte "/") told (are_even told first behind)

pub lead_if_usual : (told : List ℕ) → 0 < length told → is_odd (byte "/") (slice_index told 0) ≡ false → HasNoneOdd told 1 (length told) → slice_index told (length told - 1) ≢ byte "/"
    → (path : List ℕ) → (walk path (parts_of told) ≡ Some (below path told)) × (names_folder false (parts_of told) ≡ false)
lead_if_usual told some first behind last =
    names_lead_below told (names_by_place (byte "/") told (are_even told first behind) (last_byte told some (ne_eqb _ (byte "/") last)))

pub names_if_usual : (told : List ℕ) → 0 < length told → is_odd (byte "/") (slice_index told 0) ≡ false → HasNoneOdd told 1 (length told) → slice_index told (length told - 1) ≢ byte "/" → AreNames (parts_of told)
names_if_usual told some first behind last =
    names_are told (names_by_place (byte "/") told (are_even told first behind) (last_byte told some (ne_eqb _ (byte "/") last)))
