-- What an index finds in one list: the places of the entries that answer, in order.
use Rattle.std.proofs.Common.{◌≡◌, ⊎_elim, ℕ, zero, suc, ◌+◌, ◌-◌, ◌<◌, ◌≤◌, Bool, List, [], ◌∷◌, ◌++◌, length, take, Some, refl, sym, ap, subst, ◌∙◌, arith, take_all, append-nil, append_assoc}
use Rattle.std.specs.Prelude.{decimal, slice_get}
use Rattle.std.proofs.lemmas.Bool.{cases_eq, cases_lt}
use Rattle.std.proofs.lemmas.List.{take_more}
use Rattle.std.proofs.lemmas.Option.{get_or_from_slice_get, same_Some, slice_get_within}
use Rattle.glob_lists.specs.declared.rules.Rules.{Rules}
use Rattle.glob_lists.specs.Deciding.{AnswersAt, AnswersUnder, BasesAreFolders, HasFolder}
use Rattle.gix_glob.specs.EntryLists.{EntryList}
use Rattle.glob_lists.specs.Matches.{AreMatches}
use Rattle.glob_lines.specs.Plain.{PlainEntry}
use Rattle.glob_lines.proofs.lemmas.MappingsLemmas.{IsListedUpTo, IsListedUpTo-more, IsListedUpTo-none, IsListedUpTo-skip}

-- ---- the places of the entries of which P holds

-- each of them once, in order
pub record ArePlacesOf (P : PlainEntry → Type 0) (entries : List PlainEntry) (found : List (ℕ × ℕ)) : Type 0 where
  pub each : (x : ℕ) (pair : ℕ × ℕ) → slice_get found x ≡ Some pair → (entry : PlainEntry) × (slice_get entries pair.1 ≡ Some entry) × P entry
  pub rising : (x y : ℕ) (a b : ℕ × ℕ) → x < y → slice_get found x ≡ Some a → slice_get found y ≡ Some b → a.1 < b.1
  pub all : (m : ℕ) (entry : PlainEntry) → slice_get entries m ≡ Some entry → P entry → (x : ℕ) × (pair : ℕ × ℕ) × (slice_get found x ≡ Some pair) × (pair.1 ≡ m)

-- The text has the numbers of the entries before an end, which lies behind the places before x, and not behind the others.
pub record IsListedThrough (P : PlainEntry → Type 0) (entries : List PlainEntry) (found : List (ℕ × ℕ)) (x : ℕ) (old text separator : List ℕ) : Type 0 where
  pub end : ℕ
  pub inside : end ≤ length entries
  pub listed : IsListedUpTo P (take end entries) old text separator
  pub before : (y : ℕ) (pair : ℕ × ℕ) → y < x → slice_get found y ≡ Some pair → pair.1 < end
  pub after : (y : ℕ) (pair : ℕ × ℕ) → x ≤ y → slice_get found y ≡ Some pair → end ≤ pair.1

entry_at : (entries : List PlainEntry) (k : ℕ) → k < length entries → (entry : PlainEntry) × (slice_get entries k ≡ Some entry)
entry_at [] k inside = absurd (omega arith)
entry_at (entry ∷ entries) zero inside = (entry, refl)
entry_at (entry ∷ entries) (suc k) inside = entry_at entries k (omega arith)

-- one entry more
take_one : (entries : List PlainEntry) (k : ℕ) (entry : PlainEntry) → slice_get entries k ≡ Some entry → take (k + 1) entries ≡ take k entries ++ entry ∷ []
take_one entries k entry there =
    take_more entries k entry (slice_get_within entries k entry there) ∙ ap (λ e. take k entries ++ e ∷ []) (get_or_from_slice_get entries k entry entry there)

module _ (P : PlainEntry → Type 0) (entries : List PlainEntry) (old text separator : List ℕ) where
  -- entries of which P doesn't hold are passed over
  pub IsListedUpTo-past : (count from to : ℕ) → to ≡ from + count → to ≤ length entries → ((m : ℕ) (entry : PlainEntry) → from ≤ m → m < to → slice_get entries m ≡ Some entry → ¬ P entry)
      → IsListedUpTo P (take from entries) old text separator → IsListedUpTo P (take to entries) old text separator
  IsListedUpTo-past zero from to is inside none h = (let same : from ≡ to = omega arith in subst (λ n. IsListedUpTo P (take n entries) old text separator) same h)
  IsListedUpTo-past (suc count) from to is inside none h =
      let entry = entry_at entries (from + count) (omega arith) in
      let next : from + count + 1 ≡ to = omega arith in
      subst (λ n. IsListedUpTo P (take n entries) old text separator) next
      (IsListedUpTo-skip P (take (from + count) entries) (take (from + count + 1) entries) entry.0 old text separator
      (IsListedUpTo-past count from (from + count) refl (omega arith) (λ m e low high. none m e low (omega arith)) h)
      (take_one entries (from + count) entry.0 entry.1) (none (from + count) entry.0 (omega arith) (omega arith) entry.1))

module _ (P : PlainEntry → Type 0) (entries : List PlainEntry) (found : List (ℕ × ℕ)) (places : ArePlacesOf P entries found) (old text separator : List ℕ) where
  pub IsListedThrough-none : text ≡ old → separator ≡ [] → IsListedThrough P entries found 0 old text separator
  IsListedThrough-none same empty = record {
    end = 0;
    inside = omega arith;
    listed = IsListedUpTo-none P (take 0 entries) old text separator refl same empty;
    before = λ y pair below got. absurd (omega arith);
    after = λ y pair past got. omega arith;
  }

  pub IsListedThrough-more : (x : ℕ) (pair : ℕ × ℕ) (entry : PlainEntry) (new next : List ℕ) → slice_get found x ≡ Some pair → slice_get entries pair.1 ≡ Some entry
      → IsListedThrough P entries found x old text separator → new ≡ (text ++ separator) ++ decimal entry.number → next ≡ 32 ∷ [] → IsListedThrough P entries found (x + 1) old new next
  IsListedThrough-more x pair entry new next got there h grown spaces =
      let within : pair.1 < length entries = slice_get_within entries pair.1 entry there in
      let low : h.end ≤ pair.1 = h.after x pair (omega arith) got in
      let answers = places.each x pair got in
      let same : answers.0 ≡ entry = same_Some _ _ (sym answers.1 ∙ there) in
      let holds : P entry = subst P same answers.2 in
      record {
        end = pair.1 + 1;
        inside = omega arith;
        listed = IsListedUpTo-more P (take pair.1 entries) (take (pair.1 + 1) entries) entry old text separator new next
            (IsListedUpTo-past P entries old text separator (pair.1 - h.end) h.end pair.1 (omega arith) (omega arith)
            (λ m e from below here answered.
            let place = places.all m e here answered in
            ⊎_elim
            (λ (earlier : place.0 < x). let ends = h.before place.0 place.1 earlier place.2 in absurd (omega (arith, place.3)))
            (λ (up : x ≤ place.0). ⊎_elim
            (λ (is : place.0 ≡ x).
            let one : place.1 ≡ pair = same_Some _ _ (sym (subst (λ n. slice_get found n ≡ Some place.1) is place.2) ∙ got) in
            let second : place.1.1 ≡ pair.1 = ap (λ p. p.1) one in absurd (omega (arith, place.3)))
            (λ (not : place.0 ≡ x → ⊥). let over = places.rising x place.0 pair place.1 (omega arith) got place.2 in absurd (omega (arith, place.3)))
            (cases_eq place.0 x))
            (cases_lt place.0 x))
            h.listed)
            (take_one entries pair.1 entry there) holds grown spaces;
        before = λ y other below got'. ⊎_elim
            (λ (is : y ≡ x).
            let one : other ≡ pair = same_Some _ _ (sym (subst (λ n. slice_get found n ≡ Some other) is got') ∙ got) in
            let second : other.1 ≡ pair.1 = ap (λ p. p.1) one in omega arith)
            (λ (not : y ≡ x → ⊥). let under = h.before y other (omega arith) got' in omega arith)
            (cases_eq y x);
        after = λ y other past got'. (let over = places.rising x y pair other (omega arith) got got' in omega arith);
      }

  -- all places were gone through: the text has the numbers of all entries of which P holds
  pub IsListedThrough-all : (x : ℕ) → length found ≤ x → IsListedThrough P entries found x old text separator → IsListedUpTo P entries old text separator
  IsListedThrough-all x past h =
      subst (λ es. IsListedUpTo P es old text separator) (take_all (length entries) entries (omega arith))
      (IsListedUpTo-past P entries old text separator (length entries - h.end) h.end (length entries) (let inside = h.inside in omega arith) (omega arith)
      (λ m e from below here answered.
      let place = places.all m e here answered in
      let within = slice_get_within found place.0 place.1 place.2 in
      let ends = h.before place.0 place.1 (omega arith) place.2 in absurd (omega (arith, place.3)))
      h.listed)

-- ---- a first place, and the others behind it

-- The text has the numbers of the entries up to the place x among the others.
pub record IsListedBehind (P : PlainEntry → Type 0) (entries : List PlainEntry) (others : List (ℕ × ℕ)) (x : ℕ) (old text : List ℕ) : Type 0 where
  pub first : ℕ × ℕ
  pub places : ArePlacesOf P entries (first ∷ others)
  pub listed : IsListedThrough P entries (first ∷ others) (x + 1) old text (32 ∷ [])

behind_first : (first : ℕ × ℕ) (others : List (ℕ × ℕ)) (x : ℕ) (pair : ℕ × ℕ) → slice_get others x ≡ Some pair → slice_get (first ∷ others) (x + 1) ≡ Some pair
behind_first first others x pair got = let next : x + 1 ≡ suc x = omega arith in rw next got

module _ (P : PlainEntry → Type 0) (entries : List PlainEntry) (old : List ℕ) where
  -- no place at all: nothing is written
  pub IsListedUpTo-nowhere : (found : List (ℕ × ℕ)) → ArePlacesOf P entries found → length found ≡ 0 → IsListedUpTo P entries old old []
  IsListedUpTo-nowhere found places none =
      IsListedThrough-all P entries found places old old [] 0 (omega (arith, none)) (IsListedThrough-none P entries found places old old [] refl refl)

  pub first_answers : (found : List (ℕ × ℕ)) (first : ℕ × ℕ) (others : List (ℕ × ℕ)) → ArePlacesOf P entries found → found ≡ first ∷ others → (entry : PlainEntry) × (slice_get entries first.1 ≡ Some entry) × P entry
  first_answers found first others places is = places.each 0 first (rw is refl)

  pub IsListedBehind-first : (found : List (ℕ × ℕ)) (first : ℕ × ℕ) (others : List (ℕ × ℕ)) (entry : PlainEntry) (text : List ℕ) → ArePlacesOf P entries found → found ≡ first ∷ others
      → slice_get entries first.1 ≡ Some entry → text ≡ old ++ decimal entry.number → IsListedBehind P entries others 0 old text
  IsListedBehind-first found first others entry text places is there grown =
      let all : ArePlacesOf P entries (first ∷ others) = subst (ArePlacesOf P entries) is places in
      record {
        first = first;
        places = all;
        listed = IsListedThrough-more P entries (first ∷ others) all old old [] 0 first entry text (32 ∷ []) refl there
            (IsListedThrough-none P entries (first ∷ others) all old old [] refl refl) (grown ∙ ap (λ l. l ++ decimal entry.number) (sym (append-nil old))) refl;
      }

  module _ (others : List (ℕ × ℕ)) (x : ℕ) (text : List ℕ) (h : IsListedBehind P entries others x old text) where
    pub answers_behind : (pair : ℕ × ℕ) → slice_get others x ≡ Some pair → (entry : PlainEntry) × (slice_get entries pair.1 ≡ Some entry) × P entry
    answers_behind pair got = h.places.each (x + 1) pair (behind_first h.first others x pair got)

    pub IsListedBehind-more : (pair : ℕ × ℕ) (entry : PlainEntry) (new : List ℕ) → slice_get others x ≡ Some pair → slice_get entries pair.1 ≡ Some entry
        → new ≡ text ++ 32 ∷ decimal entry.number → IsListedBehind P entries others (x + 1) old new
    IsListedBehind-more pair entry new got there grown = record {
      first = h.first;
      places = h.places;
      listed = IsListedThrough-more P entries (h.first ∷ others) h.places old text (32 ∷ []) (x + 1) pair entry new (32 ∷ []) (behind_first h.first others x pair got) there h.listed
          (grown ∙ sym (append_assoc text (32 ∷ []) (decimal entry.number))) refl;
    }

    pub IsListedBehind-all : length others ≤ x → IsListedUpTo P entries old text (32 ∷ [])
    IsListedBehind-all past = IsListedThrough-all P entries (h.first ∷ others) h.places old text (32 ∷ []) (x + 1) (omega (arith, past)) h.listed

-- ---- one list

pub folders_of_one : {V : Type 0} (list : EntryList V) → HasFolder list → BasesAreFolders (list ∷ [])
folders_of_one list folder zero d inside = folder
folders_of_one list folder (suc i) d inside = absurd (omega arith)

module _ (list : EntryList (Unit {0})) (path : List ℕ) (is_dir : Bool) (rules : Rules) where
  -- a stack of one list has its entries at the place 0
  at_zero : (i : ℕ) (other : EntryList (Unit {0})) → slice_get (list ∷ []) i ≡ Some other → (i ≡ 0) × (other ≡ list)
  at_zero zero other is = (refl, sym (same_Some _ _ is))
  at_zero (suc i) other is = (let within = slice_get_within (list ∷ []) (suc i) other is in absurd (omega arith))

  places_of_one : (found : List (ℕ × ℕ)) → AreMatches (list ∷ []) path is_dir rules found → ArePlacesOf (λ entry. AnswersUnder list.base entry path is_dir rules) list.entries found
  places_of_one found h = record {
    each = λ x pair got.
        (let answers = h.each x pair got in
        let at = subst (λ l. AnswersAt l path is_dir rules pair.1) ((at_zero pair.0 answers.list answers.there).1) answers.answers in
        (at.entry, at.there, at.answers));
    rising = λ x y a b below got got'.
        (let first = h.each x a got in
        let second = h.each y b got' in
        let zero_first = (at_zero a.0 first.list first.there).0 in
        let zero_second = (at_zero b.0 second.list second.there).0 in
        ⊎_elim (λ (less : a.0 < b.0). absurd (omega arith)) (λ (same : (a.0 ≡ b.0) × (a.1 < b.1)). same.1) (h.rising x y a b below got got'));
    all = λ m entry there answers.
        (let place = h.all 0 m (record { list = list; there = refl; answers = record { entry = entry; there = there; answers = answers } }) in
        (place.0, (0, m), place.1, refl));
  }

  -- the same for what is a stack of this list, and for what was found
  pub places_in : (lists : List (EntryList (Unit {0}))) (items found : List (ℕ × ℕ)) → lists ≡ list ∷ [] → items ≡ found → AreMatches lists path is_dir rules found
      → ArePlacesOf (λ entry. AnswersUnder list.base entry path is_dir rules) list.entries items
  places_in lists items found one same h =
      subst (λ places. ArePlacesOf (λ entry. AnswersUnder list.base entry path is_dir rules) list.entries places) (sym same)
      (places_of_one found (subst (λ stack. AreMatches stack path is_dir rules found) one h))
