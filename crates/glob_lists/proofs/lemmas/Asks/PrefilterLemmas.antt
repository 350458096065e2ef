-- What a pattern that answers for a path asks for is shown by the path.
use Rattle.std.proofs.Common.{◌≡◌, ◌⊎◌, inl, inr, ⊎_elim, ℕ, zero, suc, ◌+◌, ◌-◌, ◌*◌, ◌%◌, ◌^◌, ◌<◌, ◌≤◌, Bool, true, false, not, List, ◌++◌, length, get_or, take, drop, Option, None, Some, refl, sym, ◌∙◌, ap, subst, arith, length-drop, if◌then◌else◌}
use Rattle.std.specs.List.{list_any}
use Rattle.std.specs.Char.{to_ascii_lowercase}
use Rattle.std.specs.Int.{bit_at}
use Rattle.std.proofs.Math.Seq.{drop-append_seam}
use Rattle.std.proofs.lemmas.Bool.{cases_Bool, cases_eq, cond_both, false≢true}
use Rattle.std.proofs.lemmas.List.{drop-drop, get_or-drop, get_or-map, get_or_default, take-append-drop}
use Rattle.std.proofs.lemmas.List.Folds.{list_any_none}
use Rattle.gix_glob.specs.declared.pattern.Case.{Case}
use Rattle.glob_lists.specs.declared.rules.Rules.{Rules}
use Rattle.gix_glob.specs.declared.pattern.Mode as pattern
use Rattle.gix_glob.specs.declared.wildmatch.Way.{Way}
use Rattle.gix_glob.specs.Bytes.{HasByte, fold, folds, slash}
use Rattle.gix_glob.specs.LiteralBytes.{AreAlike, EndsAlike, HasAlike, HasAlikePair, IsUnescapedUpTo, is_joining}
use Rattle.gix_glob.specs.Matching.{SplitsBy}
use Rattle.gix_glob.specs.Patterns.{looks_at_name}
use Rattle.gix_glob.specs.RepositoryPaths.{IsBasenameStart, subject, with_case}
use Rattle.gix_glob.specs.Ways.{way_of}
use Rattle.gix_glob.specs.Stripping.{RestOf}
use Rattle.glob_lists.specs.Deciding.{AnswersFor}
use Rattle.glob_lists.specs.declared.rules.Reading.{Reading}
use Rattle.glob_lists.specs.declared.rules.Reading.TheVariants.{Crate, Git}
use Rattle.glob_lists.specs.Rules.{AnswersAs, path_mode}
use Rattle.gix_glob.specs.GitPaths.{FrontAndRest, git_way}
use Rattle.glob_lists.specs.declared.asks.literals.TheConstants.{LONGEST_END}
use Rattle.glob_lists.specs.declared.asks.probe.Probe.{Probe}
use Rattle.glob_lists.specs.declared.asks.row.Row.{Row}
use Rattle.glob_lists.specs.Private.Asks.Literals.{AsksForBits, EndsLiterally, IsNeededAt, IsNeededPairAt, bit_of, end_key, from_end, pair_of}
use Rattle.glob_lists.specs.Private.Asks.Parts.{is_name, part_of}
use Rattle.glob_lists.specs.Private.Asks.Rows.{Asks, HasLiteralEnd, length_of}
use Rattle.glob_lists.specs.Private.Asks.Showing.{HasBytes, HasEnd, HoldsBits, Passes, Shows}
use Rattle.glob_lists.proofs.lemmas.Asks.BitLemmas.{HoldsBits-drop}
use Rattle.glob_lists.proofs.lemmas.Asks.EndNumbers.{without_bytes-shift}

-- how a value may be matched by a text: whole, or by front and rest
abbrev pub Relation : Type 1
Relation = List ℕ → List ℕ → Way → Type 0

-- The laws `matched_values_end_as_the_text`, `matched_values_have_the_literal_bytes` and `matched_values_have_the_literal_pairs`,
-- restated for one way to be matched: a lemma can't cite a clause.
pub record HasLiterals (Matches : Relation) : Type 0 where
  pub ends : (front end value : List ℕ) (way : Way) → list_any is_joining end ≡ false → Matches value (front ++ end) way → EndsAlike way value end
  pub bytes : (text value : List ℕ) (way : Way) (i b : ℕ) → IsUnescapedUpTo text i → HasByte text i b → is_joining b ≡ false → Matches value text way → HasAlike way value b
  pub pairs : (text value : List ℕ) (way : Way) (i a b : ℕ) → IsUnescapedUpTo text (i + 1) → HasByte text i a → HasByte text (i + 1) b
      → is_joining a ≡ false → is_joining b ≡ false → Matches value text way → HasAlikePair way value a b

-- ---- folding

-- bytes that are equal up to the case that a mode asks for are equal up to case
fold_lower : (way : Way) (a b : ℕ) → fold way a ≡ fold way b → to_ascii_lowercase a ≡ to_ascii_lowercase b
fold_lower way a b same = ⊎_elim
    (λ (folding : folds way ≡ true). rw folding at same)
    (λ (exact : folds way ≡ false). ap to_ascii_lowercase (rw exact at same))
    (cases_Bool (folds way))

alike_at : (way : Way) (xs ys : List ℕ) → AreAlike way xs ys → (m : ℕ) → m < length xs → m < length ys → to_ascii_lowercase (get_or xs m 0) ≡ to_ascii_lowercase (get_or ys m 0)
alike_at way xs ys same m inside inside' =
    fold_lower way (get_or xs m 0) (get_or ys m 0)
    (sym (get_or-map (fold way) xs m 0 0 inside) ∙ (ap (λ (zs : List ℕ). get_or zs m 0) same ∙ get_or-map (fold way) ys m 0 0 inside'))

-- ---- ends of texts

-- the last n bytes of two texts are equal up to case
abbrev SameEnd : List ℕ → List ℕ → ℕ → Type 0
SameEnd xs ys n = (m : ℕ) → m < n → to_ascii_lowercase (from_end xs m) ≡ to_ascii_lowercase (from_end ys m)

same_key : (xs ys : List ℕ) (n : ℕ) → SameEnd xs ys n → end_key xs n ≡ end_key ys n
same_key xs ys zero each = refl
same_key xs ys (suc n) each =
    let before = same_key xs ys n (λ m below. each m (omega arith)) in
    let here = each n (omega arith) in
    ap (λ (k : ℕ). ((k * 256) % (2 ^ 64) + to_ascii_lowercase (from_end xs n)) % (2 ^ 64)) before
    ∙ ap (λ (b : ℕ). ((end_key ys n * 256) % (2 ^ 64) + b) % (2 ^ 64)) here

literal_part : (text : List ℕ) (n : ℕ) → EndsLiterally text n → list_any is_joining (drop (length text - n) text) ≡ false
literal_part text n e =
    let fits = e.fits in
    let start : ℕ = length text - n in
    let long = length-drop start text in
    list_any_none is_joining (drop start text)
    (λ i d inside.
    let m : ℕ = n - (i + 1) in
    let place : length text - (m + 1) ≡ start + i = omega arith in
    let plain : is_joining (get_or text (start + i) 0) ≡ false = subst (λ (k : ℕ). is_joining (get_or text k 0) ≡ false) place (e.literal m (omega arith)) in
    let same : get_or (drop start text) i d ≡ get_or text (start + i) 0 = get_or-drop start text i d ∙ get_or_default text (start + i) d 0 (omega arith) in
    ap is_joining same ∙ plain)

-- a value that is matched ends as the text does
ends_alike : (Matches : Relation) → HasLiterals Matches → (text value : List ℕ) (way : Way) (n : ℕ) → EndsLiterally text n → Matches value text way → (n ≤ length value) × SameEnd text value n
ends_alike Matches laws text value way n e s =
    let start : ℕ = length text - n in
    let fits = e.fits in
    let long = length-drop start text in
    let whole : text ≡ take start text ++ drop start text = sym (take-append-drop start text) in
    let ends = laws.ends (take start text) (drop start text) value way (literal_part text n e) (subst (λ (xs : List ℕ). Matches value xs way) whole s) in
    let short = ends.fits in
    let at : ℕ = length value - length (drop start text) in
    let long' = length-drop at value in (
      omega arith,
      λ m below.
          let j : ℕ = n - (m + 1) in
          let in_text : start + j ≡ length text - (m + 1) = omega arith in
          let in_value : at + j ≡ length value - (m + 1) = omega arith in
          ap to_ascii_lowercase (ap (λ (k : ℕ). get_or text k 0) (sym in_text) ∙ sym (get_or-drop start text j 0))
          ∙ (alike_at way (drop start text) (drop at value) ends.alike j (omega arith) (omega arith)
          ∙ ap to_ascii_lowercase (get_or-drop at value j 0 ∙ ap (λ (k : ℕ). get_or value k 0) in_value)),
    )

-- an end of a path, from a place on, has the path's last bytes
pub end_of : (path value : List ℕ) (at : ℕ) → value ≡ drop at path → (m : ℕ) → m < length value → from_end value m ≡ from_end path m
end_of path value at is m inside =
    let long : length value ≡ length path - at = ap (λ (xs : List ℕ). length xs) is ∙ length-drop at path in
    let place : at + (length value - (m + 1)) ≡ length path - (m + 1) = omega arith in
    ap (λ (xs : List ℕ). get_or xs (length value - (m + 1)) 0) is ∙ (get_or-drop at path (length value - (m + 1)) 0 ∙ ap (λ (k : ℕ). get_or path k 0) place)

-- ---- what a pattern looks at

rest_is_end : (case : Case) (base : Option (List ℕ)) (path rest : List ℕ) → RestOf case base path rest → (at : ℕ) × (rest ≡ drop at path)
rest_is_end case None path rest same = (0, same)
rest_is_end case (Some base) path rest r = (length r.front, sym (ap (drop (length r.front)) r.joined ∙ drop-append_seam r.front rest))

if_end : (b : Bool) (k : ℕ) (rest : List ℕ) → (at : ℕ) × ((if b then drop k rest else rest) ≡ drop at rest)
if_end true k rest = (k, refl)
if_end false k rest = (0, refl)

subject_is_end : (pattern_mode : pattern.Mode) (rest : List ℕ) (basename_start : Option ℕ) → (at : ℕ) × (subject pattern_mode rest basename_start ≡ drop at rest)
subject_is_end pattern_mode rest None = (0, refl)
subject_is_end pattern_mode rest (Some k) = if_end (looks_at_name pattern_mode) k rest

-- the last part of what is left has no slash
pub name_has_no_slash : (pattern_mode : pattern.Mode) (rest : List ℕ) (basename_start : Option ℕ) → looks_at_name pattern_mode ≡ true → IsBasenameStart rest basename_start
    → (m : ℕ) → ¬ HasByte (subject pattern_mode rest basename_start) m slash
name_has_no_slash pattern_mode rest None name start m there = start m there
name_has_no_slash pattern_mode rest (Some k) name start m there =
    let same : subject pattern_mode rest (Some k) ≡ drop k rest = ap (λ (b : Bool). if b then drop k rest else rest) name in
    let dropped : HasByte (drop k rest) m slash = subst (λ (xs : List ℕ). HasByte xs m slash) same there in
    let inside = dropped.inside in
    let long = length-drop k rest in
    start.last (k + m) (omega arith) (record { inside = omega arith; is = sym (get_or-drop k rest m 0) ∙ dropped.is })

-- ---- a row

module _ (Matches : Relation) (laws : HasLiterals Matches) (text path value : List ℕ) (way : Way) (at : ℕ) (row : Row) (probe : Probe)
    (shows : Shows path probe) (is : value ≡ drop at path) (s : Matches value text way) where
  value_length : length value ≡ length path - at
  value_length = ap (λ (xs : List ℕ). length xs) is ∙ length-drop at path

  HasEnd-asked : HasLiteralEnd text (length_of row) row.asked → row.spare ≡ 8 * (LONGEST_END - length_of row) → HasEnd row probe
  HasEnd-asked e spare =
      let n : ℕ = length_of row in
      let some = e.some in
      let alike = ends_alike Matches laws text value way n e.literal s in
      let fits = alike.0 in
      let whole = value_length in
      let cut : row.spare % 64 ≡ 8 * (8 - n) = omega arith in
      let same : SameEnd text path n =
      λ m below. alike.1 m below ∙ ap to_ascii_lowercase (end_of path value at is m (omega arith)) in
      e.number ∙ (same_key text path n same ∙ (sym (shows.ends n (omega arith) (omega arith)) ∙ sym (without_bytes-shift probe.end (8 - n) (row.spare % 64) cut)))

  -- the set that the row looks at has what the value has
  abbrev held : ℕ
  held = if is_name (part_of row.part) then probe.name_bytes else probe.bytes

  value_is_held : (is_name (part_of row.part) ≡ true → (m : ℕ) → ¬ HasByte value m slash) → HoldsBits value held
  value_is_held bare = subst (λ (xs : List ℕ). HoldsBits xs held) (sym is)
      (cond_both (is_name (part_of row.part)) probe.name_bytes probe.bytes (λ (set : ℕ). HoldsBits (drop at path) set)
      (λ name. shows.name_bytes at (λ m. subst (λ (xs : List ℕ). ¬ HasByte xs m slash) is (bare name m)))
      (λ other. HoldsBits-drop path at probe.bytes shows.bytes))

  bit_is_held : (i j : ℕ) → 0 < i → HoldsBits value held → IsNeededAt text j i ⊎ IsNeededPairAt text j i → bit_at held i ≡ 1
  bit_is_held i j some all (inl n) =
      let has = laws.bytes text value way j n.byte n.unescaped n.there n.literal s in
      let same : bit_of (get_or value has.place 0) ≡ i = ap (λ (b : ℕ). b % 32) (fold_lower way (get_or value has.place 0) n.byte has.alike) ∙ sym n.bit in
      subst (λ (k : ℕ). bit_at held k ≡ 1) same (all.bytes has.place has.inside (subst (λ (k : ℕ). 0 < k) (sym same) some))
  bit_is_held i j some all (inr n) =
      let has = laws.pairs text value way j n.first n.second n.unescaped n.there n.behind n.literal n.both s in
      let first = fold_lower way (get_or value has.place 0) n.first has.alike in
      let second = fold_lower way (get_or value (has.place + 1) 0) n.second has.next_alike in
      let same : 32 + pair_of (get_or value has.place 0) (get_or value (has.place + 1) 0) ≡ i =
      ap (λ (b : ℕ). 32 + (b * 5 + to_ascii_lowercase (get_or value (has.place + 1) 0)) % 32) first
      ∙ (ap (λ (b : ℕ). 32 + (to_ascii_lowercase n.first * 5 + b) % 32) second ∙ sym n.bit) in
      subst (λ (k : ℕ). bit_at held k ≡ 1) same (all.pairs has.place has.inside)

  HasBytes-needed : AsksForBits text row.asked → (is_name (part_of row.part) ≡ true → (m : ℕ) → ¬ HasByte value m slash) → HasBytes row probe
  HasBytes-needed asks bare i bit = ⊎_elim
      (λ (first : i ≡ 0). absurd (let zero_bit = ap (bit_at row.asked) first ∙ asks.free in omega (arith, bit, zero_bit)))
      (λ (past : i ≡ 0 → ⊥). let needed = asks.needs i bit in bit_is_held i needed.0 (omega arith) (value_is_held bare) needed.1)
      (cases_eq i 0)

  passes : (pattern_mode : pattern.Mode) → Asks text pattern_mode row → (is_name (part_of row.part) ≡ true → (m : ℕ) → ¬ HasByte value m slash) → Passes row probe
  passes pattern_mode asks bare = record {
    end = λ some. HasEnd-asked (asks.end some) asks.spare;
    bits = λ none. HasBytes-needed (asks.bits none) bare;
  }

-- ---- a pattern, by whichever rules

module _ (whole : HasLiterals SplitsBy) (parted : HasLiterals FrontAndRest) (text : List ℕ) (pattern_mode : pattern.Mode) (path rest : List ℕ) (at : ℕ) (below : rest ≡ drop at path)
    (start : Option ℕ) (basename : IsBasenameStart rest start) (is_dir : Bool) (case : Case) (row : Row) (probe : Probe) (shows : Shows path probe) (asks : Asks text pattern_mode row) where
  -- what the pattern looks at is matched whole
  passes_whole : (way : Way) → SplitsBy (subject pattern_mode rest start) text way → Passes row probe
  passes_whole way s =
      let value : List ℕ = subject pattern_mode rest start in
      let within = subject_is_end pattern_mode rest start in
      let is : value ≡ drop (at + within.0) path = within.1 ∙ (ap (drop within.0) below ∙ drop-drop within.0 at path) in
      passes SplitsBy whole text path value way (at + within.0) row probe shows is s pattern_mode asks
      (λ name. name_has_no_slash pattern_mode rest start (asks.name name) basename)

  -- the whole of what is left is matched by front and rest
  passes_parted : (way : Way) → looks_at_name pattern_mode ≡ false → FrontAndRest rest text way → Passes row probe
  passes_parted way other s =
      passes FrontAndRest parted text path rest way at row probe shows below s pattern_mode asks
      (λ name. absurd (false≢true (sym other ∙ asks.name name)))

  passes_as : (reading : Reading) → AnswersAs reading text pattern_mode rest start is_dir case → Passes row probe
  passes_as Crate answers = passes_whole (way_of (with_case path_mode case)) answers.splits
  passes_as Git answers = ⊎_elim
      (λ named. passes_whole (git_way case) (answers.by_name named))
      (λ (other : looks_at_name pattern_mode ≡ false). passes_parted (git_way case) other (answers.by_path (ap not other)))
      (cases_Bool (looks_at_name pattern_mode))

-- the law `answering_patterns_pass`, restated: a lemma can't cite a clause
abbrev pub AnsweringPasses : Type 0
AnsweringPasses = (text : List ℕ) (pattern_mode : pattern.Mode) (base : Option (List ℕ)) (path rest : List ℕ) (is_dir : Bool) (rules : Rules)
    (row : Row) (probe : Probe) → Shows path probe → Asks text pattern_mode row → RestOf rules.case base path rest → AnswersFor text pattern_mode rest is_dir rules → Passes row probe

-- A pattern that answers for what a base leaves of a path asks for nothing that the path doesn't show.
pub answering_passes : HasLiterals SplitsBy → HasLiterals FrontAndRest → AnsweringPasses
answering_passes whole parted text pattern_mode base path rest is_dir rules row probe shows asks left answers =
    let below = rest_is_end rules.case base path rest left in
    passes_as whole parted text pattern_mode path rest below.0 below.1 answers.basename_start answers.basename is_dir rules.case row probe shows asks rules.reading answers.answers
