-- Patterns that are told by their end: a star and a literal match where the path has the literal's bytes at its end.
use Rattle.std.proofs.Common.{◌≡◌, ◌⊎◌, inl, inr, ⊎_elim, ℕ, zero, suc, ◌+◌, ◌-◌, ◌*◌, ◌%◌, ◌<◌, ◌≤◌, Bool, true, false, not, ◌==◌, List, [], ◌∷◌, ◌++◌, length, get_or, drop, Option, None, Some, refl, sym, ◌∙◌, ap, subst, arith, length-drop, length-append, append_assoc, if◌then◌else◌, eqb-true}
use Rattle.std.specs.List.{list_any}
use Rattle.std.specs.Option.{ForSome}
use Rattle.std.proofs.Math.Seq.{drop-append_seam}
use Rattle.std.proofs.lemmas.Bool.{cases_eq, cases_lt, false≢true, false_from_ne_true, or_parts}
use Rattle.std.proofs.lemmas.List.{drop-drop, get_or-drop, get_or_default}
use Rattle.std.proofs.lemmas.List.Folds.{list_any_none}
use Rattle.gix_glob.specs.declared.pattern.Case.{Case}
use Rattle.glob_lists.specs.declared.rules.Rules.{Rules}
use Rattle.gix_glob.specs.declared.pattern.Mode as pattern
use Rattle.gix_glob.specs.declared.wildmatch.Way.{Way}
use Rattle.gix_glob.specs.Bytes.{EndsInSlash, HasByte, fold, has_slash, is_special, slash, star}
use Rattle.gix_glob.specs.LiteralBytes.{is_joining}
use Rattle.gix_glob.specs.Matching.{SplitsBy}
use Rattle.gix_glob.specs.Paths.{IsFolder}
use Rattle.gix_glob.specs.Patterns.{is_for_directories, is_star_and_literal, looks_at_name}
use Rattle.gix_glob.specs.RepositoryPaths.{IsAfterLastSlash, IsBasenameStart, subject, with_case}
use Rattle.gix_glob.specs.Ways.{way_of}
use Rattle.gix_glob.specs.Stripping.{RestOf}
use Rattle.gix_glob.proofs.lemmas.Places.{later_byte}
use Rattle.glob_patterns.proofs.lemmas.LiteralLemmas.{AreAlike-from, star_literal_in}
use Rattle.glob_lists.specs.Deciding.{AnswersFor}
use Rattle.glob_lists.specs.declared.rules.Reading.{Reading}
use Rattle.glob_lists.specs.declared.rules.Reading.TheVariants.{Crate, Git}
use Rattle.glob_lists.specs.Rules.{AnswersAs, path_mode}
use Rattle.gix_glob.specs.GitPaths.{git_way}
use Rattle.glob_lists.specs.declared.asks.literals.TheConstants.{LONGEST_END}
use Rattle.glob_lists.specs.declared.asks.probe.Probe.{Probe}
use Rattle.glob_lists.specs.declared.asks.row.Row.{Row}
use Rattle.glob_lists.specs.Private.Asks.Literals.{EndsLiterally, end_key, from_end}
use Rattle.glob_lists.specs.Private.Asks.Parts.{IsPlainEnd, IsToldByEnd}
use Rattle.glob_lists.specs.Private.Asks.Rows.{Asks, length_of}
use Rattle.glob_lists.specs.Private.Asks.Showing.{IsTold, Passes, Shows}
use Rattle.glob_lists.proofs.lemmas.Asks.EndNumbers.{same_lower, without_bytes-shift}
use Rattle.glob_lists.proofs.lemmas.Asks.PrefilterLemmas.{end_of, name_has_no_slash}
use Rattle.glob_lists.proofs.lemmas.Deciding.StrippingLemmas.{empty_front, front_ends_in_slash}

-- ---- where the last part of a path begins

start_below : (path : List ℕ) (n : ℕ) → ((j : ℕ) → n ≤ j → ¬ HasByte path j slash) → (start : Option ℕ) × IsBasenameStart path start
start_below path zero none = (None, λ j. none j (omega arith))
start_below path (suc n) none = elim (cases_lt n (length path)) [
  | inr out ↦ start_below path n (λ j low there. (let inside = there.inside in absurd (omega arith)))
  | inl inside ↦ elim (cases_eq (get_or path n 0) slash) [
    | inl here ↦
        (let place : n ≡ suc n - 1 = omega arith in
        (Some (suc n), record { some = omega arith; after = subst (λ (k : ℕ). HasByte path k slash) place (record { inside = inside; is = here }); last = none }))
    | inr other ↦ start_below path n (λ j low there. ⊎_elim
        (λ (same : j ≡ n). other (ap (λ (k : ℕ). get_or path k 0) (sym same) ∙ there.is))
        (λ (apart : j ≡ n → ⊥). none j (omega arith) there)
        (cases_eq j n))
  ]
]

-- each path has a last part
basename_start_of : (path : List ℕ) → (start : Option ℕ) × IsBasenameStart path start
basename_start_of path = start_below path (length path) (λ j low there. (let inside = there.inside in absurd (omega arith)))

-- ---- parts of a path

-- an end of a path, that begins where the path does, or behind a slash
record IsPart (path value : List ℕ) : Type 0 where
  at : ℕ
  is : value ≡ drop at path
  front : (at ≡ 0) ⊎ ((0 < at) × HasByte path (at - 1) slash)

-- what a folder leaves of a path
rest_is_part : (case : Case) (base : Option (List ℕ)) (path rest : List ℕ) → ForSome base IsFolder → RestOf case base path rest → IsPart path rest
rest_is_part case None path rest folder same = record { at = 0; is = same; front = inl refl }
rest_is_part case (Some base) path rest folder r = record {
  at = length r.front;
  is = sym (ap (drop (length r.front)) r.joined ∙ drop-append_seam r.front rest);
  front = ⊎_elim
      (λ none. inl (ap (λ (xs : List ℕ). length xs) (empty_front case base r.front none r.same)))
      (λ (ends : EndsInSlash base). (let cut = front_ends_in_slash case base r.front ends r.same in inr (behind cut.0 cut.1)))
      (folder base refl);
} where
  behind : (before : List ℕ) → r.front ≡ before ++ slash ∷ [] → (0 < length r.front) × HasByte path (length r.front - 1) slash
  behind before cut =
      let long : length r.front ≡ length before + 1 = ap (λ (xs : List ℕ). length xs) cut ∙ length-append before (slash ∷ []) in
      let whole : path ≡ before ++ (slash ∷ rest) = r.joined ∙ (ap (λ (xs : List ℕ). xs ++ rest) cut ∙ append_assoc before (slash ∷ []) rest) in
      let there : HasByte (before ++ (slash ∷ rest)) (length before + 0) slash = later_byte before (slash ∷ rest) 0 slash (record { inside = omega arith; is = refl }) in
      let place : length before + 0 ≡ length r.front - 1 = omega arith in
      (omega arith, subst (λ (k : ℕ). HasByte path k slash) place (subst (λ (xs : List ℕ). HasByte xs (length before + 0) slash) (sym whole) there))

if_part : (b : Bool) (path rest : List ℕ) (k : ℕ) → IsAfterLastSlash rest k → IsPart path rest → IsPart path (if b then drop k rest else rest)
if_part false path rest k last part = part
if_part true path rest k last part =
    let some = last.some in
    let after = last.after in
    let inside = after.inside in
    let long : length rest ≡ length path - part.at = ap (λ (xs : List ℕ). length xs) part.is ∙ length-drop part.at path in
    let place : part.at + (k - 1) ≡ part.at + k - 1 = omega arith in
    record {
      at = part.at + k;
      is = ap (drop k) part.is ∙ drop-drop k part.at path;
      front = inr (
        omega arith,
        record {
          inside = omega arith;
          is = ap (λ (m : ℕ). get_or path m 0) (sym place) ∙ (sym (get_or-drop part.at path (k - 1) 0) ∙ (ap (λ (xs : List ℕ). get_or xs (k - 1) 0) (sym part.is) ∙ after.is));
        },
      );
    }

-- what a pattern looks at of a part
subject_is_part : (pattern_mode : pattern.Mode) (path rest : List ℕ) (start : Option ℕ) → IsBasenameStart rest start → IsPart path rest → IsPart path (subject pattern_mode rest start)
subject_is_part pattern_mode path rest None basename part = part
subject_is_part pattern_mode path rest (Some k) basename part = if_part (looks_at_name pattern_mode) path rest k basename part

-- a part is as long as an end of the path that has no slash
part_is_long : (path value : List ℕ) (n : ℕ) → IsPart path value → n ≤ length path → ((m : ℕ) → m < n → ¬ (from_end path m ≡ slash)) → n ≤ length value
part_is_long path value n part fits bare =
    let long : length value ≡ length path - part.at = ap (λ (xs : List ℕ). length xs) part.is ∙ length-drop part.at path in
    elim part.front [
      | inl whole ↦ (let start : part.at ≡ 0 = whole in omega arith)
      | inr behind ↦ elim (cases_lt (length value) n) [
        | inr enough ↦ enough
        | inl short ↦
            (let some = behind.0 in
            let inside = behind.1.inside in
            let place : part.at - 1 ≡ length path - (length value + 1) = omega arith in
            absurd (bare (length value) short (ap (λ (k : ℕ). get_or path k 0) (sym place) ∙ behind.1.is)))
      ]
    ]

-- ---- a star and a literal

star_first : (text : List ℕ) → HasByte text 0 star → list_any is_special (drop 1 text) ≡ false → is_star_and_literal text ≡ true
star_first [] first plain = absurd (let inside = first.inside in omega arith)
star_first (b ∷ text) first plain = rw first.is (rw plain refl)

-- the bytes behind the star stand for themselves
literal_behind : (text : List ℕ) (n : ℕ) → length text ≡ n + 1 → EndsLiterally text n → list_any is_special (drop 1 text) ≡ false
literal_behind text n long literal = list_any_none is_special (drop 1 text) (λ i d inside.
    let cut = length-drop 1 text in
    let m : ℕ = n - (i + 1) in
    let place : length text - (m + 1) ≡ 1 + i = omega arith in
    let plain : is_joining (get_or text (1 + i) 0) ≡ false = subst (λ (k : ℕ). is_joining (get_or text k 0) ≡ false) place (literal.literal m (omega arith)) in
    let same : get_or (drop 1 text) i d ≡ get_or text (1 + i) 0 = get_or-drop 1 text i d ∙ get_or_default text (1 + i) d 0 (omega arith) in
    ap is_special same ∙ (or_parts _ _ plain).0)

-- a value without slash has none at all
pub has_no_slash : (value : List ℕ) → ((m : ℕ) → ¬ HasByte value m slash) → has_slash value ≡ false
has_no_slash value none = list_any_none (λ b. b == slash) value (λ m d below.
    false_from_ne_true (get_or value m d == slash) (λ is. none m (record { inside = below; is = get_or_default value m 0 d below ∙ eqb-true _ slash is })))

-- a value without slash that has the bytes of the literal at its end is matched
star_matches : (way : Way) (text value : List ℕ) (n : ℕ) → HasByte text 0 star → length text ≡ n + 1 → EndsLiterally text n → ((m : ℕ) → ¬ HasByte value m slash)
    → n ≤ length value → ((m : ℕ) → m < n → from_end text m ≡ from_end value m) → SplitsBy value text way
star_matches way text value n first long literal bare fits same =
    let plain = literal_behind text n long literal in
    let cut : length (drop 1 text) ≡ n = (let l = length-drop 1 text in omega arith) in
    let at : ℕ = length value - length (drop 1 text) in
    let left = length-drop at value in
    star_literal_in text value way (star_first text first plain) (inr (has_no_slash value bare)) (omega arith)
    (AreAlike-from way (drop 1 text) (drop at value) (omega arith) (λ j below.
    let m : ℕ = n - (j + 1) in
    let in_text : length text - (m + 1) ≡ 1 + j = omega arith in
    let in_value : length value - (m + 1) ≡ at + j = omega arith in
    ap (fold way) (get_or-drop 1 text j 0 ∙ (ap (λ (k : ℕ). get_or text k 0) (sym in_text)
    ∙ (same m (omega arith) ∙ (ap (λ (k : ℕ). get_or value k 0) in_value ∙ sym (get_or-drop at value j 0)))))))

-- ---- a row that tells

module _ (text path : List ℕ) (mode : pattern.Mode) (row : Row) (probe : Probe) (shows : Shows path probe) (asks : Asks text mode row) (passes : Passes row probe) (told : IsTold row probe) where
  shape : IsToldByEnd text mode (length_of row)
  shape = (asks.told told.part).1

  path_end : IsPlainEnd path LONGEST_END
  path_end = shows.plain told.plain

  -- the path has the bytes of the text's end
  same_bytes : (m : ℕ) → m < length_of row → from_end text m ≡ from_end path m
  same_bytes m below =
      let n : ℕ = length_of row in
      let some = (asks.told told.part).0 in
      let spare = asks.spare in
      let long = path_end.fits in
      let few : n ≤ 8 = omega arith in
      let cut : row.spare % 64 ≡ 8 * (8 - n) = omega arith in
      let number : end_key text n ≡ end_key path n =
      sym (asks.end some).number ∙ (passes.end some ∙ (without_bytes-shift probe.end (8 - n) (row.spare % 64) cut ∙ shows.ends n few (omega arith))) in
      let lower = same_lower text path shape.shape.plain.bytes path_end.bytes n few number m below in
      sym (shape.shape.plain.small m below) ∙ (lower ∙ path_end.small m (omega arith))

  no_slash : (m : ℕ) → m < length_of row → ¬ (from_end path m ≡ slash)
  no_slash m below is = false≢true (sym (shape.literal.literal m below) ∙ ap is_joining (same_bytes m below ∙ is))

-- what each way to match says of the name, each reading says of a pattern of names
told_as : (text : List ℕ) (pattern_mode : pattern.Mode) (rest : List ℕ) (start : Option ℕ) (is_dir : Bool) (case : Case) → looks_at_name pattern_mode ≡ true → is_for_directories pattern_mode ≡ false
    → ((way : Way) → SplitsBy (subject pattern_mode rest start) text way) → (reading : Reading) → AnswersAs reading text pattern_mode rest start is_dir case
told_as text pattern_mode rest start is_dir case name any all Crate = record {
  directory = λ yes. absurd (false≢true (sym any ∙ yes));
  splits = all (way_of (with_case path_mode case));
}
told_as text pattern_mode rest start is_dir case name any all Git = record {
  directory = λ yes. absurd (false≢true (sym any ∙ yes));
  by_name = λ _. all (git_way case);
  by_path = λ other. absurd (false≢true (sym (ap not name) ∙ other));
}

-- A pattern whose row tells that a path has its end answers for what a folder leaves of the path.
pub told_answers : (text : List ℕ) (pattern_mode : pattern.Mode) (base : Option (List ℕ)) (path rest : List ℕ) (is_dir : Bool) (rules : Rules) (row : Row) (probe : Probe)
    → ForSome base IsFolder → Shows path probe → Asks text pattern_mode row → Passes row probe → IsTold row probe → RestOf rules.case base path rest → AnswersFor text pattern_mode rest is_dir rules
told_answers text pattern_mode base path rest is_dir rules row probe folder shows asks passes told left =
    let start = basename_start_of rest in
    let value : List ℕ = subject pattern_mode rest start.0 in
    let n : ℕ = length_of row in
    let told_shape = shape text path pattern_mode row probe shows asks passes told in
    let long = (path_end text path pattern_mode row probe shows asks passes told).fits in
    let few : n ≤ 8 = (let spare = asks.spare in omega arith) in
    let part = subject_is_part pattern_mode path rest start.0 start.1 (rest_is_part rules.case base path rest folder left) in
    let fits : n ≤ length value = part_is_long path value n part (omega arith) (no_slash text path pattern_mode row probe shows asks passes told) in
    let all : (way : Way) → SplitsBy value text way =
    λ way. star_matches way text value n told_shape.shape.star told_shape.shape.long told_shape.literal
    (name_has_no_slash pattern_mode rest start.0 told_shape.name start.1) fits
    (λ m below. same_bytes text path pattern_mode row probe shows asks passes told m below ∙ sym (end_of path value part.at part.is m (omega arith))) in
    record {
      basename_start = start.0;
      basename = start.1;
      answers = told_as text pattern_mode rest start.0 is_dir rules.case told_shape.name told_shape.all all rules.reading;
    }
