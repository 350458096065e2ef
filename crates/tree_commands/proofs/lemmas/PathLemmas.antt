-- Paths of entries: what is plain, and what ends in a slash.
use Rattle.std.proofs.Common.{◌≡◌, ◌≢◌, ◌⊎◌, inl, inr, ⊎_elim, ℕ, ◌+◌, ◌-◌, ◌<◌, ◌≤◌, true, false, List, [], ◌∷◌, ◌++◌, length, take, refl, sym, ap, subst, ◌∙◌, append_assoc, append-nil, length-append, arith}
use Rattle.std.specs.Prelude.{Bool, if◌then◌else◌}
use Rattle.std.proofs.lemmas.Bool.{cases_lt, false≢true}
use Rattle.std.proofs.lemmas.List.{get_or-append_right, get_or_append_left, same_from_push, take_all, take_more}
use Rattle.std.proofs.lemmas.List.Elements.{All-from_recursion}
use Rattle.gix_glob.specs.declared.pattern.Case.{Case}
use Rattle.gix_glob.specs.Bytes.{EndsInSlash, HasByte, slash}
use Rattle.byte_streams.specs.Records.{HasNo}
use Rattle.glob_lists.specs.Paths.{IsPlainPath}
use Rattle.glob_trees.specs.Ways.{Folder, start_of}
use Rattle.git_paths.specs.Paths.{is_name}
use Rattle.tree_commands.specs.Files.{IsEntryName}
use Rattle.tree_commands.specs.Private.Listing.{EndsInName, LeadsOn, MayVisit}

-- ---- names

never_name : is_name [] ≡ false
never_name = refl

pub name_is_some : (case : Case) (name : List ℕ) → IsEntryName case name → name ≢ []
name_is_some case name may none = false≢true (sym never_name ∙ subst (λ n. is_name n ≡ true) none may.leads)

-- no byte of a name is a slash
no_slash_at : (name : List ℕ) (i : ℕ) → HasNo slash name → ¬ HasByte name i slash
no_slash_at name i none here = All-from_recursion (λ b. b ≢ slash) name none i 0 here.inside here.is

-- ---- texts that end in a slash

-- the last byte of a text
ends_by_place : (text : List ℕ) (i : ℕ) → i + 1 ≡ length text → HasByte text i slash → EndsInSlash text
ends_by_place text i last here = record {
  front = take i text;
  joined = sym (take_all (i + 1) text (omega arith)) ∙ take_more text i 0 here.inside ∙ ap (λ b. take i text ++ b ∷ []) here.is;
}

-- behind any text, a name doesn't end in a slash
unended : (start name : List ℕ) → name ≢ [] → HasNo slash name → ¬ EndsInSlash (start ++ name)
unended start [] some none ends = some refl
unended start (b ∷ []) some none ends =
    let same = same_from_push start ends.front b slash ends.joined in none.0 same.1
unended start (b ∷ c ∷ name) some none ends =
    unended (start ++ b ∷ []) (c ∷ name) (λ is. absurd (cc)) none.1 (record { front = ends.front; joined = append_assoc start (b ∷ []) (c ∷ name) ∙ ends.joined })

pub entry_unended : (case : Case) (start name : List ℕ) → IsEntryName case name → ¬ EndsInSlash (start ++ name)
entry_unended case start name may = unended start name (name_is_some case name may) may.whole

pub marked_ends : (text : List ℕ) → EndsInSlash (text ++ slash ∷ [])
marked_ends text = record { front = text; joined = refl }

-- the start of a folder's entries is empty, or ends in a slash
pub start_ends : (folder : Folder) → start_of folder ≢ [] → EndsInSlash (start_of folder)
start_ends [] some = absurd (some refl)
start_ends (b ∷ folder) some = marked_ends (b ∷ folder)

pub some_append : (xs ys : List ℕ) → ys ≢ [] → (xs ++ ys) ≢ []
some_append [] ys some is = some is
some_append (x ∷ xs) ys some is = absurd (cc)

pub top_start : (folder : Folder) → start_of folder ≡ [] → folder ≡ []
top_start [] none = refl
top_start (b ∷ folder) none = absurd (cc)

-- the start of another folder's entries is its path and a slash
pub start_marked : (folder : Folder) → folder ≢ [] → start_of folder ≡ folder ++ slash ∷ []
start_marked [] some = absurd (some refl)
start_marked (b ∷ folder) some = refl

-- by the start of its entries, a folder is known
pub one_folder : (folder other : Folder) → start_of folder ≡ start_of other → folder ≡ other
one_folder [] [] is = refl
one_folder [] (b ∷ other) is = absurd (cc)
one_folder (a ∷ folder) [] is = absurd (cc)
one_folder (a ∷ folder) (b ∷ other) is = let same = same_from_push (a ∷ folder) (b ∷ other) slash slash is in same.0

pub marked_start : (path : List ℕ) (folder : Folder) → path ++ slash ∷ [] ≡ start_of folder → folder ≡ path
marked_start path [] is = absurd (some_append path (slash ∷ []) (λ none. absurd (cc)) is)
marked_start path (b ∷ folder) is = let same = same_from_push path (b ∷ folder) slash slash is in sym same.0

-- ---- plain paths

module _ (path name : List ℕ) (plain : IsPlainPath path) (open_end : ¬ EndsInSlash path) (some : name ≢ []) (none : HasNo slash name) where
  longer : List ℕ
  longer = (path ++ slash ∷ []) ++ name

  long : length ((path ++ slash ∷ []) ++ name) ≡ length path + 1 + length name
  long = omega (arith, length-append (path ++ slash ∷ []) name, length-append path (slash ∷ []))

  has_bytes : 0 < length path
  has_bytes = some_bytes path plain.some
    where
      some_bytes : (bytes : List ℕ) → bytes ≢ [] → 0 < length bytes
      some_bytes [] not_empty = absurd (not_empty refl)
      some_bytes (b ∷ bytes) not_empty = omega arith

  -- a byte of the path, of the slash, or of the name
  of_path : (i : ℕ) → i < length path → HasByte ((path ++ slash ∷ []) ++ name) i slash → HasByte path i slash
  of_path i inside here = record {
    inside = inside;
    is = sym (get_or_append_left path (slash ∷ []) 0 i inside) ∙ sym (get_or_append_left (path ++ slash ∷ []) name 0 i (omega (arith, length-append path (slash ∷ [])))) ∙ here.is;
  }

  of_name : (i : ℕ) → length path + 1 ≤ i → ¬ HasByte ((path ++ slash ∷ []) ++ name) i slash
  of_name i behind here =
      let first : length (path ++ slash ∷ []) ≡ length path + 1 = length-append path (slash ∷ []) in
      let within = here.inside in
      no_slash_at name (i - (length path + 1)) none (record {
        inside = omega (arith, long);
        is = sym (get_or-append_right (path ++ slash ∷ []) name (length path + 1) i 0 first behind) ∙ here.is;
      })

  plain_longer : IsPlainPath ((path ++ slash ∷ []) ++ name)
  plain_longer = record {
    some = some_append (path ++ slash ∷ []) name some;
    relative = λ here. plain.relative (of_path 0 has_bytes here);
    single = λ i here next. elim (cases_lt (i + 1) (length path)) [
      | inl before ↦ plain.single i (of_path i (omega arith) here) (of_path (i + 1) before next)
      | inr later ↦ elim (cases_lt i (length path)) [
        | inl last ↦ open_end (ends_by_place path i (omega arith) (of_path i last here))
        | inr behind ↦ of_name (i + 1) (omega arith) next
      ]
    ];
  }

plain_name : (name : List ℕ) → name ≢ [] → HasNo slash name → IsPlainPath name
plain_name name some none = record {
  some = some;
  relative = no_slash_at name 0 none;
  single = λ i here next. no_slash_at name i none here;
}

-- the names in the top are paths, and so are those behind a path and a slash
pub top_leads_on : (case : Case) → LeadsOn case []
top_leads_on case name may = plain_name name (name_is_some case name may) may.whole

pub folder_leads_on : (case : Case) (path : List ℕ) → IsPlainPath path → ¬ EndsInSlash path → LeadsOn case (path ++ slash ∷ [])
folder_leads_on case path plain whole name may = plain_longer path name plain whole (name_is_some case name may) may.whole

-- ---- what may be visited

pub may_visit_top : (case : Case) → MayVisit case []
may_visit_top case = record {
  whole = λ is. absurd (cc);
  file = λ some. absurd (some refl);
  folder = λ folder is some. absurd (some (top_start folder (sym is)));
  plain = λ folder is. top_leads_on case;
}

-- a file's path, and a folder's
pub may_visit_file : (case : Case) (path : List ℕ) → IsPlainPath path → ¬ EndsInSlash path → MayVisit case path
may_visit_file case path plain whole = record {
  whole = λ is. whole (record { front = []; joined = is });
  file = λ some unended. plain;
  folder = λ folder is. absurd (no_start folder is);
  plain = λ folder is. absurd (no_start folder is);
}
  where
    no_start : (folder : Folder) → ¬ (path ≡ start_of folder)
    no_start folder is = whole (subst EndsInSlash (sym is) (start_ends folder (λ none. plain.some (is ∙ none))))

pub may_visit_folder : (case : Case) (path : List ℕ) → IsPlainPath path → ¬ EndsInSlash path → MayVisit case (path ++ slash ∷ [])
may_visit_folder case path plain whole = record {
  whole = λ is. plain.some (let same = same_from_push path [] slash slash is in same.0);
  file = λ some unended. absurd (unended (marked_ends path));
  folder = λ folder is some. (let same = marked_start path folder is in (subst IsPlainPath (sym same) plain, subst (λ f. ¬ EndsInSlash f) (sym same) whole));
  plain = λ folder is. folder_leads_on case path plain whole;
}

-- what is found in a folder that may be visited
pub may_visit_entry : (case : Case) (start found : List ℕ) → LeadsOn case start → EndsInName case start found → MayVisit case found
may_visit_entry case start found leads ends = ⊎_elim
    (λ (file : found ≡ start ++ ends.name). subst (MayVisit case) (sym file) (may_visit_file case (start ++ ends.name) (leads ends.name ends.may) (entry_unended case start ends.name ends.may)))
    (λ (folder : found ≡ (start ++ ends.name) ++ slash ∷ []). subst (MayVisit case) (sym folder) (may_visit_folder case (start ++ ends.name) (leads ends.name ends.may) (entry_unended case start ends.name ends.may)))
    ends.joined

-- ---- paths with their marks

abbrev pub mark_of : Bool → List ℕ
mark_of is_dir = if is_dir then slash ∷ [] else []

-- a path is known by it and its mark
pub one_mark : (path other : List ℕ) (is_dir also : Bool) → ¬ EndsInSlash path → ¬ EndsInSlash other → path ++ mark_of is_dir ≡ other ++ mark_of also → path ≡ other
one_mark path other true true whole open_end is = let same = same_from_push path other slash slash is in same.0
one_mark path other false false whole open_end is = sym (append-nil path) ∙ is ∙ append-nil other
one_mark path other true false whole open_end is = absurd (open_end (subst EndsInSlash (is ∙ append-nil other) (marked_ends path)))
one_mark path other false true whole open_end is = absurd (whole (subst EndsInSlash (sym is ∙ append-nil path) (marked_ends other)))
