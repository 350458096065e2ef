-- What one call does to the folders that are entered.
use Rattle.std.proofs.Common.{◌≡◌, ◌⊎◌, inl, inr, ⊎_elim, ℕ, zero, suc, ◌+◌, ◌-◌, ◌<◌, ◌≤◌, Bool, true, false, List, [], ◌∷◌, ◌++◌, length, map, take, take_all, drop, Option, None, Some, refl, sym, ap, subst, ◌∙◌, append-nil, length-take-le, arith}
use Rattle.std.specs.Prelude.{if◌then◌else◌, is_some, slice_get, slice_index}
use Rattle.std.specs.List.{AllZip, flat_map}
use Rattle.std.proofs.Math.Seq.{split_at}
use Rattle.std.proofs.lemmas.Bool.{false≢true}
use Rattle.std.proofs.lemmas.Grind.{flat_map-append}
use Rattle.std.proofs.lemmas.List.{take-append-drop, take-take}
use Rattle.gix_glob.specs.Bytes.{HasByte, slash}
use Rattle.gix_glob.specs.EntryLists.{EntryList}
use Rattle.glob_attributes.specs.Macros.{Definition}
use Rattle.glob_attributes.specs.States.{Assigned, Lists}
use Rattle.glob_attributes.specs.Told.{names_read, with_names}
use Rattle.glob_attributes.proofs.lemmas.ToldLemmas.{with_names-append}
use Rattle.glob_trees.specs.declared.on_way.FolderOnWay.{FolderOnWay}
use Rattle.glob_trees.specs.Known.{FolderNames}
use Rattle.glob_trees.specs.Ways.{Folder, folders_to, start_of}
use Rattle.glob_trees.proofs.lemmas.InFolder.{tail}
use Rattle.glob_trees.proofs.lemmas.Stepping.{passing_way}
use Rattle.glob_trees.proofs.lemmas.WayLemmas.{folders_more, further}
use Rattle.tree_commands.specs.declared.check_attr.walk.FoundFolder.{FoundFolder}
use Rattle.tree_commands.specs.CheckAttr.{Asked, Files, built_in, files_of, names_of}
use Rattle.tree_commands.specs.Private.AttributeWays.{AreEntered, IsBefore, IsOnWay, IsPlaceOf, IsSighted, Sighting, last_on, own_lists}
use Rattle.tree_commands.proofs.lemmas.AttributePaths.{level_end}
use Rattle.tree_commands.proofs.lemmas.AttributeWalks.{all_at, get_inside, last_long}

-- ---- texts

-- a text that another one begins with, and the rest of it
pub joined_at : (folder text : List ℕ) → folder ≡ take (length folder) text → folder ++ drop (length folder) text ≡ text
joined_at folder text begins = ap (λ f. f ++ drop (length folder) text) begins ∙ take-append-drop (length folder) text

-- the same, with the rest cut out so
pub named_at : (folder text : List ℕ) (count : ℕ) → folder ≡ take (length folder) text → count ≡ length folder → text ≡ folder ++ take (length text - count) (drop count text)
named_at folder text count begins is =
    sym (joined_at folder text begins) ∙ ap (λ n. folder ++ drop n text) (sym is) ∙ ap (λ t. folder ++ t) (sym (tail count text))

pub begins_before : (folder path : List ℕ) (k : ℕ) → folder ≡ take (length folder) path → length folder ≤ k → folder ≡ take (length folder) (take k path)
begins_before folder path k begins inside = begins ∙ sym (take-take (length folder) k path inside)

pub start_some : (t : Folder) → ¬ (t ≡ []) → start_of t ≡ t ++ slash ∷ []
start_some [] some = absurd (some refl)
start_some (x ∷ xs) some = refl

-- what stands before a slash, which isn't the first byte
pub front_some : (path : List ℕ) (place : ℕ) → ¬ (place ≡ 0) → place < length path → ¬ (take place path ≡ [])
front_some path place deep inside none = deep (omega (arith, ap length none, length-take-le place path (omega (arith, inside))))

pub level_past : (path : List ℕ) (k : ℕ) → ((place : ℕ) → k ≤ place → ¬ HasByte path place slash) → folders_to path ≡ folders_to (take k path)
level_past path k none = ⊎_elim
    (λ (inside : k ≤ length path). level_end path k inside none)
    (λ (past : length path ≤ k). ap folders_to (sym (take_all k path past)))
    (either k (length path))
  where
    either : (m n : ℕ) → (m ≤ n) ⊎ (n ≤ m)
    either zero n = inl (omega arith)
    either (suc m) zero = inr (omega arith)
    either (suc m) (suc n) = ⊎_elim (λ (low : m ≤ n). inl (omega (arith, low))) (λ (high : n ≤ m). inr (omega (arith, high))) (either m n)

-- ---- a path that is gone along

-- a byte that is no slash is passed
pub passed : (folder path : List ℕ) (place : ℕ) → IsBefore folder path place → place < length path → ¬ (slice_index path place ≡ slash) → IsBefore folder path (place + 1)
passed folder path place before inside other = record {
  begins = before.begins;
  inside = let inside = before.inside in omega arith;
  level = passing_way path place inside other ∙ before.level;
}

pub begun : (folder path : List ℕ) → folder ≡ take (length folder) path → IsBefore folder path (length folder)
begun folder path begins = record { begins = begins; inside = omega arith; level = ap folders_to (sym begins) }

-- no folder stands before a slash: the way ends there
pub record EndsThere (shows : Folder → Option (List ℕ) → Type 0) (path folder : List ℕ) : Type 0 where
  pub beyond : List Folder
  pub joined : folders_to path ≡ folders_to folder ++ beyond
  pub ends : (first : Folder) (below : List Folder) → beyond ≡ first ∷ below → shows first None

further_first : (t rest : List ℕ) (first : Folder) (below : List Folder) → ¬ (t ≡ []) → further t (slash ∷ rest) ≡ first ∷ below → t ≡ first
further_first [] rest first below some is = absurd (some refl)
further_first (x ∷ xs) rest first below some is = let same : (x ∷ xs) ≡ first = cc in same

pub ends_there : (shows : Folder → Option (List ℕ) → Type 0) (folder path : List ℕ) (place : ℕ) → HasByte path place slash → ¬ (place ≡ 0) → IsBefore folder path place → shows (take place path) None → EndsThere shows path folder
ends_there shows folder path place here deep before none =
    let t = take place path in
    let rest = drop (suc place) path in
    let split : path ≡ t ++ slash ∷ rest = rw here.is at (split_at path place 0 here.inside) in
    record {
      beyond = further t (slash ∷ rest);
      joined = ap folders_to split ∙ folders_more t (slash ∷ rest) ∙ ap (λ fs. fs ++ further t (slash ∷ rest)) before.level;
      ends = λ first below is. subst (λ f. shows f None) (further_first t rest first below (front_some path place deep here.inside) is) none;
    }

-- ---- names that are read

pub names_more : (files : Files) (read : List (List ℕ)) (bytes : List ℕ) → names_of files (read ++ bytes ∷ []) ≡ with_names (names_of files read) (names_read false bytes)
names_more files read bytes =
    let outer : List (List ℕ) = with_names [] (flat_map (names_read true) (built_in ∷ files_of files)) in
    ap (with_names outer) (flat_map-append (names_read false) read (bytes ∷ []) ∙ ap (λ ns. flat_map (names_read false) read ++ ns) (append-nil (names_read false bytes)))
    ∙ with_names-append outer (flat_map (names_read false) read) (names_read false bytes)

pub is_seen : (is_there : Bool) (bytes : List ℕ) → is_there ≡ is_some (if is_there then Some bytes else None)
is_seen true bytes = refl
is_seen false bytes = refl

-- ---- what is known

module _ (asked : Asked) (macros : List Definition) (shows : Folder → Option (List ℕ) → Type 0) (info : EntryList (List Assigned)) (lists : Lists) (folder : List ℕ) (way : List FolderOnWay) (names : FolderNames) (held : List FoundFolder) (read : List (List ℕ)) (e : AreEntered asked macros shows info lists folder way names held read) where
  pub outer_long : (last_on way).length ≡ length folder
  outer_long = last_long (own_lists asked macros) e.sights e.on_way way e.each ∙ ap length (sym e.starts)

  -- no folder stands at a place
  none_at : (place : ℕ) (at : Sighting) → 0 < place → slice_get (record { folder = []; file = None } ∷ e.sights) place ≡ Some at → shows at.folder at.file
  none_at zero at deep there = absurd (omega (arith, deep))
  none_at (suc k) at deep there = let seen = all_at (IsSighted asked macros shows read) e.sights k at e.known.sighted there in seen.shown

  no_file : (file : Option (List ℕ)) → false ≡ is_some file → file ≡ None
  no_file None is = refl
  no_file (Some bytes) is = absurd (false≢true is)

  pub not_there : (t : Folder) (place : ℕ) (p : IsPlaceOf e.sights t place) (found : FoundFolder) → slice_get held place ≡ Some found → found.is_there ≡ false → shows t None
  not_there t place p found is none =
      let h = e.known.kept place found p.at is p.there in
      subst (λ f. shows f None) p.named (subst (shows p.at.folder) (no_file p.at.file (sym none ∙ h.is_there)) (none_at place p.at p.deep p.there))

  -- the top alone is on the way
  pub at_top : folder ≡ [] → (way ≡ []) × (lists ≡ info ∷ [])
  at_top top = top_at e.on_way way e.each (let same : [] ∷ [] ≡ [] ∷ map (λ (a : Sighting). a.folder) e.on_way = sym (ap folders_to top) ∙ e.joined in cc) e.standing
    where
      top_at : (ats : List Sighting) (on : List FolderOnWay) → AllZip (IsOnWay (own_lists asked macros) e.sights) ats on → [] ≡ map (λ (a : Sighting). a.folder) ats → lists ≡ flat_map (own_lists asked macros) ats ++ info ∷ [] → (on ≡ []) × (lists ≡ info ∷ [])
      top_at [] [] each none standing = (refl, standing)
      top_at [] (w ∷ on) each none standing = absurd each
      top_at (a ∷ ats) on each none standing = absurd (cc)

  -- what is kept by its place
  pub place_inside : (t : Folder) (place : ℕ) → IsPlaceOf e.sights t place → place < length held
  place_inside t place p = let inside = get_inside (record { folder = []; file = None } ∷ e.sights) place p.at p.there in omega (arith, inside, e.known.level)

pub some_of : {X : Type 0} (o : Option X) → true ≡ is_some o → (x : X) × (o ≡ Some x)
some_of None is = absurd (false≢true (sym is))
some_of (Some x) is = (x, refl)

pub none_of : {X : Type 0} (o : Option X) → false ≡ is_some o → o ≡ None
none_of None is = refl
none_of (Some x) is = absurd (false≢true is)
