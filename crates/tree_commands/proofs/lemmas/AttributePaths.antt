-- What is known when the folders on the way to a path are entered.
use Rattle.std.proofs.Common.{◌≡◌, ℕ, zero, suc, ◌+◌, ◌≤◌, List, [], ◌∷◌, ◌++◌, ◌-◌, length, map, take, take_all, Option, None, Some, refl, sym, ap, subst, ◌∙◌, append-nil, arith}
use Rattle.std.specs.List.{AllByRecursion, AllZip, Contains, flat_map}
use Rattle.std.specs.Option.{option_map_or}
use Rattle.std.proofs.lemmas.Option.{same_Some}
use Rattle.gix_glob.specs.Bytes.{HasByte, slash}
use Rattle.glob_attributes.specs.Macros.{Definition}
use Rattle.glob_trees.specs.declared.on_way.FolderOnWay.{FolderOnWay}
use Rattle.glob_trees.specs.Ways.{Folder, folders_to, unless_empty}
use Rattle.glob_trees.proofs.lemmas.Stepping.{passing_way}
use Rattle.tree_commands.specs.declared.check_attr.walk.FolderAttributes.{FolderAttributes}
use Rattle.tree_commands.specs.CheckAttr.{Asked, FolderFile, Files, macros_for}
use Rattle.tree_commands.specs.Private.AttributeWays.{HasGoneTo, IsAt, IsEntered, IsOnWay, IsSighted, Sighting, kept_list, own_lists, top_sight}
use Rattle.tree_commands.proofs.lemmas.AttributeWalks.{all_at}

-- ---- paths and their slashes

-- behind its last slash a path passes no folder
level_rest : (path : List ℕ) (n k : ℕ) → n + k ≡ length path → ((place : ℕ) → k ≤ place → ¬ HasByte path place slash) → folders_to path ≡ folders_to (take k path)
level_rest path zero k long none = ap folders_to (sym (take_all k path (omega (arith, long))))
level_rest path (suc n) k long none =
    level_rest path n (k + 1) (omega (arith, long)) (λ place past. none place (omega (arith, past)))
    ∙ passing_way path k (omega (arith, long)) (λ is. none k (omega arith) (record { inside = omega (arith, long); is = is }))

pub level_end : (path : List ℕ) (k : ℕ) → k ≤ length path → ((place : ℕ) → k ≤ place → ¬ HasByte path place slash) → folders_to path ≡ folders_to (take k path)
level_end path k inside none = level_rest path (length path - k) k (omega (arith, inside)) none

-- ---- the folders on the way, with their files

module _ (asked : Asked) (macros : List Definition) (shows : Folder → Option (List ℕ) → Type 0) (read : List (List ℕ)) (sights : List Sighting) (sighted : AllByRecursion (IsSighted asked macros shows read) sights) where
  pub record Walked (ats : List Sighting) : Type 0 where
    pub way : List FolderFile
    pub folders : map (λ at. at.0) way ≡ map (λ at. at.folder) ats
    pub shown : AllByRecursion (λ at. shows at.0 (Some at.1)) way
    pub has_read : AllByRecursion (λ at. Contains read at.1) way
    pub lists : flat_map (λ at. unless_empty (kept_list asked macros at.0 at.1)) way ≡ flat_map (own_lists asked macros) ats

  -- what stands there isn't the top
  sighted_at : (place : ℕ) (at : Sighting) (file : List ℕ) → IsAt sights place at → at.file ≡ Some file → IsSighted asked macros shows read at
  sighted_at zero at file there stands = absurd (let none : None ≡ at.file = ap (λ (s : Sighting). s.file) (same_Some top_sight at there) in cc)
  sighted_at (suc k) at file there stands = all_at (IsSighted asked macros shows read) sights k at sighted there

  pub walked : (ats : List Sighting) (way : List FolderOnWay) → AllZip (IsOnWay (own_lists asked macros) sights) ats way → Walked ats
  walked [] [] each = record { way = []; folders = refl; shown = tt; has_read = tt; lists = refl }
  walked [] (w ∷ way) each = absurd each
  walked (at ∷ ats) [] each = absurd each
  walked (at ∷ ats) (w ∷ way) each =
      let here = each.0 in
      let rest = walked ats way each.1 in
      let seen = sighted_at w.place at here.file here.sighted here.stands in
      record {
        way = (at.folder, here.file) ∷ rest.way;
        folders = ap (λ fs. at.folder ∷ fs) rest.folders;
        shown = (subst (shows at.folder) here.stands seen.shown, rest.shown);
        has_read = (seen.has_read here.file here.stands, rest.has_read);
        lists = ap (λ ls. unless_empty (kept_list asked macros at.folder here.file) ++ ls) rest.lists
            ∙ ap (λ ls. ls ++ flat_map (own_lists asked macros) ats) (sym (ap (λ o. option_map_or (λ bytes. unless_empty (kept_list asked macros at.folder bytes)) o []) here.stands));
      }

-- ---- a walk that has gone to a path

module _ {S Q : Type 0} (files : Files) (asked : Asked) (shows : Folder → Option (List ℕ) → Type 0) (shows_of : S → Folder → Option (List ℕ) → Type 0) (walk : FolderAttributes S Q) (walks : IsEntered files asked shows shows_of walk) (path : List ℕ) where
  pub gone_as_far : (further : List Folder) → folders_to path ≡ folders_to walk.folder.items ++ further → ((folder : Folder) (below : List Folder) → further ≡ folder ∷ below → shows folder None)
      → HasGoneTo files asked shows shows_of walk path
  gone_as_far further joined ends =
      let e = walks.entered in
      let all = walked asked (macros_for files) shows walks.read e.sights e.known.sighted e.on_way walk.way.items e.each in
      record {
        walks = walks;
        way = all.way;
        on_way = record {
          further = further;
          joined = joined ∙ ap (λ fs. fs ++ further) (e.joined ∙ ap (λ fs. [] ∷ fs) (sym all.folders));
          shown = all.shown;
          ends = ends;
        };
        are_read = record { shown = e.shown; on_way = all.has_read };
        standing = e.standing ∙ ap (λ ls. ls ++ kept_list asked (macros_for files) [] files.info ∷ []) (sym all.lists);
      }

  -- the path lies in the folder entered last
  pub gone_to : folders_to path ≡ folders_to walk.folder.items → HasGoneTo files asked shows shows_of walk path
  gone_to level = gone_as_far [] (level ∙ sym (append-nil (folders_to walk.folder.items))) (λ folder below is. absurd (cc))
