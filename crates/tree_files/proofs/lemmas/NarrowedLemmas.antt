-- What a narrowed source shows.
use Rattle.std.proofs.Common.{◌≡◌, ◌⊎◌, inl, inr, ⊎_elim, refl, Bool, true, false, not, IsTrue, if◌then◌else◌, ℕ, List, sym, ◌∙◌, subst}
use Rattle.std.specs.Prelude.{◌↔◌, Option, None, Some}
use Rattle.std.proofs.lemmas.Bool.{false≢true}
use Rattle.pathspecs.specs.Lists.{Matches, MayMatchIn}
use Rattle.tree_commands.specs.declared.files.source.EntryKind.{EntryKind}
use Rattle.tree_commands.specs.declared.files.source.EntryKind.TheVariants.{File, Folder as OfFolder}
use Rattle.tree_commands.specs.FileTrees.{FileTree}
use Rattle.tree_commands.specs.Lookups.{HasEntryBelow}
use Rattle.tree_files.specs.Narrowing.{Asked, AsksFor, IsNarrowed, IsOpen, as_folder}

-- ---- a folder

-- the first isn't so, and the second is
pub second_unless : (First Second Not : Type 0) (is_not : Bool) → ¬ First → Second → (IsTrue is_not ↔ Not) → IsTrue (not is_not) ↔ (First ⊎ (Second × ¬ Not))
second_unless First Second Not true none second is = (λ never. absurd (false≢true never), ⊎_elim (λ first. absurd (none first)) (λ both. absurd (both.1 (is.0 refl))))
second_unless First Second Not false none second is = (λ _. inr (second, λ has. false≢true (is.1 has)), λ _. refl)

-- nothing may match in the folder
pub none_may : (First May Lets : Type 0) → ¬ First → ¬ May → IsTrue false ↔ (First ⊎ (May × Lets))
none_may First May Lets other none = (λ never. absurd (false≢true never), ⊎_elim (λ first. absurd (other first)) (λ both. absurd (none both.0)))

-- it isn't let in, so that it must be no repository
pub no_repository : (First May Lets : Type 0) (has_git there : Bool) → has_git ≡ there → ¬ First → May → ¬ Lets → IsTrue (not has_git) ↔ (First ⊎ (May × (there ≡ true → Lets)))
no_repository First May Lets true there same other may none = (λ never. absurd (false≢true never), ⊎_elim (λ first. absurd (other first)) (λ both. absurd (none (both.1 (sym same)))))
no_repository First May Lets false there same other may none = (λ _. inr (may, λ is. absurd (false≢true (same ∙ is))), λ _. refl)

-- ---- what stands at a path

pub none_by : {X : Type 0} (o : Option X) → ((x : X) → o ≡ Some x → ⊥) → None ≡ o
none_by None never = refl
none_by (Some x) never = absurd (never x refl)

-- nothing is asked for there
abbrev pub AsksAny : Asked → List ℕ → Type 0
AsksAny asked path = Matches asked.items path ⊎ (MayMatchIn asked.items (as_folder path) ⊎ (HasEntryBelow asked.tracked path × IsOpen asked.items (as_folder path)))

pub no_kind : (asked : Asked) (whole : FileTree) (path : List ℕ) → ¬ AsksAny asked path → (kind : EntryKind) → AsksFor asked whole path kind → ⊥
no_kind asked whole path none File asks = none (inl asks)
no_kind asked whole path none OfFolder asks = ⊎_elim (λ tracked. none (inr (inr tracked))) (λ may. none (inr (inl may.0))) asks

pub unasked : (asked : Asked) (whole tree : FileTree) (path : List ℕ) → IsNarrowed asked whole tree → ¬ AsksAny asked path → None ≡ tree.kind path
unasked asked whole tree path narrowed none = none_by (tree.kind path) (λ kind is. no_kind asked whole path none kind ((narrowed.kind path kind).0 is).1)

-- nothing stands there
pub missing : (asked : Asked) (whole tree : FileTree) (path : List ℕ) → IsNarrowed asked whole tree → None ≡ whole.kind path → None ≡ tree.kind path
missing asked whole tree path narrowed none = none_by (tree.kind path) (λ kind is. none_is_not_some (none ∙ ((narrowed.kind path kind).0 is).0))
  where
    none_is_not_some : {X : Type 0} {x : X} → ◌≡◌ {A = Option X} None (Some x) → ⊥
    none_is_not_some is = cc

-- something stands there, and is shown if it is asked for
pub shown_if_asked : (asked : Asked) (whole tree : FileTree) (path : List ℕ) (kind : EntryKind) (is_asked : Bool) → IsNarrowed asked whole tree → Some kind ≡ whole.kind path
    → (IsTrue is_asked ↔ AsksFor asked whole path kind) → (if is_asked then Some kind else None) ≡ tree.kind path
shown_if_asked asked whole tree path kind true narrowed there is = sym ((narrowed.kind path kind).1 (sym there, is.0 refl))
shown_if_asked asked whole tree path kind false narrowed there is = none_by (tree.kind path) (λ other at. false≢true (is.1 (subst (λ (k : EntryKind). AsksFor asked whole path k) (same other kind (sym ((narrowed.kind path other).0 at).0 ∙ sym there)) ((narrowed.kind path other).0 at).1)))
  where
    same : (other kind : EntryKind) → ◌≡◌ {A = Option EntryKind} (Some other) (Some kind) → other ≡ kind
    same other kind is = cc
