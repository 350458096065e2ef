-- A listing under way: what was listed, and what is pending.
use Rattle.std.specs.Prelude.{◌≡◌, ◌⊎◌, ◌↔◌, ℕ, ◌≤◌, List, [], ◌∷◌, ◌++◌, length, take, Option}
use Rattle.std.specs.Io.KnownBytes.{Appends}
use Rattle.std.specs.List.{AllByRecursion, flat_map}
use Rattle.gix_glob.specs.declared.pattern.Case.{Case}
use Rattle.gix_glob.specs.EntryLists.{EntryList}
use Rattle.byte_streams.specs.Transfers.{AppendsFront}
use Rattle.glob_trees.specs.Ways.{Folder, start_of}
use Rattle.tree_commands.specs.declared.files.lister.Lister.{Lister}
use Rattle.tree_commands.specs.declared.files.pending.Pending.{Pending}
use Rattle.tree_commands.specs.FileTrees.{FileTree}
use Rattle.tree_commands.specs.Files.{Basis, ComesBefore, IsMet, IsTold, Terms}
use Rattle.tree_commands.specs.Private.Listing.{Among, AreAscending, MayVisit, Stands, path_of, seen_lists}

abbrev pub count_of : Pending → ℕ
count_of pending = pending.list_count

-- the path comes before the other one, and so does all that lies below it
pub record Precedes (path other : List ℕ) : Type 0 where
  pub here : ComesBefore path other
  pub below : (folder : Folder) (rest : List ℕ) → path ≡ start_of folder → ComesBefore (path ++ rest) other

module _ {X : Type 0} (path : X → List ℕ) (count : X → ℕ) where
  pub record Above (under over : X) : Type 0 where
    pub counts : count under ≤ count over
    pub order : Precedes (path over) (path under)

  -- each lies below all those that follow it
  abbrev pub IsStack : List X → Type 0
  IsStack [] = Unit {0}
  IsStack (x ∷ xs) = AllByRecursion (Above x) xs × IsStack xs

-- paths were listed in order, and others are pending, each of which comes behind those
pub record IsUnderWay (case : Case) (listed : List (List ℕ)) (pending : List Pending) (lists : List (EntryList (Unit {0}))) : Type 0 where
  pub may : (next : Pending) → Among pending next → MayVisit case (path_of next)
  pub counts : (next : Pending) → Among pending next → next.list_count ≤ length lists
  pub stacked : IsStack path_of count_of pending
  pub behind : (path : List ℕ) (next : Pending) → Among listed path → Among pending next → ComesBefore path (path_of next)
  pub ordered : AreAscending listed

-- what was listed is told, what is pending is met, and what is still to be told is met from that
pub record IsHalfway (basis : Basis) (tree : FileTree) (start : List ℕ) (listed : List (List ℕ)) (pending : List Pending) (lists : List (EntryList (Unit {0}))) : Type 0 where
  pub sound : (path : List ℕ) → Among listed path → IsMet basis tree start path × IsTold basis tree path
  pub met : (next : Pending) → Among pending next → IsMet basis tree start (path_of next)
  pub standing : (next : Pending) → Among pending next → Stands basis tree lists next
  pub complete : (path : List ℕ) → IsMet basis tree start path → IsTold basis tree path → Among listed path ⊎ ((next : Pending) × Among pending next × IsMet basis tree (path_of next) path)

-- where a listing began: what was pending, and the lists
pub record Beginning : Type 0 where
  pub pending : List Pending
  pub lists : List (EntryList (Unit {0}))

abbrev pub beginning_of : Lister → Beginning
beginning_of lister = record { pending = lister.pending.items; lists = seen_lists lister.on_way.lists.items }

-- what follows of a known tree wherever a listing began at a path of it
abbrev pub OfKnown : (FileTree → Type 0) → Terms → Beginning → (Basis → FileTree → List ℕ → Type 0) → Type 0
OfKnown Known terms beginning Holds =
    (tree : FileTree) → Known tree → (basis : Basis) → basis.terms ≡ terms → (start : List ℕ) → IsHalfway basis tree start [] beginning.pending beginning.lists → Holds basis tree start

-- paths were listed, others are pending, and of the lines of those that were listed these were written, and the text is left
pub record IsWriting (line : List ℕ → List ℕ) (Known : FileTree → Type 0) (terms : Terms) (beginning : Beginning) (old new : Option (List ℕ)) (text : List ℕ) (pending : List Pending) (lists : List (EntryList (Unit {0}))) : Type 0 where
  pub listed : List (List ℕ)
  pub under_way : IsUnderWay terms.case listed pending lists
  pub written : List ℕ
  pub appended : Appends old new written
  pub joined : flat_map line listed ≡ written ++ text
  pub halfway : OfKnown Known terms beginning (λ basis tree start. IsHalfway basis tree start listed pending lists)

-- the lines of all paths that are to be listed were written, in order
pub record WritesAll (line : List ℕ → List ℕ) (Known : FileTree → Type 0) (terms : Terms) (beginning : Beginning) (old new : Option (List ℕ)) : Type 0 where
  pub listed : List (List ℕ)
  pub ordered : AreAscending listed
  pub appended : Appends old new (flat_map line listed)
  pub exact : OfKnown Known terms beginning (λ basis tree start. (path : List ℕ) → Among listed path ↔ (IsMet basis tree start path × IsTold basis tree path))

-- a front of the lines of some of these paths was written
pub record WritesFront (line : List ℕ → List ℕ) (Known : FileTree → Type 0) (terms : Terms) (beginning : Beginning) (old new : Option (List ℕ)) : Type 0 where
  pub listed : List (List ℕ)
  pub ordered : AreAscending listed
  pub appended : AppendsFront old new (flat_map line listed)
  pub sound : OfKnown Known terms beginning (λ basis tree start. (path : List ℕ) → Among listed path → IsMet basis tree start path × IsTold basis tree path)
