-- What is known of a source, and what it was asked for, over calls that follow one another.
use Rattle.std.proofs.Common.{◌≡◌, ◌⊎◌, inl, inr, ⊎_elim, Bool, true, false, Ok, Err, sym}
use Rattle.std.specs.Prelude.{MatchBool, OnErr, OnOk, Result, is_ok}
use Rattle.std.proofs.lemmas.Bool.{false≢true}
use Rattle.glob_trees.specs.Ways.{Folder, GivesOnly}
use Rattle.tree_commands.specs.FileTrees.{FileTree, StaysKnown}

pub stays_further : {S : Type 0} (shows : S → FileTree → Type 0) (old middle new : S) → StaysKnown shows old middle → StaysKnown shows middle new → StaysKnown shows old new
stays_further shows old middle new one two = λ tree known. two tree (one tree known)

-- what the first calls and the last one may ask for
pub gives_further : (First Last All old middle new : Folder → Type 0) → ((folder : Folder) → First folder → All folder) → ((folder : Folder) → Last folder → All folder)
    → GivesOnly First old middle → GivesOnly Last middle new → GivesOnly All old new
gives_further First Last All old middle new first last one two folder given = ⊎_elim
    (λ (before : middle folder). ⊎_elim (λ (known : old folder). inl known) (λ (here : First folder). inr (first folder here)) (one folder before))
    (λ (here : Last folder). inr (last folder here))
    (two folder given)

-- nothing was asked for
pub gives_none : (All old middle new : Folder → Type 0) → GivesOnly All old middle → GivesOnly (λ _. ⊥) middle new → GivesOnly All old new
gives_none All old middle new one two folder given = ⊎_elim (λ (before : middle folder). one folder before) (λ (never : ⊥). absurd never) (two folder given)

-- ---- outcomes

pub on_any_err : {X E P : Type 0} (result : Result X E) → P → OnErr result P
on_any_err (Ok x) p = tt
on_any_err (Err e) p = p

-- an outcome that is as good as another one
pub on_ok_through : {X Y E F P Q : Type 0} (result : Result X E) (other : Result Y F) → is_ok other ≡ is_ok result → (P → Q) → OnOk result P → OnOk other Q
on_ok_through (Ok x) (Ok y) same then p = then p
on_ok_through (Ok x) (Err f) same then p = tt
on_ok_through (Err e) (Ok y) same then p = absurd (cc)
on_ok_through (Err e) (Err f) same then p = tt

-- what a test tells, by how it came out
pub at_true : (P Q : Type 0) (b : Bool) → b ≡ true → MatchBool b P Q → P
at_true P Q true is p = p
at_true P Q false is p = absurd (false≢true is)

pub at_false : (P Q : Type 0) (b : Bool) → b ≡ false → MatchBool b P Q → Q
at_false P Q true is p = absurd (false≢true (sym is))
at_false P Q false is p = p
