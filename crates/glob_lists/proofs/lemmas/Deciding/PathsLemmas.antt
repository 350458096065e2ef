-- The test of a path.
use Rattle.std.proofs.Common.{◌≡◌, ◌≢◌, ◌⊎◌, ⊎_elim, ℕ, ◌+◌, ◌<◌, Bool, true, false, cond, List, [], ◌++◌, length, take, drop, refl, sym, ap, subst, ◌∙◌, length-append, arith}
use Rattle.std.specs.Prelude.{codes}
use Rattle.std.proofs.lemmas.List.{get_or_append_left, length-take-le, take-append-drop}
use Rattle.gix_glob.specs.Bytes.{HasByte, slash}
use Rattle.glob_lists.specs.Paths.{IsPlainPath, MarksDirectory}

-- The bytes before place i are those of a plain path, unless two of them are slashes in a row.
pub record IsPlainUpTo (path : List ℕ) (i : ℕ) (has_two_slashes : Bool) : Type 0 where
  pub some : 0 < length path
  pub relative : ¬ HasByte path 0 slash
  pub none : has_two_slashes ≡ false → (k : ℕ) → k + 1 < i → HasByte path k slash → ¬ HasByte path (k + 1) slash
  pub found : has_two_slashes ≡ true → ¬ IsPlainPath path

-- ---- the path of a path line

HasByte-front : (xs ys : List ℕ) (i b : ℕ) → HasByte xs i b → HasByte (xs ++ ys) i b
HasByte-front xs ys i b h =
    record { inside = omega (arith, length-append xs ys, h.inside); is = get_or_append_left xs ys 0 i h.inside ∙ h.is }

-- a line that is a slash, or nothing, is no plain path
no_path : (is_dir : Bool) → ¬ IsPlainPath ([] ++ cond is_dir (codes "/") [])
no_path true plain = plain.relative (record { inside = omega arith; is = refl })
no_path false plain = plain.some refl

-- the path of a line that is plain is plain too
pub IsPlainPath-marked : (line path : List ℕ) (is_dir : Bool) → IsPlainPath line → MarksDirectory line path is_dir → IsPlainPath path
IsPlainPath-marked line path is_dir plain marked =
    let in_line : (i : ℕ) → HasByte path i slash → HasByte line i slash =
    λ i h. subst (λ l. HasByte l i slash) (sym marked.joined) (HasByte-front path _ i slash h) in
    record {
      some = λ empty. no_path is_dir (subst IsPlainPath (marked.joined ∙ ap (λ l. l ++ cond is_dir (codes "/") []) empty) plain);
      relative = λ h. plain.relative (in_line 0 h);
      single = λ i first second. plain.single i (in_line i first) (in_line (i + 1) second);
    }

-- ---- the folder before a slash

HasByte-take : (path : List ℕ) (place i b : ℕ) → HasByte (take place path) i b → HasByte path i b
HasByte-take path place i b h =
    subst (λ l. HasByte l i b) (take-append-drop place path) (HasByte-front (take place path) (drop place path) i b h)

-- what stands before a slash of a plain path is plain too
pub IsPlainPath-folder : (path : List ℕ) (place : ℕ) → (path ≡ []) ⊎ IsPlainPath path → HasByte path place slash → IsPlainPath (take place path)
IsPlainPath-folder path place kept here = ⊎_elim
    (λ (none : path ≡ []). absurd (let inside : place < length path = here.inside in omega (arith, ap length none)))
    (λ (plain : IsPlainPath path).
    let later : place ≢ 0 = λ first. plain.relative (subst (λ k. HasByte path k slash) first here) in
    let some : take place path ≢ [] = λ empty. later (sym (length-take-le place path (omega (arith, here.inside))) ∙ ap length empty) in
    record {
      some = some;
      relative = λ h. plain.relative (HasByte-take path place 0 slash h);
      single = λ i first second. plain.single i (HasByte-take path place i slash first) (HasByte-take path place (i + 1) slash second);
    })
    kept
