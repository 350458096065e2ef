-- Paths: what is read is spelled so, and what is spelled so is read.
use Rattle.std.proofs.Common.{◌≡◌, ◌⊎◌, ℕ, suc, ◌+◌, ◌-◌, ◌%◌, ◌≤◌, Bool, true, false, cond, eqb, ltb, ◌||◌, List, [], ◌∷◌, ◌++◌, length, take, Result, Ok, Err, refl, sym, ap, subst, ◌∙◌, append_assoc, arith, inl, inr}
use Rattle.std.specs.Prelude.{replicate, MatchBool}
use Rattle.std.specs.List.{list_all}
use Rattle.std.proofs.lemmas.Bool.{eqb-true, eq-eqb, ltb-false, le-ltb}
use Rattle.std.proofs.lemmas.List.{take_at, length-append, length-replicate}
use Rattle.git_index.specs.declared.fault.IndexFault.{IndexFault}
use Rattle.git_index.specs.declared.fault.IndexFault.TheVariants.{Path, PathsTooLong}
use Rattle.git_index.specs.Format.{IsPadded, IsShared}
use Rattle.git_index.specs.Private.Reading.{◌>>=◌, joined_of, padded_at, parts_at, shared_at, shared_number_from, skipped, until_zero}
use Rattle.git_index.proofs.lemmas.Fields.{IsBytes, IsBytes-front, bind_ok, ok_is, skipped_again, skipped_takes}
use Rattle.git_index.proofs.lemmas.Numbers.{number-again, number-takes}
use Rattle.git_index.proofs.lemmas.Zeros.{replicate-zeros, until_zero-again, until_zero-takes, zeros_are}

passed_test : {A : Type 0} (b : Bool) (d : IndexFault) (x y : A) → cond b (Ok x) (Err d) ≡ Ok y → (b ≡ true) × (x ≡ y)
passed_test true d x y e = (refl, cc)
passed_test false d x y e = absurd cc

-- ---- versions 2 and 3

pub record TakesPadded (front : ℕ) (bytes : List ℕ) (x : List ℕ × List ℕ) : Type 0 where
  pub text : List ℕ
  pub joined : bytes ≡ text ++ x.1
  pub padded : IsPadded front x.0 text

pub padded_takes : (front : ℕ) (bytes : List ℕ) (x : List ℕ × List ℕ) → padded_at front bytes ≡ Ok x → TakesPadded front bytes x
unfolding padded_at
padded_takes front bytes x e =
    let left = λ (path : List ℕ × List ℕ). 7 - (front + length path.0) % 8 in
    let checked = λ (path : List ℕ × List ℕ) (rest : List ℕ). cond (list_all (λ b. eqb b 0) (take (left path) path.1)) (Ok (path.0, rest)) (Err Path) in
    let a = bind_ok (until_zero bytes) (λ path. skipped (left path) path.1 >>= checked path) x e in
    let b = bind_ok (skipped (left a.0) a.0.1) (checked a.0) x a.2 in
    let g = passed_test (list_all (λ b. eqb b 0) (take (left a.0) a.0.1)) Path (a.0.0, b.0) x b.2 in
    let t = until_zero-takes bytes a.0 a.1 in
    let s = skipped_takes (left a.0) a.0.1 b.0 b.1 in
    let zeros : take (left a.0) a.0.1 ≡ replicate (left a.0) 0 = zeros_are (take (left a.0) a.0.1) g.0 ∙ ap (λ (n : ℕ). replicate n 0) s.1 in
    let behind : a.0.1 ≡ replicate (left a.0) 0 ++ b.0 = s.0 ∙ ap (λ (w : List ℕ). w ++ b.0) zeros in
    let joined : bytes ≡ (a.0.0 ++ 0 ∷ replicate (left a.0) 0) ++ b.0 = t.0 ∙ ap (λ (w : List ℕ). a.0.0 ++ 0 ∷ w) behind ∙ sym (append_assoc a.0.0 (0 ∷ replicate (left a.0) 0) b.0) in
    let one : TakesPadded front bytes (a.0.0, b.0) = record {
      text = a.0.0 ++ 0 ∷ replicate (left a.0) 0;
      joined = joined;
      padded = record { zeros = suc (left a.0); some = (omega arith, omega arith); divided = omega arith; whole = t.1; joined = refl };
    } in
    subst (λ (y : List ℕ × List ℕ). TakesPadded front bytes y) g.1 one

pub padded_again : (front : ℕ) (path text rest : List ℕ) → IsPadded front path text → padded_at front (text ++ rest) ≡ Ok (path, rest)
unfolding padded_at
padded_again front path text rest p =
    let left = 7 - (front + length path) % 8 in
    let n : p.zeros ≡ suc left = omega (arith, p.divided, p.some.0, p.some.1) in
    let regrouped : text ++ rest ≡ path ++ 0 ∷ (replicate left 0 ++ rest) = ap (λ (w : List ℕ). w ++ rest) (p.joined ∙ ap (λ (k : ℕ). path ++ replicate k 0) n) ∙ append_assoc path (0 ∷ replicate left 0) rest in
    let skip : skipped left (replicate left 0 ++ rest) ≡ Ok rest = skipped_again (replicate left 0) rest left (length-replicate left 0) in
    let all : list_all (λ b. eqb b 0) (take left (replicate left 0 ++ rest)) ≡ true = rw (take_at (replicate left 0) rest left (length-replicate left 0)) (replicate-zeros left) in
    ap (padded_at front) regrouped ∙ rw (until_zero-again path (replicate left 0 ++ rest) p.whole, skip, all) refl

-- ---- version 4

pub record TakesShared (previous bytes : List ℕ) (x : (List ℕ × List ℕ) × List ℕ) : Type 0 where
  pub text : List ℕ
  pub joined : bytes ≡ text ++ x.1
  pub shared : IsShared previous (x.0.0 ++ x.0.1) text

pub shared_takes : (previous bytes : List ℕ) (x : (List ℕ × List ℕ) × List ℕ) → IsBytes bytes → shared_at previous bytes ≡ Ok x → TakesShared previous bytes x
unfolding shared_at
shared_takes previous bytes x fits e =
    let made : ℕ × List ℕ → List ℕ × List ℕ → (List ℕ × List ℕ) × List ℕ = λ n added. ((take (length previous - n.0) previous, added.0), added.1) in
    let a = bind_ok (shared_number_from (length previous) 0 bytes) (λ n. until_zero n.1 >>= λ added. Ok (made n added)) x e in
    let b = bind_ok (until_zero a.0.1) (λ added. Ok (made a.0 added)) x a.2 in
    let t = number-takes (length previous) 0 bytes a.0 fits a.1 in
    let s = until_zero-takes a.0.1 b.0 b.1 in
    let regrouped : t.text ++ (b.0.0 ++ 0 ∷ b.0.1) ≡ (t.text ++ (b.0.0 ++ 0 ∷ [])) ++ b.0.1 = ap (λ (w : List ℕ). t.text ++ w) (sym (append_assoc b.0.0 (0 ∷ []) b.0.1)) ∙ sym (append_assoc t.text (b.0.0 ++ 0 ∷ []) b.0.1) in
    let one : TakesShared previous bytes (made a.0 b.0) = record {
      text = t.text ++ (b.0.0 ++ 0 ∷ []);
      joined = t.joined ∙ ap (λ (w : List ℕ). t.text ++ w) s.0 ∙ regrouped;
      shared = record { number = t.text; taken = a.0.0; counted = (t.counted, t.within); added = b.0.0; whole = s.1; is = refl; joined = refl };
    } in
    subst (λ (y : (List ℕ × List ℕ) × List ℕ). TakesShared previous bytes y) (ok_is (made a.0 b.0) x b.2) one

pub shared_again : (previous path text rest : List ℕ) → IsBytes text → (p : IsShared previous path text) → shared_at previous (text ++ rest) ≡ Ok ((take (length previous - p.taken) previous, p.added), rest)
unfolding shared_at
shared_again previous path text rest fits p =
    let regrouped : text ++ rest ≡ p.number ++ (p.added ++ 0 ∷ rest) = ap (λ (w : List ℕ). w ++ rest) p.joined ∙ append_assoc p.number (p.added ++ 0 ∷ []) rest ∙ ap (λ (w : List ℕ). p.number ++ w) (append_assoc p.added (0 ∷ []) rest) in
    let number_fits = IsBytes-front p.number (p.added ++ 0 ∷ []) text p.joined fits in
    ap (shared_at previous) regrouped ∙ rw (number-again (length previous) 0 p.number (p.added ++ 0 ∷ rest) p.taken number_fits p.counted.0 p.counted.1, until_zero-again p.added rest p.whole) refl

-- ---- either

pub record TakesParts (shares : Bool) (front : ℕ) (previous bytes : List ℕ) (x : (List ℕ × List ℕ) × List ℕ) : Type 0 where
  pub text : List ℕ
  pub joined : bytes ≡ text ++ x.1
  pub spelled : MatchBool shares (IsShared previous (x.0.0 ++ x.0.1) text) (IsPadded front (x.0.0 ++ x.0.1) text)

abbrev parts_by : Bool → ℕ → List ℕ → List ℕ → Result ((List ℕ × List ℕ) × List ℕ) IndexFault
parts_by shares front previous bytes = cond shares (shared_at previous bytes) (padded_at front bytes >>= λ x. Ok (([], x.0), x.1))

either_takes : (shares : Bool) (front : ℕ) (previous bytes : List ℕ) (x : (List ℕ × List ℕ) × List ℕ) → IsBytes bytes → parts_by shares front previous bytes ≡ Ok x → TakesParts shares front previous bytes x
either_takes true front previous bytes x fits e = let t = shared_takes previous bytes x fits e in record { text = t.text; joined = t.joined; spelled = t.shared }
either_takes false front previous bytes x fits e =
    let made : List ℕ × List ℕ → (List ℕ × List ℕ) × List ℕ = λ p. (([], p.0), p.1) in
    let a = bind_ok (padded_at front bytes) (λ p. Ok (made p)) x e in
    let t = padded_takes front bytes a.0 a.1 in
    let one : TakesParts false front previous bytes (made a.0) = record { text = t.text; joined = t.joined; spelled = t.padded } in
    subst (λ (y : (List ℕ × List ℕ) × List ℕ). TakesParts false front previous bytes y) (ok_is (made a.0) x a.2) one

pub parts_takes : (version front : ℕ) (previous bytes : List ℕ) (x : (List ℕ × List ℕ) × List ℕ) → IsBytes bytes → parts_at version front previous bytes ≡ Ok x → TakesParts (eqb version 4) front previous bytes x
unfolding parts_at
parts_takes version front previous bytes x fits e = either_takes (eqb version 4) front previous bytes x fits e

-- the parts that are read again
pub record FindsParts (path rest : List ℕ) (read : Result ((List ℕ × List ℕ) × List ℕ) IndexFault) : Type 0 where
  pub kept : List ℕ
  pub added : List ℕ
  pub joined : path ≡ kept ++ added
  pub is : read ≡ Ok ((kept, added), rest)

either_again : (shares : Bool) (front : ℕ) (previous path text rest : List ℕ) → IsBytes text → MatchBool shares (IsShared previous path text) (IsPadded front path text) → FindsParts path rest (parts_by shares front previous (text ++ rest))
either_again true front previous path text rest fits p = record { kept = take (length previous - p.taken) previous; added = p.added; joined = p.is; is = shared_again previous path text rest fits p }
either_again false front previous path text rest fits p = record { kept = []; added = path; joined = refl; is = rw (padded_again front path text rest p) refl }

pub parts_again : (version front : ℕ) (previous path text rest : List ℕ) → IsBytes text → MatchBool (eqb version 4) (IsShared previous path text) (IsPadded front path text) → FindsParts path rest (parts_at version front previous (text ++ rest))
unfolding parts_at
parts_again version front previous path text rest fits p = either_again (eqb version 4) front previous path text rest fits p

-- ---- the whole path

told_by_first : (b : Bool) (told len : ℕ) → eqb told 4095 ≡ b → (b || eqb told len) ≡ true → (told ≡ 4095) ⊎ (told ≡ len)
told_by_first true told len is e = inl (eqb-true _ _ is)
told_by_first false told len is e = inr (eqb-true _ _ e)

told_by : (told len : ℕ) → (eqb told 4095 || eqb told len) ≡ true → (told ≡ 4095) ⊎ (told ≡ len)
told_by told len e = told_by_first (eqb told 4095) told len refl e

second_suffices : (a b : Bool) → b ≡ true → (a || b) ≡ true
second_suffices true b e = refl
second_suffices false b e = e

tells : (told len : ℕ) → (told ≡ 4095) ⊎ (told ≡ len) → (eqb told 4095 || eqb told len) ≡ true
tells told len (inl untold) = rw (eq-eqb told 4095 untold) refl
tells told len (inr same) = second_suffices (eqb told 4095) (eqb told len) (eq-eqb told len same)

pub record TakesPath (kept added : List ℕ) (told room : ℕ) (path : List ℕ) : Type 0 where
  pub is : path ≡ kept ++ added
  pub told_is : (told ≡ 4095) ⊎ (told ≡ length path)
  pub fits : length path ≤ room

room_and_length : (p q : Bool) (path found : List ℕ) → cond p (Err PathsTooLong) (cond q (Ok path) (Err Path)) ≡ Ok found → (p ≡ false) × (q ≡ true) × (path ≡ found)
room_and_length true q path found e = absurd cc
room_and_length false true path found e = (refl, refl, ok_is path found e)
room_and_length false false path found e = absurd cc

pub joined_takes : (kept added : List ℕ) (told room : ℕ) (path : List ℕ) → joined_of kept added told room ≡ Ok path → TakesPath kept added told room path
unfolding joined_of
joined_takes kept added told room path e =
    let len = length kept + length added in
    let g = room_and_length (ltb room len) (eqb told 4095 || eqb told len) (kept ++ added) path e in
    let one : TakesPath kept added told room (kept ++ added) = record {
      is = refl;
      told_is = rw (length-append kept added) (told_by told len g.1);
      fits = rw (length-append kept added) (ltb-false _ _ g.0);
    } in
    subst (λ (y : List ℕ). TakesPath kept added told room y) g.2 one

pub joined_again : (kept added : List ℕ) (told room : ℕ) (path : List ℕ) → path ≡ kept ++ added → (told ≡ 4095) ⊎ (told ≡ length path) → length path ≤ room → joined_of kept added told room ≡ Ok path
unfolding joined_of
joined_again kept added told room path is told_is fits =
    let len : length path ≡ length kept + length added = ap length is ∙ length-append kept added in
    let told_len : (told ≡ 4095) ⊎ (told ≡ length kept + length added) = subst (λ (n : ℕ). (told ≡ 4095) ⊎ (told ≡ n)) len told_is in
    rw (le-ltb room (length kept + length added) (omega arith), tells told (length kept + length added) told_len, ← is) refl
