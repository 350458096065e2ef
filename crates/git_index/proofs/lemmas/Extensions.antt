-- Extensions that may be passed over, one after the other.
use Rattle.std.proofs.Common.{◌≡◌, ◌⊎◌, ℕ, ◌^◌, ◌<◌, ◌≤◌, Bool, true, false, cond, eqb, ltb, ◌||◌, List, [], ◌∷◌, ◌++◌, length, get_or, take, drop, Result, Ok, Err, refl, sym, ap, subst, ◌∙◌, append_assoc, arith, inl, inr}
use Rattle.std.specs.Int.{w32, from_be_bytes, to_be_bytes}
use Rattle.std.specs.Prelude.{codes, nat_eq}
use Rattle.std.specs.List.{AllByRecursion, flat_map, starts_with}
use Rattle.std.proofs.lemmas.Bool.{ltb-false, le-ltb}
use Rattle.std.proofs.lemmas.Bool.Decides.{Decides-eqb}
use Rattle.std.proofs.lemmas.Slice.Eq.{starts_is}
use Rattle.std.proofs.lemmas.List.{length-append}
use Rattle.git_index.specs.declared.fault.IndexFault.{IndexFault}
use Rattle.git_index.specs.declared.fault.IndexFault.TheVariants.{Memory, Extension, Sparse}
use Rattle.git_index.specs.Format.{ArePassedOver, IsExtension, extension_text}
use Rattle.git_index.specs.Private.Reading.{◌>>=◌, Ends, extension_at, number_at, skipped}
use Rattle.git_index.proofs.lemmas.Fields.{IsBytes, IsBytes-behind, IsBytes-front, bind_ok, number_again, number_takes, ok_is, skipped_again, skipped_takes, wide32}

-- what a name is that passes each test
passes : (b c : Bool) (e f : IndexFault) (r : Result (List ℕ) IndexFault) (rest : List ℕ) → cond b (Err e) (cond c (Err f) r) ≡ Ok rest → (c ≡ false) × (r ≡ Ok rest)
passes true c e f r rest is = absurd cc
passes false true e f r rest is = absurd cc
passes false false e f r rest is = (refl, is)

neither : (a b : Bool) → (a || b) ≡ false → (a ≡ false) × (b ≡ false)
neither true b e = absurd cc
neither false b e = (refl, e)

-- the head of a name, by its number
head_from_number : (name : List ℕ) → IsBytes name → 0x41000000 ≤ from_be_bytes w32 name → from_be_bytes w32 name ≤ 0x5AFFFFFF → (65 ≤ get_or name 0 0) × (get_or name 0 0 ≤ 90)
head_from_number name fits low high = (omega (arith, fits 0, fits 1, fits 2, fits 3), omega (arith, fits 0, fits 1, fits 2, fits 3))

number_from_head : (name : List ℕ) → IsBytes name → 65 ≤ get_or name 0 0 → get_or name 0 0 ≤ 90 → (0x41000000 ≤ from_be_bytes w32 name) × (from_be_bytes w32 name ≤ 0x5AFFFFFF)
number_from_head name fits low high = (omega (arith, fits 0, fits 1, fits 2, fits 3), omega (arith, fits 0, fits 1, fits 2, fits 3))

pub record TakesExtension (bytes rest : List ℕ) : Type 0 where
  pub x : List ℕ × List ℕ
  pub passed : IsExtension x
  pub joined : bytes ≡ extension_text x ++ rest

pub extension_takes : (bytes rest : List ℕ) → IsBytes bytes → extension_at bytes ≡ Ok rest → TakesExtension bytes rest
unfolding extension_at
extension_takes bytes rest fits e =
    let tail = λ (name len : ℕ × List ℕ). cond (eqb name.0 0x73646972) (Err Sparse) (cond (ltb name.0 0x41000000 || ltb 0x5AFFFFFF name.0) (Err (Extension name.0)) (skipped len.0 len.1)) in
    let a = bind_ok (number_at w32 bytes) (λ name. number_at w32 name.1 >>= λ len. tail name len) rest e in
    let b = bind_ok (number_at w32 a.0.1) (λ len. tail a.0 len) rest a.2 in
    let p = passes (eqb a.0.0 0x73646972) (ltb a.0.0 0x41000000 || ltb 0x5AFFFFFF a.0.0) Sparse (Extension a.0.0) (skipped b.0.0 b.0.1) rest b.2 in
    let t0 = number_takes w32 (2 ^ 32) wide32 bytes a.0.0 a.0.1 fits a.1 in
    let fits1 = IsBytes-behind (to_be_bytes w32 a.0.0) a.0.1 bytes t0.0 fits in
    let name_fits = IsBytes-front (to_be_bytes w32 a.0.0) a.0.1 bytes t0.0 fits in
    let t1 = number_takes w32 (2 ^ 32) wide32 a.0.1 b.0.0 b.0.1 fits1 b.1 in
    let t2 = skipped_takes b.0.0 b.0.1 rest p.1 in
    let tests = neither (ltb a.0.0 0x41000000) (ltb 0x5AFFFFFF a.0.0) p.0 in
    let back : from_be_bytes w32 (to_be_bytes w32 a.0.0) ≡ a.0.0 = wide32.again a.0.0 t0.1 in
    let low : 0x41000000 ≤ from_be_bytes w32 (to_be_bytes w32 a.0.0) = rw back (ltb-false _ _ tests.0) in
    let high : from_be_bytes w32 (to_be_bytes w32 a.0.0) ≤ 0x5AFFFFFF = rw back (ltb-false _ _ tests.1) in
    let head = head_from_number (to_be_bytes w32 a.0.0) name_fits low high in
    let made : List ℕ × List ℕ = (to_be_bytes w32 a.0.0, take b.0.0 b.0.1) in
    let len_text : bytes ≡ to_be_bytes w32 a.0.0 ++ (to_be_bytes w32 b.0.0 ++ (take b.0.0 b.0.1 ++ rest)) = t0.0 ∙ ap (λ (w : List ℕ). to_be_bytes w32 a.0.0 ++ w) (t1.0 ∙ ap (λ (w : List ℕ). to_be_bytes w32 b.0.0 ++ w) t2.0) in
    record {
      x = made;
      passed = (refl, head.0, head.1, omega (arith, t2.1, t1.1));
      joined = len_text ∙ rw t2.1 (ap (λ (w : List ℕ). to_be_bytes w32 a.0.0 ++ w) (sym (append_assoc (to_be_bytes w32 b.0.0) (take b.0.0 b.0.1) rest)) ∙ sym (append_assoc (to_be_bytes w32 a.0.0) (to_be_bytes w32 b.0.0 ++ take b.0.0 b.0.1) rest));
    }

neq : (m n : ℕ) → m < n → eqb m n ≡ false
neq m n lt = grind arith

pub extension_again : (x : List ℕ × List ℕ) (rest : List ℕ) → IsBytes x.0 → IsExtension x → extension_at (extension_text x ++ rest) ≡ Ok rest
unfolding extension_at
extension_again x rest fits is =
    let range = number_from_head x.0 fits is.1 is.2 in
    let n = from_be_bytes w32 x.0 in
    let name : x.0 ≡ to_be_bytes w32 n = sym (wide32.back x.0 is.0 fits) in
    let regrouped : extension_text x ++ rest ≡ to_be_bytes w32 n ++ (to_be_bytes w32 (length x.1) ++ (x.1 ++ rest)) =
    append_assoc x.0 (to_be_bytes w32 (length x.1) ++ x.1) rest ∙ ap (λ (w : List ℕ). w ++ ((to_be_bytes w32 (length x.1) ++ x.1) ++ rest)) name ∙ ap (λ (w : List ℕ). to_be_bytes w32 n ++ w) (append_assoc (to_be_bytes w32 (length x.1)) x.1 rest) in
    let no_sdir : eqb n 0x73646972 ≡ false = neq n 0x73646972 (omega (arith, range.1)) in
    let low : ltb n 0x41000000 ≡ false = le-ltb _ _ range.0 in
    let high : ltb 0x5AFFFFFF n ≡ false = le-ltb _ _ range.1 in
    ap extension_at regrouped ∙ rw (number_again w32 (2 ^ 32) wide32 n (to_be_bytes w32 (length x.1) ++ (x.1 ++ rest)) (wide32.below x.0 fits), number_again w32 (2 ^ 32) wide32 (length x.1) (x.1 ++ rest) is.3, no_sdir, low, high, skipped_again x.1 rest (length x.1) refl) refl

-- passing over one extension keeps what can be said of the rest
pub passes_on : (bytes rest end : List ℕ) → IsBytes bytes → extension_at bytes ≡ Ok rest → ArePassedOver rest end → ArePassedOver bytes end
passes_on bytes rest end fits e passed =
    let t = extension_takes bytes rest fits e in
    (t.x ∷ passed.0, (t.passed, passed.1), t.joined ∙ ap (λ (w : List ℕ). extension_text t.x ++ w) passed.2 ∙ sym (append_assoc (extension_text t.x) (flat_map extension_text passed.0) end))

pub record BeginsWithOne (bytes end : List ℕ) : Type 0 where
  pub rest : List ℕ
  pub read : extension_at bytes ≡ Ok rest
  pub passed : ArePassedOver rest end

-- an extension's name begins with another byte than a link's
not_link : (x : List ℕ × List ℕ) (rest : List ℕ) → IsExtension x → starts_with nat_eq (extension_text x ++ rest) (codes "link") ≡ true → ⊥
not_link ([], content) rest is starts = absurd (omega (arith, is.0))
not_link (b ∷ name, content) rest is starts =
    let bytes = extension_text (b ∷ name, content) ++ rest in
    let begins : bytes ≡ codes "link" ++ drop 4 bytes = (starts_is Decides-eqb bytes (codes "link") (starts_with nat_eq bytes (codes "link")) refl).0 starts in
    let first : b ≡ 108 = ap (λ (w : List ℕ). get_or w 0 0) begins in
    absurd (omega (arith, is.2, first))

no_end : (x : List ℕ × List ℕ) (rest : List ℕ) → IsExtension x → Ends (extension_text x ++ rest) → ⊥
no_end x rest is (inl short) = absurd (omega (arith, short, length-append (extension_text x) rest, length-append x.0 (to_be_bytes w32 (length x.1) ++ x.1), length-append (to_be_bytes w32 (length x.1)) x.1, wide32.len (length x.1), is.0))
no_end x rest is (inr starts) = not_link x rest is starts

begins_by : (xs : List (List ℕ × List ℕ)) (end bytes : List ℕ) → IsBytes bytes → (¬ Ends bytes) → Ends end → AllByRecursion IsExtension xs → bytes ≡ flat_map extension_text xs ++ end → BeginsWithOne bytes end
begins_by [] end bytes fits some ends all e = absurd (some (subst (λ (w : List ℕ). Ends w) (sym e) ends))
begins_by (x ∷ xs) end bytes fits some ends all e =
    let rest = flat_map extension_text xs ++ end in
    let whole : bytes ≡ extension_text x ++ rest = e ∙ append_assoc (extension_text x) (flat_map extension_text xs) end in
    let name : bytes ≡ x.0 ++ ((to_be_bytes w32 (length x.1) ++ x.1) ++ rest) = whole ∙ append_assoc x.0 (to_be_bytes w32 (length x.1) ++ x.1) rest in
    record {
      rest = rest;
      read = ap extension_at whole ∙ extension_again x rest (IsBytes-front x.0 ((to_be_bytes w32 (length x.1) ++ x.1) ++ rest) bytes name fits) all.0;
      passed = (xs, all.1, refl);
    }

pub begins_with_one : (bytes end : List ℕ) → IsBytes bytes → (¬ Ends bytes) → Ends end → ArePassedOver bytes end → BeginsWithOne bytes end
begins_with_one bytes end fits some ends passed = begins_by passed.0 end bytes fits some ends passed.1 passed.2

-- what is passed over begins with an extension that is read, and the rest is passed over too
pub passes_back : (bytes rest end : List ℕ) → IsBytes bytes → (¬ Ends bytes) → extension_at bytes ≡ Ok rest → Ends end → ArePassedOver bytes end → ArePassedOver rest end
passes_back bytes rest end fits some e ends passed =
    let one = begins_with_one bytes end fits some ends passed in
    let same : one.rest ≡ rest = ok_is one.rest rest (sym one.read ∙ e) in
    subst (λ (w : List ℕ). ArePassedOver w end) same one.passed

pub is_shorter : (bytes rest : List ℕ) → IsBytes bytes → extension_at bytes ≡ Ok rest → length rest < length bytes
is_shorter bytes rest fits e =
    let t = extension_takes bytes rest fits e in
    omega (arith, ap length t.joined, length-append (extension_text t.x) rest, length-append t.x.0 (to_be_bytes w32 (length t.x.1) ++ t.x.1), t.passed.0)

pub rest_fits : (bytes rest : List ℕ) → IsBytes bytes → extension_at bytes ≡ Ok rest → IsBytes rest
rest_fits bytes rest fits e = let t = extension_takes bytes rest fits e in IsBytes-behind (extension_text t.x) rest bytes t.joined fits

-- nothing is passed over where passing over stops
stops_by : (xs : List (List ℕ × List ℕ)) (bytes end : List ℕ) → Ends bytes → AllByRecursion IsExtension xs → bytes ≡ flat_map extension_text xs ++ end → bytes ≡ end
stops_by [] bytes end ends all e = e
stops_by (x ∷ xs) bytes end ends all e =
    let whole : bytes ≡ extension_text x ++ (flat_map extension_text xs ++ end) = e ∙ append_assoc (extension_text x) (flat_map extension_text xs) end in
    absurd (no_end x (flat_map extension_text xs ++ end) all.0 (subst (λ (w : List ℕ). Ends w) whole ends))

pub stops_here : (bytes end : List ℕ) → Ends bytes → ArePassedOver bytes end → bytes ≡ end
stops_here bytes end ends passed = stops_by passed.0 bytes end ends passed.1 passed.2

-- where an extension is refused, nothing that is passed over begins with it
pub is_refused : (bytes end : List ℕ) (fault : IndexFault) → IsBytes bytes → (¬ Ends bytes) → (fault ≡ Memory) ⊎ (extension_at bytes ≡ Err fault) → Ends end → ArePassedOver bytes end → fault ≡ Memory
is_refused bytes end fault fits some (inl memory) ends passed = memory
is_refused bytes end fault fits some (inr e) ends passed = let one = begins_with_one bytes end fits some ends passed in let two : Ok one.rest ≡ Err fault = sym one.read ∙ e in absurd cc
