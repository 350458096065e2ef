-- Bitmaps: the marks that are read are those that the words spell, and the other way.
use Rattle.std.proofs.Common.{◌≡◌, ◌⊎◌, ℕ, zero, suc, ◌+◌, ◌-◌, ◌^◌, ◌<◌, ◌≤◌, ◌/◌, ◌%◌, min, Bool, true, false, cond, eqb, ltb, List, [], ◌∷◌, ◌++◌, length, take, drop, Result, Ok, Err, refl, sym, ap, subst, ◌∙◌, append_assoc, arith, inl, inr}
use Rattle.std.specs.Prelude.{flat_map, replicate}
use Rattle.std.specs.List.{AllByRecursion}
use Rattle.std.specs.Int.{w32, w64, to_be_bytes}
use Rattle.std.proofs.lemmas.Bool.{cases_lt, lt-ltb, le-ltb}
use Rattle.std.proofs.Math.Nat.{sub-zero}
use Rattle.std.proofs.Math.Seq.{drop-nil, take-nil, take_all}
use Rattle.std.proofs.lemmas.List.{append-nil, length-append}
use Rattle.git_index.specs.declared.fault.IndexFault.{IndexFault}
use Rattle.git_index.specs.declared.fault.IndexFault.TheVariants.{Memory, Link, Position}
use Rattle.git_index.specs.Private.Reading.{◌>>=◌, marks_at, number_at, pushed, skipped, words_at}
use Rattle.git_index.specs.Split.{IsBitmap, Spell, bits_of, due_after, low_bits}
use Rattle.git_index.proofs.lemmas.Fields.{IsBytes, IsBytes-behind, bind_ok, number_again, number_takes, ok_is, skipped_again, skipped_takes, wide32, wide64}

-- ---- bits that are pushed

abbrev Pushed : Type 0
Pushed = Result (List Bool) IndexFault

push_step : (p x : Bool) (a b c d : Pushed) (f : List Bool → Pushed) → c ≡ (a >>= f) → d ≡ (b >>= f) → cond p c (cond x (Err Position) d) ≡ (cond p a (cond x (Err Position) b) >>= f)
push_step true x a b c d f ca db = ca
push_step false true a b c d f ca db = refl
push_step false false a b c d f ca db = db

pub pushed-append : (count : ℕ) (marks xs ys : List Bool) → pushed count marks (xs ++ ys) ≡ (pushed count marks xs >>= λ more. pushed count more ys)
unfolding pushed
pushed-append count marks [] ys = refl
pushed-append count marks (x ∷ xs) ys =
    push_step (ltb (length marks) count) x (pushed count (marks ++ x ∷ []) xs) (pushed count marks xs) (pushed count (marks ++ x ∷ []) (xs ++ ys)) (pushed count marks (xs ++ ys)) (λ more. pushed count more ys)
    (pushed-append count (marks ++ x ∷ []) xs ys) (pushed-append count marks xs ys)

-- a run within the entries
pub run_fits : (count : ℕ) (marks : List Bool) (n : ℕ) (bit : Bool) → n ≤ count - length marks → pushed count marks (replicate n bit) ≡ Ok (marks ++ replicate n bit)
unfolding pushed
run_fits count marks zero bit fits = ap (λ (w : List Bool). Ok w) (sym (append-nil marks))
run_fits count marks (suc n) bit fits =
    let room : ltb (length marks) count ≡ true = lt-ltb (length marks) count (omega arith) in
    let more = run_fits count (marks ++ bit ∷ []) n bit (omega (arith, length-append marks (bit ∷ []))) in
    rw room (more ∙ ap (λ (w : List Bool). Ok w) (append_assoc marks (bit ∷ []) (replicate n bit)))

-- one that is set goes on behind them
pub run_past : (count : ℕ) (marks : List Bool) (n : ℕ) → count - length marks < n → pushed count marks (replicate n true) ≡ Err Position
unfolding pushed
run_past count marks zero past = absurd (omega arith)
run_past count marks (suc n) past =
    elim (cases_lt (length marks) count) [
      | inl lt ↦
          let room : ltb (length marks) count ≡ true = lt-ltb (length marks) count lt in
          rw room (run_past count (marks ++ true ∷ []) n (omega (arith, length-append marks (true ∷ []))))
      | inr le ↦ let none : ltb (length marks) count ≡ false = le-ltb (length marks) count le in rw none refl
    ]

run_none : (count : ℕ) (marks : List Bool) (n : ℕ) → count ≤ length marks → pushed count marks (replicate n false) ≡ Ok marks
unfolding pushed
run_none count marks zero le = refl
run_none count marks (suc n) le = let none : ltb (length marks) count ≡ false = le-ltb (length marks) count le in rw none (run_none count marks n le)

-- one that isn't set does
pub run_ends : (count : ℕ) (marks : List Bool) (n : ℕ) → count - length marks < n → pushed count marks (replicate n false) ≡ Ok (marks ++ replicate (count - length marks) false)
unfolding pushed
run_ends count marks zero past = absurd (omega arith)
run_ends count marks (suc n) past =
    elim (cases_lt (length marks) count) [
      | inl lt ↦
          let room : ltb (length marks) count ≡ true = lt-ltb (length marks) count lt in
          let len : length (marks ++ false ∷ []) ≡ length marks + 1 = length-append marks (false ∷ []) in
          let left : count - length marks ≡ suc (count - length (marks ++ false ∷ [])) = omega arith in
          rw (room, left) (run_ends count (marks ++ false ∷ []) n (omega arith) ∙ ap (λ (w : List Bool). Ok w) (append_assoc marks (false ∷ []) (replicate (count - length (marks ++ false ∷ [])) false)))
      | inr le ↦
          let none : ltb (length marks) count ≡ false = le-ltb (length marks) count le in
          let left : count - length marks ≡ 0 = omega arith in
          rw (none, left) (run_none count marks n le ∙ ap (λ (w : List Bool). Ok w) (sym (append-nil marks)))
    ]

ends_by : (count : ℕ) (marks : List Bool) (len : ℕ) (bit : Bool) (all : ℕ) (m : List Bool) → (bit ≡ true → len ≤ count - length marks) → all ≡ length marks + min len (count - length marks)
    → m ≡ marks ++ replicate (all - length marks) bit → count - length marks < len → pushed count marks (replicate len bit) ≡ Ok m
ends_by count marks len true all m fits all_is m_is lt = let le : len ≤ count - length marks = fits refl in absurd (omega arith)
ends_by count marks len false all m fits all_is m_is lt =
    let n : all - length marks ≡ count - length marks = omega arith in
    run_ends count marks len lt ∙ ap (λ (w : List Bool). Ok w) (sym (m_is ∙ rw n refl))

-- what a run leaves, as it is written: cut to a length, and filled up
pub run_is : (count : ℕ) (marks : List Bool) (len : ℕ) (bit : Bool) (all : ℕ) (m : List Bool) → (bit ≡ true → len ≤ count - length marks) → all ≡ length marks + min len (count - length marks)
    → m ≡ take all marks ++ replicate (all - length marks) bit → pushed count marks (replicate len bit) ≡ Ok m
run_is count marks len bit all m fits all_is m_is =
    let whole : take all marks ≡ marks = take_all all marks (omega arith) in
    elim (cases_lt (count - length marks) len) [
      | inl lt ↦ ends_by count marks len bit all m fits all_is (m_is ∙ ap (λ (w : List Bool). w ++ replicate (all - length marks) bit) whole) lt
      | inr le ↦
          let n : all - length marks ≡ len = omega arith in
          run_fits count marks len bit le ∙ ap (λ (w : List Bool). Ok w) (sym (m_is ∙ rw (whole, n) refl))
    ]

-- ---- the bits of a plain word

one_more : (count : ℕ) (marks : List Bool) (bit : Bool) (bits : List Bool) → pushed count marks (bit ∷ bits) ≡ (pushed count marks (replicate 1 bit) >>= λ more. pushed count more bits)
one_more count marks bit bits = pushed-append count marks (bit ∷ []) bits

pub plain_goes : (count : ℕ) (marks m : List Bool) (i left : ℕ) (total : Pushed) → i < 64 → pushed count marks (replicate 1 (eqb (left % 2) 1)) ≡ Ok m
    → pushed count marks (low_bits (64 - i) left) ≡ total → pushed count m (low_bits (64 - (i + 1)) (left / 2)) ≡ total
unfolding low_bits
plain_goes count marks m i left total lt one so_far =
    let k : 64 - i ≡ suc (64 - (i + 1)) = omega arith in
    let step : pushed count marks (low_bits (64 - i) left) ≡ pushed count m (low_bits (64 - (i + 1)) (left / 2)) =
    rw k (one_more count marks (eqb (left % 2) 1) (low_bits (64 - (i + 1)) (left / 2)) ∙ ap (λ (r : Pushed). r >>= λ more. pushed count more (low_bits (64 - (i + 1)) (left / 2))) one) in
    sym step ∙ so_far

pub plain_fault : (count : ℕ) (marks : List Bool) (i left : ℕ) (fault : IndexFault) (total : Pushed) → i < 64 → (fault ≡ Memory) ⊎ (pushed count marks (replicate 1 (eqb (left % 2) 1)) ≡ Err fault)
    → pushed count marks (low_bits (64 - i) left) ≡ total → (fault ≡ Memory) ⊎ (total ≡ Err fault)
unfolding low_bits
plain_fault count marks i left fault total lt (inl memory) so_far = inl memory
plain_fault count marks i left fault total lt (inr one) so_far =
    let k : 64 - i ≡ suc (64 - (i + 1)) = omega arith in
    let step : pushed count marks (low_bits (64 - i) left) ≡ Err fault =
    rw k (one_more count marks (eqb (left % 2) 1) (low_bits (64 - (i + 1)) (left / 2)) ∙ ap (λ (r : Pushed). r >>= λ more. pushed count more (low_bits (64 - (i + 1)) (left / 2))) one) in
    inr (sym so_far ∙ step)

pub plain_done : (count : ℕ) (marks : List Bool) (i left : ℕ) (total : Pushed) → 64 ≤ i → pushed count marks (low_bits (64 - i) left) ≡ total → total ≡ Ok marks
unfolding low_bits pushed
plain_done count marks i left total le so_far =
    let k : 64 - i ≡ 0 = omega arith in
    let none : pushed count marks (low_bits (64 - i) left) ≡ Ok marks = rw k refl in
    sym so_far ∙ none

abbrev pub AllFalse : List Bool → Type 0
AllFalse bits = AllByRecursion (λ bit. bit ≡ false) bits

push_ways : (x : Bool) (b : Pushed) (m : List Bool) → cond x (Err Position) b ≡ Ok m → (x ≡ false) × (b ≡ Ok m)
push_ways true b m e = absurd cc
push_ways false b m e = (refl, e)

-- what is pushed are the bits about the entries, and the others aren't set
pub pushed_is : (count : ℕ) (marks bits m : List Bool) → pushed count marks bits ≡ Ok m → (m ≡ marks ++ take (count - length marks) bits) × AllFalse (drop (count - length marks) bits)
unfolding pushed
pushed_is count marks [] m e =
    let same : marks ≡ m = ok_is marks m e in
    rw (take-nil, drop-nil) (sym same ∙ sym (append-nil marks), tt)
pushed_is count marks (x ∷ bits) m e =
    elim (cases_lt (length marks) count) [
      | inl lt ↦
          let room : ltb (length marks) count ≡ true = lt-ltb (length marks) count lt in
          let len : length (marks ++ x ∷ []) ≡ length marks + 1 = length-append marks (x ∷ []) in
          let left : count - length marks ≡ suc (count - length (marks ++ x ∷ [])) = omega arith in
          let h = pushed_is count (marks ++ x ∷ []) bits m (rw room at e) in
          rw left (h.0 ∙ append_assoc marks (x ∷ []) (take (count - length (marks ++ x ∷ [])) bits), h.1)
      | inr le ↦
          let none : ltb (length marks) count ≡ false = le-ltb (length marks) count le in
          let left : count - length marks ≡ 0 = omega arith in
          let w = push_ways x (pushed count marks bits) m (rw none at e) in
          let h = pushed_is count marks bits m w.1 in
          let more : (m ≡ marks ++ take 0 bits) × AllFalse (drop 0 bits) = rw left at h in
          rw left (more.0, (w.0, more.1))
    ]

pub pushed_as : (count : ℕ) (marks bits : List Bool) → AllFalse (drop (count - length marks) bits) → pushed count marks bits ≡ Ok (marks ++ take (count - length marks) bits)
unfolding pushed
pushed_as count marks [] none = rw take-nil (ap (λ (w : List Bool). Ok w) (sym (append-nil marks)))
pushed_as count marks (x ∷ bits) none =
    elim (cases_lt (length marks) count) [
      | inl lt ↦
          let room : ltb (length marks) count ≡ true = lt-ltb (length marks) count lt in
          let len : length (marks ++ x ∷ []) ≡ length marks + 1 = length-append marks (x ∷ []) in
          let left : count - length marks ≡ suc (count - length (marks ++ x ∷ [])) = omega arith in
          let others : AllFalse (drop (suc (count - length (marks ++ x ∷ []))) (x ∷ bits)) = rw left at none in
          rw (room, left) (pushed_as count (marks ++ x ∷ []) bits others ∙ ap (λ (w : List Bool). Ok w) (append_assoc marks (x ∷ []) (take (count - length (marks ++ x ∷ [])) bits)))
      | inr le ↦
          let no : ltb (length marks) count ≡ false = le-ltb (length marks) count le in
          let left : count - length marks ≡ 0 = omega arith in
          let all : AllFalse (drop 0 (x ∷ bits)) = rw left at none in
          let again : AllFalse (drop (count - length marks) bits) = rw left all.1 in
          let is : x ≡ false = all.0 in
          let base = pushed_as count marks bits again in
          let more : pushed count marks bits ≡ Ok (marks ++ take 0 bits) = rw left at base in
          rw (no, is, left) more
    ]

pushed-nil : (count : ℕ) (marks : List Bool) → pushed count marks [] ≡ Ok marks
unfolding pushed
pushed-nil count marks = refl

-- ---- words

abbrev Words : Type 0
Words = Result (List Bool × List ℕ) IndexFault

pub record TakesWords (count n due : ℕ) (marks : List Bool) (bytes : List ℕ) (x : List Bool × List ℕ) : Type 0 where
  pub words : List ℕ
  pub bits : List Bool
  pub len : length words ≡ n
  pub joined : bytes ≡ flat_map (to_be_bytes w64) words ++ x.1
  pub spelled : Spell due words bits
  pub pushes : pushed count marks bits ≡ Ok x.0

pub words_take : (count n due : ℕ) (marks : List Bool) (bytes : List ℕ) (x : List Bool × List ℕ) → IsBytes bytes → words_at count n due marks bytes ≡ Ok x → TakesWords count n due marks bytes x
unfolding words_at
words_take count zero zero marks bytes x fits e =
    let one : TakesWords count 0 0 marks bytes (marks, bytes) = record { words = []; bits = []; len = refl; joined = refl; spelled = (refl, refl); pushes = pushed-nil count marks } in
    subst (λ (y : List Bool × List ℕ). TakesWords count 0 0 marks bytes y) (ok_is (marks, bytes) x e) one
words_take count zero (suc due) marks bytes x fits e = absurd cc
words_take count (suc n) due marks bytes x fits e =
    let a = bind_ok (number_at w64 bytes) (λ word. pushed count marks (bits_of due word.0) >>= λ more. words_at count n (due_after due word.0) more word.1) x e in
    let b = bind_ok (pushed count marks (bits_of due a.0.0)) (λ more. words_at count n (due_after due a.0.0) more a.0.1) x a.2 in
    let t = number_takes w64 (2 ^ 64) wide64 bytes a.0.0 a.0.1 fits a.1 in
    let others = words_take count n (due_after due a.0.0) b.0 a.0.1 x (IsBytes-behind (to_be_bytes w64 a.0.0) a.0.1 bytes t.0 fits) b.2 in
    record {
      words = a.0.0 ∷ others.words;
      bits = bits_of due a.0.0 ++ others.bits;
      len = ap suc others.len;
      joined = t.0 ∙ ap (λ (w : List ℕ). to_be_bytes w64 a.0.0 ++ w) others.joined ∙ sym (append_assoc (to_be_bytes w64 a.0.0) (flat_map (to_be_bytes w64) others.words) x.1);
      spelled = (others.bits, t.1, refl, others.spelled);
      pushes = pushed-append count marks (bits_of due a.0.0) others.bits ∙ ap (λ (r : Pushed). r >>= λ more. pushed count more others.bits) b.1 ∙ others.pushes;
    }

pub words_again : (count due : ℕ) (words : List ℕ) (bits marks m : List Bool) (rest : List ℕ) → Spell due words bits → pushed count marks bits ≡ Ok m → words_at count (length words) due marks (flat_map (to_be_bytes w64) words ++ rest) ≡ Ok (m, rest)
unfolding words_at
words_again count due [] bits marks m rest spelled pushes =
    let none : pushed count marks [] ≡ Ok m = subst (λ (w : List Bool). pushed count marks w ≡ Ok m) spelled.1 pushes in
    let same : marks ≡ m = ok_is marks m (sym (pushed-nil count marks) ∙ none) in
    let read : words_at count 0 0 marks rest ≡ Ok (m, rest) = ap (λ (w : List Bool). Ok (w, rest)) same in
    subst (λ (d : ℕ). words_at count 0 d marks rest ≡ Ok (m, rest)) (sym spelled.0) read
words_again count due (word ∷ words) bits marks m rest spelled pushes =
    let more = spelled.0 in
    let both : (pushed count marks (bits_of due word) >>= λ w. pushed count w more) ≡ Ok m = sym (pushed-append count marks (bits_of due word) more) ∙ subst (λ (w : List Bool). pushed count marks w ≡ Ok m) spelled.2 pushes in
    let a = bind_ok (pushed count marks (bits_of due word)) (λ w. pushed count w more) m both in
    let tail = flat_map (to_be_bytes w64) words ++ rest in
    let regrouped : flat_map (to_be_bytes w64) (word ∷ words) ++ rest ≡ to_be_bytes w64 word ++ tail = append_assoc (to_be_bytes w64 word) (flat_map (to_be_bytes w64) words) rest in
    let step : ℕ × List ℕ → Words = λ x. pushed count marks (bits_of due x.0) >>= λ w. words_at count (length words) (due_after due x.0) w x.1 in
    ap (λ (w : List ℕ). number_at w64 w >>= step) regrouped
    ∙ ap (λ (r : Result (ℕ × List ℕ) IndexFault). r >>= step) (number_again w64 (2 ^ 64) wide64 word tail spelled.1)
    ∙ ap (λ (r : Pushed). r >>= λ w. words_at count (length words) (due_after due word) w tail) a.1
    ∙ words_again count (due_after due word) words more a.0 m rest spelled.3 a.2

-- reading one word after the other, as a loop does

pub words_go_on : (count words i due : ℕ) (marks m : List Bool) (bytes after : List ℕ) (word next : ℕ) (total : Words) → i < words → number_at w64 bytes ≡ Ok (word, after) → pushed count marks (bits_of due word) ≡ Ok m → next ≡ due_after due word
    → words_at count (words - i) due marks bytes ≡ total → words_at count (words - (i + 1)) next m after ≡ total
unfolding words_at
words_go_on count words i due marks m bytes after word next total lt read pushes next_is so_far =
    let k : words - i ≡ suc (words - (i + 1)) = omega arith in
    let step : words_at count (words - i) due marks bytes ≡ words_at count (words - (i + 1)) (due_after due word) m after = rw (k, read, pushes) refl in
    rw next_is (sym step ∙ so_far)

pub words_are_cut : (count words i due : ℕ) (marks : List Bool) (bytes : List ℕ) (fault : IndexFault) (total : Words) → i < words → (fault ≡ Memory) ⊎ (number_at w64 bytes ≡ Err fault)
    → words_at count (words - i) due marks bytes ≡ total → (fault ≡ Memory) ⊎ (total ≡ Err fault)
unfolding words_at
words_are_cut count words i due marks bytes fault total lt (inl memory) so_far = inl memory
words_are_cut count words i due marks bytes fault total lt (inr read) so_far =
    let k : words - i ≡ suc (words - (i + 1)) = omega arith in
    let step : words_at count (words - i) due marks bytes ≡ Err fault = rw (k, read) refl in
    inr (sym so_far ∙ step)

pub words_go_past : (count words i due : ℕ) (marks : List Bool) (bytes after : List ℕ) (word : ℕ) (fault : IndexFault) (total : Words) → i < words → number_at w64 bytes ≡ Ok (word, after) → (fault ≡ Memory) ⊎ (pushed count marks (bits_of due word) ≡ Err fault)
    → words_at count (words - i) due marks bytes ≡ total → (fault ≡ Memory) ⊎ (total ≡ Err fault)
unfolding words_at
words_go_past count words i due marks bytes after word fault total lt read (inl memory) so_far = inl memory
words_go_past count words i due marks bytes after word fault total lt read (inr pushes) so_far =
    let k : words - i ≡ suc (words - (i + 1)) = omega arith in
    let step : words_at count (words - i) due marks bytes ≡ Err fault = rw (k, read, pushes) refl in
    inr (sym so_far ∙ step)

pub words_done : (count words i due : ℕ) (marks : List Bool) (bytes : List ℕ) (total : Words) → words ≤ i → due ≤ 0 → words_at count (words - i) due marks bytes ≡ total → total ≡ Ok (marks, bytes)
unfolding words_at
words_done count words i due marks bytes total le none so_far =
    let k : words - i ≡ 0 = omega arith in
    let d : due ≡ 0 = omega arith in
    let step : words_at count (words - i) due marks bytes ≡ Ok (marks, bytes) = rw (k, d) refl in
    sym so_far ∙ step

pub words_are_due : (count words i due : ℕ) (marks : List Bool) (bytes : List ℕ) (total : Words) → words ≤ i → 0 < due → words_at count (words - i) due marks bytes ≡ total → total ≡ Err Link
unfolding words_at
words_are_due count words i zero marks bytes total le some so_far = absurd (omega arith)
words_are_due count words i (suc due) marks bytes total le some so_far =
    let k : words - i ≡ 0 = omega arith in
    let step : words_at count (words - i) (suc due) marks bytes ≡ Err Link = rw k refl in
    sym so_far ∙ step

-- ---- a whole bitmap

abbrev from_words : ℕ → ℕ × List ℕ → Result (List Bool × List ℕ) IndexFault
from_words count n = words_at count n.0 0 [] n.1 >>= λ marks. skipped 4 marks.1 >>= λ rest. Ok (marks.0, rest)

pub record TakesBitmap (count : ℕ) (bytes : List ℕ) (x : List Bool × List ℕ) : Type 0 where
  pub text : List ℕ
  pub joined : bytes ≡ text ++ x.1
  pub spelled : IsBitmap count x.0 text

pub marks_take : (count : ℕ) (bytes : List ℕ) (x : List Bool × List ℕ) → IsBytes bytes → marks_at count bytes ≡ Ok x → TakesBitmap count bytes x
unfolding marks_at
marks_take count bytes x fits e =
    let a = bind_ok (skipped 4 bytes) (λ a. number_at w32 a >>= λ n. from_words count n) x e in
    let b = bind_ok (number_at w32 a.0) (λ n. from_words count n) x a.2 in
    let c = bind_ok (words_at count b.0.0 0 [] b.0.1) (λ marks. skipped 4 marks.1 >>= λ rest. Ok (marks.0, rest)) x b.2 in
    let d = bind_ok (skipped 4 c.0.1) (λ rest. Ok (c.0.0, rest)) x c.2 in
    let size = skipped_takes 4 bytes a.0 a.1 in
    let fits1 = IsBytes-behind (take 4 bytes) a.0 bytes size.0 fits in
    let t = number_takes w32 (2 ^ 32) wide32 a.0 b.0.0 b.0.1 fits1 b.1 in
    let fits2 = IsBytes-behind (to_be_bytes w32 b.0.0) b.0.1 a.0 t.0 fits1 in
    let w = words_take count b.0.0 0 [] b.0.1 c.0 fits2 c.1 in
    let place = skipped_takes 4 c.0.1 d.0 d.1 in
    let p = pushed_is count [] w.bits c.0.0 w.pushes in
    let inside = flat_map (to_be_bytes w64) w.words ++ take 4 c.0.1 in
    let text = take 4 bytes ++ (to_be_bytes w32 (length w.words) ++ inside) in
    let behind : b.0.1 ≡ inside ++ d.0 = w.joined ∙ ap (λ (v : List ℕ). flat_map (to_be_bytes w64) w.words ++ v) place.0 ∙ sym (append_assoc (flat_map (to_be_bytes w64) w.words) (take 4 c.0.1) d.0) in
    let counted : a.0 ≡ (to_be_bytes w32 (length w.words) ++ inside) ++ d.0 =
    t.0 ∙ ap (λ (v : List ℕ). to_be_bytes w32 b.0.0 ++ v) behind ∙ ap (λ (n : ℕ). to_be_bytes w32 n ++ (inside ++ d.0)) (sym w.len) ∙ sym (append_assoc (to_be_bytes w32 (length w.words)) inside d.0) in
    let one : TakesBitmap count bytes (c.0.0, d.0) = record {
      text = text;
      joined = size.0 ∙ ap (λ (v : List ℕ). take 4 bytes ++ v) counted ∙ sym (append_assoc (take 4 bytes) (to_be_bytes w32 (length w.words) ++ inside) d.0);
      spelled = record {
        size = take 4 bytes;
        place = take 4 c.0.1;
        lengths = (size.1, place.1);
        words = w.words;
        few = omega (arith, w.len, t.1);
        bits = w.bits;
        spelled = w.spelled;
        marks_are = rw sub-zero at p.0;
        no_others = rw sub-zero at p.1;
        joined = refl;
      };
    } in
    subst (λ (y : List Bool × List ℕ). TakesBitmap count bytes y) (ok_is (c.0.0, d.0) x d.2) one

pub marks_again : (count : ℕ) (marks : List Bool) (text rest : List ℕ) → IsBitmap count marks text → marks_at count (text ++ rest) ≡ Ok (marks, rest)
unfolding marks_at
marks_again count marks text rest is =
    let words = flat_map (to_be_bytes w64) is.words in
    let tail = words ++ (is.place ++ rest) in
    let regrouped : text ++ rest ≡ is.size ++ (to_be_bytes w32 (length is.words) ++ tail) =
    ap (λ (w : List ℕ). w ++ rest) is.joined ∙ append_assoc is.size (to_be_bytes w32 (length is.words) ++ (words ++ is.place)) rest
    ∙ ap (λ (w : List ℕ). is.size ++ w) (append_assoc (to_be_bytes w32 (length is.words)) (words ++ is.place) rest ∙ ap (λ (w : List ℕ). to_be_bytes w32 (length is.words) ++ w) (append_assoc words is.place rest)) in
    let whole : count - 0 ≡ count = sub-zero count in
    let none : AllFalse (drop (count - 0) is.bits) = rw whole is.no_others in
    let pushes : pushed count [] is.bits ≡ Ok marks = pushed_as count [] is.bits none ∙ rw whole (ap (λ (w : List Bool). Ok w) (sym is.marks_are)) in
    ap (λ (w : List ℕ). skipped 4 w >>= λ a. number_at w32 a >>= λ n. from_words count n) regrouped
    ∙ rw (skipped_again is.size (to_be_bytes w32 (length is.words) ++ tail) 4 is.lengths.0, number_again w32 (2 ^ 32) wide32 (length is.words) tail is.few, words_again count 0 is.words is.bits [] marks (is.place ++ rest) is.spelled pushes, skipped_again is.place rest 4 is.lengths.1) refl
