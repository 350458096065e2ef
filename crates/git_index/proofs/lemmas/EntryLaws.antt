-- Entries: what is read is spelled so, and what is spelled so is read.
use Rattle.std.proofs.Common.{◌≡◌, ◌⊎◌, ℕ, zero, suc, ◌+◌, ◌-◌, ◌*◌, ◌/◌, ◌%◌, ◌^◌, ◌<◌, ◌≤◌, Bool, true, false, cond, eqb, List, [], ◌∷◌, ◌++◌, length, drop, take, Result, Ok, refl, sym, ap, subst, ◌∙◌, append_assoc, arith, inl, inr, lit<}
use Rattle.std.specs.Prelude.{MatchBool, sum_by}
use Rattle.std.specs.Int.{w16, w32, to_be_bytes}
use Rattle.std.proofs.lemmas.Bool.{cases_eq}
use Rattle.std.proofs.lemmas.List.{take_rest}
use Rattle.std.proofs.lemmas.List.Sums.{sum_by-cons}
use Rattle.git_index.specs.declared.entry.Kind.{Kind}
use Rattle.git_index.specs.declared.entry.Kind.TheVariants.{File, Executable, Link, Submodule}
use Rattle.git_index.specs.declared.fault.IndexFault.{IndexFault}
use Rattle.git_index.specs.Entries.{Tracked}
use Rattle.git_index.specs.Format.{AreEntries, IsEntry, IsPadded, IsShared, bit, mode_of}
use Rattle.git_index.specs.Private.Reading.{◌>>=◌, entries_at, entry_at, is_set, joined_of, kind_of, more_at, number_at, parts_at, skipped}
use Rattle.git_index.proofs.lemmas.Fields.{IsBytes, IsBytes-behind, IsBytes-front, bind_ok, number_again, number_takes, ok_is, skipped_again, skipped_takes, wide16, wide32}
use Rattle.git_index.proofs.lemmas.Flags.{flags_again, flags_are, kind_again, kind_takes, more_again, more_takes, more_text}
use Rattle.git_index.proofs.lemmas.Paths.{joined_again, joined_takes, parts_again, parts_takes}

-- the entry of these parts
abbrev made : ℕ → Kind → ℕ → List ℕ → Tracked
made flags kind more path = record { path = path; stage = flags / 2 ^ 12 % 4; kind = kind; assume_valid = is_set 15 flags; skip_worktree = is_set 14 more; intent_to_add = is_set 13 more }

abbrev front_of : ℕ → ℕ → ℕ
front_of hash flags = 42 + hash + cond (is_set 14 flags) 2 0

-- the steps of reading an entry, from the last one
abbrev from_path : ℕ → Kind → ℕ → List ℕ → List ℕ → Result (Tracked × List ℕ) IndexFault
from_path flags kind more rest path = Ok (made flags kind more path, rest)

abbrev from_parts : ℕ → ℕ → Kind → ℕ → (List ℕ × List ℕ) × List ℕ → Result (Tracked × List ℕ) IndexFault
from_parts room flags kind more parts = joined_of parts.0.0 parts.0.1 (flags % 2 ^ 12) room >>= from_path flags kind more parts.1

abbrev from_more : ℕ → ℕ → List ℕ → ℕ → ℕ → Kind → ℕ × List ℕ → Result (Tracked × List ℕ) IndexFault
from_more version hash previous room flags kind more = parts_at version (front_of hash flags) previous more.1 >>= from_parts room flags kind more.0

abbrev from_kind : ℕ → ℕ → List ℕ → ℕ → ℕ × List ℕ → Kind → Result (Tracked × List ℕ) IndexFault
from_kind version hash previous room flags kind = more_at (is_set 14 flags.0) flags.1 >>= from_more version hash previous room flags.0 kind

abbrev from_flags : ℕ → ℕ → List ℕ → ℕ → ℕ → ℕ × List ℕ → Result (Tracked × List ℕ) IndexFault
from_flags version hash previous room mode flags = kind_of mode >>= from_kind version hash previous room flags

abbrev from_owner : ℕ → ℕ → List ℕ → ℕ → ℕ → List ℕ → Result (Tracked × List ℕ) IndexFault
from_owner version hash previous room mode rest = number_at w16 rest >>= from_flags version hash previous room mode

abbrev from_mode : ℕ → ℕ → List ℕ → ℕ → ℕ × List ℕ → Result (Tracked × List ℕ) IndexFault
from_mode version hash previous room mode = skipped (12 + hash) mode.1 >>= from_owner version hash previous room mode.0

abbrev from_times : ℕ → ℕ → List ℕ → ℕ → List ℕ → Result (Tracked × List ℕ) IndexFault
from_times version hash previous room rest = number_at w32 rest >>= from_mode version hash previous room

pub entry_steps : (version hash : ℕ) (previous : List ℕ) (room : ℕ) (bytes : List ℕ) → entry_at version hash previous room bytes ≡ (skipped 24 bytes >>= from_times version hash previous room)
unfolding entry_at
entry_steps version hash previous room bytes = refl

-- six texts after one another
joined_six : (a b c d e f rest : List ℕ) → (a ++ (b ++ (c ++ (d ++ (e ++ f))))) ++ rest ≡ a ++ (b ++ (c ++ (d ++ (e ++ (f ++ rest)))))
joined_six a b c d e f rest = simp append_assoc

-- the last of six
IsBytes-last : (a b c d e f text : List ℕ) → text ≡ a ++ (b ++ (c ++ (d ++ (e ++ f)))) → IsBytes text → IsBytes f
IsBytes-last a b c d e f text is fits =
    let f1 = IsBytes-behind a (b ++ (c ++ (d ++ (e ++ f)))) text is fits in
    let f2 = IsBytes-behind b (c ++ (d ++ (e ++ f))) (b ++ (c ++ (d ++ (e ++ f)))) refl f1 in
    let f3 = IsBytes-behind c (d ++ (e ++ f)) (c ++ (d ++ (e ++ f))) refl f2 in
    let f4 = IsBytes-behind d (e ++ f) (d ++ (e ++ f)) refl f3 in
    IsBytes-behind e f (e ++ f) refl f4

-- a step that is known to succeed
step : {A B : Type 0} (f : A → Result B IndexFault) {r : Result A IndexFault} {x : A} {y : B} → r ≡ Ok x → f x ≡ Ok y → (r >>= f) ≡ Ok y
step {A = A} f e h = ap (λ (s : Result A IndexFault). s >>= f) e ∙ h

mode_small : (k : Kind) → mode_of k < 2 ^ 32
mode_small File = lit< tt
mode_small Executable = lit< tt
mode_small Link = lit< tt
mode_small Submodule = lit< tt

pub record TakesEntry (version hash : ℕ) (previous : List ℕ) (room : ℕ) (bytes : List ℕ) (x : Tracked × List ℕ) : Type 0 where
  pub text : List ℕ
  pub joined : bytes ≡ text ++ x.1
  pub spelled : IsEntry version hash previous x.0 text
  pub fits : length x.0.path ≤ room

more_len : (extended : Bool) (n : ℕ) → length (more_text extended n) ≡ cond extended 2 0
more_len true n = refl
more_len false n = refl

telling_of : (told len : ℕ) → told < 4096 → (told ≡ 4095) ⊎ (told ≡ len) → (told ≡ 4095) ⊎ ((told < 4095) × (told ≡ len))
telling_of told len small (inl untold) = inl untold
telling_of told len small (inr same) = elim (cases_eq told 4095) [ inl untold ↦ inl untold | inr other ↦ inr (omega arith, same) ]

pub entry_takes : (version hash : ℕ) (previous : List ℕ) (room : ℕ) (bytes : List ℕ) (x : Tracked × List ℕ) → IsBytes bytes → entry_at version hash previous room bytes ≡ Ok x → TakesEntry version hash previous room bytes x
entry_takes version hash previous room bytes x fits e =
    let s0 = bind_ok (skipped 24 bytes) (from_times version hash previous room) x (sym (entry_steps version hash previous room bytes) ∙ e) in
    let s1 = bind_ok (number_at w32 s0.0) (from_mode version hash previous room) x s0.2 in
    let mode = s1.0 in
    let s2 = bind_ok (skipped (12 + hash) mode.1) (from_owner version hash previous room mode.0) x s1.2 in
    let s3 = bind_ok (number_at w16 s2.0) (from_flags version hash previous room mode.0) x s2.2 in
    let flags = s3.0 in
    let s4 = bind_ok (kind_of mode.0) (from_kind version hash previous room flags) x s3.2 in
    let s5 = bind_ok (more_at (is_set 14 flags.0) flags.1) (from_more version hash previous room flags.0 s4.0) x s4.2 in
    let more = s5.0 in
    let s6 = bind_ok (parts_at version (front_of hash flags.0) previous more.1) (from_parts room flags.0 s4.0 more.0) x s5.2 in
    let parts = s6.0 in
    let s7 = bind_ok (joined_of parts.0.0 parts.0.1 (flags.0 % 2 ^ 12) room) (from_path flags.0 s4.0 more.0 parts.1) x s6.2 in
    let path = s7.0 in
    let t0 = skipped_takes 24 bytes s0.0 s0.1 in
    let f0 = IsBytes-behind (take 24 bytes) s0.0 bytes t0.0 fits in
    let t1 = number_takes w32 (2 ^ 32) wide32 s0.0 mode.0 mode.1 f0 s1.1 in
    let f1 = IsBytes-behind (to_be_bytes w32 mode.0) mode.1 s0.0 t1.0 f0 in
    let t2 = skipped_takes (12 + hash) mode.1 s2.0 s2.1 in
    let f2 = IsBytes-behind (take (12 + hash) mode.1) s2.0 mode.1 t2.0 f1 in
    let t3 = number_takes w16 (2 ^ 16) wide16 s2.0 flags.0 flags.1 f2 s3.1 in
    let f3 = IsBytes-behind (to_be_bytes w16 flags.0) flags.1 s2.0 t3.0 f2 in
    let k = kind_takes mode.0 s4.0 s4.1 in
    let t5 = more_takes (is_set 14 flags.0) flags.1 more f3 s5.1 in
    let n = bit 14 (is_set 14 more.0) + bit 13 (is_set 13 more.0) in
    let f5 = IsBytes-behind (more_text (is_set 14 flags.0) n) more.1 flags.1 t5.joined f3 in
    let t6 = parts_takes version (front_of hash flags.0) previous more.1 parts f5 s6.1 in
    let t7 = joined_takes parts.0.0 parts.0.1 (flags.0 % 2 ^ 12) room path s7.1 in
    let spelled_flags = bit 15 (is_set 15 flags.0) + bit 14 (is_set 14 flags.0) + flags.0 / 2 ^ 12 % 4 * 2 ^ 12 + flags.0 % 2 ^ 12 in
    let same_flags : flags.0 ≡ spelled_flags = flags_are flags.0 t3.1 in
    let text = take 24 bytes ++ (to_be_bytes w32 (mode_of s4.0) ++ (take (12 + hash) mode.1 ++ (to_be_bytes w16 spelled_flags ++ (more_text (is_set 14 flags.0) n ++ t6.text)))) in
    let front_is : front_of hash flags.0 ≡ 42 + hash + length (more_text (is_set 14 flags.0) n) = ap (λ (m : ℕ). 42 + hash + m) (sym (more_len (is_set 14 flags.0) n)) in
    let spelled_path : MatchBool (eqb version 4) (IsShared previous path t6.text) (IsPadded (42 + hash + length (more_text (is_set 14 flags.0) n)) path t6.text) =
    rw (t7.is, ← front_is) t6.spelled in
    let behind : flags.1 ≡ more_text (is_set 14 flags.0) n ++ (t6.text ++ parts.1) = t5.joined ∙ ap (λ (w : List ℕ). more_text (is_set 14 flags.0) n ++ w) t6.joined in
    let joined : bytes ≡ text ++ parts.1 =
    t0.0 ∙ ap (λ (w : List ℕ). take 24 bytes ++ w) (t1.0 ∙ ap (λ (m : ℕ). to_be_bytes w32 m ++ mode.1) k
    ∙ ap (λ (w : List ℕ). to_be_bytes w32 (mode_of s4.0) ++ w) (t2.0 ∙ ap (λ (w : List ℕ). take (12 + hash) mode.1 ++ w) (t3.0 ∙ ap (λ (m : ℕ). to_be_bytes w16 m ++ flags.1) same_flags ∙ ap (λ (w : List ℕ). to_be_bytes w16 spelled_flags ++ w) behind)))
    ∙ sym (joined_six (take 24 bytes) (to_be_bytes w32 (mode_of s4.0)) (take (12 + hash) mode.1) (to_be_bytes w16 spelled_flags) (more_text (is_set 14 flags.0) n) t6.text parts.1) in
    let one : TakesEntry version hash previous room bytes (made flags.0 s4.0 more.0 path, parts.1) = record {
      text = text;
      joined = joined;
      spelled = record {
        times = take 24 bytes;
        owner = take (12 + hash) mode.1;
        lengths = (t0.1, t2.1);
        extended = is_set 14 flags.0;
        stage = omega arith;
        told = flags.0 % 2 ^ 12;
        telling = telling_of (flags.0 % 2 ^ 12) (length path) (omega arith) t7.told_is;
        more = more_text (is_set 14 flags.0) n;
        more_is = refl;
        unset = t5.unset;
        name = t6.text;
        spelled = spelled_path;
        joined = refl;
      };
      fits = t7.fits;
    } in
    subst (λ (y : Tracked × List ℕ). TakesEntry version hash previous room bytes y) (ok_is (made flags.0 s4.0 more.0 path, parts.1) x s7.2) one

told_of : (told len : ℕ) → (told ≡ 4095) ⊎ ((told < 4095) × (told ≡ len)) → (told < 4096) × ((told ≡ 4095) ⊎ (told ≡ len))
told_of told len (inl untold) = (omega arith, inl untold)
told_of told len (inr same) = (omega arith, inr same.1)

pub entry_again : (version hash : ℕ) (previous : List ℕ) (room : ℕ) (e : Tracked) (text rest : List ℕ) → IsBytes text → IsEntry version hash previous e text → length e.path ≤ room → entry_at version hash previous room (text ++ rest) ≡ Ok (e, rest)
entry_again version hash previous room e text rest fits is room_is =
    let told = told_of is.told (length e.path) is.telling in
    let flags = bit 15 e.assume_valid + bit 14 is.extended + e.stage * 2 ^ 12 + is.told in
    let h = flags_again e.assume_valid is.extended e.stage is.told is.stage told.0 in
    let n = bit 14 e.skip_worktree + bit 13 e.intent_to_add in
    let more = more_text is.extended n in
    let more_is : is.more ≡ more = is.more_is in
    let len : 42 + hash + length is.more ≡ front_of hash flags = ap (λ (w : List ℕ). 42 + hash + length w) more_is ∙ ap (λ (m : ℕ). 42 + hash + m) (more_len is.extended n ∙ ap (λ (b : Bool). cond b 2 0) (sym h.extended_is)) in
    let spelled : MatchBool (eqb version 4) (IsShared previous e.path is.name) (IsPadded (front_of hash flags) e.path is.name) = rw (← len) is.spelled in
    let whole : text ≡ is.times ++ (to_be_bytes w32 (mode_of e.kind) ++ (is.owner ++ (to_be_bytes w16 flags ++ (more ++ is.name)))) = rw (← more_is) is.joined in
    let name_fits = IsBytes-last is.times (to_be_bytes w32 (mode_of e.kind)) is.owner (to_be_bytes w16 flags) more is.name text whole fits in
    let found = more_again is.extended e.skip_worktree e.intent_to_add (is.name ++ rest) is.unset in
    let parts = parts_again version (front_of hash flags) previous e.path is.name rest name_fits spelled in
    let joined = joined_again parts.kept parts.added (flags % 2 ^ 12) room e.path parts.joined (rw h.told_is told.1) room_is in
    let regrouped : text ++ rest ≡ is.times ++ (to_be_bytes w32 (mode_of e.kind) ++ (is.owner ++ (to_be_bytes w16 flags ++ (more ++ (is.name ++ rest))))) =
    ap (λ (w : List ℕ). w ++ rest) whole ∙ joined_six is.times (to_be_bytes w32 (mode_of e.kind)) is.owner (to_be_bytes w16 flags) more is.name rest in
    let fields : made flags e.kind found.number e.path ≡ e = rw (h.assumed_is, h.stage_is, found.skip_is, found.intent_is) refl in
    let last : from_path flags e.kind found.number rest e.path ≡ Ok (e, rest) = ap (λ (t : Tracked). Ok (t, rest)) fields in
    let s6 : from_parts room flags e.kind found.number ((parts.kept, parts.added), rest) ≡ Ok (e, rest) = step (from_path flags e.kind found.number rest) joined last in
    let s5 : from_more version hash previous room flags e.kind (found.number, is.name ++ rest) ≡ Ok (e, rest) = step (from_parts room flags e.kind found.number) parts.is s6 in
    let more_read : more_at (is_set 14 flags) (more ++ (is.name ++ rest)) ≡ Ok (found.number, is.name ++ rest) = rw h.extended_is found.is in
    let s4 : from_kind version hash previous room (flags, more ++ (is.name ++ rest)) e.kind ≡ Ok (e, rest) = step (from_more version hash previous room flags e.kind) more_read s5 in
    let s3 : from_flags version hash previous room (mode_of e.kind) (flags, more ++ (is.name ++ rest)) ≡ Ok (e, rest) = step (from_kind version hash previous room (flags, more ++ (is.name ++ rest))) (kind_again e.kind) s4 in
    let s2 : from_owner version hash previous room (mode_of e.kind) (to_be_bytes w16 flags ++ (more ++ (is.name ++ rest))) ≡ Ok (e, rest) = step (from_flags version hash previous room (mode_of e.kind)) (number_again w16 (2 ^ 16) wide16 flags (more ++ (is.name ++ rest)) h.small) s3 in
    let s1 : from_mode version hash previous room (mode_of e.kind, is.owner ++ (to_be_bytes w16 flags ++ (more ++ (is.name ++ rest)))) ≡ Ok (e, rest) = step (from_owner version hash previous room (mode_of e.kind)) (skipped_again is.owner (to_be_bytes w16 flags ++ (more ++ (is.name ++ rest))) (12 + hash) is.lengths.1) s2 in
    let s0 : from_times version hash previous room (to_be_bytes w32 (mode_of e.kind) ++ (is.owner ++ (to_be_bytes w16 flags ++ (more ++ (is.name ++ rest))))) ≡ Ok (e, rest) =
    step (from_mode version hash previous room) (number_again w32 (2 ^ 32) wide32 (mode_of e.kind) (is.owner ++ (to_be_bytes w16 flags ++ (more ++ (is.name ++ rest)))) (mode_small e.kind)) s1 in
    ap (entry_at version hash previous room) regrouped
    ∙ entry_steps version hash previous room (is.times ++ (to_be_bytes w32 (mode_of e.kind) ++ (is.owner ++ (to_be_bytes w16 flags ++ (more ++ (is.name ++ rest))))))
    ∙ step (from_times version hash previous room) (skipped_again is.times (to_be_bytes w32 (mode_of e.kind) ++ (is.owner ++ (to_be_bytes w16 flags ++ (more ++ (is.name ++ rest))))) 24 is.lengths.0) s0

-- ---- entries after one another

pub record TakesEntries (version hash n : ℕ) (previous bytes : List ℕ) (x : List Tracked × List ℕ) : Type 0 where
  pub texts : List ℕ
  pub joined : bytes ≡ texts ++ x.1
  pub each : AreEntries version hash previous x.0 texts
  pub count : length x.0 ≡ n

pub entries_take : (version hash n : ℕ) (previous : List ℕ) (room : ℕ) (bytes : List ℕ) (x : List Tracked × List ℕ) → IsBytes bytes → entries_at version hash n previous room bytes ≡ Ok x → TakesEntries version hash n previous bytes x
unfolding entries_at
entries_take version hash zero previous room bytes x fits e =
    let one : TakesEntries version hash 0 previous bytes ([], bytes) = record { texts = []; joined = refl; each = refl; count = refl } in
    subst (λ (y : List Tracked × List ℕ). TakesEntries version hash 0 previous bytes y) (ok_is ([], bytes) x e) one
entries_take version hash (suc n) previous room bytes x fits e =
    let a = bind_ok (entry_at version hash previous room bytes) (λ first. entries_at version hash n first.0.path (room - length first.0.path) first.1 >>= λ others. Ok (first.0 ∷ others.0, others.1)) x e in
    let b = bind_ok (entries_at version hash n a.0.0.path (room - length a.0.0.path) a.0.1) (λ others. Ok (a.0.0 ∷ others.0, others.1)) x a.2 in
    let first = entry_takes version hash previous room bytes a.0 fits a.1 in
    let others = entries_take version hash n a.0.0.path (room - length a.0.0.path) a.0.1 b.0 (IsBytes-behind first.text a.0.1 bytes first.joined fits) b.1 in
    let one : TakesEntries version hash (suc n) previous bytes (a.0.0 ∷ b.0.0, b.0.1) = record {
      texts = first.text ++ others.texts;
      joined = first.joined ∙ ap (λ (w : List ℕ). first.text ++ w) others.joined ∙ sym (append_assoc first.text others.texts b.0.1);
      each = (first.text, others.texts, refl, first.spelled, others.each);
      count = ap suc others.count;
    } in
    subst (λ (y : List Tracked × List ℕ). TakesEntries version hash (suc n) previous bytes y) (ok_is (a.0.0 ∷ b.0.0, b.0.1) x b.2) one

pub entries_again : (version hash : ℕ) (previous : List ℕ) (es : List Tracked) (room : ℕ) (texts rest : List ℕ) → IsBytes texts → AreEntries version hash previous es texts → sum_by (λ e. length e.path) es ≤ room → entries_at version hash (length es) previous room (texts ++ rest) ≡ Ok (es, rest)
unfolding entries_at
entries_again version hash previous [] room texts rest fits each fit = rw each refl
entries_again version hash previous (e ∷ es) room texts rest fits each fit =
    let cons : sum_by (λ t. length t.path) (e ∷ es) ≡ length e.path + sum_by (λ t. length t.path) es = sum_by-cons (λ (t : Tracked). length t.path) e es in
    let text = each.0 in
    let others = each.1 in
    let regrouped : texts ++ rest ≡ text ++ (others ++ rest) = ap (λ (w : List ℕ). w ++ rest) each.2 ∙ append_assoc text others rest in
    let text_fits = IsBytes-front text others texts each.2 fits in
    let others_fit = IsBytes-behind text others texts each.2 fits in
    let first : entry_at version hash previous room (texts ++ rest) ≡ Ok (e, others ++ rest) = ap (entry_at version hash previous room) regrouped ∙ entry_again version hash previous room e text (others ++ rest) text_fits each.3 (omega (arith, cons, fit)) in
    let more = entries_again version hash e.path es (room - length e.path) others rest others_fit each.4 (omega (arith, cons, fit)) in
    rw (first, more) refl

next : {A B : Type 0} (f : A → Result B IndexFault) {r : Result A IndexFault} {x : A} → r ≡ Ok x → (r >>= f) ≡ f x
next f e = ap (λ s. s >>= f) e

-- what is left to read where all before the path is read, of which some is kept that lies in a text
pub entry_by : (version hash : ℕ) (text seen : List ℕ) (previous room : ℕ) (bytes a : List ℕ) (mode : ℕ × List ℕ) (b : List ℕ) (flags : ℕ × List ℕ) (kind : Kind) (extended : Bool) (more : ℕ × List ℕ) (len : ℕ) (kept added behind : List ℕ) (path : Result (List ℕ) IndexFault)
    → seen ≡ text → extended ≡ is_set 14 flags.0 → len ≡ cond extended 2 0
    → skipped 24 bytes ≡ Ok a → number_at w32 a ≡ Ok mode → skipped (12 + hash) mode.1 ≡ Ok b → number_at w16 b ≡ Ok flags → kind_of mode.0 ≡ Ok kind → more_at extended flags.1 ≡ Ok more
    → parts_at version (42 + hash + len) (take (length seen - previous) (drop previous seen)) more.1 ≡ Ok ((kept, added), behind) → kept ≡ take (length kept) (take (length seen - previous) (drop previous seen))
    → joined_of (take (length kept) (drop previous text)) added (flags.0 % 2 ^ 12) room ≡ path
    → entry_at version hash (drop previous text) room bytes ≡ (path >>= from_path flags.0 kind more.0 behind)
entry_by version hash text seen previous room bytes a mode b flags kind extended more len kept added behind path seen_is extended_is len_is e0 e1 e2 e3 e4 e5 e6 front e7 =
    let from = drop previous text in
    let before : take (length seen - previous) (drop previous seen) ≡ from = take_rest seen previous ∙ ap (λ (w : List ℕ). drop previous w) seen_is in
    let front_is : 42 + hash + len ≡ front_of hash flags.0 = ap (λ (n : ℕ). 42 + hash + n) (len_is ∙ ap (λ (x : Bool). cond x 2 0) extended_is) in
    let more_read : more_at (is_set 14 flags.0) flags.1 ≡ Ok more = ap (λ (x : Bool). more_at x flags.1) (sym extended_is) ∙ e5 in
    let parts : parts_at version (front_of hash flags.0) from more.1 ≡ Ok ((kept, added), behind) =
    ap (λ (w : List ℕ). parts_at version (front_of hash flags.0) w more.1) (sym before) ∙ ap (λ (n : ℕ). parts_at version n (take (length seen - previous) (drop previous seen)) more.1) (sym front_is) ∙ e6 in
    let is_kept : kept ≡ take (length kept) from = front ∙ ap (λ (w : List ℕ). take (length kept) w) before in
    let joined : joined_of kept added (flags.0 % 2 ^ 12) room ≡ path = ap (λ (w : List ℕ). joined_of w added (flags.0 % 2 ^ 12) room) is_kept ∙ e7 in
    entry_steps version hash from room bytes ∙ next (from_times version hash from room) e0 ∙ next (from_mode version hash from room) e1 ∙ next (from_owner version hash from room mode.0) e2
    ∙ next (from_flags version hash from room mode.0) e3 ∙ next (from_kind version hash from room flags) e4 ∙ next (from_more version hash from room flags.0 kind) more_read ∙ next (from_parts room flags.0 kind more.0) parts
    ∙ ap (λ (r : Result (List ℕ) IndexFault). r >>= from_path flags.0 kind more.0 behind) joined
