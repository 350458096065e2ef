-- Index files: what is found at each stage of reading is a file's spelling, and the other way.
use Rattle.std.proofs.Common.{◌≡◌, ℕ, ◌+◌, ◌-◌, ◌^◌, ◌<◌, ◌≤◌, Bool, true, false, cond, ltb, ◌||◌, List, [], ◌++◌, length, take, drop, Result, Ok, Err, refl, sym, ap, subst, ◌∙◌, arith}
use Rattle.std.specs.Prelude.{codes, nat_eq}
use Rattle.std.specs.Int.{w32, to_be_bytes}
use Rattle.std.specs.List.{starts_with}
use Rattle.std.proofs.lemmas.Bool.{ltb-false, le-ltb}
use Rattle.std.proofs.lemmas.Bool.Decides.{Decides-eqb}
use Rattle.std.proofs.lemmas.List.{length-append, length-drop, take_at, take-append-drop}
use Rattle.std.proofs.lemmas.Slice.Eq.{starts_is}
use Rattle.git_index.specs.declared.object_format.ObjectFormat.{ObjectFormat}
use Rattle.git_index.specs.declared.fault.IndexFault.{IndexFault}
use Rattle.git_index.specs.declared.fault.IndexFault.TheVariants.{Cut, Signature, Version}
use Rattle.git_index.specs.Entries.{Tracked}
use Rattle.git_index.specs.Format.{HasRoom, IsFile, hash_len}
use Rattle.git_index.specs.Private.Reading.{◌>>=◌, Finds, entries_at, header_at, number_at, room_of, skipped}
use Rattle.git_index.proofs.lemmas.EntryLaws.{entries_again, entries_take}
use Rattle.git_index.proofs.lemmas.Fields.{IsBytes, IsBytes-behind, IsBytes-front, IsBytes-take, bind_ok, guard_ok, number_again, number_takes, ok_is, skipped_again, wide32}

-- ---- the header

abbrev Header : Type 0
Header = (ℕ × ℕ) × List ℕ

abbrev checked_header : List ℕ → ℕ × List ℕ → ℕ × List ℕ → Result Header IndexFault
checked_header bytes version count = cond (starts_with nat_eq bytes (codes "DIRC")) (cond (ltb version.0 2 || ltb 4 version.0) (Err (Version version.0)) (Ok ((version.0, count.0), count.1))) (Err Signature)

header_steps : (bytes : List ℕ) → header_at bytes ≡ (skipped 4 bytes >>= λ a. number_at w32 a >>= λ version. number_at w32 version.1 >>= λ count. checked_header bytes version count)
unfolding header_at
header_steps bytes = refl

header_ways : (p q : Bool) (d e : IndexFault) (y x : Header) → cond p (cond q (Err d) (Ok y)) (Err e) ≡ Ok x → (p ≡ true) × (q ≡ false) × (y ≡ x)
header_ways true true d e y x is = absurd cc
header_ways true false d e y x is = (refl, refl, ok_is y x is)
header_ways false q d e y x is = absurd cc

neither : (a b : Bool) → (a || b) ≡ false → (a ≡ false) × (b ≡ false)
neither true b e = absurd cc
neither false b e = (refl, e)

pub record TakesHeader (bytes : List ℕ) (x : Header) : Type 0 where
  pub joined : bytes ≡ codes "DIRC" ++ (to_be_bytes w32 x.0.0 ++ (to_be_bytes w32 x.0.1 ++ x.1))
  pub known : (2 ≤ x.0.0) × (x.0.0 ≤ 4)
  pub few : x.0.1 < 2 ^ 32

header_takes : (bytes : List ℕ) (x : Header) → IsBytes bytes → header_at bytes ≡ Ok x → TakesHeader bytes x
header_takes bytes x fits e =
    let a = bind_ok (skipped 4 bytes) (λ a. number_at w32 a >>= λ version. number_at w32 version.1 >>= λ count. checked_header bytes version count) x (sym (header_steps bytes) ∙ e) in
    let b = bind_ok (number_at w32 a.0) (λ version. number_at w32 version.1 >>= λ count. checked_header bytes version count) x a.2 in
    let c = bind_ok (number_at w32 b.0.1) (λ count. checked_header bytes b.0 count) x b.2 in
    let g = header_ways (starts_with nat_eq bytes (codes "DIRC")) (ltb b.0.0 2 || ltb 4 b.0.0) (Version b.0.0) Signature ((b.0.0, c.0.0), c.0.1) x c.2 in
    let known = neither (ltb b.0.0 2) (ltb 4 b.0.0) g.1 in
    let begins : bytes ≡ codes "DIRC" ++ drop 4 bytes = (starts_is Decides-eqb bytes (codes "DIRC") (starts_with nat_eq bytes (codes "DIRC")) refl).0 g.0 in
    let behind : drop 4 bytes ≡ a.0 = (guard_ok (ltb (length bytes) 4) Cut (drop 4 bytes) a.0 a.1).1 in
    let first : bytes ≡ codes "DIRC" ++ a.0 = begins ∙ ap (λ (w : List ℕ). codes "DIRC" ++ w) behind in
    let f0 = IsBytes-behind (codes "DIRC") a.0 bytes first fits in
    let t1 = number_takes w32 (2 ^ 32) wide32 a.0 b.0.0 b.0.1 f0 b.1 in
    let f1 = IsBytes-behind (to_be_bytes w32 b.0.0) b.0.1 a.0 t1.0 f0 in
    let t2 = number_takes w32 (2 ^ 32) wide32 b.0.1 c.0.0 c.0.1 f1 c.1 in
    let one : TakesHeader bytes ((b.0.0, c.0.0), c.0.1) = record {
      joined = first ∙ ap (λ (w : List ℕ). codes "DIRC" ++ w) (t1.0 ∙ ap (λ (w : List ℕ). to_be_bytes w32 b.0.0 ++ w) t2.0);
      known = (ltb-false _ _ known.0, ltb-false _ _ known.1);
      few = t2.1;
    } in
    subst (λ (y : Header). TakesHeader bytes y) g.2 one

header_again : (version count : ℕ) (rest : List ℕ) → 2 ≤ version → version ≤ 4 → count < 2 ^ 32 → header_at (codes "DIRC" ++ (to_be_bytes w32 version ++ (to_be_bytes w32 count ++ rest))) ≡ Ok ((version, count), rest)
header_again version count rest low high few =
    let bytes = codes "DIRC" ++ (to_be_bytes w32 version ++ (to_be_bytes w32 count ++ rest)) in
    let known : (ltb version 2 || ltb 4 version) ≡ false = rw (le-ltb version 2 low, le-ltb 4 version high) refl in
    let last : checked_header bytes (version, to_be_bytes w32 count ++ rest) (count, rest) ≡ Ok ((version, count), rest) = rw known refl in
    let two : (number_at w32 (to_be_bytes w32 count ++ rest) >>= λ c. checked_header bytes (version, to_be_bytes w32 count ++ rest) c) ≡ Ok ((version, count), rest) =
    ap (λ (r : Result (ℕ × List ℕ) IndexFault). r >>= λ c. checked_header bytes (version, to_be_bytes w32 count ++ rest) c) (number_again w32 (2 ^ 32) wide32 count rest few) ∙ last in
    let one : (number_at w32 (to_be_bytes w32 version ++ (to_be_bytes w32 count ++ rest)) >>= λ v. number_at w32 v.1 >>= λ c. checked_header bytes v c) ≡ Ok ((version, count), rest) =
    ap (λ (r : Result (ℕ × List ℕ) IndexFault). r >>= λ v. number_at w32 v.1 >>= λ c. checked_header bytes v c) (number_again w32 (2 ^ 32) wide32 version (to_be_bytes w32 count ++ rest) (omega arith)) ∙ two in
    header_steps bytes
    ∙ ap (λ (r : Result (List ℕ) IndexFault). r >>= λ a. number_at w32 a >>= λ v. number_at w32 v.1 >>= λ c. checked_header bytes v c) (skipped_again (codes "DIRC") (to_be_bytes w32 version ++ (to_be_bytes w32 count ++ rest)) 4 refl)
    ∙ one

-- ---- the whole file

-- what a reader found, told by what it has in hand
pub finds_by : (format : ObjectFormat) (bytes content : List ℕ) (h : ℕ) (header : Header) (room : ℕ) (es : List Tracked) (extensions : List ℕ) → h ≡ hash_len format → 12 + h ≤ length bytes
    → content ≡ take (length bytes - h) bytes → header_at content ≡ Ok header → room ≡ room_of bytes
    → entries_at header.0.0 h header.0.1 [] room header.1 ≡ Ok (es, extensions) → Finds format bytes es extensions
finds_by format bytes content h header room es extensions h_is long content_is read room_is entries =
    let c : content ≡ take (length bytes - hash_len format) bytes = content_is ∙ ap (λ (n : ℕ). take (length bytes - n) bytes) h_is in
    record {
      long = subst (λ (n : ℕ). 12 + n ≤ length bytes) h_is long;
      header = header;
      header_is = subst (λ (w : List ℕ). header_at w ≡ Ok header) c read;
      entries_are = subst (λ (n : ℕ). entries_at header.0.0 n header.0.1 [] (room_of bytes) header.1 ≡ Ok (es, extensions)) h_is (subst (λ (n : ℕ). entries_at header.0.0 h header.0.1 [] n header.1 ≡ Ok (es, extensions)) room_is entries);
    }

pub found_is_file : (format : ObjectFormat) (bytes : List ℕ) (es : List Tracked) (extensions : List ℕ) → IsBytes bytes → Finds format bytes es extensions → IsFile format bytes es extensions
found_is_file format bytes es extensions fits f =
    let n = length bytes - hash_len format in
    let content = take n bytes in
    let fits_content = IsBytes-take n bytes fits in
    let head = header_takes content f.header fits_content f.header_is in
    let version = f.header.0.0 in
    let count = f.header.0.1 in
    let f0 = IsBytes-behind (codes "DIRC") (to_be_bytes w32 version ++ (to_be_bytes w32 count ++ f.header.1)) content head.joined fits_content in
    let f1 = IsBytes-behind (to_be_bytes w32 version) (to_be_bytes w32 count ++ f.header.1) (to_be_bytes w32 version ++ (to_be_bytes w32 count ++ f.header.1)) refl f0 in
    let f2 = IsBytes-behind (to_be_bytes w32 count) f.header.1 (to_be_bytes w32 count ++ f.header.1) refl f1 in
    let t = entries_take version (hash_len format) count [] (room_of bytes) f.header.1 (es, extensions) f2 f.entries_are in
    let counted : content ≡ codes "DIRC" ++ (to_be_bytes w32 version ++ (to_be_bytes w32 (length es) ++ (t.texts ++ extensions))) =
    head.joined ∙ ap (λ (w : List ℕ). codes "DIRC" ++ (to_be_bytes w32 version ++ (to_be_bytes w32 count ++ w))) t.joined
    ∙ ap (λ (m : ℕ). codes "DIRC" ++ (to_be_bytes w32 version ++ (to_be_bytes w32 m ++ (t.texts ++ extensions)))) (sym t.count) in
    record {
      version = version;
      known = (head.known.0, head.known.1, omega (arith, head.few, t.count));
      texts = t.texts;
      each = t.each;
      content = content;
      content_is = counted;
      checksum = drop n bytes;
      checksum_len = omega (arith, length-drop n bytes, f.long);
      joined = sym (take-append-drop n bytes);
    }

content_len : (version count : ℕ) (rest content : List ℕ) → content ≡ codes "DIRC" ++ (to_be_bytes w32 version ++ (to_be_bytes w32 count ++ rest)) → 12 ≤ length content
content_len version count rest content e =
    omega (arith, ap length e, length-append (codes "DIRC") (to_be_bytes w32 version ++ (to_be_bytes w32 count ++ rest)), length-append (to_be_bytes w32 version) (to_be_bytes w32 count ++ rest), length-append (to_be_bytes w32 count) rest, wide32.len version, wide32.len count)

pub file_is_found : (format : ObjectFormat) (bytes : List ℕ) (es : List Tracked) (extensions : List ℕ) → IsBytes bytes → IsFile format bytes es extensions → HasRoom bytes es → Finds format bytes es extensions
file_is_found format bytes es extensions fits f room =
    let h = hash_len format in
    let len : length bytes ≡ length f.content + h = omega (arith, ap length f.joined, length-append f.content f.checksum, f.checksum_len) in
    let n : length f.content ≡ length bytes - h = omega (arith, len) in
    let content_is : take (length bytes - h) bytes ≡ f.content = ap (take (length bytes - h)) f.joined ∙ take_at f.content f.checksum (length bytes - h) n in
    let content_fits = IsBytes-front f.content f.checksum bytes f.joined fits in
    let rest = f.texts ++ extensions in
    let f0 = IsBytes-behind (codes "DIRC") (to_be_bytes w32 f.version ++ (to_be_bytes w32 (length es) ++ rest)) f.content f.content_is content_fits in
    let f1 = IsBytes-behind (to_be_bytes w32 f.version) (to_be_bytes w32 (length es) ++ rest) (to_be_bytes w32 f.version ++ (to_be_bytes w32 (length es) ++ rest)) refl f0 in
    let f2 = IsBytes-behind (to_be_bytes w32 (length es)) rest (to_be_bytes w32 (length es) ++ rest) refl f1 in
    let texts_fit = IsBytes-front f.texts extensions rest refl f2 in
    let long = content_len f.version (length es) rest f.content f.content_is in
    record {
      long = omega (arith, len, long);
      header = ((f.version, length es), rest);
      header_is = ap header_at (content_is ∙ f.content_is) ∙ header_again f.version (length es) rest f.known.0 f.known.1 f.known.2;
      entries_are = entries_again f.version h [] es (room_of bytes) f.texts extensions texts_fit f.each room;
    }
