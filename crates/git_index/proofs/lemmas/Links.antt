-- A link: what is read of it is spelled so, and the other way; and where it stands among extensions.
use Rattle.std.proofs.Common.{◌≡◌, ◌⊎◌, ℕ, ◌^◌, ◌<◌, ◌≤◌, true, false, cond, eqb, ltb, ◌≢◌, List, [], ◌++◌, length, take, drop, Option, None, Some, Result, Ok, Err, refl, sym, ap, subst, ◌∙◌, append_assoc, arith, inl, inr}
use Rattle.std.specs.Prelude.{MatchOption, codes, flat_map, is_some, nat_eq, replicate}
use Rattle.std.specs.Int.{w32, to_be_bytes}
use Rattle.std.specs.List.{list_all, starts_with}
use Rattle.std.proofs.lemmas.Bool.{false≢true, ltb-false, le-ltb}
use Rattle.std.proofs.lemmas.Bool.Decides.{Decides-eqb}
use Rattle.std.proofs.lemmas.List.{drop_at, length-append, length-take, take_at, take-append-drop}
use Rattle.std.proofs.lemmas.Slice.Eq.{starts_is}
use Rattle.git_index.specs.declared.object_format.ObjectFormat.{ObjectFormat}
use Rattle.git_index.specs.declared.fault.IndexFault.{IndexFault}
use Rattle.git_index.specs.declared.fault.IndexFault.TheVariants.{Cut, Link, Memory}
use Rattle.git_index.specs.declared.link.Link.{Link as LinkParts}
use Rattle.git_index.specs.Entries.{Tracked}
use Rattle.git_index.specs.Format.{ArePassedOver, HasLink, HasNoLink, IsFile, extension_text, hash_len, zero_hash}
use Rattle.git_index.specs.Private.Reading.{◌>>=◌, Ends, StopsWith, front_at, link_at, number_at, skipped}
use Rattle.git_index.proofs.lemmas.Fields.{IsBytes, IsBytes-behind, IsBytes-front, bind_ok, front_again, front_takes, guard_ok, number_again, number_takes, ok_is, skipped_again, wide32}
use Rattle.git_index.proofs.lemmas.Zeros.{replicate-zeros, zeros_are}

abbrev Content : Type 0
Content = List ℕ × List ℕ

abbrev parted : ℕ → Content → Result (Content × List ℕ) IndexFault
parted hash content = cond (ltb (length content.0) hash) (Err Link) (Ok ((take hash content.0, drop hash content.0), content.1))

pub link_takes : (hash : ℕ) (bytes : List ℕ) (x : Content × List ℕ) → IsBytes bytes → starts_with nat_eq bytes (codes "link") ≡ true → link_at hash bytes ≡ Ok x
    → (bytes ≡ extension_text (codes "link", x.0.0 ++ x.0.1) ++ x.1) × (length x.0.0 ≡ hash) × (length (x.0.0 ++ x.0.1) < 2 ^ 32)
unfolding link_at
link_takes hash bytes x fits starts e =
    let a = bind_ok (skipped 4 bytes) (λ a. number_at w32 a >>= λ len. front_at len.0 len.1 >>= λ content. parted hash content) x e in
    let b = bind_ok (number_at w32 a.0) (λ len. front_at len.0 len.1 >>= λ content. parted hash content) x a.2 in
    let d = bind_ok (front_at b.0.0 b.0.1) (λ content. parted hash content) x b.2 in
    let g = guard_ok (ltb (length d.0.0) hash) Link ((take hash d.0.0, drop hash d.0.0), d.0.1) x d.2 in
    let begins : bytes ≡ codes "link" ++ drop 4 bytes = (starts_is Decides-eqb bytes (codes "link") (starts_with nat_eq bytes (codes "link")) refl).0 starts in
    let behind : drop 4 bytes ≡ a.0 = (guard_ok (ltb (length bytes) 4) Cut (drop 4 bytes) a.0 a.1).1 in
    let first : bytes ≡ codes "link" ++ a.0 = begins ∙ ap (λ (w : List ℕ). codes "link" ++ w) behind in
    let fits1 = IsBytes-behind (codes "link") a.0 bytes first fits in
    let t1 = number_takes w32 (2 ^ 32) wide32 a.0 b.0.0 b.0.1 fits1 b.1 in
    let t2 = front_takes b.0.0 b.0.1 d.0 d.1 in
    let long : hash ≤ length d.0.0 = ltb-false _ _ g.0 in
    let whole : take hash d.0.0 ++ drop hash d.0.0 ≡ d.0.0 = take-append-drop hash d.0.0 in
    let len : length (take hash d.0.0 ++ drop hash d.0.0) ≡ b.0.0 = ap length whole ∙ t2.1 in
    let text : bytes ≡ extension_text (codes "link", take hash d.0.0 ++ drop hash d.0.0) ++ d.0.1 =
    first ∙ ap (λ (w : List ℕ). codes "link" ++ w) (t1.0 ∙ ap (λ (w : List ℕ). to_be_bytes w32 b.0.0 ++ w) (t2.0 ∙ ap (λ (w : List ℕ). w ++ d.0.1) (sym whole)) ∙ ap (λ (n : ℕ). to_be_bytes w32 n ++ ((take hash d.0.0 ++ drop hash d.0.0) ++ d.0.1)) (sym len))
    ∙ ap (λ (w : List ℕ). codes "link" ++ w) (sym (append_assoc (to_be_bytes w32 (length (take hash d.0.0 ++ drop hash d.0.0))) (take hash d.0.0 ++ drop hash d.0.0) d.0.1)) in
    subst (λ (y : Content × List ℕ). (bytes ≡ extension_text (codes "link", y.0.0 ++ y.0.1) ++ y.1) × (length y.0.0 ≡ hash) × (length (y.0.0 ++ y.0.1) < 2 ^ 32)) g.1
    (text, omega (arith, long, length-take hash d.0.0), omega (arith, len, t1.1))

pub link_again : (h b rest : List ℕ) (hash : ℕ) → length h ≡ hash → length (h ++ b) < 2 ^ 32 → link_at hash (extension_text (codes "link", h ++ b) ++ rest) ≡ Ok ((h, b), rest)
unfolding link_at
link_again h b rest hash len few =
    let tail = to_be_bytes w32 (length (h ++ b)) ++ ((h ++ b) ++ rest) in
    let regrouped : extension_text (codes "link", h ++ b) ++ rest ≡ codes "link" ++ tail = ap (λ (w : List ℕ). codes "link" ++ w) (append_assoc (to_be_bytes w32 (length (h ++ b))) (h ++ b) rest) in
    let long : ltb (length (h ++ b)) hash ≡ false = le-ltb _ _ (omega (arith, len, length-append h b)) in
    let last : parted hash (h ++ b, rest) ≡ Ok ((h, b), rest) = rw (long, take_at h b hash len, drop_at h b hash len) refl in
    let two : (front_at (length (h ++ b)) ((h ++ b) ++ rest) >>= λ content. parted hash content) ≡ Ok ((h, b), rest) = ap (λ (r : Result Content IndexFault). r >>= λ content. parted hash content) (front_again (h ++ b) rest (length (h ++ b)) refl) ∙ last in
    let one : (number_at w32 tail >>= λ l. front_at l.0 l.1 >>= λ content. parted hash content) ≡ Ok ((h, b), rest) =
    ap (λ (r : Result (ℕ × List ℕ) IndexFault). r >>= λ l. front_at l.0 l.1 >>= λ content. parted hash content) (number_again w32 (2 ^ 32) wide32 (length (h ++ b)) ((h ++ b) ++ rest) few) ∙ two in
    ap (link_at hash) regrouped ∙ ap (λ (r : Result (List ℕ) IndexFault). r >>= λ a. number_at w32 a >>= λ l. front_at l.0 l.1 >>= λ content. parted hash content) (skipped_again (codes "link") tail 4 refl) ∙ one

-- ---- among extensions

pub link_ends : (h b behind : List ℕ) → Ends (extension_text (codes "link", h ++ b) ++ behind)
link_ends h b behind = inr refl

-- where passing over extensions stops, and what stands there
pub record Stops (format : ObjectFormat) (link : Option (List ℕ × List ℕ)) (bytes : List ℕ) : Type 0 where
  pub stop : List ℕ
  pub passed : ArePassedOver bytes stop
  pub ends : Ends stop
  pub holds : StopsWith (hash_len format) link stop

pub link_stops : (format : ObjectFormat) (h b bytes : List ℕ) → HasLink format h b bytes → Stops format (Some (h, b)) bytes
link_stops format h b bytes l = record {
  stop = extension_text (codes "link", h ++ b) ++ l.behind;
  passed = l.first;
  ends = link_ends h b l.behind;
  holds = (l.few, l.behind, l.last.0, l.last.1, l.lengths.0, l.lengths.1, refl);
}

pub stop_is_link : (format : ObjectFormat) (h b bytes stop : List ℕ) → ArePassedOver bytes stop → StopsWith (hash_len format) (Some (h, b)) stop → HasLink format h b bytes
stop_is_link format h b bytes stop passed holds =
    record {
      few = holds.0;
      behind = holds.1;
      last = (holds.2, holds.3);
      lengths = (holds.4, holds.5);
      first = subst (λ (w : List ℕ). ArePassedOver bytes w) holds.6 passed;
    }

pub link_read : (hash : ℕ) (x : List ℕ × List ℕ) (stop : List ℕ) (holds : StopsWith hash (Some x) stop) → link_at hash stop ≡ Ok (x, holds.1)
link_read hash x stop holds = ap (link_at hash) holds.6 ∙ link_again x.0 x.1 holds.1 hash holds.4 holds.5

ok_is_no_err : (r : Result (Content × List ℕ) IndexFault) (y : Content × List ℕ) (fault : IndexFault) → r ≡ Ok y → r ≡ Err fault → ⊥
ok_is_no_err (Ok x) y fault a b = absurd cc
ok_is_no_err (Err x) y fault a b = absurd cc

pub link_refused : (hash : ℕ) (link : Option (List ℕ × List ℕ)) (stop : List ℕ) (fault : IndexFault) → 8 ≤ length stop → (fault ≡ Memory) ⊎ (link_at hash stop ≡ Err fault) → StopsWith hash link stop → fault ≡ Memory
link_refused hash link stop fault long (inl memory) holds = memory
link_refused hash None stop fault long (inr e) holds = absurd (omega (arith, long, holds))
link_refused hash (Some x) stop fault long (inr e) holds = absurd (ok_is_no_err (link_at hash stop) (x, holds.1) fault (link_read hash x stop holds) e)

-- what was read is the link, and what it is followed by stands behind it
pub record IsRead (hash : ℕ) (link : Option (List ℕ × List ℕ)) (y : Content × List ℕ) : Type 0 where
  pub few : List ℕ
  pub passed : ArePassedOver y.1 few
  pub short : length few < 8
  pub is : Some y.0 ≡ link

pub is_read : (hash : ℕ) (link : Option (List ℕ × List ℕ)) (stop : List ℕ) (y : Content × List ℕ) → 8 ≤ length stop → link_at hash stop ≡ Ok y → StopsWith hash link stop → IsRead hash link y
is_read hash None stop y long e holds = absurd (omega (arith, long, holds))
is_read hash (Some x) stop y long e holds =
    let one : IsRead hash (Some x) (x, holds.1) = record { few = holds.0; passed = holds.2; short = holds.3; is = refl } in
    subst (λ (z : Content × List ℕ). IsRead hash (Some x) z) (ok_is (x, holds.1) y (sym (link_read hash x stop holds) ∙ e)) one

begins_link : (stop : List ℕ) → 8 ≤ length stop → Ends stop → starts_with nat_eq stop (codes "link") ≡ true
begins_link stop long (inl short) = absurd (omega (arith, long, short))
begins_link stop long (inr starts) = starts

pub link_stands : (hash : ℕ) (stop few : List ℕ) (y : Content × List ℕ) → IsBytes stop → 8 ≤ length stop → Ends stop → link_at hash stop ≡ Ok y → ArePassedOver y.1 few → length few < 8 → StopsWith hash (Some y.0) stop
link_stands hash stop few y fits long ends e passed short =
    let t = link_takes hash stop y fits (begins_link stop long ends) e in
    (few, y.1, passed, short, t.1, t.2, t.0)

-- ---- by whether there is a link whose hash isn't zero

pub no_link_stops : (format : ObjectFormat) (bytes : List ℕ) → HasNoLink format bytes → (b : List ℕ) × (Stops format None bytes ⊎ Stops format (Some (zero_hash format, b)) bytes)
no_link_stops format bytes (inl none) = ([], inl (record { stop = none.0; passed = none.1; ends = inl none.2; holds = none.2 }))
no_link_stops format bytes (inr zero) = (zero.0, inr (link_stops format (zero_hash format) zero.0 bytes zero.1))

pub at_stop : (format : ObjectFormat) (link : Option (List ℕ × List ℕ)) (bytes rest : List ℕ) (n : ℕ) (x : Stops format link bytes) → rest ≡ x.stop → n ≡ hash_len format → StopsWith n link rest
at_stop format link bytes rest n x same len = rw (same, len) x.holds

abbrev pub seen_link : LinkParts → List ℕ × List ℕ
seen_link x = (x.hash.now, x.bitmaps.now)

-- a link whose hash is zero
pub zero_is_no_link : (format : ObjectFormat) (bytes rest : List ℕ) (n : ℕ) (h b : List ℕ) → n ≡ hash_len format → ArePassedOver bytes rest → StopsWith n (Some (h, b)) rest → list_all (λ x. eqb x 0) h ≡ true → (h ≡ zero_hash format) × HasNoLink format bytes
zero_is_no_link format bytes rest n h b n_is passed holds zeros =
    let again : StopsWith (hash_len format) (Some (h, b)) rest = subst (λ (m : ℕ). StopsWith m (Some (h, b)) rest) n_is holds in
    let zero : h ≡ zero_hash format = zeros_are h zeros ∙ ap (λ (m : ℕ). replicate m 0) (again.4) in
    (zero, inr (b, subst (λ (w : List ℕ). HasLink format w b bytes) zero (stop_is_link format h b bytes rest passed again)))

pub is_no_zero : (format : ObjectFormat) (h : List ℕ) → list_all (λ x. eqb x 0) h ≡ false → h ≢ zero_hash format
is_no_zero format h other = λ is. let zeros : list_all (λ x. eqb x 0) h ≡ true = ap (list_all (λ x. eqb x 0)) is ∙ replicate-zeros (hash_len format) in absurd (false≢true (sym other ∙ zeros))

pub other_is_link : (format : ObjectFormat) (bytes rest : List ℕ) (n : ℕ) (h b : List ℕ) → n ≡ hash_len format → ArePassedOver bytes rest → StopsWith n (Some (h, b)) rest → list_all (λ x. eqb x 0) h ≡ false → HasLink format h b bytes × (h ≢ zero_hash format)
other_is_link format bytes rest n h b n_is passed holds other =
    (stop_is_link format h b bytes rest passed (subst (λ (m : ℕ). StopsWith m (Some (h, b)) rest) n_is holds), is_no_zero format h other)

pub some_is : (x y : List ℕ × List ℕ) → ◌≡◌ {A = Option (List ℕ × List ℕ)} (Some x) (Some y) → x ≡ y
some_is x y e = cc

pub none_is_no_some : (y : List ℕ × List ℕ) → ◌≡◌ {A = Option (List ℕ × List ℕ)} None (Some y) → ⊥
none_is_no_some y e = absurd cc

pub some_is_no_none : (y : List ℕ × List ℕ) → ◌≡◌ {A = Option (List ℕ × List ℕ)} (Some y) None → ⊥
some_is_no_none y e = absurd cc

-- by whether there is one
pub none_has : (o : Option LinkParts) (A : Type 0) (P : LinkParts → Type 0) → MatchOption o A P → is_some o ≡ false → A
none_has None A P h none = h
none_has (Some x) A P h none = absurd cc

pub some_has : (o : Option LinkParts) (A : Type 0) → MatchOption o A (λ x. ⊥) → is_some o ≡ true → ⊥
some_has None A h some = absurd cc
some_has (Some x) A h some = h

-- the bitmaps of a file's link are bytes
pub link_fits : (format : ObjectFormat) (h b bytes extensions : List ℕ) (own : List Tracked) → IsBytes bytes → IsFile format bytes own extensions → HasLink format h b extensions → IsBytes b
link_fits format h b bytes extensions own fits file link =
    let f0 = IsBytes-front file.content file.checksum bytes file.joined fits in
    let f1 = IsBytes-behind (codes "DIRC") (to_be_bytes w32 file.version ++ (to_be_bytes w32 (length own) ++ (file.texts ++ extensions))) file.content file.content_is f0 in
    let f2 = IsBytes-behind (to_be_bytes w32 file.version) (to_be_bytes w32 (length own) ++ (file.texts ++ extensions)) (to_be_bytes w32 file.version ++ (to_be_bytes w32 (length own) ++ (file.texts ++ extensions))) refl f1 in
    let f3 = IsBytes-behind (to_be_bytes w32 (length own)) (file.texts ++ extensions) (to_be_bytes w32 (length own) ++ (file.texts ++ extensions)) refl f2 in
    let f4 = IsBytes-behind file.texts extensions (file.texts ++ extensions) refl f3 in
    let text = extension_text (codes "link", h ++ b) in
    let f5 = IsBytes-behind (flat_map extension_text link.first.0) (text ++ link.behind) extensions link.first.2 f4 in
    let f6 = IsBytes-front text link.behind (text ++ link.behind) refl f5 in
    let f7 = IsBytes-behind (codes "link") (to_be_bytes w32 (length (h ++ b)) ++ (h ++ b)) text refl f6 in
    let f8 = IsBytes-behind (to_be_bytes w32 (length (h ++ b))) (h ++ b) (to_be_bytes w32 (length (h ++ b)) ++ (h ++ b)) refl f7 in
    IsBytes-behind h b (h ++ b) refl f8
