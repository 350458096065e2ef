-- What a search for a byte tells of what stands before it.
use Rattle.std.proofs.Common.{◌≡◌, ◌≢◌, ℕ, zero, suc, ◌+◌, ◌<◌, List, [], ◌∷◌, ◌++◌, length, take, drop, get_or, Some, None, sym, ap, subst, ◌∙◌, le_refl, take_all, take-append-drop, arith}
use Rattle.std.proofs.lemmas.Bool.{eqb-true, eq-eqb}
use Rattle.std.proofs.lemmas.List.{drop_more}
use Rattle.memchr.specs.Find.{IsFirstByte, is_byte}
use Rattle.byte_streams.specs.Records.{HasNo, IsCutAt}

-- the bytes before place k don't hold this byte
pub HasNo-take : (byte : ℕ) (bytes : List ℕ) (k : ℕ) → ((j : ℕ) → j < k → get_or bytes j 0 ≢ byte) → HasNo byte (take k bytes)
HasNo-take byte bytes zero h = tt
HasNo-take byte [] (suc k) h = tt
HasNo-take byte (b ∷ bytes) (suc k) h = (h 0 (omega arith), HasNo-take byte bytes k (λ j below. h (suc j) (omega arith)))

pub IsCutAt-found : (byte : ℕ) (bytes : List ℕ) (place : ℕ) → IsFirstByte (is_byte byte) bytes (Some place) → IsCutAt byte bytes (take place bytes) (drop (place + 1) bytes)
IsCutAt-found byte bytes place h =
    let inside : place < length bytes = h.0.high in
    let here : get_or bytes place 0 ≡ byte = eqb-true _ _ h.1 in
    record {
      none = HasNo-take byte bytes place (λ j below is. h.0.before j (omega arith) below (eq-eqb _ _ is));
      joined = sym (take-append-drop place bytes) ∙ ap (λ l. take place bytes ++ l) (drop_more bytes place 0 inside ∙ ap (λ c. c ∷ drop (place + 1) bytes) here);
    }

pub HasNo-not_found : (byte : ℕ) (bytes : List ℕ) → IsFirstByte (is_byte byte) bytes None → HasNo byte bytes
HasNo-not_found byte bytes h =
    subst (HasNo byte) (take_all (length bytes) bytes (le_refl _)) (HasNo-take byte bytes (length bytes) (λ j below is. h j (omega arith) below (eq-eqb _ _ is)))
