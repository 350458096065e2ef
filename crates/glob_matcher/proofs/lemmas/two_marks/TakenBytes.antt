-- The engine with two marks at a token of one byte: where it stands once the token takes the byte, and that it misses otherwise.
use Rattle.std.proofs.Common.{◌≡◌, ◌≢◌, inl, inr, ℕ, ◌+◌, ◌-◌, ◌<◌, ◌≤◌, true, false, IsTrue, List, [], ◌∷◌, refl, length, get_or, Option, Some, None, sym, ◌∙◌, ap, subst, arith}
use Rattle.std.proofs.lemmas.Bool.{cases_lt}
use Rattle.glob_matcher.specs.declared.wildmatch.way.Way.{Way}
use Rattle.glob_matcher.specs.declared.wildmatch.tokens.TokenKind.{TokenKind}
use Rattle.glob_matcher.specs.declared.wildmatch.marks.Mark.{Mark}
use Rattle.glob_matcher.specs.declared.wildmatch.state.Crossing.{Crossing}
use Rattle.glob_matcher.specs.declared.wildmatch.state.State.{State}
use Rattle.glob_matcher.specs.Bytes.{HasByte, NoSlash, is_path, open_bracket, slash, star}
use Rattle.glob_matcher.specs.Tokens.{Token, Byte, Free, Local, Dirs, From, IsToken}
use Rattle.glob_matcher.specs.Private.Spelling.{IsAfterSlash}
use Rattle.glob_matcher.specs.Matching.{SplitsFrom, Fits}
use Rattle.glob_matcher.specs.Private.Reader.{is_star}
use Rattle.glob_matcher.specs.Private.Components.{ends, separates, next_component}
use Rattle.glob_matcher.specs.Private.States.{SuccessAhead, SuccessNear, LocalKnownIfSet, StandsAt}
use Rattle.glob_matcher.proofs.lemmas.cutting.CutLemmas.{fits_one}
use Rattle.glob_matcher.proofs.lemmas.cutting.Engines.{byte_in, byte_out, token_byte_out}
use Rattle.glob_matcher.proofs.lemmas.reading.SetLemmas.{two_bytes}
use Rattle.glob_matcher.proofs.lemmas.cutting.SlashLemmas.{ends_in_slash_byte, fold_slash}
use Rattle.glob_matcher.proofs.lemmas.two_marks.Components.{IsInner, separates-fits, separates-slash, ends-inner, ends-at_slash, ends-or_not, next-inner, next-before_end}
use Rattle.glob_matcher.proofs.lemmas.two_marks.States.{local_near}

-- a byte that is no slash, taken by a token
not_slash_here : (way : Way) (t : Token) (c : ℕ) → IsTrue (is_path way) → Fits way t c → t ≢ Byte slash → c ≢ slash
not_slash_here way t c path fits other is =
    other (separates-slash way t path (separates-fits way t c fits ∙ ends-at_slash way c is))

-- a text without slash that goes on by one byte
bare_more : (v : List ℕ) (k e : ℕ) → NoSlash v k e → get_or v e 0 ≢ slash → NoSlash v (k + 1) (e + 1)
bare_more v k e bare last = record {
  at = λ m from below. elim (cases_lt m e) [
    | inl before ↦ bare.at m (omega arith) before
    | inr at_end ↦ let same : e ≡ m = omega arith in subst (λ (n : ℕ). get_or v n 0 ≢ slash) same last
  ];
}

-- The token takes no byte here.
pub misses_byte : {way : Way} {p : List ℕ} (v : List ℕ) {i : ℕ} {kind : TokenKind} {j : ℕ} (k : ℕ) → (x : IsToken way p i kind j)
    → is_star kind ≡ false → k ≤ length v → ((k < length v) × Fits way x.token (get_or v k 0) → ⊥) → ¬ SplitsFrom v k p i way
misses_byte {way} {p} v {i} {kind} {j} k x single inside unfit all =
    let out = byte_out way p v i kind j k x single inside all in unfit (out.0, out.1)

-- Where the value ends, nothing that begins with a bracket takes a byte.
pub set_missed : (way : Way) (p v : List ℕ) (i k : ℕ) (ts : List Token) → From way p i ts → HasByte p i open_bracket → length v ≡ k → ¬ SplitsFrom v k p i way
set_missed way p v i k [] read bracket at_end all = let inside = bracket.inside in omega (arith, read)
set_missed way p v i k (Free ∷ ts) read bracket at_end all =
    two_bytes p i star open_bracket (read.1.0.stars i (omega arith) read.1.0.some) bracket (λ h. omega arith)
set_missed way p v i k (Local ∷ ts) read bracket at_end all =
    two_bytes p i star open_bracket (read.1.0.stars i (omega arith) read.1.0.some) bracket (λ h. omega arith)
set_missed way p v i k (Dirs ∷ ts) read bracket at_end all =
    two_bytes p i star open_bracket (read.1.run.stars i (omega arith) read.1.run.some) bracket (λ h. omega arith)
set_missed way p v i k (t ∷ ts) read bracket at_end all =
    let out = token_byte_out way p v i read.0 k t read.1 refl (omega (arith, at_end)) all in omega (arith, at_end, out.0)

inner_by : (way : Way) (p v : List ℕ) (i k : ℕ) (c : Crossing) (l : Option Mark) (t : Token) → LocalKnownIfSet way p v i k c l
    → Fits way t (get_or v k 0) → t ≢ Byte slash → IsInner way v k l
inner_by way p v i k c None t known fits other = tt
inner_by way p v i k c (Some m) t known fits other =
    ends-inner way (get_or v k 0) known.path (not_slash_here way t (get_or v k 0) known.path fits other)

module _ {way : Way} {p : List ℕ} where
  -- a token that takes a byte, and whose spelling ends in a slash, is the slash
  slash_taken : {i : ℕ} {kind : TokenKind} {j : ℕ} → (x : IsToken way p i kind j) → (c : ℕ) → Fits way x.token c → IsAfterSlash p j
      → x.token ≡ Byte slash
  slash_taken {i} {j = j} x c fits (inl zero_place) = let past : i < j = x.past in absurd (omega arith)
  slash_taken {i} {j = j} x c fits (inr h) = ends_in_slash_byte way p i x.token j (fits_one way x.token c fits) x.here h

module _ {way : Way} {p v : List ℕ} where
  -- The byte taken from here on: what was ahead stays ahead.
  ahead_on : {i : ℕ} {kind : TokenKind} {j k : ℕ} → (x : IsToken way p i kind j) → is_star kind ≡ false → k < length v
      → Fits way x.token (get_or v k 0) → SuccessAhead way p v i k → SuccessAhead way p v j (k + 1)
  ahead_on {i} {kind} {j} {k} x single inside fits a =
      let a_past : k < a.e = a.past in
      let out = byte_out way p v i kind j a.e x single a.inside a.splits in
      let e_inside : a.e < length v = out.0 in
      let next : next_component way v (k + 1) ≤ a.e + 1 = elim (ends-or_not way (get_or v k 0)) [
        | inl end ↦
            let there : ends way (get_or v a.e 0) ≡ true =
            sym (separates-fits way x.token (get_or v a.e 0) out.1) ∙ (separates-fits way x.token (get_or v k 0) fits ∙ end) in
            next-before_end way v (k + 1) a.e (omega arith) e_inside there
        | inr within ↦
            let apart : separates way x.token ≡ false = separates-fits way x.token (get_or v k 0) fits ∙ within in
            let far : next_component way v k ≤ a.e = a.far x.token j x.here apart in
            let same : next_component way v (k + 1) ≡ next_component way v k = next-inner way v k inside within in
            omega arith
      ] in
      let place : a.e + 1 - 1 ≡ a.e = omega arith in
      record {
        e = a.e + 1;
        past = omega arith;
        inside = omega arith;
        far = λ t n here apart. next;
        after = λ after.
            let byte : Fits way (Byte slash) (get_or v a.e 0) =
            subst (λ (t : Token). Fits way t (get_or v a.e 0)) (slash_taken x (get_or v a.e 0) out.1 after) out.1 in
            ap (λ (n : ℕ). get_or v n 0) place ∙ fold_slash way (get_or v a.e 0) byte;
        splits = out.2;
      }

  near_on : {i : ℕ} {kind : TokenKind} {j k : ℕ} → (x : IsToken way p i kind j) → is_star kind ≡ false
      → IsTrue (is_path way) → Fits way x.token (get_or v k 0) → x.token ≢ Byte slash → SuccessNear way p v i k
      → SuccessNear way p v j (k + 1)
  near_on {i} {kind} {j} {k} x single path fits other n =
      let out = byte_out way p v i kind j n.e x single n.inside n.splits in
      let e_inside : n.e < length v = out.0 in
      let low : k ≤ n.e = n.low in
      let last : get_or v n.e 0 ≢ slash = not_slash_here way x.token (get_or v n.e 0) path out.1 other in
      record {
        e = n.e + 1;
        low = omega arith;
        inside = omega arith;
        bare = bare_more v k n.e n.bare last;
        splits = out.2;
      }

module _ {way : Way} {p : List ℕ} (v : List ℕ) where
  local_known_on : {i : ℕ} {kind : TokenKind} {j : ℕ} (k : ℕ) (c : Crossing) (l : Option Mark) → (x : IsToken way p i kind j)
      → is_star kind ≡ false → Fits way x.token (get_or v k 0) → x.token ≢ Byte slash → LocalKnownIfSet way p v i k c l
      → LocalKnownIfSet way p v j (k + 1) c l
  local_known_on k c None x single fits other known = tt
  local_known_on k c (Some m) x single fits other known = record {
    path = known.path;
    low = known.low;
    here = λ after. other (slash_taken x (get_or v k 0) fits after);
    start = known.start;
    near = λ later. near_on x single known.path fits other (known.near later);
    far = known.far;
  }

module _ {way : Way} {p v : List ℕ} where
  -- The token takes the byte here, and is no slash: both marks stay.
  pub stands_on : {state : State} {kind : TokenKind} {j : ℕ} → StandsAt way p v state
      → (x : IsToken way p state.place kind j) → is_star kind ≡ false → state.at < length v
      → Fits way x.token (get_or v state.at 0) → x.token ≢ Byte slash
      → StandsAt way p v (record state { place = j; at = state.at + 1 })
  stands_on {state} {kind} {j} st x single inside fits other = record {
    low = x.inside;
    inside = omega arith;
    sound = λ all. st.sound (byte_in way p v state.place kind j state.at x inside fits all);
    sound_local = st.sound_local;
    sound_crossing = st.sound_crossing;
    complete = λ whole. elim (st.complete whole) [
      | inl here ↦ inl (byte_out way p v state.place kind j state.at x single st.inside here).2
      | inr later ↦ inr later
    ];
    ahead = λ later. ahead_on x single inside fits (st.ahead later);
    crossing = st.crossing;
    local = local_known_on v state.at state.crossing state.local x single fits other st.local;
  }

  -- at a slash, what the local mark could find later is found here
  found_at_slash : {i k : ℕ} → get_or v k 0 ≡ slash → SuccessNear way p v i k → SplitsFrom v k p i way
  found_at_slash {i} {k} is n = elim (cases_lt k n.e) [
    | inl later ↦ absurd (n.bare.at k (omega arith) later is)
    | inr same ↦ let low : k ≤ n.e = n.low in let at : n.e ≡ k = omega arith in subst (λ (m : ℕ). SplitsFrom v m p i way) at n.splits
  ]

  -- The token is a slash and takes the one here: the local mark is of no more use.
  pub stands_past_slash : {state : State} {kind : TokenKind} {j : ℕ} → StandsAt way p v state
      → (x : IsToken way p state.place kind j) → is_star kind ≡ false → state.at < length v
      → Fits way x.token (get_or v state.at 0) → x.token ≡ Byte slash
      → StandsAt way p v (record state { place = j; at = state.at + 1; local = None })
  stands_past_slash {state} {kind} {j} st x single inside fits is =
      let byte : get_or v state.at 0 ≡ slash =
      fold_slash way (get_or v state.at 0) (subst (λ (t : Token). Fits way t (get_or v state.at 0)) is fits) in
      let on : SplitsFrom v state.at p state.place way → SplitsFrom v (state.at + 1) p j way =
      λ here. (byte_out way p v state.place kind j state.at x single st.inside here).2 in
      record {
        low = x.inside;
        inside = omega arith;
        sound = λ all. st.sound (byte_in way p v state.place kind j state.at x inside fits all);
        sound_local = λ none. absurd none;
        sound_crossing = st.sound_crossing;
        complete = λ whole. elim (st.complete whole) [
          | inl here ↦ inl (on here)
          | inr (inl later) ↦ inl (on (found_at_slash byte (local_near st later)))
          | inr (inr later) ↦ inr (inr later)
        ];
        ahead = λ later. ahead_on x single inside fits (st.ahead later);
        crossing = st.crossing;
        local = tt;
      }

  -- where a local mark is set, a token that is no slash takes no slash
  pub inner_of : {state : State} (t : Token) → StandsAt way p v state → Fits way t (get_or v state.at 0) → t ≢ Byte slash
      → IsInner way v state.at state.local
  inner_of {state} t st fits other =
      inner_by way p v state.place state.at state.crossing state.local t st.local fits other
