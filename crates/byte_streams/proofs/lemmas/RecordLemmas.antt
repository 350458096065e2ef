-- Records that are cut off bytes one after the other, and the texts that are written for them.
use Rattle.std.proofs.Common.{◌≡◌, ℕ, List, [], ◌∷◌, ◌++◌, sym, ap, subst, ◌∙◌, append_assoc, append-nil}
use Rattle.std.specs.List.{AllByRecursion, AllZip, concat}
use Rattle.std.proofs.lemmas.Grind.{flat_map-append}
use Rattle.std.proofs.lemmas.List.Folds.{concat-append}
use Rattle.byte_streams.specs.Records.{AnswersBefore, BeginsWith, HasNo, TextOf, ended_bytes}

-- ---- lists joined

pub AllByRecursion-append : {X : Type 0} (P : X → Type 0) (xs ys : List X) → AllByRecursion P xs → AllByRecursion P ys → AllByRecursion P (xs ++ ys)
AllByRecursion-append P [] ys p q = q
AllByRecursion-append P (x ∷ xs) ys p q = (p.0, AllByRecursion-append P xs ys p.1 q)

pub AllZip-append : {X Y : Type 0} (R : X → Y → Type 0) (xs zs : List X) (ys ws : List Y) → AllZip R xs ys → AllZip R zs ws → AllZip R (xs ++ zs) (ys ++ ws)
AllZip-append R [] zs [] ws p q = q
AllZip-append R [] zs (y ∷ ys) ws p q = absurd p
AllZip-append R (x ∷ xs) zs [] ws p q = absurd p
AllZip-append R (x ∷ xs) zs (y ∷ ys) ws p q = (p.0, AllZip-append R xs zs ys ws p.1 q)

pub AllZip-weaker : {X Y : Type 0} (R S : X → Y → Type 0) → ((x : X) (y : Y) → R x y → S x y) → (xs : List X) (ys : List Y) → AllZip R xs ys → AllZip S xs ys
AllZip-weaker R S h [] [] p = tt
AllZip-weaker R S h [] (y ∷ ys) p = absurd p
AllZip-weaker R S h (x ∷ xs) [] p = absurd p
AllZip-weaker R S h (x ∷ xs) (y ∷ ys) p = (h x y p.0, AllZip-weaker R S h xs ys p.1)

-- ---- bytes that begin with records

pub BeginsWith-one : (end : ℕ) (bytes first rest : List ℕ) → HasNo end first → bytes ≡ first ++ end ∷ rest → BeginsWith end bytes (first ∷ []) rest
BeginsWith-one end bytes first rest none joined = record {
  joined = joined ∙ sym (append_assoc first (end ∷ []) rest) ∙ ap (λ l. l ++ rest) (sym (append-nil (first ++ end ∷ [])));
  each = (none, tt);
}

module _ (end : ℕ) (bytes left : List ℕ) (records : List (List ℕ)) (begins : BeginsWith end bytes records left) where
  -- the rest begins with records, too
  pub BeginsWith-more : (more : List (List ℕ)) (rest : List ℕ) → BeginsWith end left more rest → BeginsWith end bytes (records ++ more) rest
  BeginsWith-more more rest next = record {
    joined = begins.joined ∙ ap (λ l. ended_bytes end records ++ l) next.joined ∙ sym (append_assoc (ended_bytes end records) (ended_bytes end more) rest)
        ∙ ap (λ l. l ++ rest) (sym (flat_map-append (λ (each : List ℕ). each ++ end ∷ []) records more));
    each = AllByRecursion-append (HasNo end) records more begins.each next.each;
  }

  -- more bytes come
  pub BeginsWith-grown : (piece : List ℕ) → BeginsWith end (bytes ++ piece) records (left ++ piece)
  BeginsWith-grown piece = record {
    joined = ap (λ l. l ++ piece) begins.joined ∙ append_assoc (ended_bytes end records) left piece;
    each = begins.each;
  }

-- ---- the text of records

module _ (Answers : List ℕ → List ℕ → Type 0) where
  pub TextOf-one : (first text : List ℕ) → Answers first text → TextOf Answers (first ∷ []) text
  TextOf-one first text allowed = record { written = text ∷ []; each = (allowed, tt); joined = sym (append-nil text) }

  pub TextOf-more : (records more : List (List ℕ)) (text next : List ℕ) → TextOf Answers records text → TextOf Answers more next → TextOf Answers (records ++ more) (text ++ next)
  TextOf-more records more text next t n = record {
    written = t.written ++ n.written;
    each = AllZip-append Answers records more t.written n.written t.each n.each;
    joined = ap (λ l. l ++ next) t.joined ∙ ap (λ l. concat t.written ++ l) n.joined ∙ sym (concat-append t.written n.written);
  }

-- what was allowed still is
pub TextOf-weaker : (Before After : List ℕ → List ℕ → Type 0) → ((each text : List ℕ) → Before each text → After each text) → (records : List (List ℕ)) (text : List ℕ) → TextOf Before records text → TextOf After records text
TextOf-weaker Before After stays records text t = record { written = t.written; each = AllZip-weaker Before After stays records t.written t.each; joined = t.joined }

-- what is a text of records in the first sense is one in the second
pub record Weakens (First Both : List (List ℕ) → List ℕ → Type 0) : Type 0 where
  pub weaken : (records : List (List ℕ)) (text : List ℕ) → First records text → Both records text

pub AnswersBefore-weaker : (First Both : List (List ℕ) → List ℕ → Type 0) → Weakens First Both → (end : ℕ) (bytes rest text : List ℕ) → AnswersBefore First end bytes rest text → AnswersBefore Both end bytes rest text
AnswersBefore-weaker First Both weakens end bytes rest text before = record {
  records = before.records;
  begins = before.begins;
  answered = weakens.weaken before.records text before.answered;
}
