-- Parts of a configuration that are read one after the other.
use Rattle.std.proofs.Common.{◌≡◌, List, [], ◌++◌, Result, Ok, Err, refl, sym, ap, subst, ◌∙◌, append_assoc, inl, inr}
use Rattle.std.specs.Prelude.{IsErrAnd}
use Rattle.std.proofs.lemmas.List.{append-nil}
use Rattle.git_config.specs.declared.includes.ReadFault.{ReadFault}
use Rattle.git_config.specs.declared.includes.ReadFault.TheVariants as read
use Rattle.git_config.specs.Configuration.{Outcome, Seen, Then, seen_fault}
use Rattle.git_config.specs.Private.Settings.{Adds, Continues, put}

abbrev pub fine : List Seen → Outcome
fine settings = Ok settings

put-none : (out : Outcome) → put [] out ≡ out
put-none (Ok more) = refl
put-none (Err fault) = refl

put-put : (a b : List Seen) (out : Outcome) → put a (put b out) ≡ put (a ++ b) out
put-put a b (Ok more) = ap (λ (l : List Seen). fine l) (sym (append_assoc a b more))
put-put a b (Err fault) = refl

-- the first part had no fault
then-put : (First Next : Outcome → Type 0) (a : List Seen) (out : Outcome) → First (Ok a) → Next out → Then First Next (put a out)
then-put First Next a (Ok b) f n = (a, b, refl, f, n)
then-put First Next a (Err fault) f n = inr (a, f, n)

pub begins : (Whole : Outcome → Type 0) (old : List Seen) → Continues Whole Whole old old
begins Whole old = record { more = []; is = sym (append-nil old); whole = λ out h. subst Whole (sym (put-none out)) h }

-- the same is left in other words
pub same : {Whole Rest : Outcome → Type 0} {old now : List Seen} (Next : Outcome → Type 0) → Continues Whole Rest old now → ((out : Outcome) → Next out → Rest out) → Continues Whole Next old now
same Next c f = record { more = c.more; is = c.is; whole = λ out h. c.whole out (f out h) }

-- a part more
pub adds : {Whole Rest : Outcome → Type 0} {old now : List Seen} {F : Type 0} (First Next : Outcome → Type 0) (new : List Seen) (r : Result (Unit {0}) (ReadFault F))
    → Continues Whole Rest old now → ((out : Outcome) → Then First Next out → Rest out) → r ≡ Ok tt → Adds First now new r → Continues Whole Next old new
adds {Whole} {Rest} {old} {now} First Next new (Ok _) c f e (m, first, is) =
    record {
      more = c.more ++ m;
      is = is ∙ ap (λ (l : List Seen). l ++ m) c.is ∙ append_assoc old c.more m;
      whole = λ out h. subst Whole (put-put c.more m out) (c.whole (put m out) (f (put m out) (then-put First Next m out first h)));
    }
adds First Next new (Err fault) c f e a = absurd (cc)

-- a part that fails
pub fails : {Whole Rest : Outcome → Type 0} {old now : List Seen} {F : Type 0} (First Next : Outcome → Type 0) (new : List Seen) (fault : ReadFault F)
    → Continues Whole Rest old now → ((out : Outcome) → Then First Next out → Rest out) → Adds First now new (Err fault) → Adds Whole old new (Err fault)
fails First Next new read.Memory c f a = tt
fails First Next new (read.File fault) c f a = tt
fails First Next new (read.Setting fault) c f a = let told : Outcome = Err (seen_fault fault) in c.whole told (f told (inl a))

pub ends : {Whole Rest : Outcome → Type 0} {old now : List Seen} → Continues Whole Rest old now → Rest (Ok []) → (more : List Seen) × Whole (Ok more) × (now ≡ old ++ more)
ends {Whole} c h = (c.more, subst Whole (ap (λ (l : List Seen). fine l) (append-nil c.more)) (c.whole (Ok []) h), c.is)

-- the outcome in other words
pub adds_as : {F : Type 0} (R Q : Outcome → Type 0) (old new : List Seen) (r : Result (Unit {0}) (ReadFault F)) → ((out : Outcome) → R out → Q out) → Adds R old new r → Adds Q old new r
adds_as R Q old new (Ok _) f (more, h, is) = (more, f (Ok more) h, is)
adds_as R Q old new (Err read.Memory) f h = tt
adds_as R Q old new (Err (read.File fault)) f h = tt
adds_as R Q old new (Err (read.Setting fault)) f h = f (Err (seen_fault fault)) h

-- the fault is handed on
pub passed : {F : Type 0} (R : Outcome → Type 0) (old new : List Seen) (fault : ReadFault F) (r : Result (Unit {0}) (ReadFault F)) → IsErrAnd r (λ e. e ≡ fault) → Adds R old new (Err fault) → Adds R old new r
passed R old new fault (Ok _) h a = absurd h
passed {F} R old new fault (Err e) h a = subst (λ (x : ReadFault F). Adds R old new (Err x)) (sym h) a
