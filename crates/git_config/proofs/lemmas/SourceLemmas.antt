-- Sources that are read one after the other.
use Rattle.std.proofs.Common.{◌≡◌, ℕ, ◌+◌, List, [], ◌∷◌, ◌++◌, Option, None, Some, Bor, Result, Ok, Err, refl, sym, subst, ◌∙◌}
use Rattle.std.specs.Prelude.{IsErrAnd, MatchOption, Vec}
use Rattle.std.specs.declared.alloc.Global.{Global}
use Rattle.std.specs.declared.rc.Rc.{Rc}
use Rattle.std.specs.Option.{option_copied}
use Rattle.git_config.specs.declared.sources.Source.{Source}
use Rattle.git_config.specs.declared.sources.Source.TheVariants.{Word}
use Rattle.git_config.specs.declared.files.FoundFile.{FoundFile}
use Rattle.git_config.specs.declared.includes.ReadFault.{ReadFault}
use Rattle.git_config.specs.declared.includes.ReadFault.TheVariants as read
use Rattle.git_config.specs.declared.setting.SettingFault.{SettingFault}
use Rattle.git_config.specs.declared.setting.WrongSetting.TheVariants.{Key}
use Rattle.git_config.specs.declared.surroundings.Surroundings.{Surroundings}
use Rattle.git_config.specs.Configuration.{FromEntry, FromSource, FromSources, Outcome, Seen, Then, Within, seen_fault}
use Rattle.git_config.specs.Words.{canonical_of}
use Rattle.git_config.specs.Private.Settings.{Adds, Continues}
use Rattle.git_config.proofs.lemmas.SettingLemmas.{adds, adds_as, ends, fails}

abbrev pub word_entry : ℕ → List ℕ → Option (List ℕ) → Seen
word_entry n name value = record { file = None; section = []; entry = record { name = name; value = value; line = n } }

module _ (Shows : List ℕ → Option (FoundFile (List ℕ)) → Type 0) (around : Surroundings) where
  -- a word adds its entry
  pub word_adds : {F : Type 0} (n : ℕ) (key : Bor (List ℕ)) (value : Option (Bor (List ℕ))) (name : List ℕ) (s : Seen) (old new : List Seen) (r : Result (Unit {0}) (ReadFault F))
      → canonical_of key.now ≡ Some name → s ≡ word_entry n name (option_copied value) → Adds (FromEntry Shows around (Within Shows around 10) None s) old new r
      → Adds (FromSource Shows around n (Word key value)) old new r
  word_adds n key value name s old new r e is h =
      adds_as (FromEntry Shows around (Within Shows around 10) None s) (FromSource Shows around n (Word key value)) old new r
      (λ out f. subst (λ (o : Option (List ℕ)). MatchOption o (out ≡ Err (record { file = None; line = n; what = Key; path = None })) (λ name. FromEntry Shows around (Within Shows around 10) None (word_entry n name (option_copied value)) out))
      (sym e) (subst (λ (z : Seen). FromEntry Shows around (Within Shows around 10) None z out) is f)) h

  -- the next source is read
  next : (n : ℕ) (sources rest : List Source) (source : Source) (out : Outcome) → sources ≡ source ∷ rest → Then (FromSource Shows around n source) (FromSources Shows around (n + 1) rest) out → FromSources Shows around n sources out
  next n sources rest source out e h = subst (λ (l : List Source). FromSources Shows around n l out) (sym e) h

  pub source_more : {F : Type 0} (Whole : Outcome → Type 0) (n : ℕ) (sources rest : List Source) (source : Source) (old now new : List Seen) (r : Result (Unit {0}) (ReadFault F)) → sources ≡ source ∷ rest
      → r ≡ Ok tt → Adds (FromSource Shows around n source) now new r → Continues Whole (FromSources Shows around n sources) old now → Continues Whole (FromSources Shows around (n + 1) rest) old new
  source_more Whole n sources rest source old now new r e ok a c =
      adds (FromSource Shows around n source) (FromSources Shows around (n + 1) rest) new r c (λ out h. next n sources rest source out e h) ok a

  pub source_fails : {F : Type 0} (Whole : Outcome → Type 0) (n : ℕ) (sources rest : List Source) (source : Source) (old now new : List Seen) (fault : ReadFault F) (r : Result (Unit {0}) (ReadFault F))
      → sources ≡ source ∷ rest → r ≡ Err fault → Adds (FromSource Shows around n source) now new r → Continues Whole (FromSources Shows around n sources) old now → Adds Whole old new (Err fault)
  source_fails {F} Whole n sources rest source old now new fault r e was a c =
      fails (FromSource Shows around n source) (FromSources Shows around (n + 1) rest) new fault c (λ out h. next n sources rest source out e h)
      (subst (λ (x : Result (Unit {0}) (ReadFault F)). Adds (FromSource Shows around n source) now new x) was a)

  pub sources_end : (Whole : Outcome → Type 0) (n : ℕ) (sources : List Source) (now : List Seen) → sources ≡ [] → Continues Whole (FromSources Shows around n sources) [] now → Whole (Ok now)
  sources_end Whole n sources now e c =
      let it : (more : List Seen) × Whole (Ok more) × (now ≡ [] ++ more) = ends c (subst (λ (l : List Source). FromSources Shows around n l (Ok [])) (sym e) refl) in
      subst (λ (l : List Seen). let out : Outcome = Ok l in Whole out) (sym it.2) it.1

-- the fault that is handed on is the whole's
pub told_by : {F C : Type 0} (Whole : Outcome → Type 0) (old new : List Seen) (fault : ReadFault F) (r : Result C (ReadFault F)) → IsErrAnd r (λ e. e ≡ fault) → Adds Whole old new (Err fault)
    → (told : SettingFault (Rc (Vec ℕ Global) Global) (Vec ℕ Global)) → r ≡ Err (read.Setting told) → Whole (Err (seen_fault told))
told_by Whole old new fault (Ok _) h a told e = absurd h
told_by {F} Whole old new fault (Err x) h a told e =
    let is : x ≡ read.Setting told = cc in
    subst (λ (f : ReadFault F). Adds Whole old new (Err f)) (sym h ∙ is) a
