-- What an entry adds, and the file that it asks for.
use Rattle.std.proofs.Common.{◌≡◌, ℕ, zero, suc, ◌-◌, List, [], ◌∷◌, ◌++◌, Option, None, Some, Result, Ok, Err, refl, sym, ap, subst, ◌∙◌, append_assoc, arith, inl, inr}
use Rattle.std.specs.Prelude.{MatchResult, Vec}
use Rattle.std.specs.declared.alloc.Global.{Global}
use Rattle.git_config.specs.declared.files.FoundFile.{FoundFile}
use Rattle.git_config.specs.declared.includes.Asked.TheVariants as asked
use Rattle.git_config.specs.declared.includes.ReadFault.{ReadFault}
use Rattle.git_config.specs.declared.includes.ReadFault.TheVariants as read
use Rattle.git_config.specs.declared.section.Section.{Section}
use Rattle.git_config.specs.declared.setting.SettingFault.{SettingFault}
use Rattle.git_config.specs.declared.setting.WrongSetting.{WrongSetting}
use Rattle.git_config.specs.declared.setting.WrongSetting.TheVariants.{TooDeep}
use Rattle.git_config.specs.declared.surroundings.Surroundings.{Surroundings}
use Rattle.git_config.specs.Configuration.{Deep, FromEntry, FromFile, FromInclude, FromPath, Outcome, Seen, Then, Within, wrong_at}
use Rattle.git_config.specs.Private.Sections.{file_seen}
use Rattle.git_config.specs.Private.Settings.{Adds, Asks, Tells}
use Rattle.git_config.proofs.lemmas.SettingLemmas.{adds_as}

abbrev pub Is : Seen → Outcome → Type 0
Is s out = out ≡ Ok (s ∷ [])

-- an entry was added, and then what stands behind it
pub behind_entry : {F : Type 0} (s : Seen) (Next : Outcome → Type 0) (old mid new : List Seen) (r : Result (Unit {0}) (ReadFault F))
    → mid ≡ old ++ s ∷ [] → Adds Next mid new r → Adds (Then (Is s) Next) old new r
behind_entry s Next old mid new (Ok _) is (more, h, e) =
    (s ∷ more, (s ∷ [], more, refl, refl, h), e ∙ ap (λ (l : List Seen). l ++ more) is ∙ append_assoc old (s ∷ []) more)
behind_entry s Next old mid new (Err read.Memory) is h = tt
behind_entry s Next old mid new (Err (read.File fault)) is h = tt
behind_entry s Next old mid new (Err (read.Setting fault)) is h = inr (s ∷ [], refl, h)

-- an entry alone
pub entry_alone : (s : Seen) (Next : Outcome → Type 0) (old new : List Seen) → new ≡ old ++ s ∷ [] → Next (Ok []) → (more : List Seen) × Then (Is s) Next (Ok more) × (new ≡ old ++ more)
entry_alone s Next old new is h = (s ∷ [], (s ∷ [], [], refl, refl, h), is)

-- an entry, and a fault behind it
pub entry_wrong : (s : Seen) (Next : Outcome → Type 0) (what : WrongSetting) (path : Option (List ℕ)) → Next (wrong_at s what path) → Then (Is s) Next (wrong_at s what path)
entry_wrong s Next what path h = inr (s ∷ [], refl, h)

-- a fault that is told
pub told : {F : Type 0} (R : Outcome → Type 0) (old new : List Seen) (fault : ReadFault F) (t : SettingFault (List ℕ) (List ℕ)) → Tells t fault → R (Err t) → Adds R old new (Err fault)
told R old new read.Memory t e h = tt
told R old new (read.File _) t e h = absurd e
told R old new (read.Setting f) t e h = subst (λ (x : SettingFault (List ℕ) (List ℕ)). let out : Outcome = Err x in R out) (sym e) h

-- a fault of a section
pub tells : {F : Type 0} (a b : Section) → a ≡ b → (line : ℕ) (what : WrongSetting) (path : Option (List ℕ)) (fault : ReadFault F)
    → Tells (record { file = file_seen a; line = line; what = what; path = path }) fault → Tells (record { file = file_seen b; line = line; what = what; path = path }) fault
tells a b is line what path fault h = subst (λ (x : Section). Tells (record { file = file_seen x; line = line; what = what; path = path }) fault) is h

then_as : (s : Seen) (Next Other : Outcome → Type 0) (out : Outcome) → ((o : Outcome) → Next o → Other o) → Then (Is s) Next out → Then (Is s) Other out
then_as s Next Other (Ok all) f (a, b, e, i, h) = (a, b, e, i, f (Ok b) h)
then_as s Next Other (Err fault) f (inl i) = inl i
then_as s Next Other (Err fault) f (inr (a, i, h)) = inr (a, i, f (Err fault) h)

module _ (Shows : List ℕ → Option (FoundFile (List ℕ)) → Type 0) (around : Surroundings) where
  pub within_none : (s : Seen) (path : List ℕ) (found : FoundFile (List ℕ)) (out : Outcome) → out ≡ wrong_at s TooDeep (Some path) → Within Shows around 0 s path found out
  unfolding Within
  within_none s path found out h = h

  pub within_more : (n : ℕ) (s : Seen) (path : List ℕ) (found : FoundFile (List ℕ)) (out : Outcome) → (n ≡ 0 → ⊥) → FromFile Shows around (Within Shows around (n - 1)) path found out
      → Within Shows around n s path found out
  unfolding Within
  within_more zero s path found out some h = absurd (some refl)
  within_more (suc n) s path found out some h = let e : suc n - 1 ≡ n = omega arith in subst (λ (k : ℕ). FromFile Shows around (Within Shows around k) path found out) e h

  -- what it asks for is what it includes
  pub asks_nothing : (Deeper : Deep) (real : Option (List ℕ)) (s : Seen) → Asks around real s asked.Nothing → FromInclude Shows around Deeper real s (Ok [])
  asks_nothing Deeper real s a = inl (a, refl)

  pub asks_wrong : (Deeper : Deep) (real : Option (List ℕ)) (s : Seen) (what : WrongSetting) → Asks around real s (asked.Wrong what) → FromInclude Shows around Deeper real s (wrong_at s what None)
  asks_wrong Deeper real s what a =
      let out : Outcome = wrong_at s what None in
      inr (a.0, subst (λ (q : Result (List ℕ) WrongSetting). MatchResult q (λ path. FromPath Shows around (Deeper s path) path out) (λ what. out ≡ wrong_at s what None)) (sym a.1) refl)

  pub asks_file : {F : Type 0} (Deeper : Deep) (real : Option (List ℕ)) (s : Seen) (path : Vec ℕ Global) (old new : List Seen) (r : Result (Unit {0}) (ReadFault F)) → Asks around real s (asked.File path)
      → Adds (Then (Is s) (FromPath Shows around (Deeper s path.items) path.items)) old new r → Adds (FromEntry Shows around Deeper real s) old new r
  asks_file Deeper real s path old new r a h =
      adds_as (Then (Is s) (FromPath Shows around (Deeper s path.items) path.items)) (FromEntry Shows around Deeper real s) old new r
      (λ out. then_as s (FromPath Shows around (Deeper s path.items) path.items) (FromInclude Shows around Deeper real s) out
      (λ o f. inr (a.0, subst (λ (q : Result (List ℕ) WrongSetting). MatchResult q (λ path. FromPath Shows around (Deeper s path) path o) (λ what. o ≡ wrong_at s what None)) (sym a.1) f))) h

  -- the file at a path
  pub path_file : {F : Type 0} (Reads : FoundFile (List ℕ) → Outcome → Type 0) (path : List ℕ) (file : FoundFile (List ℕ)) (old new : List Seen) (r : Result (Unit {0}) (ReadFault F))
      → Shows path (Some file) → Adds (Reads file) old new r → Adds (FromPath Shows around Reads path) old new r
  path_file Reads path file old new r shows h = adds_as (Reads file) (FromPath Shows around Reads path) old new r (λ out f. (Some file, shows, f)) h

  pub path_none : (Reads : FoundFile (List ℕ) → Outcome → Type 0) (path : List ℕ) → Shows path None → FromPath Shows around Reads path (Ok [])
  path_none Reads path shows = (None, shows, refl)

  pub path_deep : (n : ℕ) (s : Seen) (path : List ℕ) (file : FoundFile (List ℕ)) → n ≡ 0 → Shows path (Some file) → FromPath Shows around (Within Shows around n s path) path (wrong_at s TooDeep (Some path))
  path_deep n s path file none shows =
      let out : Outcome = wrong_at s TooDeep (Some path) in
      (Some file, shows, subst (λ (k : ℕ). Within Shows around k s path file out) (sym none) (within_none s path file out refl))
