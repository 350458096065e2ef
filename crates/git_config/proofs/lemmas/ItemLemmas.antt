-- The items of a file, one after the other.
use Rattle.std.proofs.Common.{◌≡◌, ℕ, List, [], ◌++◌, Option, None, Some, Result, Ok, Err, Vec, option_map, refl, sym, ap, subst, ◌∙◌}
use Rattle.std.specs.declared.alloc.Global.{Global}
use Rattle.std.specs.declared.rc.Rc.{Rc}
use Rattle.git_config.specs.declared.fault.ConfigFault.{ConfigFault}
use Rattle.git_config.specs.declared.fault.ConfigFault.TheVariants as config
use Rattle.git_config.specs.declared.files.FoundFile.{FoundFile}
use Rattle.git_config.specs.declared.includes.ReadFault.{ReadFault}
use Rattle.git_config.specs.declared.item.Entry.{Entry}
use Rattle.git_config.specs.declared.item.Item.TheVariants.{Sets}
use Rattle.git_config.specs.declared.section.Section.{Section}
use Rattle.git_config.specs.declared.setting.WrongSetting.TheVariants.{Text}
use Rattle.git_config.specs.declared.surroundings.Surroundings.{Surroundings}
use Rattle.git_config.specs.Configuration.{Deep, FromEntry, FromFile, FromItems, Outcome, Seen, Then}
use Rattle.git_config.specs.Grammar.{Reading, before, items_of, nothing}
use Rattle.git_config.specs.Items.{seen_entry}
use Rattle.git_config.specs.Private.Sections.{file_seen, seen_in}
use Rattle.git_config.specs.Private.Settings.{Adds, Continues, fault_in}
use Rattle.git_config.specs.Private.Taking.{Fails}
use Rattle.git_config.proofs.lemmas.SettingLemmas.{adds, begins, ends, fails, same}

module _ (Shows : List ℕ → Option (FoundFile (List ℕ)) → Type 0) (around : Surroundings) (Deeper : Deep) (rc : Rc (Vec ℕ Global) Global) (real : List ℕ) where
  -- what is left of the file, from this section on
  abbrev pub Left : List ℕ → Reading → Outcome → Type 0
  Left section whole out = FromItems Shows around Deeper rc.value.items real section whole.0 whole.1 out

  abbrev pub told : List ℕ → Entry (List ℕ) → Seen
  told section entry = record { file = Some rc.value.items; section = section; entry = entry }

  -- the whole file is left
  pub file_begins : (found : FoundFile (List ℕ)) (section : List ℕ) (whole : Reading) (old : List Seen) → items_of found.bytes ≡ whole → section ≡ [] → real ≡ found.real_path
      → Continues (FromFile Shows around Deeper rc.value.items found) (Left section whole) old old
  file_begins found section whole old items none path =
      same (Left section whole) (begins (FromFile Shows around Deeper rc.value.items found) old)
      (λ out h. subst (λ (r : List ℕ). FromItems Shows around Deeper rc.value.items r [] (items_of found.bytes).0 (items_of found.bytes).1 out) path
      (subst (λ (s : List ℕ). Left s (items_of found.bytes) out) none (subst (λ (w : Reading). Left section w out) (sym items) h)))

  behind : (section : List ℕ) (entry : Entry (List ℕ)) (s : Seen) (whole rest : Reading) (out : Outcome) → whole ≡ before (Sets entry) rest → s ≡ told section entry
      → Then (FromEntry Shows around Deeper (Some real) s) (Left section rest) out → Left section whole out
  behind section entry s whole rest out e is h =
      subst (λ (w : Reading). Left section w out) (sym e)
      (subst (λ (z : Seen). Then (FromEntry Shows around Deeper (Some real) z) (Left section rest) out) is h)

  pub entry_more : {F : Type 0} (Whole : Outcome → Type 0) (old now new : List Seen) (section : List ℕ) (entry : Entry (List ℕ)) (s : Seen) (whole rest : Reading) (r : Result (Unit {0}) (ReadFault F))
      → whole ≡ before (Sets entry) rest → s ≡ told section entry → r ≡ Ok tt → Adds (FromEntry Shows around Deeper (Some real) s) now new r
      → Continues Whole (Left section whole) old now → Continues Whole (Left section rest) old new
  entry_more Whole old now new section entry s whole rest r e is ok a c =
      adds (FromEntry Shows around Deeper (Some real) s) (Left section rest) new r c (λ out h. behind section entry s whole rest out e is h) ok a

  pub entry_fails : {F : Type 0} (Whole : Outcome → Type 0) (old now new : List Seen) (section : List ℕ) (entry : Entry (List ℕ)) (s : Seen) (whole rest : Reading) (fault : ReadFault F)
      → whole ≡ before (Sets entry) rest → s ≡ told section entry → Adds (FromEntry Shows around Deeper (Some real) s) now new (Err fault)
      → Continues Whole (Left section whole) old now → Adds Whole old new (Err fault)
  entry_fails Whole old now new section entry s whole rest fault e is a c =
      fails (FromEntry Shows around Deeper (Some real) s) (Left section rest) new fault c (λ out h. behind section entry s whole rest out e is h) a

  pub items_end : (Whole : Outcome → Type 0) (old now : List Seen) (section : List ℕ) (whole : Reading) → whole ≡ nothing → Continues Whole (Left section whole) old now
      → (more : List Seen) × Whole (Ok more) × (now ≡ old ++ more)
  items_end Whole old now section whole e c = ends c (subst (λ (w : Reading). Left section w (Ok [])) (sym e) refl)

  pub items_stop : (F : Type 0) (Whole : Outcome → Type 0) (old now : List Seen) (section : List ℕ) (whole : Reading) (fault : ConfigFault) → Fails fault whole
      → Continues Whole (Left section whole) old now → Adds {F = F} Whole old now (Err (fault_in fault rc))
  items_stop F Whole old now section whole config.Memory h c = tt
  items_stop F Whole old now section whole (config.Line line what) h c =
      let out : Outcome = Err (record { file = Some rc.value.items; line = line; what = Text what; path = None }) in
      c.whole out (subst (λ (w : Reading). Left section w out) (sym h) refl)

-- an entry of a section of a file
pub told_as : (section : Section) (path : List ℕ) (entry : Entry (Vec ℕ Global)) → file_seen section ≡ Some path
    → ◌≡◌ {A = Seen} (seen_in section entry) (record { file = Some path; section = section.keys.items; entry = seen_entry entry })
told_as section path entry f = ap (λ (x : Option (List ℕ)). let r : Seen = record { file = x; section = section.keys.items; entry = seen_entry entry } in r) f
