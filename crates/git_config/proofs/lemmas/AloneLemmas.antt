-- The entries of a file by itself, one after the other.
use Rattle.std.proofs.Common.{◌≡◌, ℕ, List, [], ◌∷◌, ◌++◌, Some, sym, ap, ◌∙◌, append_assoc}
use Rattle.git_config.specs.declared.fault.ConfigFault.{ConfigFault}
use Rattle.git_config.specs.declared.fault.ConfigFault.TheVariants.{Line, Memory}
use Rattle.git_config.specs.declared.item.Entry.{Entry}
use Rattle.git_config.specs.declared.item.Item.{Item}
use Rattle.git_config.specs.declared.item.Item.TheVariants.{Sets}
use Rattle.git_config.specs.Alone.{alone_from}
use Rattle.git_config.specs.Configuration.{Seen}
use Rattle.git_config.specs.Grammar.{Reading}
use Rattle.git_config.specs.Private.Taking.{Fails, FailsBehind}

-- an entry comes behind those before it
pub entry_more : (path section : List ℕ) (old : List Seen) (s : Seen) (entry : Entry (List ℕ)) (rest : List (Item (List ℕ))) → s ≡ record { file = Some path; section = section; entry = entry }
    → old ++ alone_from path section (Sets entry ∷ rest) ≡ (old ++ s ∷ []) ++ alone_from path section rest
entry_more path section old s entry rest is =
    let more = alone_from path section rest in
    ap (λ (z : Seen). old ++ z ∷ more) (sym is) ∙ sym (append_assoc old (s ∷ []) more)

-- a fault of what is left is the whole's
pub fault_of_all : (fault : ConfigFault) (whole rest : Reading) → whole.1 ≡ rest.1 → Fails fault rest → FailsBehind fault whole
fault_of_all Memory whole rest is h = tt
fault_of_all (Line at what) whole rest is h = is ∙ ap (λ (r : Reading). r.1) h
