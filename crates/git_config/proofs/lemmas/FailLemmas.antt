-- What a call says of a whole reading.
use Rattle.std.proofs.Common.{◌≡◌, ℕ, Bool, true, false, cond, List, [], ◌∷◌, Option, None, Some, Result, Ok, Err, sym, ap, subst, ◌∙◌}
use Rattle.std.specs.Prelude.{Vec}
use Rattle.std.specs.declared.alloc.Global.{Global}
use Rattle.git_config.specs.declared.fault.ConfigFault.{ConfigFault}
use Rattle.git_config.specs.declared.fault.ConfigFault.TheVariants.{Line, Memory}
use Rattle.git_config.specs.declared.fault.Wrong.{Wrong}
use Rattle.git_config.specs.declared.fault.Wrong.TheVariants.{Quote}
use Rattle.git_config.specs.declared.item.Entry.{Entry}
use Rattle.git_config.specs.declared.item.Item.TheVariants.{Sets}
use Rattle.git_config.specs.Grammar.{Part, Reading, before, before_zero, between, entry_of, in_value, nothing, read, stop, text_of, turn, value_ended}
use Rattle.git_config.specs.Items.{seen_entry}
use Rattle.git_config.specs.Private.Taking.{Reads, TakesByte}
use Rattle.git_config.proofs.lemmas.ReadLemmas.{fails_byte, gives_byte}

abbrev pub EndsValue : Result (Entry (Vec ℕ Global)) ConfigFault → ℕ → List ℕ → Part → Type 0
EndsValue r line name part = Reads (λ entry. before (Sets (seen_entry entry)) nothing) r (value_ended line name part)

abbrev pub GoesOn : Result (Entry (Vec ℕ Global)) ConfigFault → Reading → Reading → Type 0
GoesOn r rest whole = Reads (λ entry. before (Sets (seen_entry entry)) rest) r whole

-- where the file ends
pub value_at_end : (r : Result (Entry (Vec ℕ Global)) ConfigFault) (rest whole : Reading) (line : ℕ) (name : List ℕ) (part : Part)
    → rest ≡ nothing → whole ≡ value_ended line name part → EndsValue r line name part → GoesOn r rest whole
value_at_end (Ok entry) rest whole line name part none is h = is ∙ h ∙ ap (λ left. before (Sets (seen_entry entry)) left) (sym none)
value_at_end (Err Memory) rest whole line name part none is h = tt
value_at_end (Err (Line at what)) rest whole line name part none is h = is ∙ h

-- what a line feed makes of a value
abbrev pub value_fed : ℕ → List ℕ → Bool → List ℕ → Reading → Reading
value_fed line name quoted bytes rest = cond quoted (stop line Quote) (before (entry_of name (Some (before_zero bytes)) line) rest)

fed : (r : Result (Entry (Vec ℕ Global)) ConfigFault) (rest : Reading) (line : ℕ) (name : List ℕ) (quoted : Bool) (blanks : ℕ) (bytes : List ℕ)
    → EndsValue r line name (record { quoted = quoted; blanks = blanks; bytes = bytes }) → GoesOn r rest (value_fed line name quoted bytes rest)
fed (Ok entry) rest line name true blanks bytes h = absurd (let told : Some (line, Quote) ≡ None = ap (λ (r : Reading). r.1) h in cc)
fed (Err Memory) rest line name true blanks bytes h = tt
fed (Err (Line at what)) rest line name true blanks bytes h = h
fed (Ok entry) rest line name false blanks bytes h = let one : entry_of name (Some (before_zero bytes)) line ∷ [] ≡ Sets (seen_entry entry) ∷ [] = ap (λ (r : Reading). r.0) h in
    let same : entry_of name (Some (before_zero bytes)) line ≡ Sets (seen_entry entry) = cc in ap (λ item. before item rest) same
fed (Err Memory) rest line name false blanks bytes h = tt
fed (Err (Line at what)) rest line name false blanks bytes h = absurd (let told : ◌≡◌ {A = Option (ℕ × Wrong)} None (Some (at, what)) = ap (λ (r : Reading). r.1) h in cc)

at_feed : {old new : List ℕ} {old_line new_line b : ℕ} (name : List ℕ) (quoted : Bool) (blanks : ℕ) (bytes : List ℕ) → TakesByte old new old_line new_line b → b ≡ 10
    → read (text_of old) old_line (in_value name (record { quoted = quoted; blanks = blanks; bytes = bytes })) ≡ value_fed old_line name quoted bytes (read (text_of new) new_line between)
at_feed {old} {new} {old_line} {new_line} {b} name true blanks bytes t e =
    let place = in_value name (record { quoted = true; blanks = blanks; bytes = bytes }) in
    fails_byte place Quote old_line t (ap (λ (x : ℕ). turn old_line place x) e)
at_feed {old} {new} {old_line} {new_line} {b} name false blanks bytes t e =
    let place = in_value name (record { quoted = false; blanks = blanks; bytes = bytes }) in
    gives_byte place (entry_of name (Some (before_zero bytes)) old_line) t (ap (λ (x : ℕ). turn old_line place x) e)

-- where a line feed is taken
pub value_at_feed : {old new : List ℕ} {old_line new_line b : ℕ} (r : Result (Entry (Vec ℕ Global)) ConfigFault) (whole : Reading) (name : List ℕ) (part : Part)
    → TakesByte old new old_line new_line b → b ≡ 10 → whole ≡ read (text_of old) old_line (in_value name part) → EndsValue r old_line name part
    → GoesOn r (read (text_of new) new_line between) whole
value_at_feed {old} {new} {old_line} {new_line} {b} r whole name part t e is h =
    let rest = read (text_of new) new_line between in
    subst (λ w. GoesOn r rest w) (sym (is ∙ at_feed name part.quoted part.blanks part.bytes t e)) (fed r rest old_line name part.quoted part.blanks part.bytes h)
