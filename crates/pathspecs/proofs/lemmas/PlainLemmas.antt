-- A plain element answers as its text does.
use Rattle.std.proofs.Common.{◌≡◌, ◌≢◌, ◌⊎◌, inl, inr, ℕ, Bool, true, false, IsTrue, List, [], ◌++◌, length, length-append, drop, nat_eq, refl, sym, ap, ◌∙◌, arith, append_assoc}
use Rattle.std.specs.Prelude.{◌==◌, ◌||◌, ◌&&◌, not}
use Rattle.std.specs.List.{starts_with}
use Rattle.std.proofs.lemmas.Bool.{eqb-true, false≢true}
use Rattle.std.proofs.lemmas.Bool.Decides.{Decides-eqb}
use Rattle.std.proofs.lemmas.List.{append-nil, drop_all, take-append-drop}
use Rattle.std.proofs.lemmas.Slice.Eq.{starts_is}
use Rattle.pathspecs.specs.declared.asked.Asked.{Asked}
use Rattle.pathspecs.specs.declared.asked.Asked.TheVariants.{Excluding, Meeting, Opening, Entering, Naming, GoingOn}
use Rattle.pathspecs.specs.declared.manner.Manner.{Manner}
use Rattle.pathspecs.specs.declared.manner.Manner.TheVariants as manner
use Rattle.pathspecs.specs.Elements.{IsCut, IsMetSo, LeadsInto, Meets, PathspecItem, compared, kept_of, pattern_of}
use Rattle.pathspecs.specs.Private.Asking.{GoesOn, MeetsText, Says, SaysText, is_plain}
use Rattle.pathspecs.proofs.lemmas.LosingLemmas.{nothing_or_some}
use Rattle.pathspecs.proofs.lemmas.MeetingLemmas.{no_bytes}

three : (a b c : Bool) → (not (a || b) && c) ≡ true → (a ≡ false) × (b ≡ false) × (c ≡ true)
three true b c all = absurd (false≢true all)
three false true c all = absurd (false≢true all)
three false false c all = (refl, refl, all)

as_it_is : (icase : Bool) (bytes : List ℕ) → icase ≡ false → compared icase bytes ≡ bytes
as_it_is false bytes cased = refl
as_it_is true bytes cased = absurd (false≢true (sym cased))

module _ (item : PathspecItem) (plain : is_plain item ≡ true) (path : List ℕ) where
  parts : (item.magic.exclude ≡ false) × (item.magic.icase ≡ false) × ((item.front == length item.text) ≡ true)
  parts = three item.magic.exclude item.magic.icase (item.front == length item.text) plain

  no_pattern : ¬ (pattern_of item ≢ [])
  no_pattern some = some (ap (λ n. drop n item.text) (eqb-true item.front (length item.text) parts.2) ∙ drop_all (length item.text) item.text (omega arith))

  same : (one other : List ℕ) → compared item.magic.icase one ≡ compared item.magic.icase other → one ≡ other
  same one other alike = sym (as_it_is item.magic.icase one parts.1) ∙ alike ∙ as_it_is item.magic.icase other parts.1

  cut_is : (whole front rest : List ℕ) → IsCut item.magic.icase whole front rest → whole ≡ front ++ rest
  cut_is whole front rest cut = cut.joined ∙ ap (λ w. w ++ rest) (same cut.head front cut.alike)

  is_cut : (whole front rest : List ℕ) → whole ≡ front ++ rest → IsCut item.magic.icase whole front rest
  is_cut whole front rest joined = record { head = front; joined = joined; alike = refl }

  met_so : (way : Manner) → IsMetSo way item path → MeetsText item.text path
  met_so manner.Exact cut = inl (sym (cut_is path item.text [] cut ∙ append-nil item.text))
  met_so manner.Below met = inr (met.0, cut_is path item.text met.0 met.1, met.2)
  met_so manner.Wild met = absurd (no_pattern met.0)

  text_met : Meets item path → MeetsText item.text path
  text_met meets = met_so meets.1.0 meets.1.1

  keeps : (rest : List ℕ) → path ≡ item.text ++ rest → IsTrue (starts_with nat_eq path (kept_of item))
  keeps rest joined =
      let behind = drop item.literal_front item.text in
      let whole : path ≡ kept_of item ++ (behind ++ rest) = joined ∙ ap (λ w. w ++ rest) (sym (take-append-drop item.literal_front item.text)) ∙ append_assoc (kept_of item) behind rest in
      let is = starts_is Decides-eqb path (kept_of item) (starts_with nat_eq path (kept_of item)) refl in
      is.1 (behind ++ rest) whole

  meets_text : MeetsText item.text path → Meets item path
  meets_text (inl is) =
      let whole : path ≡ item.text ++ [] = sym is ∙ sym (append-nil item.text) in
      (keeps [] whole, (manner.Exact, is_cut path item.text [] whole))
  meets_text (inr below) = (keeps below.0 below.1, (manner.Below, (below.0, is_cut path item.text below.0 below.1, below.2)))

  leads_on : LeadsInto item path → (rest : List ℕ) × (item.text ≡ path ++ rest)
  leads_on leads = elim leads.1 [ inl on ↦ (on.0, cut_is item.text path on.0 on.1) | inr wild ↦ absurd (no_pattern wild.0) ]

  leads_by : (rest : List ℕ) → item.text ≡ path ++ rest → LeadsInto item path
  leads_by rest joined = (λ folded. absurd (false≢true (sym parts.1 ∙ folded)), inl (rest, is_cut item.text path rest joined))

  opens_so : (rest : List ℕ) → item.text ≡ path ++ rest → MeetsText item.text path ⊎ GoesOn item.text path
  opens_so rest joined = elim (nothing_or_some rest) [
    | inl none ↦ inl (inl (joined ∙ ap (λ w. path ++ w) none ∙ append-nil path))
    | inr some ↦ inr (rest, some, joined)
  ]

  text_opens : Meets item path ⊎ LeadsInto item path → MeetsText item.text path ⊎ GoesOn item.text path
  text_opens (inl meets) = inl (text_met meets)
  text_opens (inr leads) = let on = leads_on leads in opens_so on.0 on.1

  opens_text : MeetsText item.text path ⊎ GoesOn item.text path → Meets item path ⊎ LeadsInto item path
  opens_text (inl met) = inl (meets_text met)
  opens_text (inr on) = inr (leads_by on.0 on.2)

  -- a text that goes on behind a path doesn't meet it
  too_long : (rest : List ℕ) → item.text ≡ path ++ rest → MeetsText item.text path → rest ≡ []
  too_long rest joined (inl is) = no_bytes rest (omega (arith, ap length joined, ap length is, length-append path rest))
  too_long rest joined (inr below) = no_bytes rest (omega (arith, ap length joined, ap length below.1, length-append path rest, length-append item.text below.0))

  goes_on : LeadsInto item path × ¬ Meets item path → GoesOn item.text path
  goes_on (leads, never) =
      let on = leads_on leads in
      (on.0, (λ none. never (meets_text (inl (on.1 ∙ ap (λ w. path ++ w) none ∙ append-nil path)))), on.1)

  named_so : (way : Manner) → way ≢ manner.Below → IsMetSo way item path → item.text ≡ path
  named_so manner.Exact other cut = sym (cut_is path item.text [] cut ∙ append-nil item.text)
  named_so manner.Below other met = absurd (other refl)
  named_so manner.Wild other met = absurd (no_pattern met.0)

  pub text_says : (asked : Asked) → Says asked item path → SaysText asked item.text path
  text_says Excluding says = absurd (false≢true (sym parts.0 ∙ says.0))
  text_says Meeting says = text_met says.1
  text_says Opening says = text_opens says.1
  text_says Entering says = elim says.1 [ inl opens ↦ text_opens opens | inr folded ↦ absurd (false≢true (sym parts.1 ∙ folded)) ]
  text_says Naming says = named_so says.1.0 says.1.1 says.1.2.1
  text_says GoingOn says = goes_on says.1

  pub says_text : (asked : Asked) → SaysText asked item.text path → Says asked item path
  says_text Excluding says = absurd says
  says_text Meeting says = (parts.0, meets_text says)
  says_text Opening says = (parts.0, opens_text says)
  says_text Entering says = (parts.0, inl (opens_text says))
  says_text Naming is = (
    parts.0,
    (
      manner.Exact,
      (λ other. absurd (cc)),
      (
        meets_text (inl is),
        is_cut path item.text [] (sym is ∙ sym (append-nil item.text)),
        (λ other. absurd (other refl)),
        (λ other. absurd (cc)),
      ),
    ),
  )
  says_text GoingOn on = (parts.0, (leads_by on.0 on.2, λ meets. on.1 (too_long on.0 on.2 (text_met meets))))
