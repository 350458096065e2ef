-- What the reader of a set keeps of its looks: what is known of a closing bracket stays known further on, and how far it was looked for.
use Rattle.std.proofs.lemmas.Bool.{cases_lt}
use Rattle.std.proofs.Common.{◌≡◌, ◌↔◌, ℕ, Bool, true, false, ◌||◌, IsTrue, ◌+◌, ◌*◌, ◌<◌, ◌≤◌, List, [], length, Option, Some, None, MatchOption, inl, inr, ap, refl, sym, subst, arith}
use Rattle.glob_matcher.specs.declared.wildmatch.items.Item.{Item}
use Rattle.glob_matcher.specs.declared.wildmatch.items.Item.TheVariants as item
use Rattle.glob_matcher.specs.declared.wildmatch.items.Class.{Class}
use Rattle.glob_matcher.specs.declared.wildmatch.items.Class.TheVariants as class
use Rattle.glob_matcher.specs.declared.wildmatch.way.Way.{Way}
use Rattle.glob_matcher.specs.declared.wildmatch.way.Way.TheVariants.{Plain, Path, FoldedPlain, FoldedPath, ExactPlain, ExactPath}
use Rattle.glob_matcher.specs.declared.wildmatch.sets.Spelled.{Spelled}
use Rattle.glob_matcher.specs.declared.wildmatch.sets.SetPart.{SetPart}
use Rattle.std.specs.Prelude.{IfSome}
use Rattle.glob_matcher.specs.declared.wildmatch.sets.NextItem.TheVariants as next_item
use Rattle.glob_matcher.specs.Steps.{Counts}
use Rattle.glob_matcher.specs.Bytes.{HasByte, folds, open_bracket}
use Rattle.glob_matcher.specs.Sets.{ItemsAt, Set, SetAt, class_holds, item_holds}
use Rattle.glob_matcher.specs.Private.Spelling.{close_bracket, IsSign}
use Rattle.glob_matcher.specs.Private.Looks.{IsItemRead, IsKnown, IsPaid, IsPartPaid, LookedAtEach, search_front}
use Rattle.glob_matcher.specs.Private.Reader.{IsNextItem, IsPartRead, IsSetThatHolds, after_item, first_item, part_holds, part_opened, part_past}
use Rattle.glob_matcher.specs.Private.Takes.{Takes, TakesExactly, looks_at}
use Rattle.glob_matcher.proofs.lemmas.reading.Walks.{set_broken, set_closed, underway_first, underway_next}

-- at most one look is taken at a place
pub one_look : {before after : Counts} (byte : Option ℕ) → TakesExactly before after 0 (looks_at byte) → Takes before after 0 1
one_look None exact = record { steps = exact.steps; looks = omega (arith, exact.looks); low = omega (arith, exact.looks) }
one_look (Some b) exact = record { steps = exact.steps; looks = omega (arith, exact.looks); low = omega (arith, exact.looks) }

pub search_front_on : (known : Option ℕ) (i j : ℕ) → i ≤ j → search_front known i ≤ search_front known j
search_front_on None i j low = low
search_front_on (Some m) i j low = omega arith

-- it was looked for from this place on
pub search_front_low : (known : Option ℕ) (i : ℕ) → i ≤ search_front known i
search_front_low None i = omega arith
search_front_low (Some m) i = omega arith

-- what is known lies inside the text
pub search_front_inside : (text : List ℕ) (i : ℕ) (known : Option ℕ) → IsKnown text i known → i ≤ length text
    → search_front known i ≤ length text
search_front_inside text i None is low = low
search_front_inside text i (Some m) is low =
    elim (cases_lt m i) [ inl passed ↦ omega arith | inr ahead ↦ omega (arith, (is ahead).here.inside) ]

-- where a closing bracket stands, none further ahead is known
pub search_front_here : (text : List ℕ) (i : ℕ) (known : Option ℕ) → IsKnown text i known → HasByte text i close_bracket
    → search_front known i ≤ i
search_front_here text i None is here = omega arith
search_front_here text i (Some m) is here =
    elim (cases_lt m i) [ inl passed ↦ omega arith | inr ahead ↦ omega (arith, (is ahead).before i (omega arith) here) ]

-- it is no further than a closing bracket that is known and ahead
pub search_front_known : (known : Option ℕ) (m i : ℕ) → known ≡ Some m → i ≤ m → search_front known i ≤ m
search_front_known known m i is ahead = subst (λ (x : Option ℕ). search_front x i ≤ m) (sym is) (omega arith)

-- where none is known, it begins here
pub search_front_unknown : (known : Option ℕ) (i : ℕ) → ((m : ℕ) → known ≡ Some m → ⊥) → search_front known i ≤ i
search_front_unknown None i none = omega arith
search_front_unknown (Some m) i none = absurd (none m refl)

-- a known one that is too near is passed
pub search_front_passed : (known : Option ℕ) (m i : ℕ) → known ≡ Some m → m < i + 2 → search_front known i ≤ i + 1
search_front_passed known m i is near = subst (λ (x : Option ℕ). search_front x i ≤ i + 1) (sym is) (omega arith)

-- the looks of a new search, behind the two bytes of a `[:`
pub search_front_anew : (result known : Option ℕ) (before after : Counts) (i n : ℕ) → search_front known i ≤ i + 1
    → MatchOption result (LookedAtEach before after (i + 2) n) (λ m. LookedAtEach before after (i + 2) (m + 1))
    → MatchOption result (LookedAtEach before after (i + 2) n) (λ m. after.looks + search_front known i ≤ before.looks + m)
search_front_anew None known before after i n near over = over
search_front_anew (Some m) known before after i n near over = omega (arith, near, over.looks)

-- what is known of the closing bracket is as before
pub paid_same : {before after : Counts} {i : ℕ} {s : Spelled} (spare : ℕ) → after.steps ≡ before.steps → i ≤ s.next
    → after.looks + spare + 3 * i ≤ before.looks + 3 * s.next → before.looks ≤ after.looks → IsPaid spare before after i s.close s
paid_same {i = i} {s = s} spare steps past looks low =
    record { steps = steps; looks = let more = search_front_on s.close i s.next past in omega (arith, looks, more); low = low }

-- one of the looks that were left over was taken before
pub spare_taken : {before between after : Counts} {text : List ℕ} {low : Option ℕ} {i : ℕ} {known : Option ℕ} {item : Option Spelled}
    → Takes before between 0 1 → IsItemRead 2 between after text low i known item → IsItemRead 1 before after text low i known item
spare_taken {item = None} takes read = record {
  answer = read.answer;
  paid = record { steps = omega (arith, takes.steps, read.paid.steps); looks = omega (arith, takes.looks, read.paid.looks); low = omega (arith, takes.low, read.paid.low) };
}
spare_taken {item = Some s} takes read = record {
  answer = read.answer;
  paid = record { steps = omega (arith, takes.steps, read.paid.steps); looks = omega (arith, takes.looks, read.paid.looks); low = omega (arith, takes.low, read.paid.low) };
}

-- what a byte that case doesn't change tells of an item is told in each way in which case counts
pub item_of_plain : (way : Way) → folds way ≡ false → (b : ℕ) (x : Item) → item_holds Plain b x ≡ item_holds way b x
item_of_plain Plain off b x = refl
item_of_plain Path off b (item.Member m) = refl
item_of_plain Path off b (item.Range low high) = refl
item_of_plain Path off b (item.Class c) = by c where
  by : (c : Class) → class_holds Plain c b ≡ class_holds Path c b
  by class.Alnum = refl
  by class.Alpha = refl
  by class.Blank = refl
  by class.Cntrl = refl
  by class.Digit = refl
  by class.Graph = refl
  by class.Lower = refl
  by class.Print = refl
  by class.Punct = refl
  by class.Space = refl
  by class.Upper = refl
  by class.Xdigit = refl
item_of_plain FoldedPlain on b x = cc
item_of_plain FoldedPath on b x = cc
item_of_plain ExactPlain on b x = cc
item_of_plain ExactPath on b x = cc

-- what is read once an item is that holds the byte or not
abbrev part_by : SetPart → Spelled → Bool → SetPart
part_by part s holds = record { place = part.place; is_negated = part.is_negated; is_held = part.is_held || holds; cursor = after_item s }

-- ways that tell the same of an item tell the same of a set's part past it
pub part_past_alike : (way other : Way) (b : ℕ) (part : SetPart) (s : Spelled) → item_holds way b s.item ≡ item_holds other b s.item
    → part_past way b part s ≡ part_past other b part s
part_past_alike way other b part s alike = ap (part_by part s) alike

past_bracket : (place : ℕ) (negated : Bool) → place < first_item negated place
past_bracket place true = omega arith
past_bracket place false = omega arith

pub sign_inside : {text : List ℕ} (place : ℕ) → IsSign text (place + 1) → place + 2 ≤ length text
sign_inside place (inl e) = let inside = e.inside in omega arith
sign_inside place (inr e) = let inside = e.inside in omega arith

module _ {way : Way} {text : List ℕ} {b : ℕ} where
  pub part_first : (place : ℕ) (negated : Bool) → HasByte text place open_bracket → IsTrue negated ↔ IsSign text (place + 1)
      → first_item negated place ≤ length text → IsPartRead way text b (part_opened place negated)
  part_first place negated bracket sign inside = record {
    bracket = bracket;
    sign = sign;
    underway = underway_first text (first_item negated place) (item_holds way b);
    past = past_bracket place negated;
    inside = inside;
    known = tt;
  }

  pub part_next : {part : SetPart} (s : Spelled) → IsPartRead way text b part
      → IsNextItem text part.cursor.is_first part.cursor.low part.cursor.place (next_item.Item s) → IsPartRead way text b (part_past way b part s)
  part_next s so_far here = record {
    bracket = so_far.bracket;
    sign = so_far.sign;
    underway = underway_next s.item s.next so_far.underway here.0 here.1.item;
    past = omega (arith, so_far.past, here.1.past);
    inside = here.1.inside;
    known = here.1.known;
  }

  pub part_next_plain : {part : SetPart} (s : Spelled) → folds way ≡ false → IsPartRead way text b part
      → IsNextItem text part.cursor.is_first part.cursor.low part.cursor.place (next_item.Item s) → IsPartRead way text b (part_past Plain b part s)
  part_next_plain {part} s off so_far here =
      subst (λ (h : Bool). IsPartRead way text b (record { place = part.place; is_negated = part.is_negated; is_held = part.is_held || h; cursor = after_item s }))
      (sym (item_of_plain way off b s.item)) (part_next s so_far here)

  pub part_broken : {part : SetPart} → IsPartRead way text b part
      → ((xs : List Item) (j : ℕ) → ¬ ItemsAt text part.cursor.is_first part.cursor.low part.cursor.place xs j)
      → (s : Set) (end : ℕ) → ¬ SetAt text part.place s end
  part_broken {part} so_far none = set_broken part.place part.is_negated so_far.sign so_far.underway none

  pub part_read : {part : SetPart} → IsPartRead way text b part → ItemsAt text part.cursor.is_first part.cursor.low part.cursor.place [] part.cursor.place
      → part.cursor.place < length text → IsSetThatHolds way text part.place b (part.cursor.place + 1) (part_holds way b part)
  part_read {part} so_far closed inside =
      let all = set_closed way b part.place part.is_negated so_far.bracket so_far.sign so_far.underway closed in record {
        set = all.0;
        here = all.1;
        past = omega (arith, so_far.past);
        inside = omega (arith, inside);
        answer = all.2;
      }

pub paid_next : {spare : ℕ} {before between after : Counts} {part : SetPart} (way : Way) (b : ℕ) (s : Spelled) → IsPartPaid spare before between part
    → IsPaid 0 between after part.cursor.place part.cursor.close s → IsPartPaid spare before after (part_past way b part s)
paid_next way b s so_far paid = record {
  steps = omega (arith, so_far.steps, paid.steps);
  looks = omega (arith, so_far.looks, paid.looks);
  low = omega (arith, so_far.low, paid.low);
}

-- some of the looks that were left over are taken
pub paid_less : {spare n : ℕ} {before between after : Counts} {part : SetPart} → IsPartPaid (spare + n) before between part
    → Takes between after 0 n → IsPartPaid spare before after part
paid_less so_far takes = record {
  steps = omega (arith, so_far.steps, takes.steps);
  looks = omega (arith, so_far.looks, takes.looks);
  low = omega (arith, so_far.low, takes.low);
}

-- what follows from what an answer tells, it tells too
pub if_some_map : {X : Type 0} {P Q : X → Type 0} (found : Option X) → ((x : X) → P x → Q x) → IfSome found P → IfSome found Q
if_some_map None more is = tt
if_some_map (Some x) more is = more x is
