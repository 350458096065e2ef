-- The macro of an assignment's name gets a mark, and is put in where it had none.
use Rattle.std.proofs.Common.{◌≡◌, ℕ, ◌<◌, Bool, true, false, List, length, Option, None, Some, refl, sym, set, arith}
use Rattle.std.specs.Prelude.{IfSome, slice_get}
use Rattle.std.proofs.lemmas.List.{length-set}
use Rattle.glob_attributes.specs.Macros.{Definition}
use Rattle.glob_attributes.specs.Private.Filling.{PutsIn, is_set, last_place}
use Rattle.glob_attributes.specs.States.{Assigned}
use Rattle.glob_attributes.specs.Views.{state_with}
use Rattle.glob_attributes.specs.declared.assignment.State.{State}
use Rattle.glob_attributes.specs.declared.assignment.State.TheVariants.{Set, Unset, Unspecified, Value}
use Rattle.glob_attributes.proofs.lemmas.FillingLemmas.{marked-more, marked-none, marked-same, place_within, put_in-marked, put_in-none, put_in-set, put_in-unset, unmarked-less}
use Rattle.glob_attributes.proofs.lemmas.TellingLemmas.{unmarked_count-less}

-- whether it is set doesn't rest on what its value is seen as
pub is_set-with : {A B : Type 0} (see : A → B) (state : State A) → is_set state ≡ is_set (state_with see state)
is_set-with see Set = refl
is_set-with see Unset = refl
is_set-with see Unspecified = refl
is_set-with see (Value bytes) = refl

pub named_within : (name : List ℕ) (macros : List Definition) (count : ℕ) (named : Option ℕ) → named ≡ last_place name macros → count ≡ length macros → IfSome named (λ place. place < count)
named_within name macros count None is same = tt
named_within name macros count (Some place) is same = omega (arith, same, place_within name macros place (sym is))

module _ (macros : List Definition) (marks : List Bool) (a : Assigned) where
  pub puts_in_none : last_place a.name macros ≡ None → PutsIn macros a marks marks None
  puts_in_none is = record {
    count = refl;
    gives = λ before marked. sym (put_in-none macros before a is);
    marked = λ before marked. marked-none macros before marks a marked is;
    fewer = omega arith;
    room = omega arith;
  }

  module _ (p : ℕ) (is : last_place a.name macros ≡ Some p) where
    pub puts_in_marked : slice_get marks p ≡ Some true → PutsIn macros a marks marks None
    puts_in_marked there = record {
      count = refl;
      gives = λ before marked. sym (put_in-marked macros before marks a p marked is there);
      marked = λ before marked. marked-same macros before marks a p marked is there;
      fewer = omega arith;
      room = omega arith;
    }

    pub puts_in_set : slice_get marks p ≡ Some false → is_set a.state ≡ true → PutsIn macros a marks (set marks p true) (Some p)
    puts_in_set there sets = record {
      count = length-set marks p true;
      gives = λ before marked. sym (put_in-set macros before marks a p marked is there sets);
      marked = λ before marked. marked-more macros before marks a p marked is;
      fewer = unmarked-less macros marks p there;
      room = unmarked_count-less marks p there;
    }

    pub puts_in_unset : slice_get marks p ≡ Some false → is_set a.state ≡ false → PutsIn macros a marks (set marks p true) None
    puts_in_unset there unset = record {
      count = length-set marks p true;
      gives = λ before marked. sym (put_in-unset macros before a unset);
      marked = λ before marked. marked-more macros before marks a p marked is;
      fewer = omega (arith, unmarked-less macros marks p there);
      room = omega (arith, unmarked_count-less marks p there);
    }
