-- A configuration has one reading.
use Rattle.std.proofs.Common.{◌≡◌, ℕ, zero, suc, ◌+◌, List, [], ◌∷◌, Option, None, Some, Result, Ok, Err, sym, subst, ◌∙◌, inl, inr}
use Rattle.std.specs.Prelude.{MatchOption, MatchResult}
use Rattle.git_config.specs.declared.sources.Source.{Source}
use Rattle.git_config.specs.declared.sources.Source.TheVariants.{File, Word}
use Rattle.git_config.specs.declared.files.FoundFile.{FoundFile}
use Rattle.git_config.specs.declared.fault.Wrong.{Wrong}
use Rattle.git_config.specs.declared.item.Item.{Item}
use Rattle.git_config.specs.declared.item.Item.TheVariants.{Section, Sets}
use Rattle.git_config.specs.declared.surroundings.Surroundings.{Surroundings}
use Rattle.git_config.specs.Configuration.{Deep, FromEntry, FromFile, FromInclude, FromItems, FromPath, FromSource, FromSources, Outcome, Seen, Then, Within}
use Rattle.git_config.specs.Grammar.{items_of}
use Rattle.git_config.specs.Includes.{included_path}
use Rattle.git_config.specs.Words.{canonical_of}

abbrev pub IsOne : (Outcome → Type 0) → Type 0
IsOne R = (a b : Outcome) → R a → R b → a ≡ b

it_one : (out : Outcome) → IsOne (λ o. o ≡ out)
it_one out a b e h = e ∙ sym h

then_one : (First Next : Outcome → Type 0) → IsOne First → IsOne Next → IsOne (Then First Next)
then_one First Next f g (Ok x) (Ok y) (a, b, e, h, n) (c, d, k, i, m) =
    let p : ◌≡◌ {A = Outcome} (Ok a) (Ok c) = f (Ok a) (Ok c) h i in
    let q : ◌≡◌ {A = Outcome} (Ok b) (Ok d) = g (Ok b) (Ok d) n m in cc
then_one First Next f g (Ok x) (Err y) (a, b, e, h, n) (inl i) = absurd (let p : ◌≡◌ {A = Outcome} (Ok a) (Err y) = f (Ok a) (Err y) h i in cc)
then_one First Next f g (Ok x) (Err y) (a, b, e, h, n) (inr (c, i, m)) = absurd (let p : ◌≡◌ {A = Outcome} (Ok b) (Err y) = g (Ok b) (Err y) n m in cc)
then_one First Next f g (Err x) (Ok y) (inl h) (c, d, k, i, m) = absurd (let p : ◌≡◌ {A = Outcome} (Err x) (Ok c) = f (Err x) (Ok c) h i in cc)
then_one First Next f g (Err x) (Ok y) (inr (a, h, n)) (c, d, k, i, m) = absurd (let p : ◌≡◌ {A = Outcome} (Err x) (Ok d) = g (Err x) (Ok d) n m in cc)
then_one First Next f g (Err x) (Err y) (inl h) (inl i) = f (Err x) (Err y) h i
then_one First Next f g (Err x) (Err y) (inl h) (inr (c, i, m)) = absurd (let p : ◌≡◌ {A = Outcome} (Err x) (Ok c) = f (Err x) (Ok c) h i in cc)
then_one First Next f g (Err x) (Err y) (inr (a, h, n)) (inl i) = absurd (let p : ◌≡◌ {A = Outcome} (Ok a) (Err y) = f (Ok a) (Err y) h i in cc)
then_one First Next f g (Err x) (Err y) (inr (a, h, n)) (inr (c, i, m)) = g (Err x) (Err y) n m

-- by cases of a value
of_option : {X : Type 0} (o : Option X) (none : Outcome) (R : X → Outcome → Type 0) → ((x : X) → IsOne (R x)) → IsOne (λ out. MatchOption o (out ≡ none) (λ x. R x out))
of_option None none R f a b h i = h ∙ sym i
of_option (Some x) none R f a b h i = f x a b h i

of_result : {X Y : Type 0} (r : Result X Y) (R : X → Outcome → Type 0) (out : Y → Outcome) → ((x : X) → IsOne (R x)) → IsOne (λ o. MatchResult r (λ x. R x o) (λ y. o ≡ out y))
of_result (Ok x) R out f a b h i = f x a b h i
of_result (Err y) R out f a b h i = h ∙ sym i

module _ (files : List ℕ → Option (FoundFile (List ℕ))) (around : Surroundings) where
  abbrev pub Of : List ℕ → Option (FoundFile (List ℕ)) → Type 0
  Of path found = found ≡ files path

  path_one : (Reads : FoundFile (List ℕ) → Outcome → Type 0) (path : List ℕ) → ((file : FoundFile (List ℕ)) → IsOne (Reads file)) → IsOne (FromPath Of around Reads path)
  path_one Reads path f a b (x, e, h) (y, k, i) =
      let j : MatchOption x (b ≡ Ok []) (λ file. Reads file b) = subst (λ (o : Option (FoundFile (List ℕ))). MatchOption o (b ≡ Ok []) (λ file. Reads file b)) (k ∙ sym e) i in
      of_option x (Ok []) Reads f a b h j

  include_one : (Deeper : Deep) (real : Option (List ℕ)) (s : Seen) → ((path : List ℕ) (file : FoundFile (List ℕ)) → IsOne (Deeper s path file)) → IsOne (FromInclude Of around Deeper real s)
  include_one Deeper real s f a b (inl (h, e)) (inl (i, k)) = e ∙ sym k
  include_one Deeper real s f a b (inl (h, e)) (inr (i, k)) = absurd (h i)
  include_one Deeper real s f a b (inr (h, e)) (inl (i, k)) = absurd (i h)
  include_one Deeper real s f a b (inr (h, e)) (inr (i, k)) =
      of_result (included_path around s.file s.entry.value) (λ path. FromPath Of around (Deeper s path) path) (λ what. Err (record { file = s.file; line = s.entry.line; what = what; path = None }))
      (λ path. path_one (Deeper s path) path (f path)) a b e k

  entry_one : (Deeper : Deep) (real : Option (List ℕ)) (s : Seen) → ((path : List ℕ) (file : FoundFile (List ℕ)) → IsOne (Deeper s path file)) → IsOne (FromEntry Of around Deeper real s)
  entry_one Deeper real s f = then_one (λ first. first ≡ Ok (s ∷ [])) (FromInclude Of around Deeper real s) (it_one (Ok (s ∷ []))) (include_one Deeper real s f)

  items_one : (Deeper : Deep) (path real section : List ℕ) (items : List (Item (List ℕ))) (fault : Option (ℕ × Wrong)) → ((s : Seen) (path : List ℕ) (file : FoundFile (List ℕ)) → IsOne (Deeper s path file))
      → IsOne (FromItems Of around Deeper path real section items fault)
  items_one Deeper path real section [] None f a b h i = h ∙ sym i
  items_one Deeper path real section [] (Some at) f a b h i = h ∙ sym i
  items_one Deeper path real section (Section next ∷ items) fault f a b h i = items_one Deeper path real next items fault f a b h i
  items_one Deeper path real section (Sets entry ∷ items) fault f a b h i =
      let s : Seen = record { file = Some path; section = section; entry = entry } in
      then_one (FromEntry Of around Deeper (Some real) s) (FromItems Of around Deeper path real section items fault) (entry_one Deeper (Some real) s (f s)) (items_one Deeper path real section items fault f) a b h i

  within_one : (n : ℕ) (s : Seen) (path : List ℕ) (file : FoundFile (List ℕ)) → IsOne (Within Of around n s path file)
  unfolding Within
  within_one zero s path file a b h i = h ∙ sym i
  within_one (suc n) s path file a b h i = items_one (Within Of around n) path file.real_path [] (items_of file.bytes).0 (items_of file.bytes).1 (within_one n) a b h i

  source_one : (n : ℕ) (source : Source) → IsOne (FromSource Of around n source)
  source_one n (File path) a b h i =
      path_one (FromFile Of around (Within Of around 10) path.now) path.now
      (λ file. items_one (Within Of around 10) path.now file.real_path [] (items_of file.bytes).0 (items_of file.bytes).1 (within_one 10)) a b h i
  source_one n (Word key value) a b h i =
      of_option (canonical_of key.now) _ _ (λ name. entry_one (Within Of around 10) None _ (within_one 10 _)) a b h i

  pub sources_one : (n : ℕ) (sources : List Source) → IsOne (FromSources Of around n sources)
  sources_one n [] a b h i = h ∙ sym i
  sources_one n (source ∷ sources) a b h i = then_one (FromSource Of around n source) (FromSources Of around (n + 1) sources) (source_one n source) (sources_one (n + 1) sources) a b h i
