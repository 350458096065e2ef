-- The two parts of a slice, cut as `split_at_mut` of `core` cuts them, and where each lies.
use mathlib.Core.Path.{◌≡◌, refl, sym, ap, subst, ◌∙◌}
use Prim.Native.Nat.{ℕ, ◌+◌, ◌-◌, ◌≤◌, ◌<◌, ◌^◌}
use native.Mathlib.Omega.{arith}
use mathlib.Core.List.{List, [], ◌∷◌, ◌++◌}
use lib.ListN.{length, take, drop as drop_l, take-append-drop, length-drop}
use mir.Syntax.{named, w64}
use mir.Val.{Val, vint, vstruct, vcons, vnil}
use base.Logic.{emp}
use base.Fml.{Lft, GName, ftrue, flft, fobs, fbor, fsep}
use contract.Monad.{fact, fact_i, fact_use}
use contract.Running.{tables}
use types.Kit.{‵, ◌⊛◌, some, at_ret, ◌$◌, ◌∵◌, !, qed, by, move, keep, use2, raw, drop, split, join, pick, rewrite, fsplit, fjoin, feq_i, suffices, done, later, await, split3, fpack}
use types.Part.{whole, sub, agg}
use types.Run.{stop, fld, of_opd, bin, and_then, no_more, first, blocks, exec, returns, enter, addr, hop, from}
use types.ByLocal.{alloc_all, pass_all, free_all, look_at, look_in_at, get, get_in, sets, sets_last, env}
use types.SemTy.{Arr}
use types.SemTy.{Body as Borrowed}
use types.Follow.{after₂}
use denote.Exit.{yes, no}
use denote.RattleType.{RattleType, owns, Valss}
use denote.Memory.{mem}
use denote.Ref.{MutBor}
use denote.Signature.{plain, mut_slice_of}
use denote.Slice.{MutSlice, Room, room, slice_val, mut_slice_vals, mut_slice_Tells, mut_slice_at, coded_holeys, heres}
use denote.Shadow.{pure_l, pure_i}
use denote.Steps.{nothing, heard}
use denote.Struct.Struct.{within}
use denote.Struct.Tuple.{tuple_type}
use denote.Struct.Declared.{shape}
use denote.Builtin.{usize, u8}
use denote.Plain.{uint_vals, uint_Tells}
use denote.Triple.Walked.{Stays, stay_dropped, walk_of, ends_at, says, Goes-dropped, Goes-spent_slice}
use borrow.Table.Elements.{at, at_byte, length-take-le}
use borrow.Rule.Slice.Followed.{splits}
use Rattle.std.proofs.raw_atomic.Walks.{proved}
use Rattle.glob_attributes.specs.contracts.borrowed.memory.cut as f
use Rattle.glob_attributes.proofs.borrowed.memory.cut.Statement.{statement}
use Rattle.glob_attributes.proofs.borrowed.memory.cut.Code as code

abbrev Slice : Lft → RattleType
Slice κ = MutSlice (named 0) κ u8

abbrev Halves : Lft → List RattleType
Halves κ = Slice κ ∷ Slice κ ∷ []

abbrev stayed : Stays f.ended.signature.params f.ended.kept
stayed = (stay_dropped (mut_slice_of (0 ∷ []) tt (plain (λ _. u8))) no, (stay_dropped (plain (λ _. usize)) yes, tt))

pub cut_spec : {M : Type 1} → statement M
cut_spec 𝓤 𝓛 𝓜 𝓡 wired =
    let c = f.clauses 𝓛 𝓜.mem 𝓡.returns in let W = walk_of 𝓛 f.ended stayed c in let 𝓣 = tables 𝓤 𝓛.H 𝓜 𝓡 𝓡.env in
    proved 𝓛 f.ended stayed c 𝓜 𝓡
    (Goes-spent_slice 𝓛 1 (0 ∷ []) tt (plain (λ _. u8)), (Goes-dropped 𝓛 1 (plain (λ _. usize)) yes (λ κs x f. refl), tt))
    f.Key.name code.function (code.unfolded 𝓤 𝓛.H 𝓜 𝓡 wired)
    (λ κs. (mut_slice_vals, (uint_vals w64, tt))) (λ κs. (mut_slice_Tells (named 0) κs.0 u8, (uint_Tells w64, tt))) (λ κs qs bounds a g are.
    let κ = κs.0 in let q = qs.0 in let self = a.0 in let m = a.1.0 in
    let b = self.ref_ptr.0 in let o = self.ref_ptr.1 in let γ = self.ghost_name in let xs = self.now in
    let y : W.Ghost = ((κs, qs, bounds, a, (mut_slice_vals self, (vint w64 m ∷ [], tt))), tt) in
    let n = length xs in
    let Given = ((‵ (flft κ q) ⊛ ‵ ftrue) ⊛ ‵ (owns (Slice κ ∷ usize ∷ []) (self, (m, tt)) y.0.4)) ∷ raw (fact 𝓤 (m ≤ n)) ∷ [] in
    let v = vstruct (vcons (slice_val (b, o) m) (vcons (slice_val (b, m + o) (n - m)) vnil)) in
    let front = take m xs in
    let back = drop_l m xs in
    fact_use 𝓤 (Room u8 n)
    (qed 𝓛 Given ∵ split ! $ move ! (1 ∷ []) $ fsplit ! $ fsplit ! $ fsplit ! $ drop ! $
    pure_l ! (room u8 n) (λ p. keep ! [] $ by ! (fact_i 𝓤 (Room u8 n) (emp 𝓤) p)))
    (λ rm. qed 𝓛 Given ∵ move ! (1 ∷ []) $ heard ! _ (λ le.
    let fm : m < 2 ^ 64 = are.1.0.1 in
    let fn : n < 2 ^ 64 = rm.0 in
    let fr : n - m < 2 ^ 64 = omega (arith, fn) in
    let p = at o (mem u8).size (length front) in
    let lf : length front ≡ m = length-take-le m xs le in
    let lb : length back ≡ n - m = length-drop m xs in
    let on : p ≡ m + o = at_byte o (length front) ∙ ap (λ (k : ℕ). k + o) lf in
    let one : GName × GName → MutBor (List ℕ) = λ γs. record { ref_ptr = (b, o); ghost_name = γs.0; now = front } in
    let two : GName × GName → MutBor (List ℕ) = λ γs. record { ref_ptr = (b, p); ghost_name = γs.1; now = back } in
    split ! $ split ! $ enter ! _ _ _ _ _ $
    alloc_all ! (λ l. pass_all ! refl ((tt, (tt, (record { fits = fn }, tt))), ((tt, record { fits = fm }), tt)) $
    sets ! (of_opd ! (get_in ! (fld ! refl (stop !)) (sub ! 1 refl (whole !)))) refl (tt, record { fits = fn }) $
    sets ! (addr ! (from ! (fld ! refl (hop ! (look_in_at ! 1 (sub ! 0 refl (whole !))) (stop !))))) refl (tt, tt) $
    first ! $ blocks ! $
    sets ! (agg ! (and_then ! (get ! refl) (and_then ! (get ! refl) (no_more !)))) refl (tt, (tt, (record { fits = fm }, tt))) $
    sets ! (bin ! (get ! refl) (get ! refl) tt) refl (tt, tt) $
    sets ! (bin ! (get ! refl) (get ! refl) le) refl (tt, record { fits = fr }) $
    sets ! (agg ! (and_then ! (get ! refl) (and_then ! (get ! refl) (no_more !)))) refl (tt, (tt, (record { fits = fr }, tt))) $
    sets_last ! (agg ! (and_then ! (get ! refl) (and_then ! (get ! refl) (no_more !)))) refl (tt, ((tt, (record { fits = fm }, tt)), ((tt, (record { fits = fr }, tt)), tt))) $
    exec ! 𝓣.C 𝓣.Λ (env code.Mir.locals l) code.Mir.t-4 (at_ret _ (W.post y)) $
    sets ! (of_opd ! (get ! refl)) refl (tt, ((tt, (record { fits = fm }, tt)), ((tt, (record { fits = fr }, tt)), tt))) $
    move ! (2 ∷ []) $ fsplit ! $ move ! (0 ∷ 2 ∷ []) $
    rewrite ! 0 (λ (zs : List ℕ). ‵ (fsep (mut_slice_at u8 self (mut_slice_vals self)) (fsep (fobs γ ((coded_holeys u8).code (heres u8 zs))) (fbor κ (Borrowed (Arr (mem u8) (length zs)) b o γ))))) (sym (take-append-drop m xs)) refl $
    fsplit ! $ drop ! $ pure_i ! (mut_slice_at u8 (record { ref_ptr = (b, o); ghost_name = γ; now = front ++ back }) (slice_val (b, o) (length (front ++ back)) ∷ [])) (tt, (tt, tt)) (refl, subst (λ (zs : List ℕ). Room u8 (length zs)) (sym (take-append-drop m xs)) rm) $ fjoin ! $
    use2 𝓛 (later (some (λ (γs : GName × GName). ‵ ((Slice κ).own_val (one γs) (slice_val (b, o) (length front) ∷ [])) ⊛ ‵ ((Slice κ).own_val (two γs) (slice_val (b, p) (length back) ∷ [])) ⊛ ‵ (flft κ q) ⊛ ‵ (after₂ (Arr (mem u8) 0) (Arr (mem u8) 0) (Arr (mem u8) 0) γ γs.0 γs.1 ◌++◌))))
    (splits 𝓛 u8 (named 0) κ q b o γ front back (omega (arith, lf, le, fn), omega (arith, lf, le, rm.1)) (omega (arith, lb, fn), omega (arith, lb, rm.1)) (slice_val (b, o) (length (front ++ back)) ∷ [])) $ await ! tt $ pick ! (λ γs. split3 ! $
    nothing ! $ move ! (2 ∷ 0 ∷ []) $ fjoin ! $ move ! (1 ∷ 0 ∷ []) $ fjoin ! $
    feq_i ! (List Val) (v ∷ []) (vstruct (vcons (slice_val (b, o) (length front)) (vcons (slice_val (b, p) (length back)) vnil)) ∷ []) (λ k. vstruct (vcons (slice_val (b, o) (sym lf k)) (vcons (slice_val (b, sym on k) (sym lb k)) vnil)) ∷ []) $ fjoin ! $
    fpack ! (Valss (Halves κ)) (within (shape (tuple_type (Halves κ))) (one γs, (two γs, tt)) (v ∷ [])) (slice_val (b, o) (length front) ∷ [], (slice_val (b, p) (length back) ∷ [], tt)) $
    move ! (1 ∷ []) $ split ! $
    returns ! (look_at ! 0 refl) $ free_all ! refl $ keep ! (0 ∷ 2 ∷ []) $
    suffices ! _ (ends_at 𝓛 f.ended stayed c y v (one γs, two γs) (tt, (tt, tt)) (tt, (tt, tt))) $
    says ! (record { begins = refl; bytes_are = refl; left = record { begins = ap (λ (k : ℕ). (b, k)) (omega (arith, on)); bytes = refl; inside = le } }) $
    move ! (1 ∷ []) $ nothing ! $ nothing ! $ fjoin ! $ nothing ! $ fjoin ! $ join ! $ nothing ! $ move ! (2 ∷ 0 ∷ []) $ join ! $ done !)))))
