-- `slice` reads through a `&`. Assumes `Logic`.
use Rattle.std.proofs.Common.{◌≡◌, ℕ, ◌+◌, ◌*◌, ◌^◌, ◌≤◌, List, [], ◌∷◌, length, drop as drop_l, refl, sym, ap, subst, arith, w64, length-take, length-drop}
use Rattle.std.proofs.raw_atomic.Walks.{proved}
use Rattle.std.proofs.Words.{pointer_in, pointer_out}
use Rattle.std.proofs.VecSteps.Shapes.{after}
use base.Logic.{id⊢}
use base.Fml.{ftrue, flft}
use mir.Syntax.{named}
use mir.Val.{Val, vint}
use types.Kit.{‵, raw, ◌⊛◌, at_ret, ◌$◌, ◌∵◌, !, qed, done, move, keep, use1, split, join, fsplit, fjoin, feq_i, flt_l, flt_i, rewrite, suffices, frame}
use types.Part.{agg}
use types.Run.{enter, of_opd, bin, load, look, stop, fld, and_then, no_more, first, blocks, exec, returns}
use types.ByLocal.{alloc_all, pass_all, free_all, look_at, get, through, sets, sets_last, env}
use contract.Monad.{fact}
use contract.Running.{tables}
use denote.Builtin.{u8, usize, RefOf}
use denote.Exit.{yes}
use denote.Opens.{unhide, hide}
use denote.Plain.{uint_vals, uint_Tells}
use denote.RattleType.{RattleType, owns}
use denote.RawPtr.{Ptr, block_of, count_of, InBlock, in_a_block}
use denote.Ref.{ShrRef, shr_vals, shr_Tells}
use denote.Signature.{plain}
use denote.Slice.{elements_shared, slice_val}
use denote.Steps.{nothing, heard}
use denote.Triple.Walked.{Stays, walk_of, says, stay_dropped, Goes-dropped, ends_at}
use Rattle.lmem_raw.specs.Bytes.{part}
use Rattle.lmem_raw.specs.Ownership.{raw_lent}
use Rattle.lmem_raw.proofs.Shared.{shared_take, shared_drop, shows_ptr}
use Rattle.lmem_raw.specs.contracts.raw.RawBytes as H-type
use Rattle.lmem_raw.specs.contracts.raw.RawBytes.slice as f
use Rattle.lmem_raw.proofs.raw.RawBytes.slice.Statement.{statement}
use Rattle.lmem_raw.proofs.raw.RawBytes.slice.Code as code

abbrev R : RattleType
R = H-type.the_row

abbrev stayed : Stays f.ended.signature.params f.ended.kept
stayed = (
  stay_dropped (RefOf (0 ∷ []) tt (plain (λ _. R)) (λ _. tt)) yes,
  (stay_dropped (plain (λ _. usize)) yes, (stay_dropped (plain (λ _. usize)) yes, tt)),
)

pub slice_spec : {M : Type 1} → statement M
slice_spec 𝓤 𝓛 𝓜 𝓡 wired =
    let c = f.clauses 𝓛 𝓜.mem 𝓡.returns in
    let W = walk_of 𝓛 f.ended stayed c in
    let 𝓣 = tables 𝓤 𝓛.H 𝓜 𝓡 𝓡.env in
    proved 𝓛 f.ended stayed c 𝓜 𝓡 (
      Goes-dropped 𝓛 1 (RefOf (0 ∷ []) tt (plain (λ _. R)) (λ _. tt)) yes (λ κs x w. refl),
      (Goes-dropped 𝓛 1 (plain (λ _. usize)) yes (λ κs x w. refl), (Goes-dropped 𝓛 1 (plain (λ _. usize)) yes (λ κs x w. refl), tt)),
    )
    f.Key.name code.function (code.unfolded 𝓤 𝓛.H 𝓜 𝓡 wired)
    (λ κs. (shr_vals, (uint_vals w64, (uint_vals w64, tt)))) (λ κs. (shr_Tells (named 0) κs.0 R, (uint_Tells w64, (uint_Tells w64, tt))))
    (λ κs qs bounds a g are.
    let κ = κs.0 in
    let q = qs.0 in
    let rb = a.0.ref_ptr.0 in
    let ro = a.0.ref_ptr.1 in
    let h = a.0.now in
    let vs = shr_vals a.0 in
    let at = a.1.0 in
    let n = a.1.1.0 in
    let fits_at = are.1.0.1 in
    let fits_n = are.1.1.0.1 in
    let words : List Val × (List Val × (List Val × Unit {0})) = (vs, (vint w64 at ∷ [], (vint w64 n ∷ [], tt))) in
    let y : W.Ghost = ((κs, qs, bounds, a, words), g) in
    let p : Ptr = h.ptr in
    let bs = h.bytes in
    let ys : List ℕ = part bs at n in
    let place : ℕ × ℕ = (block_of p, at + count_of p) in
    let Asked : Type 0 = at + n ≤ length bs in
    qed 𝓛 (((‵ (flft κ q) ⊛ ‵ ftrue) ⊛ ‵ (owns (ShrRef (named 0) κ R ∷ usize ∷ usize ∷ []) a words)) ∷ raw (fact 𝓤 Asked) ∷ []) ∵
    move ! (1 ∷ []) $ heard ! Asked (λ within.
    split ! $ split ! $ move ! (2 ∷ []) $ fsplit ! $ fsplit ! $ keep ! (1 ∷ 3 ∷ []) $
    -- [self; the token]
    enter ! _ _ _ _ _ $ alloc_all ! (λ l. pass_all ! refl ((tt, tt), ((tt, record { fits = fits_at }), ((tt, record { fits = fits_n }), tt))) $
    unhide ! $ fsplit ! $ hide ! $ move ! (1 ∷ []) $
    in_a_block ! p (λ p. raw_lent p bs h.spare κ) (id⊢ 𝓤 _) (λ b o e. fsplit ! $ flt_l ! (λ small.
    let inb : InBlock p = subst InBlock (sym e) tt in
    let long : length ys ≡ n = omega (arith, length-take n (drop_l at bs), length-drop at bs) in
    rewrite ! 0 (λ (x : ℕ × ℕ). ‵ (elements_shared u8 bs x.0 x.1 κ)) (ap (λ (p : Ptr). (block_of p, count_of p)) (sym e)) refl $
    -- [the bytes; the field; the token]
    move ! (1 ∷ 2 ∷ []) $ first ! $ blocks ! $
    pointer_in ! tt p inb rb (ro + 0) (shows_ptr 𝓛 κ rb ro h) (λ q'.
    sets ! (of_opd ! (load ! (through ! refl (fld ! refl (stop !))) (look ! 1 refl))) refl (tt, tt) $
    pointer_out ! tt p inb rb (ro + 0) $
    sets ! (bin ! (get ! refl) (get ! refl) tt) refl (tt, tt) $
    sets_last ! (agg ! (and_then ! (get ! refl) (and_then ! (get ! refl) (no_more !)))) refl (tt, (tt, (record { fits = fits_n }, tt))) $
    exec ! 𝓣.C 𝓣.Λ (env code.Mir.locals l) (after 1 (code.function).body) (at_ret _ (W.post y)) $
    sets ! (of_opd ! (get ! refl)) refl (tt, (tt, (record { fits = fits_n }, tt))) $
    returns ! (look_at ! 0 refl) $ free_all ! refl $
    move ! (2 ∷ []) $ use1 𝓛 (‵ (elements_shared u8 (drop_l at bs) place.0 place.1 κ)) (shared_drop 𝓛 place.0 κ at bs (count_of p) place.1 refl) $
    use1 𝓛 (‵ (elements_shared u8 ys place.0 place.1 κ)) (shared_take 𝓛 place.0 κ n (drop_l at bs) place.1) $ hide ! $
    flt_i ! (length ys * 1) (2 ^ 63) (omega arith) $ flt_i ! (length ys) (2 ^ 64) (omega arith) $ fjoin ! $
    feq_i ! (List Val) (slice_val place n ∷ []) (slice_val place (length ys) ∷ []) (ap (λ k. slice_val place k ∷ []) (sym long)) $ fjoin ! $ fjoin ! $
    keep ! (1 ∷ 0 ∷ []) $ suffices ! _ (ends_at 𝓛 f.ended stayed c y (slice_val place n) (record { ref_ptr = place; now = ys })
    (tt, (tt, (tt, tt))) (tt, (tt, (tt, tt)))) $ says ! refl $
    nothing ! $ move ! (1 ∷ 0 ∷ []) $ join ! $ frame ! $ nothing ! $ nothing ! $ fjoin ! $ nothing ! $ fjoin ! $ nothing ! $ fjoin ! $ done !))))))
