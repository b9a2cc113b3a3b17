-- `push` writes the first byte of the room. Assumes `Logic`.
use Rattle.std.proofs.Common.{◌≡◌, ℕ, suc, ◌+◌, ◌-◌, ◌^◌, ◌<◌, List, [], ◌∷◌, ◌++◌, length, refl, sym, ap, ◌∙◌, arith, w8, w64, length-append}
use Rattle.std.proofs.raw_atomic.Walks.{proved}
use Rattle.std.proofs.VecSteps.Shapes.{after}
use base.Fraction.{full_share}
use base.Logic.{id⊢}
use base.Fml.{ftrue, froom, flft}
use mir.Syntax.{named, ty_int}
use mir.Val.{Val, vint, vunit}
use types.Kit.{‵, raw, ◌⊛◌, at_ret, ◌$◌, ◌∵◌, !, qed, done, move, keep, use1, use2, split, join, fsplit, fsplit3, fjoin, fjoin3, feq_i, flt_l, flt_i, rewrite, suffices, frame}
use types.Part.{whole, sub, look_in}
use types.Run.{enter, of_opd, unit_lit, bin, load, init, stop, fld, assigns_last, first, blocks, exec, returns}
use types.ByLocal.{alloc_all, pass_all, free_all, look_at, get, through, sets, env}
use contract.Monad.{fact}
use contract.Running.{tables}
use denote.Builtin.{u8, usize}
use denote.Exit.{yes}
use denote.Laws.{shows}
use denote.Memory.{cell_at, part_at}
use denote.Plain.{uint_vals, uint_Tells, uint_in}
use denote.RattleType.{RattleType, owns}
use denote.RawPtr.{Ptr, in_a_block}
use denote.Ref.{MutRef, mut_vals, mut_Tells}
use denote.Signature.{plain}
use denote.Steps.{nothing, heard, opens, closes, peeks}
use denote.Triple.Walked.{Stays, walk_of, says, stay_ref, stay_dropped, Goes-ref, Goes-dropped, ends_at}
use Rattle.lmem_raw.specs.Ownership.{bytes_type, raw_owns}
use Rattle.lmem_raw.proofs.Runs.{Run, glue}
use Rattle.lmem_raw.specs.contracts.raw.RawBytes as H-type
use Rattle.lmem_raw.proofs.raw.RawBytes.TheLaws.{lowers}
use Rattle.lmem_raw.specs.contracts.raw.RawBytes.push as f
use Rattle.lmem_raw.proofs.raw.RawBytes.push.Statement.{statement}
use Rattle.lmem_raw.proofs.raw.RawBytes.push.Code as code

abbrev R : RattleType
R = H-type.the_row

abbrev stayed : Stays f.ended.signature.params f.ended.kept
stayed = (stay_ref (0 ∷ []) tt (plain (λ _. R)), (stay_dropped (plain (λ _. usize)) yes, (stay_dropped (plain (λ _. u8)) yes, tt)))

more : (n : ℕ) → 0 < n → n ≡ suc (n - 1)
more n pos = omega arith

pub push_spec : {M : Type 1} → statement M
push_spec 𝓤 𝓛 𝓜 𝓡 wired =
    let c = f.clauses 𝓛 𝓜.mem 𝓡.returns in
    let W = walk_of 𝓛 f.ended stayed c in
    let 𝓣 = tables 𝓤 𝓛.H 𝓜 𝓡 𝓡.env in
    proved 𝓛 f.ended stayed c 𝓜 𝓡 (
      Goes-ref 𝓛 1 0 tt (plain (λ _. R)),
      (Goes-dropped 𝓛 1 (plain (λ _. usize)) yes (λ κs x w. refl), (Goes-dropped 𝓛 1 (plain (λ _. u8)) yes (λ κs x w. refl), tt)),
    )
    f.Key.name code.function (code.unfolded 𝓤 𝓛.H 𝓜 𝓡 wired)
    (λ κs. (mut_vals, (uint_vals w64, (uint_vals w8, tt)))) (λ κs. (mut_Tells (named 0) κs.0 R, (uint_Tells w64, (uint_Tells w8, tt))))
    (λ κs qs bounds a g are.
    let κ = κs.0 in
    let q = qs.0 in
    let rb = a.0.ref_ptr.0 in
    let ro = a.0.ref_ptr.1 in
    let h = a.0.now in
    let vs = mut_vals a.0 in
    let at = a.1.0 in
    let byte = a.1.1.0 in
    let fits_at = are.1.0.1 in
    let fits_byte = are.1.1.0.1 in
    let words : List Val × (List Val × (List Val × Unit {0})) = (vs, (vint w64 at ∷ [], (vint w8 byte ∷ [], tt))) in
    let y : W.Ghost = ((κs, qs, bounds, a, words), g) in
    let bs = h.bytes in
    let k : ℕ = h.spare - 1 in
    let new : R.Denot = record { ptr = h.ptr; bytes = bs ++ byte ∷ []; spare = k } in
    let Asked : Type 0 = (at ≡ length bs) × (0 < h.spare) in
    qed 𝓛 (((‵ (flft κ q) ⊛ ‵ ftrue) ⊛ ‵ (owns (MutRef (named 0) κ R ∷ usize ∷ u8 ∷ []) a words)) ∷ raw (fact 𝓤 Asked) ∷ []) ∵
    move ! (1 ∷ []) $ heard ! Asked (λ asked.
    split ! $ split ! $ move ! (2 ∷ []) $ fsplit ! $ fsplit3 ! $ keep ! (1 ∷ 2 ∷ 4 ∷ []) $
    enter ! _ _ _ _ _ $ alloc_all ! (λ l. pass_all ! refl ((tt, tt), ((tt, record { fits = fits_at }), ((tt, record { fits = fits_byte }), tt))) $
    opens ! tt R {h = h} rb ro (λ us. move ! (1 ∷ []) $ peeks ! R _ (shows 𝓛 R) h us (λ is. fsplit ! $ move ! (1 ∷ []) $
    in_a_block ! h.ptr (λ p. raw_owns p bs h.spare) (id⊢ 𝓤 _) (λ b o e. fsplit ! $ flt_l ! (λ small. fsplit ! $
    -- [the bytes; the room; the field; its cell; the open borrow; obs; auth]
    let word = lowers.val_is h us is ∙ ap (λ (p : Ptr). lowers.lowered (record h { ptr = p }) ∷ []) e in
    let Cell = λ (ws : List Val). ‵ (cell_at full_share R.mir ws rb ro) in
    let long : length (bs ++ byte ∷ []) ≡ length bs + 1 = omega (arith, length-append bs (byte ∷ [])) in
    move ! (1 ∷ []) $ rewrite ! 0 (λ (n : ℕ). ‵ (froom (bytes_type n) b (o + length bs))) (more h.spare asked.1) refl $
    use1 𝓛 (‵ (froom (ty_int w8) b (o + length bs)) ⊛ ‵ (froom (bytes_type k) b (o + length bs + 1)))
    (𝓛.laws.room_uncons (ty_int w8) k b (o + length bs)) $ split ! $
    -- [the byte's room; the rest of it; the bytes; the field; its cell; ..]
    let same : o + length bs ≡ at + o = omega (arith, asked.0) in rewrite ! 0 (λ (n : ℕ). ‵ (froom (ty_int w8) b n)) same refl $
    rewrite ! 4 Cell word refl $ first ! $ blocks ! $
    sets ! (of_opd ! (load ! (through ! refl (fld ! refl (stop !))) (look_in ! 4 (sub ! 0 refl (whole !))))) refl (tt, tt) $
    sets ! (bin ! (get ! refl) (get ! refl) tt) refl (tt, tt) $
    assigns_last ! (of_opd ! (get ! refl)) (through ! refl (stop !)) (init ! 0 refl (tt, record { fits = fits_byte })) $
    exec ! 𝓣.C 𝓣.Λ (env code.Mir.locals l) (after 1 (code.function).body) (at_ret _ (W.post y)) $
    sets ! (of_opd ! (unit_lit !)) refl (tt, tt) $
    rewrite ! 4 Cell (sym word) refl $
    use1 𝓛 (‵ (part_at u8 full_share byte b (at + o))) (uint_in 𝓛 full_share w8 byte b (at + o)) $ nothing ! $ move ! (1 ∷ 0 ∷ []) $ fjoin ! $
    move ! (2 ∷ 0 ∷ []) $ use2 𝓛 (‵ (Run b o (bs ++ byte ∷ []))) (glue 𝓛 b bs (byte ∷ []) o (at + o) (omega (arith, asked.0))) $ move ! (1 ∷ []) $
    let far : o + length bs + 1 ≡ o + length (bs ++ byte ∷ []) = omega (arith, long) in
    let tight : length (bs ++ byte ∷ []) + k < 2 ^ 63 = omega (arith, long, small, asked.1) in
    rewrite ! 0 (λ (n : ℕ). ‵ (froom (bytes_type k) b n)) far refl $ move ! (1 ∷ 0 ∷ []) $ fjoin ! $
    flt_i ! (length (bs ++ byte ∷ []) + k) (2 ^ 63) tight $ fjoin ! $
    rewrite ! 0 (λ (p : Ptr). ‵ (raw_owns p (bs ++ byte ∷ []) k)) (sym e) refl $ move ! (1 ∷ []) $ fjoin ! $ move !
    (1 ∷ []) $ closes ! tt R new us rb ro $
    returns ! (look_at ! 0 refl) $ free_all ! refl $ keep ! (0 ∷ 1 ∷ 2 ∷ []) $ feq_i ! (List Val) (vunit ∷ [])
    (vunit ∷ []) refl $ move ! (1 ∷ 2 ∷ 3 ∷ 0 ∷ []) $
    suffices ! _ (ends_at 𝓛 f.ended stayed c y vunit tt (new, (tt, (tt, tt))) (tt, (tt, (tt, tt)))) $ says ! (refl, refl, omega (arith, asked.1)) $
    nothing ! $ move ! (3 ∷ 0 ∷ []) $ join ! $ frame ! $ feq_i ! (List Val) vs vs refl $ fjoin3 ! $ nothing ! $
    nothing ! $ fjoin ! $ nothing ! $ fjoin ! $ move ! (1 ∷ 0 ∷ []) $ fjoin ! $ done !)))))))
