-- `slice_mut` lends a run of the bytes. Assumes `Logic`.
use Rattle.std.proofs.Common.{◌≡◌, ℕ, ◌+◌, ◌*◌, ◌^◌, ◌<◌, ◌≤◌, List, [], ◌∷◌, ◌++◌, length, take, drop as drop_l, refl, sym, ap, subst, ◌∙◌, arith, w64, MutBor, length-take, length-drop}
use Rattle.std.proofs.raw_atomic.Walks.{proved}
use seplogic.Ra.Ura.{Ura}
use base.Fraction.{full_share}
use base.Logic.{ent, sep, id⊢}
use base.Fml.{Fml, GName, ftrue, fsep, froom, flft}
use mir.Syntax.{named}
use mir.Val.{Val, vint}
use types.Logic.{Logic, sem}
use types.SemTy.{cells}
use types.Kit.{‵, raw, ◌⊛◌, some, later, at_ret, ◌$◌, ◌∵◌, !, qed, by, done, move, keep, use1, use2, split, join, fsplit, fsplit3, fjoin, fpack, flt_l, flt_i, pick, await, rewrite, suffices, frame, group}
use types.Part.{whole, sub, look_in, agg}
use types.Run.{enter, of_opd, bin, load, stop, fld, and_then, no_more, first, blocks, exec, returns}
use types.ByLocal.{alloc_all, pass_all, free_all, look_at, get, through, sets, sets_last, env}
use contract.Monad.{fact}
use contract.Running.{tables}
use denote.Builtin.{u8, usize}
use denote.Exit.{yes, no}
use denote.FollowSlice.{Elements, lends_Elements}
use denote.Follow.{follows}
use denote.Array.{Array}
use denote.Laws.{shows}
use denote.Memory.{mem, cell_at, part_of}
use denote.Plain.{uint_vals, uint_Tells}
use denote.RattleType.{RattleType, owns}
use denote.RawPtr.{Ptr, block_ptr, in_a_block}
use denote.Ref.{MutRef, mut_vals, mut_Tells}
use denote.Signature.{plain, mut_ref_to}
use denote.Slice.{MutSlice, slice_val}
use denote.Steps.{nothing, heard, opens, peeks}
use denote.Struct.Owning.{shape}
use denote.Struct.Struct.{Struct}
use denote.Triple.Walked.{Stays, walk_of, says, stay_dropped, Goes-dropped, Goes-spent_ref, ends_at}
use Rattle.std.proofs.VecSteps.Shapes.{after}
use Rattle.lmem_raw.specs.Bytes.{part, with_part}
use Rattle.lmem_raw.specs.Ownership.{bytes_type, raw_owns}
use Rattle.lmem_raw.specs.Lending.{with_bytes}
use Rattle.std.proofs.lemmas.List.{take_all}
use Rattle.lmem_raw.proofs.Parts.{length-with_part, with_part-split}
use Rattle.lmem_raw.proofs.Runs.{Run, Around, run_out, run_in}
use Rattle.lmem_raw.specs.contracts.raw.RawBytes as H-type
use Rattle.lmem_raw.proofs.raw.RawBytes.TheLaws.{lowers}
use Rattle.lmem_raw.specs.contracts.raw.RawBytes.slice_mut as f
use Rattle.lmem_raw.proofs.raw.RawBytes.slice_mut.Statement.{statement}
use Rattle.lmem_raw.proofs.raw.RawBytes.slice_mut.Code as code

abbrev R : RattleType
R = H-type.the_row

-- the one field
abbrev Fields : RattleType
Fields = Struct (shape H-type.the_type)

abbrev stayed : Stays f.ended.signature.params f.ended.kept
stayed = (
  stay_dropped (mut_ref_to (0 ∷ []) tt (plain (λ _. R))) no,
  (stay_dropped (plain (λ _. usize)) yes, (stay_dropped (plain (λ _. usize)) yes, tt)),
)

-- where ws are as many as were lent
all : (ws : List ℕ) (n : ℕ) → length ws ≡ n → take n ws ≡ ws
all ws n e = take_all n ws (omega arith)

module _ {M : Type 1} {𝓤 : Ura M} (𝓛 : Logic 𝓤) (rb ro b o : ℕ) (h : R.Denot) (at n : ℕ) (us : List Val) where
  abbrev new : List ℕ → R.Denot
  new ws = with_bytes h (with_part h.bytes at (take n ws))

  -- all but the run
  abbrev Rest : Fml
  Rest = fsep (Around 𝓛 b o h.bytes at n) (fsep (froom (bytes_type h.spare) b (o + length h.bytes))
      (fsep (Fields.own_val (h.ptr, tt) us) (cell_at full_share R.mir us rb ro)))

  back : h.ptr ≡ block_ptr b o → at + n ≤ length h.bytes → length h.bytes + h.spare < 2 ^ 63 → (ws : List ℕ) → length ws ≡ n
      → ent 𝓤 (sep 𝓤 (sem 𝓛 (cells (mem u8) ws b (at + o))) (sem 𝓛 Rest)) (sem 𝓛 ((mem R).own_at (new ws) rb ro))
  unfolding part_of
  back e within small ws same =
      let bs = h.bytes in
      let is : take at bs ++ (ws ++ drop_l (at + n) bs) ≡ with_part bs at (take n ws) = with_part-split bs at (at + n) ws (omega (arith, same)) within
      ∙ ap (λ l. with_part bs at l) (sym (all ws n same)) in
      let long : length (with_part bs at (take n ws)) ≡ length bs = length-with_part bs at (take n ws) in
      qed 𝓛 (‵ (Run b (at + o) ws) ∷ ‵ Rest ∷ []) ∵ move ! (1 ∷ []) $ fsplit ! $ move ! (2 ∷ 0 ∷ []) $
      use2 𝓛 (‵ (Run b o (take at bs ++ (ws ++ drop_l (at + n) bs)))) (run_in 𝓛 b o bs at n within ws (sym same)) $
      rewrite ! 0 (λ (l : List ℕ). ‵ (Run b o l)) is refl $
      -- [the bytes; the rest]
      move ! (1 ∷ []) $ fsplit3 ! $ rewrite ! 0 (λ (k : ℕ). ‵ (froom (bytes_type h.spare) b (o + k))) (sym long)
      refl $ move ! (3 ∷ 0 ∷ []) $ fjoin ! $
      flt_i ! (length (new ws).bytes + h.spare) (2 ^ 63) (subst (λ (k : ℕ). k + h.spare < 2 ^ 63) (sym long) small) $ fjoin ! $
      rewrite ! 0 (λ (p : Ptr). ‵ (raw_owns p (new ws).bytes h.spare)) (sym e) refl $ move ! (1 ∷ 0 ∷ []) $ fjoin ! $ move ! (1 ∷ 0 ∷ []) $ fjoin ! $
      fpack ! (List Val) (λ us. fsep (cell_at full_share R.mir us rb ro) (R.own_val (new ws) us)) us $ done !

pub slice_mut_spec : {M : Type 1} → statement M
slice_mut_spec 𝓤 𝓛 𝓜 𝓡 wired =
    let c = f.clauses 𝓛 𝓜.mem 𝓡.returns in
    let W = walk_of 𝓛 f.ended stayed c in
    let 𝓣 = tables 𝓤 𝓛.H 𝓜 𝓡 𝓡.env in
    proved 𝓛 f.ended stayed c 𝓜 𝓡 (
      Goes-spent_ref 𝓛 1 (0 ∷ []) tt (plain (λ _. R)),
      (Goes-dropped 𝓛 1 (plain (λ _. usize)) yes (λ κs x w. refl), (Goes-dropped 𝓛 1 (plain (λ _. usize)) yes (λ κs x w. refl), tt)),
    )
    f.Key.name code.function (code.unfolded 𝓤 𝓛.H 𝓜 𝓡 wired)
    (λ κs. (mut_vals, (uint_vals w64, (uint_vals w64, tt)))) (λ κs. (mut_Tells (named 0) κs.0 R, (uint_Tells w64, (uint_Tells w64, tt))))
    (λ κs qs bounds a g are.
    let κ = κs.0 in
    let q = qs.0 in
    let rb = a.0.ref_ptr.0 in
    let ro = a.0.ref_ptr.1 in
    let γ = a.0.ghost_name in
    let h = a.0.now in
    let vs = mut_vals a.0 in
    let at = a.1.0 in
    let n = a.1.1.0 in
    let fits_at = are.1.0.1 in
    let fits_n = are.1.1.0.1 in
    let words : List Val × (List Val × (List Val × Unit {0})) = (vs, (vint w64 at ∷ [], (vint w64 n ∷ [], tt))) in
    let y : W.Ghost = ((κs, qs, bounds, a, words), g) in
    let Asked : Type 0 = at + n ≤ length h.bytes in
    qed 𝓛 (((‵ (flft κ q) ⊛ ‵ ftrue) ⊛ ‵ (owns (MutRef (named 0) κ R ∷ usize ∷ usize ∷ []) a words)) ∷ raw (fact 𝓤 Asked) ∷ []) ∵
    move ! (1 ∷ []) $ heard ! Asked (λ within.
    split ! $ split ! $ move ! (2 ∷ []) $ fsplit ! $ fsplit3 ! $ keep ! (1 ∷ 2 ∷ 4 ∷ []) $
    enter ! _ _ _ _ _ $ alloc_all ! (λ l. pass_all ! refl ((tt, tt), ((tt, record { fits = fits_at }), ((tt, record { fits = fits_n }), tt))) $
    opens ! tt R {h = h} rb ro (λ us. move ! (1 ∷ []) $ peeks ! R _ (shows 𝓛 R) h us (λ is. fsplit ! $ move ! (1 ∷ []) $
    in_a_block ! h.ptr (λ p. raw_owns p h.bytes h.spare) (id⊢ 𝓤 _) (λ b o e. fsplit ! $ flt_l ! (λ small. fsplit ! $
    let bs = h.bytes in
    let xs : List ℕ = part bs at n in
    let long : length xs ≡ n = omega (arith, length-take n (drop_l at bs), length-drop at bs) in
    let word = lowers.val_is h us is ∙ ap (λ (p : Ptr). lowers.lowered (record h { ptr = p }) ∷ []) e in
    let Cell = λ (ws : List Val). ‵ (cell_at full_share R.mir ws rb ro) in
    rewrite ! 3 Cell word refl $ first ! $ blocks ! $
    sets ! (of_opd ! (load ! (through ! refl (fld ! refl (stop !))) (look_in ! 3 (sub ! 0 refl (whole !))))) refl (tt, tt) $
    sets ! (bin ! (get ! refl) (get ! refl) tt) refl (tt, tt) $
    sets_last ! (agg ! (and_then ! (get ! refl) (and_then ! (get ! refl) (no_more !)))) refl (tt, (tt, (record { fits = fits_n }, tt))) $
    exec ! 𝓣.C 𝓣.Λ (env code.Mir.locals l) (after 1 (code.function).body) (at_ret _ (W.post y)) $
    sets ! (of_opd ! (get ! refl)) refl (tt, (tt, (record { fits = fits_n }, tt))) $
    rewrite ! 3 Cell (sym word) refl $
    use1 𝓛 (‵ (Run b (at + o) xs) ⊛ ‵ (Around 𝓛 b o bs at n)) (run_out 𝓛 b o bs at n within) $ split ! $
    -- [the run; the bytes around; the room; the field; its cell; the open borrow; obs; auth]
    move ! (3 ∷ 4 ∷ []) $ fjoin ! $ move ! (3 ∷ 0 ∷ []) $ fjoin ! $ move ! (2 ∷ 0 ∷ []) $ fjoin ! $ move ! (2 ∷ 3 ∷ 4 ∷ 1 ∷ 0 ∷ []) $ group ! 5 $
    let F = new 𝓛 rb ro b o h at n us in
    let rest = sem 𝓛 (Rest 𝓛 rb ro b o h at n us) in
    let way : (ws : List ℕ) → length ws ≡ length xs → ent 𝓤 (sep 𝓤 (sem 𝓛 (cells (mem u8) ws b (at + o))) rest)
    (sem 𝓛 ((mem R).own_at (F ws) rb ro)) = λ ws same. back 𝓛 rb ro b o h at n us e within small ws (same ∙ long) in
    let roomy : length xs < 2 ^ 64 = omega arith in
    let fitting : length xs * 1 < 2 ^ 63 = omega arith in
    let code' = R.coded.code h in
    let Lent = Elements 𝓛 R u8 F (named 0) κ q rb ro b (at + o) γ xs (roomy, fitting) rest way in
    use1 𝓛 (later (some (λ (δ : GName). raw (Lent δ)))) (lends_Elements 𝓛 R u8 F (named 0) κ q rb ro b (at + o) γ xs
    (roomy, fitting) rest way code' code') $ await ! tt $ pick ! (λ δ.
    returns ! (look_at ! 0 refl) $ free_all ! refl $ keep ! (0 ∷ []) $
    let r : MutBor (List ℕ) = record { ref_ptr = (b, at + o); ghost_name = δ; now = xs } in
    let v = slice_val (b, at + o) (length xs) in
    let exits : ent 𝓤 (Lent δ) (W.post y v) =
    qed 𝓛 (‵ ((MutSlice (named 0) κ u8).own_val r (v ∷ [])) ∷ ‵ (flft κ q) ∷ ‵ (follows R (Array u8 0) γ δ F) ∷ []) ∵
    suffices ! _ (ends_at 𝓛 f.ended stayed c y v r (tt, (tt, (tt, tt))) (tt, (tt, (tt, tt)))) $
    nothing ! $ nothing ! $ fjoin ! $ nothing ! $ fjoin ! $ nothing ! $ fjoin ! $ join ! $ nothing ! $ move !
    (2 ∷ 0 ∷ []) $ join ! $ join ! $ frame ! $ says ! refl $ done ! in
    by ! (subst (λ (k : ℕ). ent 𝓤 (Lent δ) (W.post y (slice_val (b, at + o) k))) long exits)))))))))
