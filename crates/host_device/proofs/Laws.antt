-- What a stop may leave of a device that notes its calls, call by call.
use Rattle.std.proofs.Common.{◌≡◌, ◌∙◌, ◌⊎◌, ℕ, zero, suc, ◌+◌, ◌-◌, ◌≤◌, List, [], ◌∷◌, ◌++◌, drop, length, length-drop, length-take, map, reverse, refl, ap, sym, subst, inl, inr, arith}
use Rattle.std.proofs.lemmas.List.{append-nil, append_assoc, map-append, reverse-append}
use Rattle.lmem_raw.specs.Bytes.{part, with_part}
use Rattle.vm_file.specs.Device.{AfterWrite, Only, Touched}
use Rattle.vm_file.specs.Noting.{Rests}
use Rattle.vm_file.specs.Outcomes.{ReadsOnly, WritesOnly}
use Rattle.vm_file.proofs.Touches.{touched_not}
use Rattle.host_device.specs.declared.device.HostDevice.{HostDevice}
use Rattle.host_device.specs.Notes.{Note, Write, Sync}
use Rattle.host_device.specs.Journal.{Follows, GoesOn, IsStill, Leaves, LeavesSince, MayHaveLeft, MayLeave, Settles, before_step, bytes_of, journal_of, leaves_now, medium, performed, steps_of, told}

-- a part that lies within the bytes has its length
pub part-long : (bs : List ℕ) (at n : ℕ) → at + n ≤ length bs → length (part bs at n) ≡ n
part-long bs at n within = omega (arith, within, length-take n (drop at bs), length-drop at bs)

-- bytes that are written over and written back
pub put-back : (bs : List ℕ) (at : ℕ) (ws : List ℕ) → with_part (with_part bs at ws) at (part bs at (length ws)) ≡ bs
put-back [] at ws = refl
put-back (b ∷ bs) zero [] = refl
put-back (b ∷ bs) zero (w ∷ ws) = ap (λ xs. b ∷ xs) (put-back bs zero ws)
put-back (b ∷ bs) (suc at) ws = ap (λ xs. b ∷ xs) (put-back bs at ws)

-- one step more is the last one
pub steps-more : (steps more : List Note) (step : Note) → more ≡ steps ++ (step ∷ []) → reverse more ≡ step ∷ reverse steps
steps-more steps more step is = ap reverse is ∙ reverse-append steps (step ∷ [])

-- where one step more was noted, it was before it or after it
left-more : (bytes : List ℕ) (had : ℕ) (step : Note) (before : List Note) (c : List ℕ)
    → LeavesSince bytes (suc (length before) - had) (step ∷ before) c
    → LeavesSince (before_step bytes step) (length before - had) before c ⊎ Leaves bytes (step ∷ before) c
left-more bytes had step before c since = by (suc (length before) - had) refl since
  where
    by : (count : ℕ) → suc (length before) - had ≡ count → LeavesSince bytes count (step ∷ before) c
        → LeavesSince (before_step bytes step) (length before - had) before c ⊎ Leaves bytes (step ∷ before) c
    by zero is now = inr now
    by (suc count) is (inl now) = inr now
    by (suc count) is (inr past) =
        let same : count ≡ length before - had = omega (arith, is) in
        let P : ℕ → Type 0 = λ n. LeavesSince (before_step bytes step) n before c in
        inl (subst P same past)

-- continuing is transitive
pub goes-then : (a b c : HostDevice) → GoesOn a b → GoesOn b c → GoesOn a c
goes-then a b c one two = record {
  more = one.more ++ two.more;
  notes = two.notes ∙ ap (λ xs. xs ++ two.more) one.notes ∙ append_assoc (map told (journal_of a)) one.more two.more;
  follows = λ host was. two.follows host (one.follows host was);
}

-- a state that the device has lost after continuing was lost before
lost-before : (start old new : HostDevice) → GoesOn old new → (GoesOn start new → ⊥) → GoesOn start old → ⊥
lost-before start old new goes lost went = lost (goes-then start old new went goes)

module _ (old new : HostDevice) where
  -- what reads give may be left
  left-now : bytes_of new ≡ bytes_of old → (c : List ℕ) → c ≡ bytes_of new → MayLeave old c
  left-now same c is = subst (MayLeave old) (sym (is ∙ same)) (leaves_now (steps_of old) (bytes_of old))

  module _ (still : IsStill old new) where
    steps-still : steps_of new ≡ steps_of old
    steps-still = ap reverse still.journal

    may-leave-still : (c : List ℕ) → MayLeave new c → MayLeave old c
    may-leave-still c now = subst (λ es. Leaves (bytes_of old) es c) steps-still (subst (λ bs. Leaves bs (steps_of new) c) still.bytes now)

    pub follows-still : Follows old new
    follows-still host was = subst (λ es. performed host es ≡ bytes_of new) (sym steps-still) (was ∙ sym still.bytes)

    pub goes-still : GoesOn old new
    goes-still = record {
      more = [];
      notes = ap (map told) still.journal ∙ sym (append-nil (map told (journal_of old)));
      follows = follows-still;
    }

    left-still : (s : HostDevice) (c : List ℕ) → MayHaveLeft s new c → MayHaveLeft s old c
    left-still s c (inr lost) = inr (lost-before s old new goes-still lost)
    left-still s c (inl past) =
        inl (subst (λ es. LeavesSince (bytes_of old) (length es - length (steps_of s)) es c) steps-still
        (subst (λ bs. LeavesSince bs (length (steps_of new) - length (steps_of s)) (steps_of new) c) still.bytes past))

    pub reads-still : ReadsOnly medium old new
    reads-still = record {
      same = still.bytes;
      stays = (λ _. tt);
      was = (λ _. tt);
      stop = (λ _ c now. may-leave-still c now);
      time = (λ _ s c past. inl (left-still s c past));
    }

    -- a write that did nothing
    pub writes-still : (at n : ℕ) → WritesOnly medium at n old new
    writes-still at n = record {
      long = ap length still.bytes;
      stays = (λ _. tt);
      was = (λ _. tt);
      torn = (λ _. subst (Touched at n (bytes_of old)) (sym still.bytes) (touched_not at n (bytes_of old)));
      stop = (λ _ c now. (c, may-leave-still c now, touched_not at n c));
      time = (λ _ s c past. inl (left-still s c past));
    }

  -- one step more is noted
  goes-noting : (step : Note) → journal_of new ≡ journal_of old ++ (step ∷ []) → Follows old new → GoesOn old new
  goes-noting step noted follows = record {
    more = told step ∷ [];
    notes = ap (map told) noted ∙ map-append told (journal_of old) (step ∷ []);
    follows = follows;
  }

  -- a write
  module _ (at : ℕ) (ws : List ℕ)
      (journal : journal_of new ≡ journal_of old ++ (Write at (part (bytes_of old) at (length ws)) ws ∷ []))
      (written : bytes_of new ≡ with_part (bytes_of old) at ws)
      (torn : Touched at (length ws) (bytes_of old) (bytes_of new)) (within : at + length ws ≤ length (bytes_of old)) where
    abbrev stood : List ℕ
    stood = part (bytes_of old) at (length ws)

    long : length stood ≡ length ws
    long = part-long (bytes_of old) at (length ws) within

    steps : steps_of new ≡ Write at stood ws ∷ steps_of old
    steps = steps-more (journal_of old) (journal_of new) (Write at stood ws) journal

    back : with_part (bytes_of new) at stood ≡ bytes_of old
    back = (λ k. with_part (written k) at stood) ∙ put-back (bytes_of old) at ws

    may-leave-written : (c : List ℕ) → MayLeave new c → AfterWrite at (length ws) (MayLeave old) c
    may-leave-written c now =
        let a = subst (λ es. Leaves (bytes_of new) es c) steps now in
        (a.0, subst (λ bs. Leaves bs (steps_of old) a.0) back a.1, subst (λ n. Touched at n a.0 c) long a.2)

    pub follows-written : Follows old new
    follows-written host was = ap (performed host) steps ∙ (λ k. with_part (was k) at ws) ∙ sym written

    left-written : (s : HostDevice) (c : List ℕ) → MayHaveLeft s new c → MayHaveLeft s old c ⊎ AfterWrite at (length ws) (MayLeave old) c
    left-written s c (inr lost) = inl (inr (lost-before s old new (goes-noting (Write at stood ws) journal follows-written) lost))
    left-written s c (inl past) =
        let a = subst (λ es. LeavesSince (bytes_of new) (length es - length (steps_of s)) es c) steps past in
        elim (left-more (bytes_of new) (length (steps_of s)) (Write at stood ws) (steps_of old) c a) [
          | inl before ↦ inl (inl (subst (λ bs. LeavesSince bs (length (steps_of old) - length (steps_of s)) (steps_of old) c) back before))
          | inr now ↦ inr (may-leave-written c (subst (λ es. Leaves (bytes_of new) es c) (sym steps) now))
        ]

    pub writes-noted : WritesOnly medium at (length ws) old new
    writes-noted = record {
      long = torn.long;
      stays = (λ _. tt);
      was = (λ _. tt);
      torn = (λ _. torn);
      stop = (λ _ c now. may-leave-written c now);
      time = (λ _ s c past. left-written s c past);
    }

  -- a sync
  module _ (same : bytes_of new ≡ bytes_of old) (journal : journal_of new ≡ journal_of old ++ (Sync ∷ [])) where
    synced-steps : steps_of new ≡ Sync ∷ steps_of old
    synced-steps = steps-more (journal_of old) (journal_of new) Sync journal

    pub synced-lasts : Only (bytes_of new) (MayLeave new)
    synced-lasts c now = subst (λ es. Leaves (bytes_of new) es c) synced-steps now

    pub follows-synced : Follows old new
    follows-synced host was = ap (performed host) synced-steps ∙ was ∙ sym same

    left-synced : (s : HostDevice) (c : List ℕ) → MayHaveLeft s new c → MayHaveLeft s old c ⊎ MayLeave old c
    left-synced s c (inr lost) = inl (inr (lost-before s old new (goes-noting Sync journal follows-synced) lost))
    left-synced s c (inl past) =
        let a = subst (λ es. LeavesSince (bytes_of new) (length es - length (steps_of s)) es c) synced-steps past in
        elim (left-more (bytes_of new) (length (steps_of s)) Sync (steps_of old) c a) [
          | inl before ↦ inl (inl (subst (λ bs. LeavesSince bs (length (steps_of old) - length (steps_of s)) (steps_of old) c) same before))
          | inr now ↦ inr (left-now same c now)
        ]

    pub reads-synced : ReadsOnly medium old new
    reads-synced = record {
      same = same;
      stays = (λ _. tt);
      was = (λ _. tt);
      stop = (λ _ c now. left-now same c (synced-lasts c now));
      time = (λ _ s c past. left-synced s c past);
    }

  -- nothing is noted any more
  pub rests-settled : Settles old new → Rests medium old new
  rests-settled settled =
      let same : bytes_of new ≡ bytes_of old = ap bytes_of settled in
      let none : steps_of new ≡ [] = ap steps_of settled in
      record {
        same = same;
        stays = (λ _. tt);
        was = (λ _. tt);
        stop = (λ _ c now. left-now same c (subst (λ es. Leaves (bytes_of new) es c) none now));
      }
