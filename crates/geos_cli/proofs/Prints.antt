-- What commands print, one after another.
use Rattle.std.proofs.Common.{◌≡◌, ℕ, inl, inr, List, [], ◌∷◌, ◌++◌, refl, sym, ap, ◌∙◌, subst, append_assoc, append-nil}
use Rattle.std.specs.Prelude.{Result, Ok, Err}
use Rattle.geos_terms.specs.declared.refusal.Refusal.{Refusal}
use Rattle.geos_calls.specs.Memory.{Memory}
use Rattle.geos_calls.specs.VmFile.{Kept}
use Rattle.geos_calls.specs.Effects.{Call, Choice}
use Rattle.geos_calls.specs.VmCalls.{vlock, vunlock}
use Rattle.geos_image.specs.Parts.{Parts}
use Rattle.geos_machine.specs.declared.outcome.Outcome.{Outcome}
use Rattle.geos_machine.specs.Runs.{Ran}
use Rattle.geos_machine.proofs.Going.{each-wider}
use Rattle.geos_machine.proofs.KeptSteps.{some-choice}
use Rattle.script_commands.specs.declared.command.Command.{Command}
use Rattle.script_commands.specs.declared.command.Command.TheVariants as command
use Rattle.geos_cli.specs.declared.script.Mode.{Mode}
use Rattle.script_commands.specs.declared.command.Numbered.{Numbered}
use Rattle.script_commands.specs.declared.command.Call.{Call as ScriptCall}
use Rattle.geos_cli.specs.Script.{Allows, Does, GoesOn, Prints, PrintsPart, PrintsUpTo, Stage, Way, Comes, Then, Stays, LocksOne, NotLocked, UnlocksOne, LockedBehind, UnlockedBehind, Locks, Unlocks, RunsOn}
use Rattle.script_commands.specs.Lent.{lent_by}

-- one more command runs where the others ended, and prints after them; the script continues
pub prints-more : (mode : Mode) (allows : Allows) (image : Parts) (commands : List Numbered) (before between after : Stage)
    (text : List ℕ) (keeps : List Kept)
    (last : Numbered) (result : Result (Unit {0}) Refusal) (shown : List ℕ) (own : List Kept)
    → Prints mode allows image commands before between text keeps → Does allows image last.command result between after shown own → GoesOn mode result
    → Prints mode allows image (commands ++ last ∷ []) before after (text ++ shown) (keeps ++ own)
prints-more mode allows image [] before between after text keeps last result shown own (none, same, no_kept) does goes =
    let from : Does allows image last.command result before after shown own =
    subst (λ stage. Does allows image last.command result stage after shown own) same does in (
      after,
      shown,
      [],
      own,
      [],
      result,
      from,
      goes,
      (refl, refl, refl),
      ap (λ t. t ++ shown) none
          ∙ sym (append-nil shown),
      ap (λ ks. ks ++ own) no_kept ∙ sym (append-nil own),
    )
prints-more mode allows image (first ∷ commands) before between after text keeps last result shown own
    (next, mine, others, kept, more_kept, came, first_does, went, rest, e, k) does goes =
    let more = prints-more mode allows image commands next between after others more_kept last result shown own rest does goes in (
      next,
      mine,
      others ++ shown,
      kept,
      more_kept ++ own,
      came,
      first_does,
      went,
      more,
      ap (λ t. t ++ shown) e
          ∙ append_assoc mine others shown,
      ap (λ ks. ks ++ own) k ∙ append_assoc kept more_kept own,
    )

-- Statements under some choices hold under more of them

unfoldable pub ran-wider : (P Q : Choice → Type 0) → ((choice : Choice) → P choice → Q choice)
    → (image : Parts) (r : ℕ) (words handles : List ℕ) (before after : Memory) (outcome : Outcome)
    → Ran P image r words handles before after outcome → Ran Q image r words handles before after outcome
ran-wider P Q wider image r words handles before after outcome ran = record {
  choices = ran.choices;
  chosen = each-wider P Q wider ran.choices ran.chosen;
  last = ran.last;
  ran = ran.ran;
  words_out = ran.words_out;
  output = ran.output;
  memory = ran.memory;
}

-- a way holds under more of them
abbrev pub Wider : Way → Way → Type 0
Wider V W = (before after : Stage) (keeps : List Kept) → V before after keeps → W before after keeps

pub same-way : (W : Way) → Wider W W
same-way W before after keeps w = w

pub then-wider : (U V W X : Way) → Wider U W → Wider V X → Wider (Then U V) (Then W X)
then-wider U V W X first second before after keeps (between, own, rest, u, v, e) =
    (between, own, rest, first before between own u, second between after rest v, e)

module _ (P Q : Allows) (wider : (before now : ℕ) (choice : Choice) → P before now choice → Q before now choice) where
  pub comes-wider : {A : Type 0} (row : Call A) (result : Result A Refusal) → Wider (Comes P row result) (Comes Q row result)
  comes-wider row result before after keeps (choice, chosen, comes, e) = (choice, wider before.failed after.failed choice chosen, comes, e)

  locked-wider : (V W : Way) → Wider V W → (handles : List ℕ) → Wider (LockedBehind P V handles) (LockedBehind Q W handles)
  locked-wider V W first [] = first
  locked-wider V W first (h ∷ handles) = locked-wider (Then V (LocksOne P h)) (Then W (LocksOne Q h))
      (then-wider V (LocksOne P h) W (LocksOne Q h) first (comes-wider (vlock h) (Ok tt))) handles

  pub unlocked-wider : (V W : Way) → Wider V W → (handles : List ℕ) → Wider (UnlockedBehind P V handles) (UnlockedBehind Q W handles)
  unlocked-wider V W first [] = first
  unlocked-wider V W first (h ∷ handles) = unlocked-wider (Then V (UnlocksOne P h))
      (Then W (UnlocksOne Q h)) (then-wider V (UnlocksOne P h) W (UnlocksOne Q h) first
      (comes-wider (vunlock h) (Ok tt))) handles

  pub runs-wider : (image : Parts) (call : ScriptCall) (text : List ℕ) → Wider (RunsOn P image call text) (RunsOn Q image call text)
  unfolding ran-wider
  runs-wider image call text before after keeps (outcome, ran, e, k, spares) = (
    outcome,
    ran-wider (P before.failed after.failed) (Q before.failed after.failed) (wider before.failed after.failed) image
        call.routine call.words call.handles before.memory after.memory outcome ran,
    e,
    k,
    spares,
  )

  pub does-wider : (image : Parts) (c : Command) (result : Result (Unit {0}) Refusal) (before after : Stage) (text : List ℕ) (keeps : List Kept)
      → Does P image c result before after text keeps → Does Q image c result before after text keeps
  does-wider image (command.Call call) result before after text keeps (inl (done, ran)) =
      let lent = lent_by image call in
      inl (
        done,
        (then-wider (Then (Locks P lent) (RunsOn P image call text)) (Unlocks P lent) (Then (Locks Q lent) (RunsOn Q image call text))
            (Unlocks Q lent)
            (then-wider (Locks P lent) (RunsOn P image call text) (Locks Q lent) (RunsOn Q image call text)
            (locked-wider Stays Stays (same-way Stays) lent) (runs-wider image call text))
            (unlocked-wider Stays Stays (same-way Stays) lent) before after keeps ran),
      )
  does-wider image (command.Call call) result before after text keeps (inr (why, is, e, n)) =
      inr (
        why,
        is,
        e,
        record {
          locked = n.locked;
          refused = n.refused;
          others = n.others;
          in_order = n.in_order;
          does = then-wider (Then (Locks P n.locked) (NotLocked P n.refused why)) (Unlocks P n.locked)
              (Then (Locks Q n.locked) (NotLocked Q n.refused why)) (Unlocks Q n.locked)
              (then-wider (Locks P n.locked) (NotLocked P n.refused why) (Locks Q n.locked)
              (NotLocked Q n.refused why) (locked-wider Stays Stays (same-way Stays) n.locked) (comes-wider (vlock n.refused) (Err why)))
              (unlocked-wider Stays Stays (same-way Stays) n.locked) before after keeps n.does;
        },
      )
  does-wider image (command.Commit how) result before after text keeps (choice, chosen, comes, e, k) =
      (choice, wider before.failed after.failed choice chosen, comes, e, k)

-- Suppose that the allowed choices never let the count of failures fall to 0. Then commands after which the count is
-- 0 also run under the choices that are allowed while it stays 0

module _ (P Q : Allows) (back : (before now : ℕ) (choice : Choice) → P before now choice → now ≡ 0 → before ≡ 0)
    (wider : (before now : ℕ) → before ≡ 0 → now ≡ 0 → (choice : Choice) → P before now choice → Q before now choice)
    (mode : Mode) (image : Parts) where
  -- if the count is 0 after the transition, it was 0 before it
  abbrev Backs : Way → Type 0
  Backs W = (before after : Stage) (keeps : List Kept) → W before after keeps → after.failed ≡ 0 → before.failed ≡ 0

  -- a transition after which the count is 0 is also one under the other choices
  abbrev Stills : Way → Way → Type 0
  Stills V W = (before after : Stage) (keeps : List Kept) → after.failed ≡ 0 → V before after keeps → W before after keeps

  then-back : (V W : Way) → Backs V → Backs W → Backs (Then V W)
  then-back V W first second before after keeps (between, own, rest, v, w, e) zero = first before between own v (second between after rest w zero)

  then-still : (U V W X : Way) → Stills U W → Stills V X → Backs V → Stills (Then U V) (Then W X)
  then-still U V W X first second backs before after keeps zero (between, own, rest, u, v, e) =
      (between, own, rest, first before between own (backs between after rest v zero) u, second between after rest zero v, e)

  comes-back : {A : Type 0} (row : Call A) (result : Result A Refusal) → Backs (Comes P row result)
  comes-back row result before after keeps (choice, chosen, comes, e) zero = back before.failed after.failed choice chosen zero

  comes-still : {A : Type 0} (row : Call A) (result : Result A Refusal) → Stills (Comes P row result) (Comes Q row result)
  comes-still row result before after keeps zero (choice, chosen, comes, e) =
      (choice, wider before.failed after.failed (back before.failed after.failed choice chosen zero) zero choice chosen, comes, e)

  stays-back : Backs Stays
  stays-back before after keeps (same, e) zero = sym (ap (λ (s : Stage). s.failed) same) ∙ zero

  stays-still : Stills Stays Stays
  stays-still before after keeps zero w = w

  locked-back : (V : Way) → Backs V → (handles : List ℕ) → Backs (LockedBehind P V handles)
  locked-back V first [] = first
  locked-back V first (h ∷ handles) = locked-back (Then V (LocksOne P h))
      (then-back V (LocksOne P h) first (comes-back (vlock h) (Ok tt))) handles

  locked-still : (V W : Way) → Stills V W → (handles : List ℕ) → Stills (LockedBehind P V handles) (LockedBehind Q W handles)
  locked-still V W first [] = first
  locked-still V W first (h ∷ handles) =
      locked-still (Then V (LocksOne P h)) (Then W (LocksOne Q h))
      (then-still V (LocksOne P h) W (LocksOne Q h) first (comes-still (vlock h) (Ok tt)) (comes-back (vlock h) (Ok tt)))
      handles

  unlocked-back : (V : Way) → Backs V → (handles : List ℕ) → Backs (UnlockedBehind P V handles)
  unlocked-back V first [] = first
  unlocked-back V first (h ∷ handles) = unlocked-back (Then V (UnlocksOne P h))
      (then-back V (UnlocksOne P h) first (comes-back (vunlock h) (Ok tt))) handles

  unlocked-still : (V W : Way) → Stills V W → (handles : List ℕ) → Stills (UnlockedBehind P V handles) (UnlockedBehind Q W handles)
  unlocked-still V W first [] = first
  unlocked-still V W first (h ∷ handles) =
      unlocked-still (Then V (UnlocksOne P h)) (Then W (UnlocksOne Q h))
      (then-still V (UnlocksOne P h) W (UnlocksOne Q h) first (comes-still (vunlock h) (Ok tt))
      (comes-back (vunlock h) (Ok tt))) handles

  runs-back : (call : ScriptCall) (text : List ℕ) → Backs (RunsOn P image call text)
  runs-back call text before after keeps (outcome, ran, e, k, spares) zero =
      let first = some-choice (P before.failed after.failed) image call.routine call.words call.handles before.memory after.memory outcome ran in
      back before.failed after.failed first.0 first.1 zero

  runs-still : (call : ScriptCall) (text : List ℕ) → Stills (RunsOn P image call text) (RunsOn Q image call text)
  unfolding ran-wider
  runs-still call text before after keeps zero (outcome, ran, e, k, spares) = (
    outcome,
    ran-wider (P before.failed after.failed) (Q before.failed after.failed)
        (wider before.failed after.failed (runs-back call text before after keeps (outcome, ran, e, k, spares) zero) zero)
        image call.routine call.words call.handles before.memory after.memory outcome ran,
    e,
    k,
    spares,
  )

  does-back : (c : Command) (result : Result (Unit {0}) Refusal) (before after : Stage) (text : List ℕ) (keeps : List Kept)
      → Does P image c result before after text keeps → after.failed ≡ 0 → before.failed ≡ 0
  does-back (command.Call call) result before after text keeps (inl (done, ran)) none =
      let lent = lent_by image call in
      then-back (Then (Locks P lent) (RunsOn P image call text)) (Unlocks P lent)
      (then-back (Locks P lent) (RunsOn P image call text) (locked-back Stays stays-back lent) (runs-back call text))
      (unlocked-back Stays stays-back lent) before after keeps ran none
  does-back (command.Call call) result before after text keeps (inr (why, is, e, n)) none =
      then-back (Then (Locks P n.locked) (NotLocked P n.refused why)) (Unlocks P n.locked)
      (then-back (Locks P n.locked) (NotLocked P n.refused why) (locked-back Stays stays-back n.locked)
      (comes-back (vlock n.refused) (Err why)))
      (unlocked-back Stays stays-back n.locked) before after keeps n.does none
  does-back (command.Commit how) result before after text keeps (choice, chosen, comes, e, k) none =
      back before.failed after.failed choice chosen none

  prints-back : (commands : List Numbered) (before after : Stage) (text : List ℕ) (keeps : List Kept)
      → Prints mode P image commands before after text keeps
      → after.failed ≡ 0 → before.failed ≡ 0
  prints-back [] before after text keeps (none, same, no_kept) zero = sym (ap (λ (s : Stage). s.failed) same) ∙ zero
  prints-back (c ∷ commands) before after text keeps (between, own, others, kept, more, result, does, goes, rest, e, k) zero =
      does-back c.command result before between own kept does (prints-back commands between after others more rest zero)

  does-still : (c : Command) (result : Result (Unit {0}) Refusal) (before after : Stage) (text : List ℕ) (keeps : List Kept) → after.failed ≡ 0
      → Does P image c result before after text keeps → Does Q image c result before after text keeps
  does-still (command.Call call) result before after text keeps zero (inl (done, ran)) =
      let lent = lent_by image call in
      inl (
        done,
        (then-still (Then (Locks P lent) (RunsOn P image call text)) (Unlocks P lent) (Then (Locks Q lent) (RunsOn Q image call text))
            (Unlocks Q lent)
            (then-still (Locks P lent) (RunsOn P image call text) (Locks Q lent) (RunsOn Q image call text)
            (locked-still Stays Stays stays-still lent) (runs-still call text) (runs-back call text))
            (unlocked-still Stays Stays stays-still lent) (unlocked-back Stays stays-back lent) before after keeps zero ran),
      )
  does-still (command.Call call) result before after text keeps zero (inr (why, is, e, n)) =
      inr (
        why,
        is,
        e,
        record {
          locked = n.locked;
          refused = n.refused;
          others = n.others;
          in_order = n.in_order;
          does = then-still (Then (Locks P n.locked) (NotLocked P n.refused why)) (Unlocks P n.locked)
              (Then (Locks Q n.locked) (NotLocked Q n.refused why)) (Unlocks Q n.locked)
              (then-still (Locks P n.locked) (NotLocked P n.refused why) (Locks Q n.locked)
              (NotLocked Q n.refused why) (locked-still Stays Stays stays-still n.locked)
              (comes-still (vlock n.refused) (Err why)) (comes-back (vlock n.refused) (Err why)))
              (unlocked-still Stays Stays stays-still n.locked) (unlocked-back Stays stays-back n.locked) before after keeps zero n.does;
        },
      )
  does-still (command.Commit how) result before after text keeps zero (choice, chosen, comes, e, k) =
      (choice, wider before.failed after.failed (back before.failed after.failed choice chosen zero) zero choice chosen, comes, e, k)

  pub prints-still : (commands : List Numbered) (before after : Stage) (text : List ℕ) (keeps : List Kept) → after.failed ≡ 0
      → Prints mode P image commands before after text keeps → Prints mode Q image commands before after text keeps
  prints-still [] before after text keeps zero h = h
  prints-still (c ∷ commands) before after text keeps zero (between, own, others, kept, more, result, does, goes, rest, e, k) = (
    between,
    own,
    others,
    kept,
    more,
    result,
    does-still c.command result before between own kept (prints-back commands between after others more rest zero) does,
    goes,
    prints-still commands between after others more zero rest,
    e,
    k,
  )

  part-still : (commands : List Numbered) (before after : Stage) (text : List ℕ) (keeps : List Kept) → after.failed ≡ 0
      → PrintsPart mode P image commands before after text keeps → PrintsPart mode Q image commands before after text keeps
  part-still commands before after text keeps zero h = record {
    done = h.done;
    last = h.last;
    others = h.others;
    in_order = h.in_order;
    between = h.between;
    earlier = h.earlier;
    kept_earlier = h.kept_earlier;
    kept_last = h.kept_last;
    printed_earlier = prints-still h.done before h.between h.earlier h.kept_earlier
        (does-back h.last.command h.result h.between after (h.part ++ h.rest) h.kept_last h.does zero) h.printed_earlier;
    part = h.part;
    rest = h.rest;
    result = h.result;
    does = does-still h.last.command h.result h.between after (h.part ++ h.rest) h.kept_last zero h.does;
    not_all = h.not_all;
    written = h.written;
    kept = h.kept;
  }

  pub up_to-still : (commands : List Numbered) (before after : Stage) (text : List ℕ) (keeps : List Kept) → after.failed ≡ 0
      → PrintsUpTo mode P image commands before after text keeps → PrintsUpTo mode Q image commands before after text keeps
  up_to-still commands before after text keeps zero (inl h) = inl (part-still commands before after text keeps zero h)
  up_to-still commands before after text keeps zero (inr h) = inr (record {
    done = h.done;
    next = h.next;
    others = h.others;
    in_order = h.in_order;
    due = h.due;
    printed_all = prints-still h.done before after text keeps zero h.printed_all;
  })
