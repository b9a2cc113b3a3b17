use Rattle.std.proofs.Common.{◌≡◌, ◌∙◌, ◌+◌, ◌<◌, ◌≤◌, slice_index, List, ◌∷◌, length, arith, Vec, Global, ap, reverse, subst, sym, take, rules, ℕ}
use Rattle.vm_file.specs.Device.{Touched}
use Rattle.cached_device.proofs.Choices.{Writes, refilled, chosen_written, chosen_synced, taken_more}
use Rattle.cached_device.specs.History.{Leaves, bytes_of}
use Rattle.cached_device.specs.Stopped.{IsChosen, chosen}
use Rattle.cached_device.specs.declared.event.Event.{Event}
use Rattle.cached_device.specs.declared.event.Event.TheVariants.{Written, Synced}
use Rattle.cached_device.proofs.device.CachedDevice.after_stop.Goals.{in-Written, in-Synced+in_ok-bytes-in-Synced}
use Rattle.cached_device.proofs.device.CachedDevice.after_stop.Goals as goal

pub loop-event-preserved : goal.loop-event-preserved
loop-event-preserved c =
    let device = c.args.self.now in
    let start = device.start.items in
    let k = c.loop-event.event-index in
    let parts = c.args.parts.now in
    let items : c.deref-event-items.result.now ≡ device.events.items = c.deref-event-items.ensures.value in
    let short : k < length device.events.items = omega (arith, ap length items) in
    elim c.match-event.branch [
      | in-Written w ↦
          let at = w.in-Written.at in
          let n = w.in-Written.n in
          let more : reverse (take (k + 1) device.events.items) ≡ Written at n ∷ reverse (take k device.events.items) =
          taken_more device.events.items k (Written at n) short (cc (w.in-Written.is, c.event-item.is, items)) in
          let touched : Touched at n c.loop-event.bytes.items w.leave.new.bytes =
          subst (λ (xs : List ℕ). Touched at n xs w.leave.new.bytes) w.deref_mut.ensures.value w.leave.ensures.touched in
          let image : c.match-event.bytes.items ≡ w.leave.new.bytes =
          ap (λ (v : Vec ℕ Global). v.items) w.bytes-is ∙ refilled c.loop-event.bytes.len w.leave.new.bytes c.loop-event.bytes.items touched.long
          (omega (arith, w.deref_mut.ensures.len, ap length w.deref_mut.ensures.value)) in
          let writes : Writes (bytes_of device) parts at n c.loop-event.bytes.items w.leave.new.bytes = record {
            touched = touched;
            left = (let P : List ℕ → List ℕ → Type 0 = λ now old. (i : ℕ) → at ≤ i → i < at + n → i < length old
                → slice_index w.leave.new.bytes i ≡ chosen parts now old i in
                subst (λ (xs : List ℕ). P (bytes_of device) xs) w.deref_mut.ensures.value
                (subst (λ (xs : List ℕ). P xs w.deref_mut.result.now) w.as_slice.ensures w.leave.ensures.left));
          } in
          let now_chosen : IsChosen (bytes_of device) start (Written at n ∷ reverse (take k device.events.items)) parts w.leave.new.bytes =
          chosen_written (bytes_of device) start (reverse (take k device.events.items)) parts at n c.loop-event.bytes.items
          w.leave.new.bytes writes c.loop-event.invariant.chosen in
          record {
            possible = subst (λ (es : List Event). Leaves start es c.match-event.bytes.items) (sym more) (
              c.loop-event.bytes.items,
              c.loop-event.invariant.possible,
              subst (λ (xs : List ℕ). Touched at n c.loop-event.bytes.items xs)
                  (sym image) touched,
            );
            chosen = subst (λ (es : List Event). IsChosen (bytes_of device) start es parts c.match-event.bytes.items) (sym more)
                (subst (λ (xs : List ℕ). IsChosen (bytes_of device) start (Written at n ∷ reverse (take k device.events.items)) parts xs)
                (sym image) now_chosen);
          }
      | in-Synced+in_ok-bytes-in-Synced w ↦
          let lasting = w.in-Synced.lasting in
          let more : reverse (take (k + 1) device.events.items) ≡ Synced lasting ∷ reverse (take k device.events.items) =
          taken_more device.events.items k (Synced lasting) short (cc (w.in-Synced.is, c.event-item.is, items)) in
          let image : c.match-event.bytes.items ≡ lasting.items = ap (λ (v : Vec ℕ Global). v.items) w.bytes-is ∙ search rules in
          record {
            possible = subst (λ (es : List Event). Leaves start es c.match-event.bytes.items) (sym more) image;
            chosen = subst (λ (es : List Event). IsChosen (bytes_of device) start es parts c.match-event.bytes.items) (sym more)
                (chosen_synced (bytes_of device) start (reverse (take k device.events.items)) parts lasting c.match-event.bytes.items image);
          }
    ]
