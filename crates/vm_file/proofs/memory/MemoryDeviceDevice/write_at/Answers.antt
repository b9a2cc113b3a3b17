use Rattle.std.proofs.Common.{◌≡◌, ℕ, List, ◌++◌, length, take, drop, sym, subst, ap, ◌∙◌, refl, inl, inr}
use Rattle.std.proofs.lemmas.List.{take_at}
use Rattle.vm_file.specs.Device.{AfterWrite, Touched}
use Rattle.lmem_raw.specs.Bytes.{with_part}
use Rattle.lmem_raw.proofs.Parts.{length-with_part}
use Rattle.vm_file.proofs.Touches.{touched_part}
use Rattle.vm_file.proofs.memory.MemoryDeviceDevice.write_at.Goals as goal

-- what the vector has after the write
left_whole : (bs ws out : List ℕ) (at n : ℕ) → n ≡ length bs → out ≡ with_part bs at ws → take n (out ++ drop (length out) bs) ≡ with_part bs at ws
left_whole bs ws out at n e is = take_at out (drop (length out) bs) n (ap length is ∙ length-with_part bs at ws ∙ sym e) ∙ is

touched : (bs ws out : List ℕ) (at n : ℕ) → n ≡ length bs → out ≡ with_part bs at ws
    → Touched at (length ws) bs (take n (out ++ drop (length out) bs))
touched bs ws out at n e is = subst (Touched at (length ws) bs) (sym (left_whole bs ws out at n e is)) (touched_part at bs ws)

-- the bytes from before are a stop's, and a write touches them
after_write : (bs ws now : List ℕ) (at : ℕ) → Touched at (length ws) bs now → (c : List ℕ) → c ≡ now → AfterWrite at (length ws) (λ d. d ≡ bs) c
after_write bs ws now at t c is = (bs, refl, subst (Touched at (length ws) bs) (sym is) t)

pub returns-clause-writes : goal.returns-clause-writes
returns-clause-writes c =
    let bs = c.args.self.now.bytes.items in
    let ws = c.args.bytes.now in
    let t = touched bs ws c.write_part.new.bytes c.args.at c.args.self.now.bytes.len c.args.self.now.bytes.ok.0
    (rw c.deref_mut.ensures.value at c.write_part.ensures) in
    record {
      long = t.long;
      stays = (λ _. tt);
      was = (λ _. tt);
      torn = (λ _. t);
      stop = (λ _ image is. after_write bs ws _ c.args.at t image is);
      time = (λ _ s image is. elim is [ inl before ↦ inl (inl before) | inr now ↦ inr (after_write bs ws _ c.args.at t image now) ]);
    }
