-- A write of only those bytes that the device does not have yet.
use Rattle.std.proofs.Common.{◌≡◌, ℕ, zero, suc, ◌+◌, ◌-◌, ◌≤◌, inl, inr, List, [], ◌∷◌, ◌++◌, length, take, drop, refl, ap, sym, ◌∙◌, subst, arith, length-take, length-drop}
use Rattle.std.proofs.Math.Seq.{drop-drop, take-add}
use Rattle.std.proofs.lemmas.List.{take-take, take-append-drop, take_all}
use Rattle.lmem_raw.specs.Bytes.{part, with_part}
use Rattle.vm_file.specs.Device.{AfterWrite, Medium, Touched}
use Rattle.vm_file.specs.Outcomes.{ReadsOnly, WritesOnly}
use Rattle.vm_file.proofs.Touches.{touched_not}

-- two parts that follow one another, in two lists
both_parts : (image bytes : List ℕ) (p q i j k m n : ℕ) → q ≡ p + m → j ≡ i + m → n ≡ m + k
    → take m (drop p image) ≡ take m (drop i bytes) → take k (drop q image) ≡ take k (drop j bytes)
    → take n (drop p image) ≡ take n (drop i bytes)
both_parts image bytes p q i j k m n q_is j_is n_is first second =
    let a : take k (drop m (drop p image)) ≡ take k (drop m (drop i bytes)) =
    ap (take k) (drop-drop m p image ∙ ap (λ z. drop z image) (sym q_is)) ∙ second ∙ ap (take k) (ap (λ z. drop z bytes) j_is ∙ sym (drop-drop m i bytes)) in
    ap (λ z. take z (drop p image)) n_is ∙ take-add m k (drop p image) ∙ ap (λ xs. xs ++ take k (drop m (drop p image))) first
    ∙ ap (λ xs. take m (drop i bytes) ++ xs) a ∙ sym (take-add m k (drop i bytes)) ∙ sym (ap (λ z. take z (drop i bytes)) n_is)

-- a piece has the length that was cut
piece_long : (bytes : List ℕ) (n k : ℕ) → n + k ≤ length bytes → length (take k (drop n bytes)) ≡ k
piece_long bytes n k fits = length-take k (drop n bytes) ∙ omega (arith, length-drop n bytes)

-- the device has one more piece at the front
pub front_more : (image bytes : List ℕ) (at n m : ℕ) → n ≤ m → m ≤ length bytes → part image at n ≡ take n bytes
    → part image (at + n) (length (take (m - n) (drop n bytes))) ≡ take (m - n) (drop n bytes) → part image at m ≡ take m bytes
front_more image bytes at n m le fits front piece =
    let there = ap (part image (at + n)) (sym (piece_long bytes n (m - n) (omega arith))) ∙ piece in
    both_parts image bytes at (at + n) 0 n (m - n) n m refl (omega arith) (omega arith) front there

-- the device has one more piece at the end
pub end_more : (image bytes : List ℕ) (at n m : ℕ) → m ≤ n → n ≤ length bytes
    → part image (at + m) (length (take (n - m) (drop m bytes))) ≡ take (n - m) (drop m bytes)
    → part image (at + n) (length bytes - n) ≡ drop n bytes → part image (at + m) (length bytes - m) ≡ drop m bytes
end_more image bytes at n m le fits piece rest =
    let whole : (j : ℕ) → take (length bytes - j) (drop j bytes) ≡ drop j bytes = λ j. take_all (length bytes - j) (drop j bytes)
    (omega (arith, length-drop j bytes)) in
    let there = ap (part image (at + m)) (sym (piece_long bytes m (n - m) (omega arith))) ∙ piece in
    both_parts image bytes (at + m) (at + n) m n (length bytes - n) (n - m) (length bytes - m) (omega arith) (omega arith) (omega arith) there
    (rest ∙ sym (whole n)) ∙ whole m

-- a write, if the device has the first bytes already
with_front : (image : List ℕ) (at p : ℕ) (xs ws : List ℕ) → p ≡ at + length xs → part image at (length xs) ≡ xs
    → with_part image p ws ≡ with_part image at (xs ++ ws)
with_front [] at p xs ws e s = refl
with_front (b ∷ image) zero zero [] ws e s = refl
with_front (b ∷ image) zero (suc p) [] ws e s = absurd (omega arith)
with_front (b ∷ image) zero zero (x ∷ xs) ws e s = absurd (omega arith)
with_front (b ∷ image) zero (suc p) (x ∷ xs) ws e s =
    let head : b ≡ x = cc in
    let tail : take (length xs) image ≡ xs = cc in
    ap (λ z. z ∷ with_part image p ws) head ∙ ap (λ l. x ∷ l) (with_front image zero p xs ws (omega arith) tail)
with_front (b ∷ image) (suc at) zero xs ws e s = absurd (omega arith)
with_front (b ∷ image) (suc at) (suc p) xs ws e s = ap (λ l. b ∷ l) (with_front image at p xs ws (omega arith) s)

-- a write of what the device has already
part_back : (image : List ℕ) (at : ℕ) (ws : List ℕ) → part image at (length ws) ≡ ws → with_part image at ws ≡ image
part_back [] at ws s = refl
part_back (b ∷ image) zero [] s = refl
part_back (b ∷ image) zero (w ∷ ws) s =
    let head : w ≡ b = cc in
    let tail : take (length ws) image ≡ ws = cc in
    ap (λ z. z ∷ with_part image zero ws) head ∙ ap (λ l. b ∷ l) (part_back image zero ws tail)
part_back (b ∷ image) (suc at) ws s = ap (λ l. b ∷ l) (part_back image at ws s)

-- a write, if the device has the last bytes already
with_end : (image : List ℕ) (at p : ℕ) (ws ys : List ℕ) → p ≡ at + length ws → part image p (length ys) ≡ ys
    → with_part image at ws ≡ with_part image at (ws ++ ys)
with_end [] at p ws ys e s = refl
with_end (b ∷ image) zero zero [] ys e s = sym (part_back (b ∷ image) zero ys s)
with_end (b ∷ image) zero (suc p) [] ys e s = absurd (omega arith)
with_end (b ∷ image) zero zero (w ∷ ws) ys e s = absurd (omega arith)
with_end (b ∷ image) zero (suc p) (w ∷ ws) ys e s = ap (λ l. w ∷ l) (with_end image zero p ws ys (omega arith) s)
with_end (b ∷ image) (suc at) zero ws ys e s = absurd (omega arith)
with_end (b ∷ image) (suc at) (suc p) ws ys e s = ap (λ l. b ∷ l) (with_end image at p ws ys (omega arith) s)

-- a write of what differs is a write of all
pub changes_written : (image bytes rest : List ℕ) (at a n : ℕ) → rest ≡ drop a bytes → a ≤ length bytes → n ≤ length rest
    → part image at a ≡ take a bytes → part image (at + a + n) (length rest - n) ≡ drop n rest
    → with_part image (at + a) (take n rest) ≡ with_part image at bytes
changes_written image bytes rest at a n is fits within front end =
    let front_long : length (take a bytes) ≡ a = length-take a bytes ∙ omega arith in
    let mid_long : length (take n rest) ≡ n = length-take n rest ∙ omega arith in
    with_end image (at + a) (at + a + n) (take n rest) (drop n rest) (omega (arith, mid_long))
    (ap (part image (at + a + n)) (length-drop n rest) ∙ end)
    ∙ ap (with_part image (at + a)) (take-append-drop n rest ∙ is)
    ∙ with_front image at (at + a) (take a bytes) (drop a bytes) (omega (arith, front_long)) (ap (part image at) front_long ∙ front)
    ∙ ap (with_part image at) (take-append-drop a bytes)

-- a range within another
touched_within : (at n p k : ℕ) (old new : List ℕ) → at ≤ p → p + k ≤ at + n → Touched p k old new → Touched at n old new
touched_within at n p k old new le fits t =
    let gap : p + k + (at + n - (p + k)) ≡ at + n = omega arith in
    record {
      long = t.long;
      before = sym (take-take at p new le) ∙ ap (take at) t.before ∙ take-take at p old le;
      behind = subst (λ j. drop j new ≡ drop j old) gap
          (sym (drop-drop (at + n - (p + k)) (p + k) new) ∙ ap (drop (at + n - (p + k))) t.behind ∙ drop-drop (at + n - (p + k)) (p + k) old);
    }

module _ {D : Type 0} (medium : Medium D) (at n : ℕ) where
  -- a call that reads, and one that writes within a range
  pub reads_write : (p k : ℕ) (a b c : D) → at ≤ p → p + k ≤ at + n → ReadsOnly medium a b → WritesOnly medium p k b c → WritesOnly medium at n a c
  reads_write p k a b c le fits r w =
      let after : medium.honest a → (x : List ℕ) → AfterWrite p k (medium.may_leave b) x → AfterWrite at n (medium.may_leave a) x =
      λ h x y. (y.0, r.stop h y.0 y.1, touched_within at n p k y.0 x le fits y.2) in
      record {
        long = w.long ∙ ap length r.same;
        stays = (λ h. w.stays (r.stays h));
        was = (λ h. r.was (w.was h));
        torn = (λ h. touched_within at n p k _ _ le fits (subst (λ x. Touched p k x (medium.image c)) r.same (w.torn (r.stays h))));
        stop = (λ h x l. after h x (w.stop (r.stays h) x l));
        time = (λ h d x l. (elim (w.time (r.stays h) d x l) [
          | inl past ↦ (elim (r.time h d x past) [ inl p ↦ inl p | inr now ↦ inr (x, now, touched_not at n x) ])
          | inr now ↦ inr (after h x now)
        ]));
      }
