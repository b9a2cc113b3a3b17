-- Reading and encoding rows are inverse.
use Rattle.std.proofs.Common.{◌≡◌, ℕ, zero, suc, Result, ◌+◌, ◌*◌, ◌^◌, ◌<◌, ◌≤◌, Bool, true, false, cond, List, [], ◌∷◌, ◌++◌, length, map, take, drop, All, Option, Some, None, Ok, refl, sym, ap, subst, ◌∙◌, inl, inr, lit<, arith}
use Rattle.std.specs.Prelude.{◌==◌, ◌||◌, ◌&&◌, nat_lt, nat_le, nat_eq}
use Rattle.std.specs.Cmp.Lexicographic.{pointwise, bytes_decides}
use Rattle.std.specs.List.{flat_map, list_all}
use Rattle.std.proofs.lemmas.Bool.{eqb-true, eq-eqb, leb-true, ltb-true, lt-ltb, le-ltb, ne_eqb, cases_lt, and_parts, agree_below_at}
use Rattle.std.proofs.lemmas.List.{length-append, length-drop, take-append-drop}
use Rattle.std.proofs.lemmas.List.Concat.{flat_map_single}
use Rattle.std.proofs.lemmas.List.Elements.{All-nil, All-cons, All-head, All-tail}
use Rattle.std.proofs.Math.Nat.{pow-suc}
use Rattle.std.proofs.Math.Seq.{take-append_seam}
use Rattle.geos_image.specs.declared.row.Row.{Row}
use Rattle.geos_image.specs.declared.row.Pointer.{Pointer}
use Rattle.geos_image.specs.declared.row.SlotState.{SlotState}
use Rattle.geos_image.specs.Legal.{is_own, is_pointer, is_row}
use Rattle.geos_image.specs.Ranges.{IsWord, PointerFits, RowFits}
use Rattle.geos_image.specs.Spelling.{word, flag, slot_code, pointer, pairs_byte, row}
use Rattle.geos_image.specs.Reading.{guard, byte_at, word_at, byte_below, word_below, items_at, slot_states, slot_of, slot_at, pointer_at, pairs_of, row_at}
use Rattle.geos_image.specs.Repeats.{are_same}
use Rattle.geos_image.proofs.SlotLaws.{slot_of_again}
use Rattle.geos_image.proofs.Steps.{ok_is, after, guard_ok, cond_ok, or_fault_ok, find_passes}
use Rattle.geos_image.proofs.Places.{plus, IsBytes, Takes, Takes-then, Left, Left-as, four_texts}
use Rattle.geos_image.proofs.NumberLaws.{byte_found, word_found, below_ok, unused_found, byte_again, word_again, byte_below_again, word_below_again}
use Rattle.geos_image.proofs.RunLaws.{items_found, items_again}

-- ---- slots

abbrev slot_text : SlotState → List ℕ
slot_text s = slot_code s ∷ []

slot_found : (borrows : Bool) (bytes : List ℕ) (at next : ℕ) (s : SlotState) → next ≡ at + 1 → slot_at borrows bytes at ≡ Ok s
    → Takes bytes at (slot_text s) next
unfolding slot_at
slot_found borrows bytes at next s e h =
    after (byte_at bytes at) _ s h (λ code read-code h.
    let found : slot_of borrows code ≡ Some s = or_fault_ok at (slot_of borrows code) s h in
    let spells : slot_code s ≡ code =
    eqb-true _ _ ((and_parts (slot_code s == code) (borrows || is_own s)
    (find_passes (λ state. slot_code state == code && (borrows || is_own state)) slot_states s found)).0) in
    subst (λ (k : ℕ). Takes bytes at (k ∷ []) next) (sym spells) (byte_found bytes at next code e read-code))

slot_again : (borrows : Bool) (bytes : List ℕ) (at next : ℕ) (s : SlotState) (rest : List ℕ) → next ≡ at + 1
    → (borrows || is_own s) ≡ true → Left bytes at (slot_text s ++ rest) → (slot_at borrows bytes at ≡ Ok s) × Left bytes next rest
unfolding slot_at
slot_again borrows bytes at next s rest e h l =
    let code = byte_again bytes at next _ _ e l in
    (rw (code.0, slot_of_again borrows s h) refl, code.1)

-- where slots may be borrowed or none is, that holds of each
each_own : (borrows : Bool) (slots : List SlotState) → (borrows || list_all is_own slots) ≡ true → All (λ s. (borrows || is_own s) ≡ true) slots
each_own borrows [] h = All-nil (λ s. (borrows || is_own s) ≡ true)
each_own true (s ∷ slots) h = All-cons (λ s. (true || is_own s) ≡ true) s slots refl (each_own true slots refl)
each_own false (s ∷ slots) h =
    let parts = and_parts (is_own s) (list_all is_own slots) h in
    All-cons (λ s. (false || is_own s) ≡ true) s slots parts.0 (each_own false slots parts.1)

-- ---- pointers

stale_none : (slot least : ℕ) → slot ≡ 255 → least < cond (slot == 255) 1 65536 → least ≡ 0
stale_none slot least e below =
    let lt : least < 1 = subst (λ (b : Bool). least < cond b 1 65536) (eq-eqb slot 255 e) below in
    omega arith

-- a slot is one of four, or stale with no length
pointer_is : (bytes : List ℕ) (at next slot least : ℕ) (p : Option Pointer) → (nat_lt slot 4 || slot == 255) ≡ true
    → least < cond (slot == 255) 1 65536
    → cond (nat_lt slot 4) (Some (record { slot = slot; least = least })) None ≡ p → Takes bytes at (slot ∷ 0 ∷ word least) next
    → Takes bytes at (pointer p) next
pointer_is bytes at next slot least p known below made takes =
    elim (cases_lt slot 4) [
      | inl lt ↦
          let made-some = rw (lt-ltb slot 4 lt) at made in
          subst (λ (q : Option Pointer). Takes bytes at (pointer q) next) made-some takes
      | inr ge ↦
          let test = rw (le-ltb slot 4 ge) at known in
          let stale : slot ≡ 255 = eqb-true slot 255 test in
          let none : least ≡ 0 = stale_none slot least stale below in
          let made-none = rw (le-ltb slot 4 ge) at made in
          subst (λ (q : Option Pointer). Takes bytes at (pointer q) next) made-none
          (subst (λ (k : ℕ). Takes bytes at (255 ∷ 0 ∷ word k) next) none (subst (λ (k : ℕ). Takes bytes at (k ∷ 0 ∷ word least) next) stale takes))
    ]

-- the bytes of a pointer that was read are its encoding
pointer_found : (bytes : List ℕ) → IsBytes bytes → (at next : ℕ) (p : Option Pointer) → next ≡ at + 4
    → pointer_at bytes at ≡ Ok p → Takes bytes at (pointer p) next
unfolding pointer_at
pointer_found bytes fits at next p e h =
    after (byte_at bytes at) _ p h (λ slot read-slot h.
    after (guard at (nat_lt slot 4 || slot == 255)) _ p h (λ known read-known h.
    after (byte_below 1 bytes (at + 1)) _ p h (λ unused read-unused h.
    after (word_below (cond (slot == 255) 1 65536) bytes (at + 2)) _ p h (λ least read-least h.
    let below = below_ok _ (at + 2) (word_at bytes (at + 2)) least read-least in
    let takes-slot = byte_found bytes at (at + 1) slot refl read-slot in
    let takes-unused = unused_found bytes (at + 1) (at + 2) unused (plus at 1 1) read-unused in
    let takes-least = word_found bytes fits (at + 2) next least (e ∙ plus at 2 2) below.0 in
    pointer_is bytes at next slot least p (guard_ok at _ known read-known) below.1 (ok_is _ p h)
    (Takes-then (Takes-then takes-slot takes-unused) takes-least)))))

pointer_again : (bytes : List ℕ) (at next : ℕ) (p : Option Pointer) (rest : List ℕ) → next ≡ at + 4 → (is_pointer p ≡ true)
    × PointerFits p → Left bytes at (pointer p ++ rest) → (pointer_at bytes at ≡ Ok p) × Left bytes next rest
unfolding pointer_at
pointer_again bytes at next None rest e legal l =
    let slot = byte_again bytes at (at + 1) 255 _ refl l in
    let unused = byte_below_again 1 bytes (at + 1) (at + 2) 0 _ (plus at 1 1) (omega arith) slot.1 in
    let least = word_below_again 1 bytes (at + 2) next 0 rest (e ∙ plus at 2 2) (omega arith) (omega arith) unused.1 in
    (rw (slot.0, unused.0, least.0) refl, least.1)
pointer_again bytes at next (Some p) rest e legal l =
    let low = legal.0 in
    let lt : p.slot < 4 = ltb-true p.slot 4 low in
    let fresh : (p.slot == 255) ≡ false = ne_eqb p.slot 255 (λ same. omega arith) in
    let slot = byte_again bytes at (at + 1) p.slot _ refl l in
    let unused = byte_below_again 1 bytes (at + 1) (at + 2) 0 _ (plus at 1 1) (omega arith) slot.1 in
    let least = word_below_again 65536 bytes (at + 2) next p.least rest (e ∙ plus at 2 2) legal.1 legal.1 unused.1 in
    (rw (slot.0, low, fresh, unused.0, least.0) refl, least.1)

-- ---- pairs

pairs_found : (n : ℕ) → n < 64 → pairs_byte (pairs_of n) ≡ n
pairs_found n lt = eqb-true _ _ (agree_below_at (λ k. pairs_byte (pairs_of k) == k) (λ _. true) 64 n refl lt)

one_pair : (a b : Bool) (m n : ℕ) → flag a + 2 * m ≡ flag b + 2 * n → (a ≡ b) × (m ≡ n)
one_pair true true m n e = (refl, omega arith)
one_pair false false m n e = (refl, omega arith)
one_pair true false m n e = absurd (omega arith)
one_pair false true m n e = absurd (omega arith)

-- two lists of pairs with the same byte are equal
same_pairs : (xs ys : List Bool) → length xs ≡ length ys → pairs_byte xs ≡ pairs_byte ys → xs ≡ ys
same_pairs [] [] len e = refl
same_pairs [] (y ∷ ys) len e = absurd (omega arith)
same_pairs (x ∷ xs) [] len e = absurd (omega arith)
same_pairs (x ∷ xs) (y ∷ ys) len e =
    let p = one_pair x y (pairs_byte xs) (pairs_byte ys) e in
    let tails = same_pairs xs ys (omega arith) p.1 in
    cc p.0

flag_le : (b : Bool) → flag b ≤ 1
flag_le true = omega arith
flag_le false = omega arith

pairs_lt : (pairs : List Bool) → pairs_byte pairs < 2 ^ length pairs
pairs_lt [] = omega arith
pairs_lt (b ∷ pairs) = omega (arith, flag_le b, pairs_lt pairs, pow-suc 2 (length pairs))

pairs_again : (pairs : List Bool) → length pairs ≡ 6 → (pairs_byte pairs < 64) × (pairs_of (pairs_byte pairs) ≡ pairs)
pairs_again pairs len =
    let lt : pairs_byte pairs < 64 = subst (λ (k : ℕ). pairs_byte pairs < 2 ^ k) len (pairs_lt pairs) in
    (lt, same_pairs (pairs_of (pairs_byte pairs)) pairs (sym len) (pairs_found (pairs_byte pairs) lt))

-- ---- rows

-- the bytes of a row that was read are its encoding
pub row_found : (borrows : Bool) (bytes : List ℕ) → IsBytes bytes → (at next : ℕ) (r : Row) → next ≡ at + 38
    → row_at borrows bytes at ≡ Ok r → Takes bytes at (row r) next
unfolding row_at
row_found borrows bytes fits at next r e h =
    after (items_at (word_at bytes) 2 8 at) _ r h (λ bounds read-bounds h.
    after (items_at (slot_at borrows bytes) 1 4 (at + 16)) _ r h (λ slots read-slots h.
    after (items_at (pointer_at bytes) 4 4 (at + 20)) _ r h (λ pointers read-pointers h.
    after (byte_below 64 bytes (at + 36)) _ r h (λ pairs read-pairs h.
    after (byte_below 1 bytes (at + 37)) _ r h (λ unused read-unused h.
    let read : Row = record { bounds = bounds; slots = slots; pointers = pointers; pairs = pairs_of pairs } in
    let takes-bounds = items_found bytes (word_at bytes) word 2 (word_found bytes fits) 8 at (at + 16) bounds refl read-bounds in
    let takes-slots = items_found bytes (slot_at borrows bytes) slot_text 1 (slot_found borrows bytes) 4 (at + 16)
    (at + 20) slots (plus at 16 4) read-slots in
    let takes-states = subst (λ (t : List ℕ). Takes bytes (at + 16) t (at + 20)) (flat_map_single slot_code slots) takes-slots.0 in
    let takes-pointers = items_found bytes (pointer_at bytes) pointer 4 (pointer_found bytes fits) 4 (at + 20)
    (at + 36) pointers (plus at 20 16) read-pointers in
    let below = below_ok 64 (at + 36) (byte_at bytes (at + 36)) pairs read-pairs in
    let takes-byte = byte_found bytes (at + 36) (at + 37) pairs (plus at 36 1) below.0 in
    let takes-pairs = subst (λ (k : ℕ). Takes bytes (at + 36) (k ∷ []) (at + 37)) (sym (pairs_found pairs below.1)) takes-byte in
    let takes-unused = unused_found bytes (at + 37) next unused (e ∙ plus at 37 1) read-unused in
    subst (λ (q : Row). Takes bytes at (row q) next) (ok_is read r h)
    (Takes-then (Takes-then (Takes-then takes-bounds.0 takes-states) takes-pointers.0) (Takes-then takes-pairs takes-unused)))))))

-- a row of the right shape whose pointers lead into slots
record Shape (borrows : Bool) (r : Row) : Type 0 where
  own : (borrows || list_all is_own r.slots) ≡ true
  bounds : length r.bounds ≡ 8
  slots : length r.slots ≡ 4
  four : length r.pointers ≡ 4
  pairs : length r.pairs ≡ 6
  legal : list_all is_pointer r.pointers ≡ true

row_shape : (borrows : Bool) (r : Row) → is_row borrows r ≡ true → Shape borrows r
row_shape borrows r h =
    let bounds = length r.bounds == 8 in
    let slots = length r.slots == 4 in
    let four = length r.pointers == 4 in
    let pairs = length r.pairs == 6 in
    let own = borrows || list_all is_own r.slots in
    let p = and_parts (own && (bounds && slots && four && pairs)) (list_all is_pointer r.pointers) h in
    let o = and_parts own (bounds && slots && four && pairs) p.0 in
    let q = and_parts (bounds && slots && four) pairs o.1 in
    let s = and_parts (bounds && slots) four q.0 in
    let t = and_parts bounds slots s.0 in
    record { own = o.0; bounds = eqb-true _ _ t.0; slots = eqb-true _ _ t.1; four = eqb-true _ _ s.1; pairs = eqb-true _ _ q.1; legal = p.1 }

-- what is known of each pointer
both_all : (pointers : List (Option Pointer)) → list_all is_pointer pointers ≡ true → All PointerFits pointers
    → All (λ p. (is_pointer p ≡ true) × PointerFits p) pointers
both_all [] legal fits = All-nil (λ p. (is_pointer p ≡ true) × PointerFits p)
both_all (p ∷ pointers) legal fits =
    let parts = and_parts (is_pointer p) (list_all is_pointer pointers) legal in
    All-cons (λ q. (is_pointer q ≡ true) × PointerFits q) p pointers (parts.0, All-head PointerFits p pointers fits)
    (both_all pointers parts.1 (All-tail PointerFits p pointers fits))

-- the encoding of a row is read as the row
pub row_again : (borrows : Bool) (bytes : List ℕ) (at next : ℕ) (r : Row) (rest : List ℕ) → next ≡ at + 38
    → is_row borrows r ≡ true → RowFits r → Left bytes at (row r ++ rest) → (row_at borrows bytes at ≡ Ok r) × Left bytes next rest
unfolding row_at
row_again borrows bytes at next r rest e legal fits l =
    let shape = row_shape borrows r legal in
    let six = pairs_again r.pairs shape.pairs in
    let slot-texts : map slot_code r.slots ≡ flat_map slot_text r.slots = sym (flat_map_single slot_code r.slots) in
    let end = pairs_byte r.pairs ∷ 0 ∷ [] in
    let texts = four_texts (flat_map word r.bounds) (map slot_code r.slots) (flat_map pointer r.pointers) end rest in
    let one-kind = ap (λ (t : List ℕ). flat_map word r.bounds ++ (t ++ (flat_map pointer r.pointers ++ (end ++ rest)))) slot-texts in
    let left = Left-as (texts ∙ one-kind) l in
    let bounds = items_again bytes (word_at bytes) word 2 IsWord (word_again bytes) r.bounds 8 at (at + 16) _ shape.bounds refl fits.bounds left in
    let slots = items_again bytes (slot_at borrows bytes) slot_text 1 (λ s. (borrows || is_own s) ≡ true)
    (slot_again borrows bytes) r.slots 4 (at + 16) (at + 20) _ shape.slots (plus at 16 4) (each_own borrows r.slots shape.own) bounds.1 in
    let pointers = items_again bytes (pointer_at bytes) pointer 4 (λ p. (is_pointer p ≡ true) × PointerFits p)
    (pointer_again bytes) r.pointers 4 (at + 20) (at + 36) _ shape.four (plus at 20 16) (both_all r.pointers shape.legal fits.pointers) slots.1 in
    let pairs = byte_below_again 64 bytes (at + 36) (at + 37) (pairs_byte r.pairs) _ (plus at 36 1) six.0 pointers.1 in
    let unused = byte_below_again 1 bytes (at + 37) next 0 rest (e ∙ plus at 37 1) (lit< tt) pairs.1 in
    (rw (bounds.0, slots.0, pointers.0, pairs.0, unused.0, six.1) refl, unused.1)

-- ---- numbers that were read

-- what holds of each one that is read holds of a run of them
items_fit : {A : Type 0} (read : ℕ → Result A ℕ) (width : ℕ) (P : A → Type 0) → ((at : ℕ) (x : A) → read at ≡ Ok x → P x)
    → (n at : ℕ) (xs : List A) → items_at read width n at ≡ Ok xs → All P xs
items_fit read width P each zero at xs h = subst (λ ys. All P ys) (ok_is [] xs h) (All-nil P)
items_fit read width P each (suc n) at xs h =
    after (read at) _ xs h (λ first read-first h.
    after (items_at read width n (at + width)) _ xs h (λ others read-others h.
    subst (λ ys. All P ys) (ok_is (first ∷ others) xs h)
    (All-cons P first others (each at first read-first) (items_fit read width P each n (at + width) others read-others))))

word_fits : (bytes : List ℕ) → IsBytes bytes → (at n : ℕ) → word_at bytes at ≡ Ok n → IsWord n
word_fits bytes fits at n h =
    let g = cond_ok _ _ _ n h in
    subst IsWord g.1 (omega (arith, fits at, fits (at + 1)))

pointer_made : (known : Bool) (slot least : ℕ) (p : Option Pointer) → IsWord least
    → cond known (Some (record { slot = slot; least = least })) None ≡ p → PointerFits p
pointer_made true slot least p fits made = subst PointerFits made fits
pointer_made false slot least p fits made = subst PointerFits made tt

pointer_fits : (bytes : List ℕ) → IsBytes bytes → (at : ℕ) (p : Option Pointer) → pointer_at bytes at ≡ Ok p → PointerFits p
unfolding pointer_at
pointer_fits bytes fits at p h =
    after (byte_at bytes at) _ p h (λ slot read-slot h.
    after (guard at (nat_lt slot 4 || slot == 255)) _ p h (λ known read-known h.
    after (byte_below 1 bytes (at + 1)) _ p h (λ unused read-unused h.
    after (word_below (cond (slot == 255) 1 65536) bytes (at + 2)) _ p h (λ least read-least h.
    let below = below_ok _ (at + 2) (word_at bytes (at + 2)) least read-least in
    pointer_made (nat_lt slot 4) slot least p (word_fits bytes fits (at + 2) least below.0) (ok_is _ p h)))))

-- a row that was read has words for numbers
pub row_fits : (borrows : Bool) (bytes : List ℕ) → IsBytes bytes → (at : ℕ) (r : Row) → row_at borrows bytes at ≡ Ok r → RowFits r
unfolding row_at
row_fits borrows bytes fits at r h =
    after (items_at (word_at bytes) 2 8 at) _ r h (λ bounds read-bounds h.
    after (items_at (slot_at borrows bytes) 1 4 (at + 16)) _ r h (λ slots read-slots h.
    after (items_at (pointer_at bytes) 4 4 (at + 20)) _ r h (λ pointers read-pointers h.
    after (byte_below 64 bytes (at + 36)) _ r h (λ pairs read-pairs h.
    after (byte_below 1 bytes (at + 37)) _ r h (λ unused read-unused h.
    let read : Row = record { bounds = bounds; slots = slots; pointers = pointers; pairs = pairs_of pairs } in
    let fine : RowFits read = record {
      bounds = items_fit (word_at bytes) 2 IsWord (word_fits bytes fits) 8 at bounds read-bounds;
      pointers = items_fit (pointer_at bytes) 4 PointerFits (pointer_fits bytes fits) 4 (at + 20) pointers read-pointers;
    } in
    subst RowFits (ok_is read r h) fine)))))

-- ---- bytes that are the same

-- if the bytes at two offsets are the same, the row that is read at the first is also read at the second
pub row_alike : (borrows : Bool) (bytes : List ℕ) → IsBytes bytes → (before at : ℕ) (r : Row) → before ≤ at → is_row borrows r ≡ true
    → are_same bytes before at ≡ true → row_at borrows bytes before ≡ Ok r → row_at borrows bytes at ≡ Ok r
row_alike borrows bytes fits before at r order legal alike read =
    let first = take 38 (drop before bytes) in
    let second = take 38 (drop at bytes) in
    let tests = and_parts (nat_le (at + 38) (length bytes)) (pointwise nat_eq first second) alike in
    let within : at + 38 ≤ length bytes = leb-true (at + 38) (length bytes) tests.0 in
    let same : first ≡ second = (bytes_decides first second).0 tests.1 in
    let rest = drop (before + 38) bytes in
    let behind = drop 38 (drop at bytes) in
    let found : drop before bytes ≡ row r ++ rest = (row_found borrows bytes fits before (before + 38) r refl read).parts in
    let len : length (row r) ≡ 38 =
    omega (arith, order, within, length-drop before bytes, length-drop (before + 38) bytes, ap length found, length-append (row r) rest) in
    let text : first ≡ row r = ap (take 38) found
    ∙ subst (λ (k : ℕ). take k (row r ++ rest) ≡ row r) len (take-append_seam (row r) rest) in
    let here : drop at bytes ≡ row r ++ behind = sym (take-append-drop 38 (drop at bytes))
    ∙ ap (λ (t : List ℕ). t ++ behind) (sym same ∙ text) in
    let within_bytes : at ≤ length bytes = omega (arith, within) in
    (row_again borrows bytes at (at + 38) r behind refl legal (row_fits borrows bytes fits before r read)
    (record { within = within_bytes; parts = here })).0
