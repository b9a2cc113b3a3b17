-- Reading and encoding the header and the routines are inverse.
use Rattle.std.proofs.Common.{◌≡◌, ℕ, zero, suc, ◌+◌, ◌*◌, ◌<◌, ◌≤◌, Bool, true, false, List, [], ◌∷◌, ◌++◌, length, take, drop, All, Ok, refl, sym, ap, subst, ◌∙◌, append_assoc, lit<, arith}
use Rattle.std.specs.Prelude.{◌==◌, ◌&&◌, not, nat_lt, nat_le}
use Rattle.std.specs.List.{flat_map}
use Rattle.std.proofs.lemmas.Bool.{and_parts, not-true, le-leb}
use Rattle.std.proofs.lemmas.List.{append-nil, take-append-drop, drop-drop, take_at, drop_at, length-append, length-drop}
use Rattle.std.proofs.lemmas.List.Elements.{All-head, All-tail}
use Rattle.std.proofs.lemmas.List.Sums.{sum_by-cons}
use Rattle.geos_image.specs.declared.routine.Routine.{Routine}
use Rattle.geos_image.specs.Parts.{total_count}
use Rattle.geos_image.specs.Legal.{is_name, is_named, is_row, is_routine, are_routines}
use Rattle.geos_image.specs.Ranges.{RoutineFits}
use Rattle.geos_image.specs.Spelling.{word, long, flag, row, routine}
use Rattle.geos_image.specs.Reading.{guard, byte_at, word_at, long_at, byte_below, row_at, name_at, count_at, routine_at, routines_at}
use Rattle.geos_image.proofs.Steps.{ok_is, after, cond_ok}
use Rattle.geos_image.proofs.Places.{plus, behind_first, no_more, IsBytes, Takes, Takes-none, Takes-then, Left, Left-as, six_texts}
use Rattle.geos_image.proofs.NumberLaws.{byte_found, word_found, long_found, below_ok, unused_found, byte_below_again, word_again, long_again}
use Rattle.geos_image.proofs.RunLaws.{takes_more, left_more}
use Rattle.geos_image.proofs.RowLaws.{row_found, row_again}
use Rattle.geos_image.proofs.Pushes.{total_count-push}

-- ---- names

name_found : (earlier : List Routine) (bytes : List ℕ) (at next : ℕ) (name : List ℕ) → next ≡ at + 16
    → name_at earlier bytes at ≡ Ok name → Takes bytes at name next
unfolding name_at
name_found earlier bytes at next name e h =
    let g = cond_ok _ at (take 16 (drop at bytes)) name h in
    let parts : drop at bytes ≡ take 16 (drop at bytes) ++ drop next bytes = sym (take-append-drop 16 (drop at bytes))
    ∙ ap (λ (t : List ℕ). take 16 (drop at bytes) ++ t) (drop-drop 16 at bytes ∙ ap (λ (k : ℕ). drop k bytes) (sym e)) in
    subst (λ (t : List ℕ). Takes bytes at t next) g.1 (record { parts = parts })

name_again : (earlier : List Routine) (bytes : List ℕ) (at next : ℕ) (name rest : List ℕ) → next ≡ at + 16
    → length name ≡ 16 → is_name name ≡ true → is_named name earlier ≡ false → Left bytes at (name ++ rest)
    → (name_at earlier bytes at ≡ Ok name) × Left bytes next rest
unfolding name_at
name_again earlier bytes at next name rest e len good fresh l =
    let long-enough : length (drop at bytes) ≡ length name + length rest = ap length l.parts ∙ length-append name rest in
    let within : at + 16 ≤ length bytes = omega (arith, length-drop at bytes, l.within) in
    let front : take 16 (drop at bytes) ≡ name = ap (take 16) l.parts ∙ take_at name rest 16 len in
    let behind : drop next bytes ≡ rest = ap (λ (k : ℕ). drop k bytes) e ∙ sym (drop-drop 16 at bytes) ∙ ap (drop 16) l.parts
    ∙ drop_at name rest 16 len in
    (rw (front, le-leb (at + 16) (length bytes) within, good, fresh) refl, record { within = omega arith; parts = behind })

-- ---- one routine

flag_found : (bytes : List ℕ) (at next n : ℕ) → n < 2 → Takes bytes at (n ∷ []) next → Takes bytes at (flag (n == 1) ∷ []) next
flag_found bytes at next zero lt t = t
flag_found bytes at next (suc zero) lt t = t
flag_found bytes at next (suc (suc n)) lt t = absurd (omega arith)

flag_again : (b : Bool) → (flag b < 2) × ((flag b == 1) ≡ b)
flag_again true = (omega arith, refl)
flag_again false = (omega arith, refl)

count_found : (earlier : List Routine) (bytes : List ℕ) → IsBytes bytes → (at next n : ℕ) → next ≡ at + 2
    → count_at earlier bytes at ≡ Ok n → Takes bytes at (word n) next
unfolding count_at
count_found earlier bytes fits at next n e h =
    after (word_at bytes at) _ n h (λ count read-count h.
    after (guard at (nat_lt 0 count && nat_le (total_count earlier + count) 4096)) _ n h (λ test tested h.
    subst (λ (k : ℕ). Takes bytes at (word k) next) (ok_is count n h) (word_found bytes fits at next count e read-count)))

count_again : (earlier : List Routine) (bytes : List ℕ) (at next n : ℕ) (rest : List ℕ) → next ≡ at + 2 → nat_lt 0 n ≡ true
    → total_count earlier + n ≤ 4096 → Left bytes at (word n ++ rest)
    → (count_at earlier bytes at ≡ Ok n) × Left bytes next rest
unfolding count_at
count_again earlier bytes at next n rest e some room l =
    let count = word_again bytes at next n rest e (omega arith) l in
    (rw (count.0, some, le-leb (total_count earlier + n) 4096 room) refl, count.1)

routine_found : (borrows : Bool) (earlier : List Routine) (bytes : List ℕ) → IsBytes bytes → (at next : ℕ) (r : Routine)
    → next ≡ at + 100 → routine_at borrows earlier bytes at ≡ Ok r → Takes bytes at (routine r) next
unfolding routine_at
routine_found borrows earlier bytes fits at next r e h =
    after (name_at earlier bytes at) _ r h (λ name read-name h.
    after (byte_below 2 bytes (at + 16)) _ r h (λ public read-public h.
    after (byte_below 1 bytes (at + 17)) _ r h (λ unused read-unused h.
    after (count_at earlier bytes (at + 18)) _ r h (λ count read-count h.
    after (long_at bytes (at + 20)) _ r h (λ budget read-budget h.
    after (row_at borrows bytes (at + 24)) _ r h (λ entry read-entry h.
    after (row_at borrows bytes (at + 62)) _ r h (λ exit read-exit h.
    let read : Routine = record { name = name; public = public == 1; count = count; budget = budget; entry = entry; exit = exit } in
    let below = below_ok 2 (at + 16) (byte_at bytes (at + 16)) public read-public in
    let takes-name = name_found earlier bytes at (at + 16) name refl read-name in
    let takes-flag = flag_found bytes (at + 16) (at + 17) public below.1 (byte_found bytes (at + 16) (at + 17) public (plus at 16 1) below.0) in
    let takes-unused = unused_found bytes (at + 17) (at + 18) unused (plus at 17 1) read-unused in
    let takes-count = count_found earlier bytes fits (at + 18) (at + 20) count (plus at 18 2) read-count in
    let takes-budget = long_found bytes fits (at + 20) (at + 24) budget (plus at 20 4) read-budget in
    let takes-entry = row_found borrows bytes fits (at + 24) (at + 62) entry (plus at 24 38) read-entry in
    let takes-exit = row_found borrows bytes fits (at + 62) next exit (e ∙ plus at 62 38) read-exit in
    let front = Takes-then (Takes-then takes-name (Takes-then takes-flag takes-unused)) takes-count in
    subst (λ (q : Routine). Takes bytes at (routine q) next) (ok_is read r h)
    (Takes-then (Takes-then (Takes-then front takes-budget) takes-entry) takes-exit))))))))

-- the parts of the rule for routines
record RoutineParts (borrows : Bool) (earlier : List Routine) (r : Routine) : Type 0 where
  name : is_name r.name ≡ true
  fresh : is_named r.name earlier ≡ false
  some : nat_lt 0 r.count ≡ true
  entry : is_row borrows r.entry ≡ true
  exit : is_row borrows r.exit ≡ true

routine_parts : (borrows : Bool) (earlier : List Routine) (r : Routine) → is_routine borrows earlier r ≡ true → RoutineParts borrows earlier r
routine_parts borrows earlier r h =
    let name = is_name r.name in
    let fresh = not (is_named r.name earlier) in
    let some = nat_lt 0 r.count in
    let p = and_parts (name && fresh && some && is_row borrows r.entry) (is_row borrows r.exit) h in
    let q = and_parts (name && fresh && some) (is_row borrows r.entry) p.0 in
    let s = and_parts (name && fresh) some q.0 in
    let t = and_parts name fresh s.0 in
    record { name = t.0; fresh = not-true (is_named r.name earlier) t.1; some = s.1; entry = q.1; exit = p.1 }

routine_again : (borrows : Bool) (earlier : List Routine) (bytes : List ℕ) (at next : ℕ) (r : Routine) (rest : List ℕ)
    → next ≡ at + 100 → is_routine borrows earlier r ≡ true → total_count earlier + r.count ≤ 4096 → RoutineFits r
    → Left bytes at (routine r ++ rest) → (routine_at borrows earlier bytes at ≡ Ok r) × Left bytes next rest
unfolding routine_at
routine_again borrows earlier bytes at next r rest e legal room fits l =
    let parts = routine_parts borrows earlier r legal in
    let public-flag = flag_again r.public in
    let left = Left-as (six_texts r.name (flag r.public ∷ 0 ∷ []) (word r.count) (long r.budget) (row r.entry) (row r.exit) rest) l in
    let name = name_again earlier bytes at (at + 16) r.name _ refl fits.name parts.name parts.fresh left in
    let public = byte_below_again 2 bytes (at + 16) (at + 17) (flag r.public) _ (plus at 16 1) public-flag.0 name.1 in
    let unused = byte_below_again 1 bytes (at + 17) (at + 18) 0 _ (plus at 17 1) (lit< tt) public.1 in
    let count = count_again earlier bytes (at + 18) (at + 20) r.count _ (plus at 18 2) parts.some room unused.1 in
    let budget = long_again bytes (at + 20) (at + 24) r.budget _ (plus at 20 4) fits.budget count.1 in
    let entry = row_again borrows bytes (at + 24) (at + 62) r.entry _ (plus at 24 38) parts.entry fits.entry budget.1 in
    let exit = row_again borrows bytes (at + 62) next r.exit rest (e ∙ plus at 62 38) parts.exit fits.exit entry.1 in
    (rw (name.0, public.0, unused.0, count.0, budget.0, entry.0, exit.0, public-flag.1) refl, exit.1)

-- ---- routines

-- the bytes of routines that were read are their encoding; the result has the earlier routines first
pub routines_found : (borrows : Bool) (bytes : List ℕ) → IsBytes bytes → (n at next : ℕ) (earlier routines : List Routine)
    → next ≡ at + 100 * n → routines_at borrows bytes n at earlier ≡ Ok routines
    → (more : List Routine) × (routines ≡ earlier ++ more) × (length more ≡ n) × Takes bytes at (flat_map routine more) next
unfolding routines_at
routines_found borrows bytes fits zero at next earlier routines e h =
    let same = no_more at 100 next e in
    ([], sym (ok_is earlier routines h) ∙ sym (append-nil earlier), refl, subst (λ (k : ℕ). Takes bytes at [] k) same (Takes-none bytes at))
routines_found borrows bytes fits (suc n) at next earlier routines e h =
    after (routine_at borrows earlier bytes at) _ routines h (λ r read-r h.
    let place = behind_first at 100 n next e in
    let p = routine_found borrows earlier bytes fits at (at + 100) r refl read-r in
    let q = routines_found borrows bytes fits n (at + 100) next (earlier ++ r ∷ []) routines place h in
    (r ∷ q.0, q.1 ∙ append_assoc earlier (r ∷ []) q.0, ap suc q.2, takes_more routine r q.0 p q.3))

-- the encoding of routines is read as the routines; the result has the earlier routines first
pub routines_again : (borrows : Bool) (bytes : List ℕ) (more : List Routine) (n at next : ℕ) (earlier : List Routine) (rest : List ℕ)
    → length more ≡ n → next ≡ at + 100 * n → are_routines borrows earlier more ≡ true → total_count earlier + total_count more ≤ 4096
    → All RoutineFits more → Left bytes at (flat_map routine more ++ rest) → (routines_at borrows bytes n at earlier ≡ Ok (earlier ++ more))
    × Left bytes next rest
unfolding routines_at
routines_again borrows bytes [] zero at next earlier rest len e legal room fits l =
    let same = no_more at 100 next e in
    (ap Ok (sym (append-nil earlier)), subst (λ (k : ℕ). Left bytes k rest) same l)
routines_again borrows bytes [] (suc n) at next earlier rest len e legal room fits l = absurd (omega arith)
routines_again borrows bytes (r ∷ more) zero at next earlier rest len e legal room fits l = absurd (omega arith)
routines_again borrows bytes (r ∷ more) (suc n) at next earlier rest len e legal room fits l =
    let parts = and_parts (is_routine borrows earlier r) (are_routines borrows (earlier ++ r ∷ []) more) legal in
    let total : total_count (r ∷ more) ≡ r.count + total_count more = sum_by-cons (λ (x : Routine). x.count) r more in
    let pushed = total_count-push earlier r in
    let here : total_count earlier + r.count ≤ 4096 = omega (arith, room, total) in
    let there : total_count (earlier ++ r ∷ []) + total_count more ≤ 4096 = omega (arith, room, total, pushed) in
    let place = behind_first at 100 n next e in
    let p = routine_again borrows earlier bytes at (at + 100) r (flat_map routine more ++ rest) refl parts.0 here
    (All-head RoutineFits r more fits) (left_more routine r more rest l) in
    let q = routines_again borrows bytes more n (at + 100) next (earlier ++ r ∷ []) rest (omega arith) place parts.1 there
    (All-tail RoutineFits r more fits) p.1 in
    (rw (p.0, q.0, append_assoc earlier (r ∷ []) more) refl, q.1)
