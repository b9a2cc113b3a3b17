-- Entries of the chunks of runs that moved, one run after the other.
use Rattle.std.proofs.Common.{◌≡◌, ℕ, zero, suc, ◌+◌, ◌-◌, ◌<◌, ◌≤◌, ◌⊎◌, List, [], ◌∷◌, ◌++◌, length, refl, ap, sym, ◌∙◌, inl, inr, arith}
use Rattle.std.proofs.lemmas.Bool.{cases_lt}
use Rattle.std.proofs.lemmas.Bool.Decides.{nat_tests}
use Rattle.lmem_heap.specs.declared.slides.Slide.{Slide}
use Rattle.geos_terms.specs.Block.{entry}
use Rattle.lmem_heap.specs.Moves.{entry_moved, MapsEntries}
use Rattle.lmem_heap.specs.Slides.{AreInOrder, entry_slid, run_at}
use Rattle.lmem_heap.proofs.Movers.{moved-in, moved-low, moved-high, entries-kept}

pub moved-le : (from end to e : ℕ) → to ≤ from → entry_moved from end to e ≤ e
moved-le from end to e h = elim (cases_lt from e) [
  | inr low ↦ omega (arith, moved-low from end to e low)
  | inl high ↦ elim (cases_lt e end) [
    | inr past ↦ omega (arith, moved-high from end to e past)
    | inl within ↦ omega (arith, moved-in from end to e high within)
  ]
]

-- an entry in the first run, and outside it
slid-here : (s : Slide) (ss : List Slide) (e : ℕ) → s.from < e → e < s.end → entry_slid (s ∷ ss) e ≡ e - s.from + s.to
slid-here s ss e h l = grind (arith, nat_tests)

slid-low : (s : Slide) (ss : List Slide) (e : ℕ) → e ≤ s.from → entry_slid (s ∷ ss) e ≡ entry_slid ss e
slid-low s ss e h = grind (arith, nat_tests)

slid-high : (s : Slide) (ss : List Slide) (e : ℕ) → s.end ≤ e → entry_slid (s ∷ ss) e ≡ entry_slid ss e
slid-high s ss e h = grind (arith, nat_tests)

pub order-le : (low : ℕ) (ss : List Slide) (high : ℕ) → AreInOrder low ss high → low ≤ high
order-le low [] high o = o
order-le low (s ∷ ss) high o = omega (arith, o.0, o.1, order-le s.end ss high o.3)

-- one more run after the others
pub order-more : (low : ℕ) (ss : List Slide) (high : ℕ) (s : Slide) → AreInOrder low ss high → high ≤ s.from
    → s.from ≤ s.end → s.to ≤ s.from → AreInOrder low (ss ++ (s ∷ [])) s.end
order-more low [] high s o h e t = (omega (arith, o, h), e, t, omega arith)
order-more low (x ∷ ss) high s o h e t = (o.0, o.1, o.2, order-more x.end ss high s o.3 h e t)

-- the runs stood from where the first one began to where the last one ended
order-last : (low : ℕ) (ss : List Slide) (high k : ℕ) → AreInOrder low ss high → length ss ≡ k + 1 → AreInOrder low ss (run_at ss k).end
order-last low [] high k o n = absurd (omega (arith, n))
order-last low (s ∷ []) high zero o n = (o.0, o.1, o.2, omega arith)
order-last low (s ∷ []) high (suc k) o n = absurd (omega (arith, n))
order-last low (s ∷ t ∷ ss) high zero o n = absurd (omega (arith, n))
order-last low (s ∷ t ∷ ss) high (suc k) o n = (o.0, o.1, o.2, order-last s.end (t ∷ ss) high k o.3 (omega (arith, n)))

order-first : (low : ℕ) (ss : List Slide) (high : ℕ) → AreInOrder low ss high → 0 < length ss → AreInOrder (run_at ss 0).from ss high
order-first low [] high o some = absurd (omega (arith, some))
order-first low (s ∷ ss) high o some = (omega arith, o.1, o.2, o.3)

pub order-ends : (low : ℕ) (ss : List Slide) (high k : ℕ) → AreInOrder low ss high → length ss ≡ k + 1
    → AreInOrder (run_at ss 0).from ss (run_at ss k).end
order-ends low ss high k o n = order-last (run_at ss 0).from ss high k (order-first low ss high o (omega (arith, n))) n

-- an entry below all runs, and one after all runs
pub slid-below : (low : ℕ) (ss : List Slide) (high e : ℕ) → AreInOrder low ss high → e ≤ low → entry_slid ss e ≡ e
slid-below low [] high e o h = refl
slid-below low (s ∷ ss) high e o h = slid-low s ss e (omega (arith, o.0, h)) ∙ slid-below s.end ss high e o.3 (omega (arith, o.0, o.1, h))

pub slid-behind : (low : ℕ) (ss : List Slide) (high e : ℕ) → AreInOrder low ss high → high ≤ e → entry_slid ss e ≡ e
slid-behind low [] high e o h = refl
slid-behind low (s ∷ ss) high e o h = slid-high s ss e (omega (arith, order-le s.end ss high o.3, h)) ∙ slid-behind s.end ss high e o.3 h

-- one more run, after the others, moves what the others left
pub slid-more : (low : ℕ) (ss : List Slide) (high : ℕ) (s : Slide) (e : ℕ) → AreInOrder low ss high → high ≤ s.from
    → entry_slid (ss ++ (s ∷ [])) e ≡ entry_moved s.from s.end s.to (entry_slid ss e)
slid-more low [] high s e o h = refl
slid-more low (x ∷ ss) high s e o h =
    let M : ℕ → ℕ = λ y. entry_moved s.from s.end s.to y in
    let rest = slid-more x.end ss high s e o.3 h in
    elim (cases_lt x.from e) [
      | inr out ↦ slid-low x (ss ++ (s ∷ [])) e out ∙ rest ∙ sym (ap M (slid-low x ss e out))
      | inl above ↦ elim (cases_lt e x.end) [
        | inr out ↦ slid-high x (ss ++ (s ∷ [])) e out ∙ rest ∙ sym (ap M (slid-high x ss e out))
        | inl within ↦ slid-here x (ss ++ (s ∷ [])) e above within
            ∙ sym (ap M (slid-here x ss e above within) ∙ moved-low s.from s.end s.to (e - x.from + x.to)
            (omega (arith, order-le x.end ss high o.3, h, o.2, above, within)))
      ]
    ]

-- a run begins where the bounds say
order-at : (low : ℕ) (ss : List Slide) (high k : ℕ) → AreInOrder low ss high → k < length ss → (low ≤ (run_at ss k).from)
    × ((run_at ss k).to ≤ (run_at ss k).from)
order-at low [] high k o h = absurd (omega (arith, h))
order-at low (s ∷ ss) high zero o h = (o.0, o.2)
order-at low (s ∷ ss) high (suc k) o h = let r = order-at s.end ss high k o.3 (omega (arith, h)) in (omega (arith, o.0, o.1, r.0), r.1)

pub run-down : (low : ℕ) (ss : List Slide) (high k : ℕ) → AreInOrder low ss high → k < length ss → (run_at ss k).to ≤ (run_at ss k).from
run-down low ss high k o h = (order-at low ss high k o h).1

-- an entry that lies below the first run
slid-next : (low : ℕ) (ss : List Slide) (high e : ℕ) → AreInOrder low ss high → (0 < length ss → e ≤ (run_at ss 0).from) → entry_slid ss e ≡ e
slid-next low [] high e o h = refl
slid-next low (s ∷ ss) high e o h = let below : e ≤ s.from = h (omega arith) in slid-below s.from (s ∷ ss) high e (omega arith, o.1, o.2, o.3) below

-- the last run that begins below an entry says where it is
pub slid-at : (low : ℕ) (ss : List Slide) (high k j e : ℕ) → AreInOrder low ss high → j ≡ k + 1 → k < length ss
    → (0 < k → (run_at ss k).from < e) → (j < length ss → e ≤ (run_at ss j).from) →
    entry_slid ss e ≡ entry_moved (run_at ss k).from (run_at ss k).end (run_at ss k).to e
slid-at low [] high k j e o n known below next = absurd (omega (arith, known))
slid-at low (s ∷ ss) high k zero e o n known below next = absurd (omega (arith, n))
slid-at low (s ∷ ss) high zero (suc (suc j)) e o n known below next = absurd (omega (arith, n))
slid-at low (s ∷ ss) high (suc k) (suc zero) e o n known below next = absurd (omega (arith, n))
slid-at low (s ∷ ss) high zero (suc zero) e o n known below next =
    let rest = slid-next s.end ss high e o.3 (λ some. next (omega (arith, some))) in
    elim (cases_lt s.from e) [
      | inr out ↦ slid-low s ss e out ∙ rest ∙ sym (moved-low s.from s.end s.to e out)
      | inl above ↦ elim (cases_lt e s.end) [
        | inr out ↦ slid-high s ss e out ∙ rest ∙ sym (moved-high s.from s.end s.to e out)
        | inl within ↦ slid-here s ss e above within ∙ sym (moved-in s.from s.end s.to e above within)
      ]
    ]
slid-at low (s ∷ ss) high (suc k) (suc (suc j)) e o n known below next =
    let here : (run_at ss k).from < e = below (omega arith) in
    let place = order-at s.end ss high k o.3 (omega (arith, known)) in
    slid-high s ss e (omega (arith, here, place.0)) ∙ slid-at s.end ss high k (suc j) e o.3 (omega (arith, n))
    (omega (arith, known)) (λ z. here) (λ l. next (omega (arith, l)))

-- entries of chunks that lay below the runs or after them
pub entries-apart : (low : ℕ) (ss : List Slide) (high : ℕ) (b : List ℕ) (from end : ℕ) → AreInOrder low ss high
    → ((k : ℕ) → from ≤ k → k < end → (entry b k ≤ low) ⊎ (high ≤ entry b k)) → MapsEntries b b (entry_slid ss) from end
entries-apart low ss high b from end o apart = entries-kept b (entry_slid ss) from end
    (λ k g h. elim (apart k g h) [ inl l ↦ slid-below low ss high (entry b k) o l | inr l ↦ slid-behind low ss high (entry b k) o l ])
