-- A table is made of a directory by one walk over its entries, whose handles ascend.
use Rattle.std.proofs.Common.{◌≡◌, ◌≢◌, ◌∙◌, ℕ, ◌+◌, ◌<◌, ◌≤◌, true, ◌&&◌, List, [], ◌∷◌, drop, get_or, set, length, length-set, Option, Some, None, refl, sym, ap, subst, arith, inl, inr}
use Rattle.std.specs.Prelude.{◌==◌, option_map}
use Rattle.std.specs.List.{find}
use Rattle.std.proofs.Math.Dec.{leb, ltb}
use Rattle.std.proofs.lemmas.Bool.{cases_eq, lt-ltb}
use Rattle.std.proofs.lemmas.List.{at_drop_all, at_drop_more, get_or-set_other, get_or-set_same}
use Rattle.vm_file.specs.declared.directory.Entry.{Entry}
use Rattle.vm_file.specs.Directories.{are_entries, is_entry}
use Rattle.geos_terms.specs.Heap.{is_block_size}
use Rattle.vm_file.proofs.DirectoryLaws.{behind_from, find_behind, find_here, none_below}
use Rattle.geos_terms.proofs.HeapTests.{and-true, both}
use Rattle.vm_blocks.specs.declared.entries.Held.{Held}
use Rattle.vm_blocks.specs.Listed.{as_held}
use Rattle.vm_blocks.proofs.Stored.{not-found}

-- the first i handles are listed, and the entries from `next` on are those of later handles
pub record Walks (es : List Entry) (table : List (Option Held)) (i next : ℕ) : Type 0 where
  pub long : length table ≡ 1024
  pub done : (k : ℕ) → k < i → get_or table k None ≡ option_map as_held (find (λ e. e.h == k + 1) es)
  pub few : next ≤ length es
  pub rest : are_entries i (drop next es) ≡ true
  pub front : (h : ℕ) → i < h → find (λ e. e.h == h) es ≡ find (λ e. e.h == h) (drop next es)

-- the walk passes the next handle: if the handle has an entry,
-- it is the first of the rest; the rest then continues after it
record Passes (i : ℕ) (from to : List Entry) (e : Option Entry) : Type 0 where
  pub rest : are_entries (i + 1) to ≡ true
  pub found : find (λ x. x.h == i + 1) from ≡ e
  pub behind : (h : ℕ) → i + 1 < h → find (λ x. x.h == h) from ≡ find (λ x. x.h == h) to

passes-none : (i : ℕ) → Passes i [] [] None
passes-none i = record { rest = refl; found = refl; behind = λ h above. refl }

passes-own : (i : ℕ) (e : Entry) (es : List Entry) → are_entries i (e ∷ es) ≡ true → e.h ≡ i + 1 → Passes i (e ∷ es) es (Some e)
passes-own i e es legal own = let s = both (is_entry i e) (are_entries e.h es) legal in record {
  rest = subst (λ k. are_entries k es ≡ true) own s.1;
  found = subst (λ k. find (λ x. x.h == k) (e ∷ es) ≡ Some e) own (find_here e es);
  behind = λ h above. find_behind h (e ∷ []) es ((λ q. omega (arith, own, above, q)), tt);
}

passes-other : (i : ℕ) (e : Entry) (es : List Entry) → are_entries i (e ∷ es) ≡ true → e.h ≢ i + 1 → Passes i (e ∷ es) (e ∷ es) None
passes-other i e es legal other =
    let s = both (is_entry i e) (are_entries e.h es) legal in
    let a = both (ltb i e.h && leb e.h 1024) (is_block_size e.len) s.0 in
    let low = (behind_from i e s.0).above in
    let above : i + 1 < e.h = omega (arith, low, other) in
    let entry = and-true (ltb (i + 1) e.h && leb e.h 1024) (is_block_size e.len)
    (and-true (ltb (i + 1) e.h) (leb e.h 1024) (lt-ltb (i + 1) e.h above) (both (ltb i e.h) (leb e.h 1024) a.0).1) a.1 in
    let rest : are_entries (i + 1) (e ∷ es) ≡ true = and-true (is_entry (i + 1) e) (are_entries e.h es) entry s.1 in
    record { rest = rest; found = not-found (e ∷ es) (i + 1) (none_below (e ∷ es) (i + 1) (i + 1) rest (omega arith)); behind = λ h high. refl }

module _ (es : List Entry) (table : List (Option Held)) (i next : ℕ) (small : i < 1024) (w : Walks es table i next) where
  -- one more handle is listed
  walks-more : (now : List (Option Held)) (to : ℕ) (found : Option Entry) → length now ≡ 1024
      → ((k : ℕ) → k ≢ i → get_or now k None ≡ get_or table k None) → get_or now i None ≡ option_map as_held found
      → to ≤ length es → Passes i (drop next es) (drop to es) found → Walks es now (i + 1) to
  walks-more now to found long others own few passes = record {
    long = long;
    done = λ k below. elim (cases_eq k i) [
      | inl same ↦ subst (λ j. get_or now j None ≡ option_map as_held (find (λ e. e.h == j + 1) es))
          (sym same) here
      | inr ne ↦ others k ne ∙ w.done k (omega (arith, below, ne))
    ];
    few = few;
    rest = passes.rest;
    front = λ h above. w.front h (omega (arith, above)) ∙ passes.behind h above;
  }
    where
      here : get_or now i None ≡ option_map as_held (find (λ e. e.h == i + 1) es)
      here = own ∙ ap (option_map as_held) (sym (w.front (i + 1) (omega arith) ∙ passes.found))

  within : i < length table
  within = let long = w.long in omega arith

  -- the next entry is of the handle
  pub walks-own : (d : Entry) → next < length es → (get_or es next d).h ≡ i + 1
      → Walks es (set (set table i None) i (Some (as_held (get_or es next d)))) (i + 1) (next + 1)
  walks-own d more own =
      let held = Some (as_held (get_or es next d)) in
      let cut : drop next es ≡ get_or es next d ∷ drop (next + 1) es = at_drop_more (λ xs. xs) es next d more in
      let legal = subst (λ xs. are_entries i xs ≡ true) cut w.rest in
      let passes : Passes i (drop next es) (drop (next + 1) es) (Some (get_or es next d)) =
      subst (λ xs. Passes i xs (drop (next + 1) es) (Some (get_or es next d))) (sym cut)
      (passes-own i (get_or es next d) (drop (next + 1) es) legal own) in
      let length_one = length-set table i None in
      let length_two = length-set (set table i None) i held in
      walks-more (set (set table i None) i held) (next + 1) (Some (get_or es next d)) (length_two ∙ length_one ∙ w.long)
      (λ k ne. get_or-set_other (set table i None) i k held None ne ∙ get_or-set_other table i k None None ne)
      (get_or-set_same (set table i None) i held None (omega (arith, length_one, within))) (omega arith) passes

  walks-past : Passes i (drop next es) (drop next es) None → Walks es (set table i None) (i + 1) next
  walks-past passes = walks-more (set table i None) next None (length-set table i None ∙ w.long)
      (λ k ne. get_or-set_other table i k None None ne) (get_or-set_same table i None None within) w.few passes

  -- it is of another
  pub walks-other : (d : Entry) → next < length es → (get_or es next d).h ≢ i + 1 → Walks es (set table i None) (i + 1) next
  walks-other d more other =
      let cut : drop next es ≡ get_or es next d ∷ drop (next + 1) es = at_drop_more (λ xs. xs) es next d more in
      let legal = subst (λ xs. are_entries i xs ≡ true) cut w.rest in
      walks-past (subst (λ xs. Passes i xs xs None) (sym cut) (passes-other i (get_or es next d) (drop (next + 1) es) legal other))

  -- there is none
  pub walks-end : length es ≤ next → Walks es (set table i None) (i + 1) next
  walks-end end = walks-past (subst (λ xs. Passes i xs xs None) (sym (at_drop_all (λ xs. xs) es next end)) (passes-none i))
