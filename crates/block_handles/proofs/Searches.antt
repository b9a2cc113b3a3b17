-- What the index finds, and what an arena is at first.
use Rattle.std.proofs.Common.{◌≡◌, ◌≢◌, ℕ, ◌+◌, ◌/◌, ◌^◌, ◌≤◌, ◌<◌, List, length, replicate, Option, Some, None, slice_index_or, ap, sym, subst, ◌∙◌, arith, inl, inr}
use Rattle.std.proofs.lemmas.List.{get_or_read, length-map, length-replicate}
use Rattle.std.proofs.lemmas.Bool.{cases_eq, cases_lt}
use Rattle.block_handles.specs.declared.table.Entry.{Entry}
use Rattle.block_handles.specs.Store.{Store, block_at, bytes_in, IsBlock, size_of, place_of}
use Rattle.block_handles.specs.declared.arena.Limits.{Limits}
use Rattle.block_handles.specs.Change.{with_limits}
use Rattle.block_handles.specs.Layout.{IsLaidOut, IsEmpty}
use Rattle.block_handles.specs.Search.{IsFirst, IsLast}
use Rattle.block_handles.specs.Rows.{IsEntry}
use Rattle.block_handles.specs.View.{block_in, store_in, place_in, Lies, IsSound}
use Rattle.block_handles.proofs.Views.{at_slot, place_slot, entry_there, place_there}
use Rattle.block_handles.proofs.Layouts.{laid-limits, there_of_size}

same_slot : (i j : ℕ) → Some i ≡ Some j → i ≡ j
same_slot i j e = cc

module _ (limits : Limits) (region : List ℕ) (table : List (Option Entry)) (index : List (Option ℕ)) (seen : Store)
    (view : with_limits (store_in region table) limits ≡ seen) (sound : IsSound region table index) (g slot until : ℕ) (x : Option ℕ)
    (small : g < until / 64 + 1) (inside : until ≤ seen.len.region) (read : x ≡ slice_index_or index g x) (is : x ≡ Some slot) where
  abbrev S : Store
  S = with_limits (store_in region table) limits

  at_granule : slice_index_or index g None ≡ Some slot
  at_granule =
      let long : g < length index = omega (arith, small, inside, ap (λ s. s.len.region) view, sound.indexed.long) in
      sym (get_or_read index g x long read None) ∙ is

  begins : (0 < size_of S slot) × (place_of S slot / 64 ≡ g)
  begins = sound.indexed.real g slot at_granule

  pub entry_found : IsEntry (slice_index_or table slot None)
  entry_found = entry_there region table slot (there_of_size S slot begins.0)

  alone : (j : ℕ) → 0 < size_of S j → place_of S j / 64 ≡ g → place_of S j ≡ place_of S slot
  alone j some e = ap (place_of S) (same_slot j slot (sym (sound.indexed.found j some) ∙ ap (λ k. slice_index_or index k None) e ∙ at_granule))

  module _ (e : Entry) (entry : slice_index_or table slot None ≡ Some e) (from : ℕ) (low : from ≤ e.place) (high : e.place < until) where
    abbrev AllBehind : Store → Type 0
    AllBehind s = (j : ℕ) → 0 < size_of s j → from ≤ place_of s j → place_of s j < until → g ≤ place_of s j / 64

    abbrev AllBefore : Store → Type 0
    AllBefore s = (j : ℕ) → 0 < size_of s j → from ≤ place_of s j → place_of s j < until → place_of s j / 64 < g + 1

    place : place_of S slot ≡ e.place
    place = place_there region table slot e entry

    first_of : AllBehind S → IsFirst S from until slot
    first_of behind = record {
      there = begins.0;
      high = omega (arith, place, low);
      low = omega (arith, place, high);
      first = λ j some after. elim (cases_lt (place_of S j) until) as (λ _. place_of S slot ≤ place_of S j) [
        | inr far ↦ omega (arith, place, high, far)
        | inl near ↦ elim (cases_eq (place_of S j / 64) g) as (λ _. place_of S slot ≤ place_of S j) [
          | inl same ↦ omega (arith, alone j some same)
          | inr ne ↦ later j (behind j some after near) ne
        ]
      ];
    }
      where
        later : (j : ℕ) → g ≤ place_of S j / 64 → place_of S j / 64 ≢ g → place_of S slot ≤ place_of S j
        later j le ne = omega (arith, begins.1, le, ne)

    last_of : AllBefore S → IsLast S from until slot
    last_of before = record {
      there = begins.0;
      high = omega (arith, place, low);
      low = omega (arith, place, high);
      last = λ j some near. elim (cases_lt (place_of S j) from) as (λ _. place_of S j ≤ place_of S slot) [
        | inl far ↦ omega (arith, place, low, far)
        | inr after ↦ elim (cases_eq (place_of S j / 64) g) as (λ _. place_of S j ≤ place_of S slot) [
          | inl same ↦ omega (arith, alone j some same)
          | inr ne ↦ earlier j (before j some after near) ne
        ]
      ];
    }
      where
        earlier : (j : ℕ) → place_of S j / 64 < g + 1 → place_of S j / 64 ≢ g → place_of S j ≤ place_of S slot
        earlier j lt ne = omega (arith, begins.1, lt, ne)

    pub first_found : AllBehind seen → IsFirst seen from until slot
    first_found = subst (λ s. AllBehind s → IsFirst s from until slot) view first_of

    pub last_found : AllBefore seen → IsLast seen from until slot
    last_found = subst (λ s. AllBefore s → IsLast s from until slot) view last_of

-- no block at all
module _ (region : List ℕ) (table : List (Option Entry)) (index : List (Option ℕ)) (len : ℕ) (bytes : region ≡ replicate len 0)
    (slots : length table ≡ 2048) (none : (slot : ℕ) → slice_index_or table slot None ≡ None)
    (long : length index ≡ len / 64 + 1) (nowhere : (granule : ℕ) → slice_index_or index granule None ≡ None) (short : len < 2 ^ 32) where
  abbrev E : Store
  E = store_in region table

  is-long : length region ≡ len
  is-long = ap length bytes ∙ length-replicate {A = ℕ} len 0

  free-slot : (j : ℕ) → block_at E j ≡ None
  free-slot j = at_slot region table j ∙ ap (block_in region) (none j)

  no-size : (j : ℕ) → size_of E j ≡ 0
  no-size j = ap (λ b. length (bytes_in b)) (free-slot j)

  no-place : (j : ℕ) → place_of E j ≡ 0
  no-place j = place_slot region table j ∙ ap place_in (none j)

  pub empty_laid : IsLaidOut E
  empty_laid = record {
    slots = length-map table (block_in region) ∙ slots;
    spots = length-map table place_in ∙ slots;
    within = λ j. omega (arith, no-size j, no-place j);
    apart = λ i j n. inl (omega (arith, no-size i, no-place i));
    sized = λ j h. absurd (subst IsBlock (free-slot j) h);
    none = λ j z. no-place j;
  }

  pub empty_sound : IsSound region table index
  empty_sound = record {
    lies = λ j. subst (Lies region) (sym (none j)) tt;
    laid = empty_laid;
    indexed = record {
      long = long ∙ ap (λ n. n / 64 + 1) (sym is-long);
      found = λ j some. absurd (omega (arith, some, no-size j));
      real = λ g j is. absurd (not-some j (sym (nowhere g) ∙ is));
    };
    short = omega (arith, is-long, short);
  }
    where
      not-some : (j : ℕ) → None ≡ Some j → ⊥
      not-some j e = cc

  pub empty_seen : IsEmpty (with_limits E (record { most = len; handles = 1024 })) len
  empty_seen = record { none = free-slot; long = λ k. record { region = is-long k; most = len; handles = 1024 }; laid = laid-limits E (record { most = len; handles = 1024 }) empty_laid }
