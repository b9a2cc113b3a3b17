-- What each call does to a state that is sound and as a row says.
use Rattle.std.proofs.Common.{◌≡◌, ℕ, ◌+◌, ◌≤◌, Option, Some, None, List, [], length, get_or, set, refl, sym, ap, ◌∙◌, subst, arith, inl, inr}
use Rattle.std.specs.Prelude.{map, unwrap_or}
use Rattle.lmem_raw.specs.Bytes.{with_part}
use Rattle.lmem_raw.proofs.Parts.{length-with_part}
use Rattle.geos_terms.specs.declared.name.Name.{Name}
use Rattle.geos_terms.specs.Chunks.{chunk_of, bytes_of, with_bytes}
use Rattle.geos_calls.specs.Memory.{Memory, chunks_at, rechunked_block, with_chunks}
use Rattle.geos_calls.specs.Legal.{IsMemory}
use Rattle.geos_calls.specs.Calls.{written}
use Rattle.geos_calls.specs.Effects.{Reference, Nothing, InBlock}
use Rattle.geos_image.specs.declared.instr.Instr.{Instr}
use Rattle.geos_image.specs.declared.row.Row.{Row}
use Rattle.geos_image.specs.declared.row.Pointer.{Pointer}
use Rattle.geos_opcodes.specs.declared.uses.SlotUse.TheVariants.{Moves}
use Rattle.geos_verify.specs.Rows.{with_bound, may_be_same, pointers_kept, stale_where}
use Rattle.geos_semantics.specs.Lists.{Each2}
use Rattle.geos_semantics.specs.State.{SlotReference, State, with_word, slot, with_pointer, kept_pointer, kept_pointers}
use Rattle.geos_semantics.specs.Meets.{Base, Meets, Sound, PointerMeets, name_held, IsInChunk, PointerIsSound}
use Rattle.geos_semantics.proofs.Lists.{each2-set}
use Rattle.geos_semantics.proofs.Memories.{same_name-true, chunks_at-other, chunks_at-same, locks_of-chunks, names, names-apart, chunk-kept}
use Rattle.geos_semantics.proofs.Stays.{stays-mapped, slots-left}
use Rattle.geos_semantics.proofs.Kept.{Leaves, leaves-all, sound-left, kept-nothing, pointer-kept, each2-map}
use Rattle.geos_semantics.proofs.Locking.{each-set, leads-there}
use Rattle.geos_semantics.proofs.Apart.{not-same}
use Rattle.geos_semantics.proofs.Rows.{meets-word}

-- a state that control comes to within a routine: sound, as the row says, and with what belongs
-- to control as it was
pub record Fine (base : Base) (s t : State) (row : Row) : Type 0 where
  pub sound : Sound base t
  pub meets : Meets t row
  pub routine : t.routine ≡ s.routine
  pub stack : t.stack ≡ s.stack
  pub counters : t.counters ≡ s.counters

-- a word is written, within the bound that is known of it and that of all words
pub fine-word : (base : Base) (s t : State) (row : Row) (a v n : ℕ) → Fine base s t row → v ≤ n → v ≤ 65535
    → Fine base s (with_word a v t) (with_bound a n row)
fine-word base s t row a v n F le small = record {
  sound = record {
    none = F.sound.none;
    words = each-set (λ n. n ≤ 65535) t.words a v F.sound.words small;
    memory =
        F.sound.memory;
    four = F.sound.four;
    lends = F.sound.lends;
    slots = F.sound.slots;
    locks = F.sound.locks;
    pointers = F.sound.pointers;
  };
  meets = meets-word t row a v n F.meets le;
  routine = F.routine;
  stack = F.stack;
  counters = F.counters;
}

-- the chunks of a block, with bytes written at an offset of a reference into it
abbrev chunks_written : Memory → Reference → ℕ → List ℕ → List (Option (List ℕ))
chunks_written m ref at ws = with_bytes (chunks_at m ref.name) ref.chunk (with_part (bytes_of (chunks_at m ref.name) ref.chunk) (ref.start + at) ws)

module _ (base : Base) (s : State) (row : Row) (S : Sound base s) (M : Meets s row) where
  -- after a call that makes nothing stale
  pub fine-nothing : (a : ℕ) (new : Memory) → Leaves a Nothing s.memory new
      → Fine base s (record s { memory = new; pointers = kept_pointers a Nothing s.pointers }) row
  fine-nothing a new L = record {
    sound = sound-left base s a Nothing new S L;
    meets = record {
      words = M.words;
      slots = slots-left s.memory new s.slots row.slots (λ k held e. L.held held) M.slots;
      pointers =
          kept-nothing a s.pointers row.pointers M.pointers;
      pairs = M.pairs;
    };
    routine = refl;
    stack = refl;
    counters = refl;
  }

  -- and changes nothing
  pub fine-same : (a : ℕ) → Fine base s (record s { memory = s.memory; pointers = kept_pointers a Nothing s.pointers }) row
  fine-same a = fine-nothing a s.memory (leaves-all a Nothing s.memory S.memory)

  -- what is known of pointers after chunks of a block may have moved
  moved-pointers : (a : ℕ) (name : Name) → name_held (slot s a) ≡ Some name
      → Each2 PointerMeets (kept_pointers a (InBlock name) s.pointers) (map (stale_where (may_be_same row a)) row.pointers)
  moved-pointers a name held =
      each2-map (PointerIsSound s.memory s.slots) PointerMeets PointerMeets (kept_pointer a (InBlock name))
      (stale_where (may_be_same row a)) one s.pointers row.pointers S.pointers M.pointers
    where
      one : (p : Option SlotReference) (q : Option Pointer) → PointerIsSound s.memory s.slots p → PointerMeets p q
          → PointerMeets (kept_pointer a (InBlock name) p) (stale_where (may_be_same row a) q)
      one p q sound m =
          pointer-kept a (InBlock name) (may_be_same row a) p q
          (λ target is r known slot_is test.
          let here = subst (PointerIsSound s.memory s.slots) is sound in
          not-same base s row a r.slot name target.reference.name S M held
          (subst (λ k. name_held (get_or s.slots k None) ≡ Some target.reference.name) slot_is here.0) test)
          m

  -- after a call that may have moved chunks of the block that a slot holds
  pub fine-moved : (i : Instr) (name : Name) (new : Memory) → name_held (slot s i.a) ≡ Some name → Leaves i.a (InBlock name) s.memory new
      → Fine base s (record s { memory = new; pointers = kept_pointers i.a (InBlock name) s.pointers })
      (record row { pointers = pointers_kept i Moves row })
  fine-moved i name new held L = record {
    sound = sound-left base s i.a (InBlock name) new S L;
    meets = record {
      words = M.words;
      slots = slots-left s.memory new s.slots row.slots (λ k held e. L.held held) M.slots;
      pointers =
          moved-pointers i.a name held;
      pairs = M.pairs;
    };
    routine = refl;
    stack = refl;
    counters = refl;
  }

  -- other chunks in a block leave what is not made stale
  pub leaves-chunks : (a : ℕ) (name : Name) (chunks : List (Option (List ℕ))) → IsMemory (with_chunks s.memory name chunks)
      → Leaves a (InBlock name) s.memory (with_chunks s.memory name chunks)
  leaves-chunks a name chunks legal = record {
    legal = legal;
    locks = λ other. locks_of-chunks s.memory name other chunks;
    held = λ other. stays-mapped s.memory (rechunked_block chunks) name other;
    chunks = λ target fresh h. record {
      bytes = h.bytes;
      there =
          rw (chunks_at-other s.memory name target.reference.name chunks (names-apart target.reference.name name fresh)) h.there;
      fits = h.fits;
    };
  }

  -- bytes written into a chunk leave each chunk as long as it was
  pub leaves-written : (a : ℕ) (ref : Reference) (at : ℕ) (ws : List ℕ) → IsInChunk s.memory ref
      → IsMemory (written s.memory ref at ws) → Leaves a Nothing s.memory (written s.memory ref at ws)
  leaves-written a ref at ws here legal = record {
    legal = legal;
    locks = λ other. locks_of-chunks s.memory ref.name other (chunks_written s.memory ref at ws);
    held = λ other. stays-mapped s.memory (rechunked_block (chunks_written s.memory ref at ws)) ref.name other;
    chunks = λ target fresh h. kept target.reference h;
  }
    where
      bytes_are : bytes_of (chunks_at s.memory ref.name) ref.chunk ≡ here.bytes
      bytes_are = ap (λ o. unwrap_or o []) here.there

      as_long : length (with_part (bytes_of (chunks_at s.memory ref.name) ref.chunk) (ref.start + at) ws) ≡ length here.bytes
      as_long = length-with_part (bytes_of (chunks_at s.memory ref.name) ref.chunk) (ref.start + at) ws ∙ ap (λ (xs : List ℕ). length xs) bytes_are

      kept : (other : Reference) → IsInChunk s.memory other → IsInChunk (with_chunks s.memory ref.name (chunks_written s.memory ref at ws)) other
      kept other h = elim (names ref.name other.name) [
        | inl is ↦ (
            let same = same_name-true ref.name other.name is in
            let there : chunk_of (chunks_at s.memory ref.name) other.chunk ≡ Some h.bytes =
            subst (λ n. chunk_of (chunks_at s.memory n) other.chunk ≡ Some h.bytes) (sym same) h.there in
            let found = chunk-kept (chunks_at s.memory ref.name) ref.chunk other.chunk
            (with_part (bytes_of (chunks_at s.memory ref.name) ref.chunk) (ref.start + at) ws) here.bytes h.bytes here.there as_long there in
            let now : chunks_at (with_chunks s.memory ref.name (chunks_written s.memory ref at ws)) ref.name ≡ chunks_written s.memory ref at ws =
            chunks_at-same s.memory ref.name (chunks_written s.memory ref at ws) (leads-there s.memory ref here) in
            record {
              bytes = found.0;
              there = subst (λ n. chunk_of (chunks_at (with_chunks s.memory ref.name (chunks_written s.memory ref at ws)) n)
                  other.chunk ≡ Some found.0) same (ap (λ c. chunk_of c other.chunk) now ∙ found.1);
              fits = omega (arith, h.fits, found.2);
            }
            )
        | inr ne ↦ record {
          bytes = h.bytes;
          there = rw (chunks_at-other s.memory ref.name other.name (chunks_written s.memory ref at ws) ne)
              h.there;
          fits = h.fits;
        }
      ]

-- a pointer is set to bytes of a chunk of the block that a slot holds
pub fine-pointing : (base : Base) (s t : State) (row : Row) (p : ℕ) (target : SlotReference) (least : ℕ) → Fine base s t row
    → PointerIsSound t.memory t.slots (Some target) → least ≤ target.reference.len
    → Fine base s (with_pointer p (Some target) t)
    (record row { pointers = set row.pointers p (Some (record { slot = target.slot; least = least })) })
fine-pointing base s t row p target least F sound le = record {
  sound = record {
    memory = F.sound.memory;
    none = F.sound.none;
    words = F.sound.words;
    four = F.sound.four;
    lends = F.sound.lends;
    slots = F.sound.slots;
    locks = F.sound.locks;
    pointers = each-set (PointerIsSound t.memory t.slots) t.pointers p (Some target) F.sound.pointers sound;
  };
  meets = record {
    words = F.meets.words;
    slots = F.meets.slots;
    pointers = each2-set PointerMeets t.pointers row.pointers p (Some target) (Some (record { slot = target.slot; least = least }))
        F.meets.pointers (refl, le);
    pairs = F.meets.pairs;
  };
  routine = F.routine;
  stack = F.stack;
  counters = F.counters;
}
