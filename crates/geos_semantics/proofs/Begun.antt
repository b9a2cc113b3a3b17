-- What a device gives leaves a good state good.
use Rattle.std.proofs.Common.{◌≡◌, ℕ, ◌<◌, Option, Some, None, get_or, ap, ◌∙◌, arith}
use Rattle.geos_terms.specs.declared.name.Name.{Name}
use Rattle.geos_calls.specs.Memory.{chunks_in, locks_of}
use Rattle.geos_calls.specs.Given.{given_memory}
use Rattle.geos_calls.specs.Effects.{Choice}
use Rattle.geos_calls.proofs.LegalGiven.{memory-given, locks_of-given, block_of-given}
use Rattle.geos_semantics.specs.State.{SlotReference, State}
use Rattle.geos_semantics.specs.Model.{begun}
use Rattle.geos_image.specs.declared.row.Row.{Row}
use Rattle.geos_semantics.specs.Meets.{Base, Meets, PointerIsSound, Sound, name_held}
use Rattle.geos_semantics.proofs.Locking.{held-counts, holds-once-is}
use Rattle.geos_semantics.proofs.Kept.{each-same}
use Rattle.geos_semantics.proofs.Stays.{stays-given, slots-sound, slots-left}
use Rattle.geos_semantics.proofs.Moments.{Moment}

module _ (base : Base) (s : State) (choice : Choice) (S : Sound base s) where
  -- a block that a slot holds is locked, and so it is given nothing
  held-locked : (k : ℕ) (name : Name) → name_held (get_or s.slots k None) ≡ Some name → 0 < locks_of s.memory name
  held-locked k name held = omega (arith, S.locks name, held-counts s.slots k name, holds-once-is name (get_or s.slots k None) held)

  pointer-begun : (p : Option SlotReference) → PointerIsSound s.memory s.slots p → PointerIsSound (given_memory choice.given s.memory) s.slots p
  pointer-begun None h = tt
  pointer-begun (Some target) h =
      let name = target.reference.name in
      let same = block_of-given choice.given s.memory name (held-locked target.slot name h.0) in
      (h.0, record { bytes = h.1.bytes; there = rw (ap chunks_in same) h.1.there; fits = h.1.fits })

  pub sound-begun : Sound base (begun choice s)
  sound-begun = record {
    memory = memory-given choice.given s.memory S.memory;
    none = S.none;
    words = S.words;
    four = S.four;
    lends = S.lends;
    slots = slots-sound s.memory (given_memory choice.given s.memory) s.slots (λ k held e. stays-given choice.given s.memory held) S.slots;
    locks = λ name. locks_of-given choice.given s.memory name ∙ S.locks name;
    pointers = each-same (PointerIsSound s.memory s.slots) (PointerIsSound (given_memory choice.given s.memory) s.slots)
        pointer-begun s.pointers S.pointers;
  }

-- slots and pointers are as a row says, as before
pub meets-begun : (s : State) (choice : Choice) (row : Row) → Meets s row → Meets (begun choice s) row
meets-begun s choice row M = record {
  words = M.words;
  slots = slots-left s.memory (given_memory choice.given s.memory)
      s.slots row.slots (λ k held e. stays-given choice.given s.memory held) M.slots;
  pointers = M.pointers;
  pairs = M.pairs;
}

-- the moment with that in memory
abbrev pub begun_moment : Moment → Choice → Moment
begun_moment m choice =
    let G = m.good in
    record m {
      state = begun choice m.state;
      good = record {
        routine = G.routine;
        point = G.point;
        has = G.has;
        frames = G.frames;
        stack = G.stack;
        chain = G.chain;
        sound = sound-begun m.base m.state choice G.sound;
        meets = meets-begun m.state choice G.point.row G.meets;
      };
    }
