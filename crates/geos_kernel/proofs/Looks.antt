-- The calls that look at chunks.
use Rattle.std.proofs.Common.{◌≡◌, ℕ, ◌+◌, ◌<◌, List, Option, Some, None, refl, arith}
use Rattle.std.specs.Prelude.{Result, Ok, Err, IfSome}
use Rattle.geos_terms.specs.declared.name.Name.{Name}
use Rattle.geos_terms.specs.declared.refusal.Refusal.{Refusal}
use Rattle.geos_terms.specs.Block as block
use Rattle.geos_terms.specs.Edits.{Edit, Part}
use Rattle.geos_terms.specs.Refusals.{first_refusal}
use Rattle.geos_calls.specs.Calls as table
use Rattle.geos_calls.specs.Effects.{Call, Reference}
use Rattle.block_handles.specs.Names.{slot_of}
use Rattle.block_handles.specs.Store as store
use Rattle.block_handles.specs.Store.{Store}
use Rattle.vm_file.specs.Device.{Medium}
use Rattle.vm_blocks.specs.View.{VmState}
use Rattle.chunk_calls.specs.Edits.{Finds, Tells}
use Rattle.chunk_calls.specs.Heaps.{HoldsHeap}
use Rattle.chunk_calls.proofs.Rows.{refers-not-row, refers-row, tells-row}
use Rattle.geos_kernel.specs.declared.span.Span.{Span}
use Rattle.geos_kernel.specs.View.{KernelState, chunks_at, core_of}
use Rattle.geos_kernel.specs.Spans.{Stands, IsStanding}
use Rattle.geos_kernel.specs.Kernel.{IsKernel, Calls, GivesSpan}
use Rattle.geos_kernel.proofs.Rowed.{row-calls}

-- a span that a row gives stands for some reference
pub gives-standing : (good : Type 0) (call : Call Reference) (span : Span) (s : KernelState) → GivesSpan good call (Ok span) s → IsStanding s span
gives-standing good call span s (Ok ref, answers, stands) = (ref, stands)
gives-standing good call span s (Err refusal, answers, stands) = absurd stands

-- a span stands for bytes that were found in a locked block
pub found-stands : (s : KernelState) (name : Name) → 0 < store.locks_of s.blocks (slot_of name)
    → (edit : List (Option (List ℕ)) → Edit Part) (at len place : ℕ) → place ≡ store.place_of s.blocks (slot_of name)
    → Finds edit (store.bytes_of s.blocks (slot_of name)) (Ok (at, len)) → Stands s (record { at = place + at; len = len })
    (table.in_block name (edit (chunks_at s.blocks name)).answer)
found-stands s name locked edit at len place e h =
    let lies = h.2 in
    record {
      bytes = lies.whole;
      locked = locked;
      chunk = lies.chunk;
      fits = lies.fits;
      len = h.1;
      place = λ some. moved (block.place_of (store.bytes_of s.blocks (slot_of name)) answer.chunk) (lies.place some);
    }
  where
    answer : Part
    answer = (edit (chunks_at s.blocks name)).answer

    moved : (o : Option block.Place) → IfSome o (λ q. at ≡ q.at + answer.start)
        → IfSome o (λ q. place + at ≡ store.place_of s.blocks (slot_of name) + q.at + answer.start)
    moved None h = tt
    moved (Some q) h = omega (arith, e, h)

module _ {D : Type 0} (medium : Medium D) (v : VmState D) (s : Store) (name : Name) (k : IsKernel medium v s) (holds : HoldsHeap s name) where
  abbrev sees : KernelState
  sees = core_of medium v s

  -- a call that tells something of the chunks
  pub told : {A : Type 0} (edit : List (Option (List ℕ)) → Edit A) (r : Result A Refusal) → Tells edit (chunks_at s name) r
      → Calls (medium.honest v.file.device) (table.reads edit name) r sees sees
  told edit r h =
      row-calls medium (table.reads edit name) r v s s (tells-row medium v edit s name k.tied holds r h)
      (λ f tied choice span ref stands fresh. stands)

  -- a call that gives a reference, or refuses it
  pub refers-not : (edit : List (Option (List ℕ)) → Edit Part) (why : Refusal) → first_refusal (edit (chunks_at s name)).refusals ≡ Some why
      → GivesSpan (medium.honest v.file.device) (table.refers edit name) (Err why) sees
  refers-not edit why came = (
    Err why,
    row-calls medium (table.refers edit name) (Err why) v s s (refers-not-row medium v edit s name k.tied holds why came)
        (λ f tied choice span ref stands fresh. stands),
    refl,
  )

  -- bytes that were found
  pub found : 0 < store.locks_of s (slot_of name) → (edit : List (Option (List ℕ)) → Edit Part) (at len place : ℕ)
      → place ≡ store.place_of s (slot_of name) → Finds edit (store.bytes_of s (slot_of name)) (Ok (at, len))
      → GivesSpan (medium.honest v.file.device) (table.refers edit name) (Ok (record { at = place + at; len = len })) sees
  found locked edit at len place e h = (
    Ok (table.in_block name (edit (chunks_at s name)).answer),
    row-calls medium (table.refers edit name) (Ok (table.in_block name (edit (chunks_at s name)).answer)) v s s
        (refers-row medium v edit s name k.tied holds h.0) (λ f tied choice span ref stands fresh. stands),
    found-stands sees name locked edit at len place e h,
  )
