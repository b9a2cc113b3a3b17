-- Blocks of the model that match still do where less is known of the device.
use Rattle.std.proofs.Common.{◌≡◌, ℕ, List, Option, Some, None, sym, ap, ◌∙◌}
use Rattle.geos_calls.specs.Blocks.{Heap}
use Rattle.geos_calls.specs.Directories.{VmBlock, KeptBlock}
use Rattle.geos_calls.specs.Directories as model
use Rattle.geos_calls.specs.Handles.{at_handle}
use Rattle.geos_calls.specs.VmFile as model_file
use Rattle.block_handles.specs.Store as store
use Rattle.vm_file.specs.declared.directory.Directory.{Directory}
use Rattle.vm_file.specs.declared.directory.Entry.{Entry}
use Rattle.vm_file.specs.Contents.{Block, Pair}
use Rattle.vm_file.specs.State.{bytes_of_block}
use Rattle.vm_blocks.specs.declared.entries.Held.{Held}
use Rattle.vm_blocks.specs.Spelled.{heap_read}
use Rattle.vm_blocks.specs.Matches.{IsHeapRead, IsListedAs, IsStoredAs, IsDirectoryOf, IsPairOf, entry_at}

-- `well` says more than `good`; and then other bytes are read, which are the same
module _ (good well : Type 0) (more : well → good) where
  pub read-on : (len : ℕ) (read now : List ℕ) (heap : Heap) → (well → now ≡ read) → IsHeapRead good len read heap → IsHeapRead well len now heap
  read-on len read now heap same is = record { size = is.size; same = λ w. is.same (more w) ∙ ap (heap_read len) (sym (same w)) }

  pub listed-on : (read now : List ℕ) (e : Option Held) (b : Option store.Block) (listed : Option VmBlock)
      → (well → now ≡ read) → IsListedAs good read e b listed → IsListedAs well now e b listed
  listed-on read now None b listed same is = is
  listed-on read now (Some e) (Some b) listed same is = is
  listed-on read now (Some e) None None same is = is
  listed-on read now (Some e) None (Some l) same is = record {
    uid = is.uid;
    marked = is.marked;
    locks = is.locks;
    heap =
        read-on e.len read now l.block.heap same is.heap;
  }

  pub stored-on : (read now : List ℕ) (e : Option Entry) (kept : Option KeptBlock) → (well → now ≡ read)
      → IsStoredAs good read e kept → IsStoredAs well now e kept
  stored-on read now None kept same is = is
  stored-on read now (Some e) None same is = is
  stored-on read now (Some e) (Some k) same is = record { uid = is.uid; heap = read-on e.len read now k.heap same is.heap }

  pub directory-on : (d : Directory) (read now : List Block) (directory : model.Directory KeptBlock) → (well → now ≡ read)
      → IsDirectoryOf good d read directory → IsDirectoryOf well d now directory
  directory-on d read now directory same is = record {
    handles = is.handles;
    each = λ h p. stored-on (bytes_of_block read h) (bytes_of_block now h) (entry_at d h) (at_handle None directory.blocks h)
        (λ w. ap (λ bs. bytes_of_block bs h) (same w)) (is.each h p);
    map_block = is.map_block;
    map_group = is.map_group;
    map_item = is.map_item;
  }

  pub pair-on : (c d : Directory) (read now : Pair) (pair : model_file.Pair) → (well → now ≡ read) → IsPairOf good c d read pair
      → IsPairOf well c d now pair
  pair-on c d read now pair same is = record {
    cur = directory-on c read.cur.blocks now.cur.blocks pair.cur (λ w. ap (λ (q : Pair). q.cur.blocks) (same w)) is.cur;
    saved = directory-on d read.saved.blocks now.saved.blocks pair.saved (λ w. ap (λ (q : Pair). q.saved.blocks) (same w)) is.saved;
  }
