-- What a commit leaves is tied.
use Rattle.std.proofs.Common.{◌≡◌, ◌∙◌, ℕ, List, length, Option, Some, None, true, refl, sym, ap, subst}
use Rattle.std.specs.Prelude.{option_map, unwrap_or}
use Rattle.geos_terms.specs.Heap.{IsBlockSize}
use Rattle.block_handles.specs.Names.{IsHandle}
use Rattle.block_handles.specs.Store.{Block, Store, block_at, bytes_in, IsBlock}
use Rattle.std.specs.Prelude.{Result}
use Rattle.vm_file.specs.Device.{Medium}
use Rattle.vm_file.specs.declared.directory.Directory.{Directory}
use Rattle.vm_file.specs.declared.error.CommitError.{CommitError}
use Rattle.vm_file.specs.declared.commit.How.{How}
use Rattle.vm_file.specs.declared.commit.How.TheVariants.{Update, Save, Revert}
use Rattle.vm_file.specs.Committing.{CommitsFile, contents_from, current_after, kept_after}
use Rattle.vm_file.specs.Contents as file
use Rattle.vm_file.specs.Directories.{is_directory}
use Rattle.vm_file.specs.State.{FileState, HasBlock, bytes_of_block, pair_of}
use Rattle.vm_blocks.specs.declared.entries.Held.{Held}
use Rattle.vm_blocks.specs.View.{VmState, bytes_read, held_at, vm_slot}
use Rattle.vm_blocks.specs.Tied.{IsTied, TiedAt}
use Rattle.vm_blocks.specs.Listed.{IsListOf, StoreAfter, cleaned, directory_of, len_now, resident_of}
use Rattle.vm_blocks.proofs.Opened.{list-maps, opened-tied}
use Rattle.vm_blocks.proofs.Directory.{bytes-held, has-held, listed-held}

-- the current directory is committed
module _ {D : Type 0} (medium : Medium D) (v w : VmState D) (s : Store) (tied : IsTied medium v s) (long : length w.entries ≡ 1024)
    (legal : is_directory w.file.current ≡ true)
    (lists : IsListOf w w.file.current) (current : w.file.current ≡ directory_of v s) (was : medium.honest w.file.device
    → medium.honest v.file.device)
    (pair : medium.honest v.file.device → (pair_of medium.image w.file).cur ≡ contents_from (resident_of s)
    (pair_of medium.image v.file).cur.blocks (directory_of v s)) where
  clean : (h : ℕ) → IsHandle h → held_at w h ≡ option_map (λ e. cleaned (len_now e (block_at s (vm_slot h))) e) (held_at v h)
  clean h p = (subst (IsListOf w) current lists).each h p ∙ listed-held v s h p

  has : (h : ℕ) (e : Held) → IsHandle h → held_at v h ≡ Some e → HasBlock w.file.current h (len_now e (block_at s (vm_slot h)))
  has h e p is = subst (λ d. HasBlock d h (len_now e (block_at s (vm_slot h)))) (sym current) (has-held v s h e p is)

  reads : medium.honest v.file.device → (h : ℕ) (e : Held) → IsHandle h → held_at v h ≡ Some e
      → bytes_read medium.image w.file h ≡ unwrap_or (resident_of s h) (bytes_read medium.image v.file h)
  reads good h e p is = ap (λ (c : file.Contents). bytes_of_block c.blocks h) (pair good)
      ∙ bytes-held v s (pair_of medium.image v.file).cur.blocks h e p is

  pub updated-tied : IsTied medium w s
  updated-tied = record {
    laid = tied.laid;
    long = long;
    each = λ h p. subst (λ o. TiedAt medium w.file h o (block_at s (vm_slot h))) (sym (clean h p))
        (on h p (held_at v h) (block_at s (vm_slot h)) refl refl (tied.each h p));
    maps = list-maps w w.file.current legal lists;
  }
    where
      size-at : (h : ℕ) (b : Block) → block_at s (vm_slot h) ≡ Some b → IsBlockSize (length b.bytes)
      size-at h b at = subst (λ o. IsBlockSize (length (bytes_in o))) at (tied.laid.sized (vm_slot h) (subst IsBlock (sym at) tt))

      on : (h : ℕ) → IsHandle h → (o : Option Held) (b : Option Block) → held_at v h ≡ o → block_at s (vm_slot h) ≡ b
          → TiedAt medium v.file h o b → TiedAt medium w.file h (option_map (λ e. cleaned (len_now e b) e) o) b
      on h p None None is at t = tt
      on h p None (Some b) is at t = t
      on h p (Some e) None is at t =
          record { size = t.size; clean = refl; kept = subst (λ b. HasBlock w.file.current h (len_now e b)) at (has h e p is) }
      on h p (Some e) (Some b) is at t = record {
        size = size-at h b at;
        heap = t.heap;
        handle = t.handle;
        kept = λ m. subst (λ b. HasBlock w.file.current h (len_now e b)) at (has h e p is);
        clean = λ m. record {
          long = refl;
          same = λ good. sym (reads (was good) h e p is
              ∙ ap (λ b. unwrap_or (option_map (λ (x : Block). x.bytes) b) (bytes_read medium.image v.file h)) at);
        };
      }

-- one of the three is
pub committed-tied : {D : Type 0} (medium : Medium D) (how : How) (v w : VmState D) (s t : Store) → IsTied medium v s
    → length w.entries ≡ 1024 → is_directory w.file.current ≡ true → IsListOf w w.file.current
    → w.file.current ≡ current_after how (directory_of v s) v.file.saved → (medium.honest w.file.device → medium.honest v.file.device)
    → (medium.honest v.file.device → pair_of medium.image w.file ≡ kept_after medium.image (resident_of s) how (directory_of v s) v.file)
    → StoreAfter how s t → IsTied medium w t
committed-tied medium Update v w s t tied long legal lists current was pair store =
    subst (IsTied medium w) (sym store) (updated-tied medium v w s tied long legal lists current was
    (λ good. ap (λ (p : file.Pair). p.cur) (pair good)))
committed-tied medium Save v w s t tied long legal lists current was pair store =
    subst (IsTied medium w) (sym store) (updated-tied medium v w s tied long legal lists current was
    (λ good. ap (λ (p : file.Pair). p.cur) (pair good)))
committed-tied medium Revert v w s t tied long legal lists current was pair store = opened-tied medium w t long legal lists
    (store.laid tied.laid) store.none

-- the same commit, seen of equal files
pub recommits : {D : Type 0} {medium : Medium D} {how : How} {resident : ℕ → Option (List ℕ)} {r : Result (Unit {0}) CommitError}
    (cur cur' : Directory) (f f' g g' : FileState D) → cur ≡ cur' → f ≡ f' → g ≡ g' → CommitsFile medium how resident cur f g r
    → CommitsFile medium how resident cur' f' g' r
recommits {D} {medium} {how} {resident} {r} cur cur' f f' g g' c a b e =
    subst (λ x. CommitsFile medium how resident cur' f' x r) b
    (subst (λ x. CommitsFile medium how resident cur' x g r) a
    (subst (λ x. CommitsFile medium how resident x f g r) c e))
