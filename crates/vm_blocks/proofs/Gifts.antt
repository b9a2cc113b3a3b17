-- A block that comes into memory is what the device gave for it: on an honest device nothing.
use Rattle.std.proofs.Common.{◌≡◌, ◌≢◌, ℕ, zero, suc, List, [], length, replicate, Option, Some, None, Bool, true, false, refl, sym, ap, ◌∙◌, subst, inl, inr}
use Rattle.std.specs.Prelude.{◌&&◌, not}
use Rattle.std.specs.Bool.{Decides}
use Rattle.std.specs.Cmp.Lexicographic.{pointwise}
use Rattle.std.specs.Str.{bytes_eq}
use Rattle.std.proofs.lemmas.Bool.{cases_eq}
use Rattle.std.proofs.lemmas.List.{length-replicate}
use Rattle.std.proofs.lemmas.Slice.Eq.{bytes_eq-Decides, slice_eq-Decides}
use Rattle.geos_terms.specs.Block.{chunks}
use Rattle.geos_calls.specs.Blocks as model
use Rattle.geos_calls.specs.Directories.{VmBlock, is_held}
use Rattle.geos_calls.specs.Given.{can_hold, given_chunks, given_entry, given_entries}
use Rattle.geos_calls.specs.Handles.{at_handle, with_entry_at}
use Rattle.geos_calls.specs.Legal.{IsLegalHeap}
use Rattle.geos_calls.specs.VmFile.{VmFile}
use Rattle.geos_calls.proofs.LegalDirectories.{none-listed}
use Rattle.geos_calls.proofs.LegalGiven.{listed-given, directory-given}
use Rattle.geos_calls.proofs.Laws.{entry-other}
use Rattle.block_handles.specs.Names.{IsHandle}
use Rattle.block_handles.specs.Store.{Block, Store, block_at}
use Rattle.vm_file.specs.Device.{Medium}
use Rattle.vm_blocks.specs.declared.entries.Held.{Held}
use Rattle.vm_blocks.specs.View.{VmState, bytes_read, held_at, vm_slot}
use Rattle.vm_blocks.specs.Tied.{IsTied}
use Rattle.vm_blocks.specs.Bring.{Keeps}
use Rattle.vm_blocks.specs.Spelled.{heap_in, heap_read, spelled}
use Rattle.vm_blocks.specs.Matches.{IsAway, IsListedAs}
use Rattle.vm_blocks.specs.FileOf.{IsCurrentOf, IsFileOf}
use Rattle.vm_blocks.proofs.HeapsRead.{can-hold, read-spelled}
use Rattle.vm_blocks.proofs.Files.{IsListedIn, file-cur, others-listed}
use Rattle.vm_blocks.proofs.Tables.{table-own}

-- Whether two lists of chunks are the same

abbrev same_chunk : Option (List ℕ) → Option (List ℕ) → Bool
same_chunk None None = true
same_chunk None (Some b) = false
same_chunk (Some a) None = false
same_chunk (Some a) (Some b) = bytes_eq a b

chunk-decides : (a b : Option (List ℕ)) → Decides (same_chunk a b) (a ≡ b)
chunk-decides None None = (λ t. refl, λ e. refl)
chunk-decides None (Some b) = (λ t. absurd cc, λ e. absurd cc)
chunk-decides (Some a) None = (λ t. absurd cc, λ e. absurd cc)
chunk-decides (Some a) (Some b) = let d = bytes_eq-Decides a b in (λ t. ap Some (d.0 t), λ e. d.1 cc)

chunks-decide : (xs ys : List (Option (List ℕ))) → Decides (pointwise same_chunk xs ys) (xs ≡ ys)
chunks-decide xs ys = slice_eq-Decides chunk-decides xs ys (pointwise same_chunk xs ys) refl

-- What is given for one block

abbrev pub gift : ℕ → List (Option (List ℕ)) → List (Option (List (Option (List ℕ))))
gift h cs = with_entry_at (replicate 1024 None) h (Some cs)

gift-own : (h : ℕ) (cs : List (Option (List ℕ))) → IsHandle h → at_handle None (gift h cs) h ≡ Some cs
gift-own h cs p = table-own None (Some cs) (replicate 1024 None) h (length-replicate {A = Option (List (Option (List ℕ)))} 1024 None) p

gift-other : (h k : ℕ) (cs : List (Option (List ℕ))) → k ≢ h → at_handle None (gift h cs) k ≡ None
gift-other h k cs ne = entry-other None (Some cs) (replicate 1024 None) h k ne ∙ none-listed k

nothing-at : (k : ℕ) → at_handle {X = Option (List (Option (List ℕ)))} None [] k ≡ None
nothing-at zero = refl
nothing-at (suc k) = refl

-- The block that came

module _ (good : Type 0) (read : List ℕ) (e : Held) (l : VmBlock) (away : IsAway good read e l) (clean : e.marked ≡ false)
    (bytes : List ℕ) (long : length bytes ≡ e.len) (legal : IsLegalHeap (heap_in bytes)) where
  -- what it is in memory
  abbrev came : VmBlock
  came = record { uid = e.uid; marked = e.marked; block = spelled 0 bytes }

  holds : (not (is_held l) && can_hold l.block.heap.size (chunks bytes)) ≡ true
  holds =
      let size : length bytes ≡ l.block.heap.size = long ∙ sym away.heap.size in
      let room : can_hold l.block.heap.size (chunks bytes) ≡ true = subst (λ n. can_hold n (chunks bytes) ≡ true) size
      (can-hold (heap_in bytes) legal) in
      rw (away.marked, away.locks, room) refl

  -- given its chunks, the block that is listed becomes that
  given-came : given_chunks (chunks bytes) l ≡ came
  given-came =
      let uid = away.uid in
      let marked : l.marked ≡ e.marked = away.marked ∙ sym clean in
      let locks = away.locks in
      let size : l.block.heap.size ≡ length bytes = away.heap.size ∙ sym long in
      rw holds (λ k. record {
        uid = uid k;
        marked = marked k;
        block =
            record { locks = locks k; heap = record { chunks = chunks bytes; size = size k } };
      })

  -- it is that where it holds the same chunks
  came-same : l.block.heap.chunks ≡ chunks bytes → l ≡ came
  came-same same =
      let uid = away.uid in
      let marked : l.marked ≡ e.marked = away.marked ∙ sym clean in
      let locks = away.locks in
      let size : l.block.heap.size ≡ length bytes = away.heap.size ∙ sym long in
      λ k. record { uid = uid k; marked = marked k; block = record { locks = locks k; heap = record { chunks = same k; size = size k } } }

  -- on an honest device it does
  honest-same : (good → bytes ≡ read) → good → l.block.heap.chunks ≡ chunks bytes
  honest-same same g = ap (λ (x : model.Heap). x.chunks) (away.heap.same g ∙ ap (heap_read e.len) (sym (same g))
      ∙ read-spelled e.len bytes long legal)

  -- what is given, so that it becomes that: nothing for another block
  pub record Gift (h : ℕ) : Type 0 where
    pub given : List (Option (List (Option (List ℕ))))
    pub nothing : good → given ≡ []
    pub own : given_entry (at_handle None given h) (Some l) ≡ Some came
    pub others : (k : ℕ) → k ≢ h → at_handle None given k ≡ None

  pub gift-is : (h : ℕ) → IsHandle h → (good → bytes ≡ read) → Gift h
  gift-is h p same = on (pointwise same_chunk l.block.heap.chunks (chunks bytes)) (chunks-decide l.block.heap.chunks (chunks bytes))
    where
      on : (b : Bool) → Decides b (l.block.heap.chunks ≡ chunks bytes) → Gift h
      on true d = record {
        given = [];
        nothing = λ g. refl;
        own = subst (λ g. given_entry g (Some l) ≡ Some came) (sym (nothing-at h)) (ap Some (came-same (d.0 refl)));
        others = λ k ne. nothing-at k;
      }
      on false d = record {
        given = gift h (chunks bytes);
        nothing = λ g. absurd (let x : false ≡ true = d.1 (honest-same same g) in cc);
        own = subst (λ g. given_entry g (Some l) ≡ Some came) (sym (gift-own h (chunks bytes) p)) (ap Some given-came);
        others = λ k ne. gift-other h k (chunks bytes) ne;
      }

-- The file

-- a file with what a device gives
abbrev pub given_file : List (Option (List (Option (List ℕ)))) → VmFile → VmFile
given_file given f = record f { cur = record f.cur { blocks = given_entries given f.cur.blocks } }

module _ {D : Type 0} (medium : Medium D) (v : VmState D) (s t : Store) (h : ℕ) (p : IsHandle h) (f : VmFile)
    (tied : IsTied medium v s) (keeps : Keeps v s t h) (is : IsFileOf medium.image medium.honest v s f) where
  -- the file with something given for one block, which then matches
  pub file-given : (given : List (Option (List (Option (List ℕ))))) → ((k : ℕ) → k ≢ h → at_handle None given k ≡ None)
      → IsListedIn medium v t h (given_entry (at_handle None given h) (at_handle None f.cur.blocks h))
      → IsFileOf medium.image medium.honest v t (given_file given f)
  file-given given others own =
      let legal = directory-given given f.cur is.legal.cur in
      let cur : IsCurrentOf medium.image medium.honest v t (record f.cur { blocks = given_entries given f.cur.blocks }) = record {
        handles = legal.handles;
        each = λ k q. subst (IsListedIn medium v t k) (sym (listed-given given f.cur.blocks k)) (elim (cases_eq k h) [
          | inl same ↦ subst (λ j. IsListedIn medium v t j (given_entry (at_handle None given j) (at_handle None f.cur.blocks j))) (sym same) own
          | inr ne ↦ subst (λ g. IsListedIn medium v t k (given_entry g (at_handle None f.cur.blocks k))) (sym (others k ne))
              (others-listed medium v s t h k (at_handle None f.cur.blocks k) p q ne tied keeps (is.legal.cur.blocks k) (is.cur.each k q))
        ]);
        map_block = is.cur.map_block;
        map_group = is.cur.map_group;
        map_item = is.cur.map_item;
      } in
      file-cur medium v v s t f (record f.cur { blocks = given_entries given f.cur.blocks }) refl cur legal is

  -- a file and what is given, nothing on an medium.honest device
  pub record GivesFile : Type 0 where
    pub given : List (Option (List (Option (List ℕ))))
    pub nothing : medium.honest v.file.device → given ≡ []
    pub file : IsFileOf medium.image medium.honest v t (given_file given f)

  -- nothing where the block is as it was
  pub gives-nothing : block_at t (vm_slot h) ≡ block_at s (vm_slot h) → GivesFile
  gives-nothing same = record {
    given = [];
    nothing = λ g. refl;
    file = file-given [] (λ k ne. nothing-at k)
        (subst (λ g. IsListedIn medium v t h (given_entry g (at_handle None f.cur.blocks h))) (sym (nothing-at h))
        (subst (λ b. IsListedAs (medium.honest v.file.device) (bytes_read medium.image v.file h) (held_at v h) b (at_handle None f.cur.blocks h))
        (sym same) (is.cur.each h p)));
  }

  -- the chunks of a block that came
  module _ (e : Held) (listed : held_at v h ≡ Some e) (absent : block_at s (vm_slot h) ≡ None) (clean : e.marked ≡ false) (bytes : List ℕ)
      (there : block_at t (vm_slot h) ≡ Some (let b : Block = record { locks = 0; bytes = bytes } in b))
      (long : length bytes ≡ e.len) (legal : IsLegalHeap (heap_in bytes)) (same : medium.honest v.file.device
      → bytes ≡ bytes_read medium.image v.file h) where
    -- what is listed in the model was away
    on : (o : Option VmBlock) → at_handle None f.cur.blocks h ≡ o → IsListedAs (medium.honest v.file.device)
        (bytes_read medium.image v.file h) (Some e) None o → GivesFile
    on None at away = absurd away
    on (Some l) at away =
        let g = gift-is (medium.honest v.file.device) (bytes_read medium.image v.file h) e l away clean bytes long legal h p same in
        let own : IsListedIn medium v t h (given_entry (at_handle None g.given h) (at_handle None f.cur.blocks h)) =
        subst (λ x. IsListedIn medium v t h (given_entry (at_handle None g.given h) x)) (sym at)
        (subst (λ x. IsListedAs (medium.honest v.file.device) (bytes_read medium.image v.file h) x (block_at t (vm_slot h))
        (given_entry (at_handle None g.given h) (Some l))) (sym listed)
        (subst (λ b. IsListedAs (medium.honest v.file.device) (bytes_read medium.image v.file h) (Some e) b
        (given_entry (at_handle None g.given h) (Some l))) (sym there) g.own)) in
        record { given = g.given; nothing = g.nothing; file = file-given g.given g.others own }

    pub gives-came : GivesFile
    gives-came =
        let at_h : IsListedAs (medium.honest v.file.device) (bytes_read medium.image v.file h) (Some e) None (at_handle None f.cur.blocks h) =
        subst (λ x. IsListedAs (medium.honest v.file.device) (bytes_read medium.image v.file h) x None (at_handle None f.cur.blocks h)) listed
        (subst (λ b. IsListedAs (medium.honest v.file.device) (bytes_read medium.image v.file h) (held_at v h) b (at_handle None f.cur.blocks h))
        absent (is.cur.each h p)) in
        on (at_handle None f.cur.blocks h) refl at_h
