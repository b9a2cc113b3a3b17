-- What a device gives keeps memory legal, and touches no block that is marked or locked.
use Rattle.std.proofs.Common.{◌≡◌, ◌≢◌, ℕ, zero, suc, ◌%◌, ◌<◌, ◌≤◌, Bool, true, false, ◌&&◌, ◌||◌, ◌==◌, if◌then◌else◌, List, [], ◌∷◌, Option, Some, None, length, get_or, refl, sym, ap, ◌∙◌, subst, arith}
use Rattle.std.specs.Prelude.{All, IfSome, IsSomeAnd, option_map, is_none, unwrap_or, not, nat_lt, nat_le}
use Rattle.std.proofs.lemmas.Bool.{and_parts, eqb-true}
use Rattle.std.proofs.lemmas.Bool.Decides.{nat_tests}
use Rattle.std.specs.List.{list_all}
use Rattle.std.proofs.lemmas.List.Elements.{All-nil, All-cons}
use Rattle.geos_terms.specs.declared.name.Owner.{Owner}
use Rattle.geos_terms.specs.declared.name.Owner.TheVariants.{Mem, Vm}
use Rattle.geos_terms.specs.declared.name.Name.{Name}
use Rattle.geos_terms.specs.Chunks.{need}
use Rattle.geos_calls.specs.Handles.{at_handle}
use Rattle.geos_calls.specs.Directories.{VmBlock, Directory, is_marked_in, is_held}
use Rattle.geos_terms.specs.Names.{group_uid}
use Rattle.geos_calls.specs.Memory.{Memory, listed_at, owned_block, block_of, locks_in, locks_of, is_marked}
use Rattle.geos_calls.specs.Given.{is_byte, is_chunk, can_hold, refilled, given_chunks, given_entry, given_entries, given_memory}
use Rattle.geos_calls.specs.Legal.{AreBytes, IsChunk, AreChunks, IsLegalListed, uid_at, IsCurrent, IsMemory}

-- The tests say what they are for

bytes-are : (bytes : List ℕ) → list_all is_byte bytes ≡ true → AreBytes bytes
bytes-are [] h = All-nil (λ b. b < 256)
bytes-are (b ∷ bytes) h =
    let p = and_parts (is_byte b) (list_all is_byte bytes) h in
    All-cons (λ b. b < 256) b bytes (byte b p.0) (bytes-are bytes p.1)
  where
    byte : (b : ℕ) → nat_lt b 256 ≡ true → b < 256
    byte b e = grind (arith, nat_tests)

chunk-is : (chunk : Option (List ℕ)) → is_chunk chunk ≡ true → IsChunk chunk
chunk-is None h = tt
chunk-is (Some bytes) h = bytes-are bytes h

chunks-are : (chunks : List (Option (List ℕ))) → list_all is_chunk chunks ≡ true → All IsChunk chunks
chunks-are [] h = All-nil IsChunk
chunks-are (c ∷ chunks) h =
    let p = and_parts (is_chunk c) (list_all is_chunk chunks) h in
    All-cons IsChunk c chunks (chunk-is c p.0) (chunks-are chunks p.1)

-- chunks that a block can hold are legal, and it has room for them
pub can_hold-legal : (size : ℕ) (chunks : List (Option (List ℕ))) → can_hold size chunks ≡ true → AreChunks chunks × (need chunks ≤ size)
can_hold-legal size chunks h =
    let front = list_all is_chunk chunks in
    let even = length chunks % 2 == 0 in
    let two = nat_le 2 (length chunks) in
    let room = and_parts (front && even && two) (nat_le (need chunks) size) h in
    let some = and_parts (front && even) two room.0 in
    let pairs = and_parts front even some.0 in (
      record { bytes = chunks-are chunks pairs.0; pairs = eqb-true (length chunks % 2) 0 pairs.1; some = at_least 2 (length chunks) some.1 },
      at_least (need chunks) size room.1,
    )
  where
    at_least : (n m : ℕ) → nat_le n m ≡ true → n ≤ m
    at_least n m e = grind (arith, nat_tests)

-- One block

given-legal : (chunks : List (Option (List ℕ))) (listed : VmBlock) → IsLegalListed listed → IsLegalListed (given_chunks chunks listed)
given-legal chunks listed legal = go (not (is_held listed) && can_hold listed.block.heap.size chunks) refl
  where
    go : (b : Bool) → (not (is_held listed) && can_hold listed.block.heap.size chunks) ≡ b
        → IsLegalListed (if b then refilled listed chunks else listed)
    go false e = legal
    go true e =
        let p = and_parts (not (is_held listed)) (can_hold listed.block.heap.size chunks) e in
        let fits = can_hold-legal listed.block.heap.size chunks p.1 in
        let heap = legal.block.heap in
        record {
          uid = legal.uid;
          block = record {
            heap = record { chunks = fits.0; least = heap.least; most = heap.most; sixteens = heap.sixteens; fits = fits.1 };
            few = legal.block.few;
          };
        }

entry-given : (given : Option (List (Option (List ℕ)))) (entry : Option VmBlock) → IfSome entry IsLegalListed
    → IfSome (given_entry given entry) IsLegalListed
entry-given None entry legal = legal
entry-given (Some chunks) None legal = tt
entry-given (Some chunks) (Some listed) legal = given-legal chunks listed legal

-- a function of a block that no given chunks change has the same value after chunks are given
module _ {X : Type 0} (g : VmBlock → X) (same : (chunks : List (Option (List ℕ))) (listed : VmBlock) → g (refilled listed chunks) ≡ g listed) where
  chunks-told : (chunks : List (Option (List ℕ))) (listed : VmBlock) → g (given_chunks chunks listed) ≡ g listed
  chunks-told chunks listed = go (not (is_held listed) && can_hold listed.block.heap.size chunks)
    where
      go : (b : Bool) → g (if b then refilled listed chunks else listed) ≡ g listed
      go true = same chunks listed
      go false = refl

  pub entry-told_given : (given : Option (List (Option (List ℕ)))) (entry : Option VmBlock)
      → option_map g (given_entry given entry) ≡ option_map g entry
  entry-told_given None entry = refl
  entry-told_given (Some chunks) None = refl
  entry-told_given (Some chunks) (Some listed) = ap Some (chunks-told chunks listed)

-- a block that is marked or locked is given nothing
held-untouched : (chunks : List (Option (List ℕ))) (listed : VmBlock) → is_held listed ≡ true → given_chunks chunks listed ≡ listed
held-untouched chunks listed held = rw held refl

pub entry-untouched : (given : Option (List (Option (List ℕ)))) (listed : VmBlock) → is_held listed ≡ true
    → given_entry given (Some listed) ≡ Some listed
entry-untouched None listed held = refl
entry-untouched (Some chunks) listed held = ap Some (held-untouched chunks listed held)

-- The current directory

length-given : (given : List (Option (List (Option (List ℕ))))) (entries : List (Option VmBlock))
    → length (given_entries given entries) ≡ length entries
length-given [] entries = refl
length-given (g ∷ gs) [] = refl
length-given (g ∷ gs) (e ∷ es) = ap suc (length-given gs es)

nothing-given : (given : Option (List (Option (List ℕ)))) → given_entry given None ≡ None
nothing-given None = refl
nothing-given (Some chunks) = refl

get-given : (given : List (Option (List (Option (List ℕ))))) (entries : List (Option VmBlock)) (k : ℕ)
    → get_or (given_entries given entries) k None ≡ given_entry (get_or given k None) (get_or entries k None)
get-given [] entries k = refl
get-given (g ∷ gs) [] k = sym (nothing-given (get_or (g ∷ gs) k None))
get-given (g ∷ gs) (e ∷ es) zero = refl
get-given (g ∷ gs) (e ∷ es) (suc k) = get-given gs es k

-- what is listed under a handle in memory with what a device gives
pub listed-given : (given : List (Option (List (Option (List ℕ))))) (entries : List (Option VmBlock)) (h : ℕ)
    → at_handle None (given_entries given entries) h ≡ given_entry (at_handle None given h) (at_handle None entries h)
listed-given given entries zero = refl
listed-given given entries (suc h) = get-given given entries h

pub directory-given : (given : List (Option (List (Option (List ℕ))))) (directory : Directory VmBlock) → IsCurrent directory
    → IsCurrent (record directory { blocks = given_entries given directory.blocks })
directory-given given directory is = record {
  handles = length-given given directory.blocks ∙ is.handles;
  blocks = λ h. subst (λ b. IfSome b IsLegalListed) (sym (listed-given given directory.blocks h))
      (entry-given (at_handle None given h) (at_handle None directory.blocks h) (is.blocks h));
  maps = record {
    map_block = λ some. subst (λ u. IsSomeAnd u (λ u. u ≢ group_uid)) (sym (told directory.map_block)) (is.maps.map_block some);
    map_group = λ some. subst (λ u. IsSomeAnd u (λ u. u ≡ group_uid)) (sym (told directory.map_group)) (is.maps.map_group some);
    no_item = is.maps.no_item;
    word = is.maps.word;
  };
}
  where
    told : (h : ℕ) → uid_at (λ (b : VmBlock). b.uid) (record directory { blocks = given_entries given directory.blocks })
        h ≡ uid_at (λ (b : VmBlock). b.uid) directory h
    told h = ap (option_map (λ (b : VmBlock). b.uid)) (listed-given given directory.blocks h)
        ∙ entry-told_given (λ (b : VmBlock). b.uid) (λ chunks listed. refl) (at_handle None given h) (at_handle None directory.blocks h)

pub memory-given : (given : List (Option (List (Option (List ℕ))))) (memory : Memory) → IsMemory memory → IsMemory (given_memory given memory)
memory-given given memory legal = record {
  handles = legal.handles;
  blocks = legal.blocks;
  file = record { cur = directory-given given memory.file.cur legal.file.cur; saved = legal.file.saved; kept = legal.file.kept };
}

-- Named blocks

locks_in-listed : (listed : Option VmBlock) → locks_in (option_map (λ (l : VmBlock). l.block) listed) ≡ unwrap_or
    (option_map (λ (l : VmBlock). l.block.locks) listed) 0
locks_in-listed None = refl
locks_in-listed (Some l) = refl

none-listed : (listed : Option VmBlock) → is_none (option_map (λ (l : VmBlock). l.block) listed) ≡ is_none
    (option_map (λ (l : VmBlock). l.uid) listed)
none-listed None = refl
none-listed (Some l) = refl

module _ (given : List (Option (List (Option (List ℕ))))) (memory : Memory) where
  told : {X : Type 0} (g : VmBlock → X) → ((chunks : List (Option (List ℕ))) (listed : VmBlock) → g (refilled listed chunks) ≡ g listed) → (h : ℕ)
      → option_map g (listed_at (given_memory given memory) h) ≡ option_map g (listed_at memory h)
  told g same h = ap (option_map g) (listed-given given memory.file.cur.blocks h)
      ∙ entry-told_given g same (at_handle None given h) (at_handle None memory.file.cur.blocks h)

  -- counts of locks, and which blocks are there, are as they were
  pub locks_of-given : (name : Name) → locks_of (given_memory given memory) name ≡ locks_of memory name
  locks_of-given name = owned name.owner name.h
    where
      owned : (owner : Owner) (h : ℕ) → locks_in (owned_block (given_memory given memory) owner h) ≡ locks_in (owned_block memory owner h)
      owned Mem h = refl
      owned Vm h = locks_in-listed (listed_at (given_memory given memory) h)
          ∙ ap (λ o. unwrap_or o 0) (told (λ l. l.block.locks) (λ chunks listed. refl) h) ∙ sym (locks_in-listed (listed_at memory h))

  pub there-given : (name : Name) → is_none (block_of (given_memory given memory) name) ≡ is_none (block_of memory name)
  there-given name = owned name.owner name.h
    where
      owned : (owner : Owner) (h : ℕ) → is_none (owned_block (given_memory given memory) owner h) ≡ is_none (owned_block memory owner h)
      owned Mem h = refl
      owned Vm h = none-listed (listed_at (given_memory given memory) h) ∙ ap is_none (told (λ l. l.uid) (λ chunks listed. refl) h)
          ∙ sym (none-listed (listed_at memory h))

  -- so are marks
  pub is_marked-given : (h : ℕ) → is_marked (given_memory given memory) h ≡ is_marked memory h
  is_marked-given h = marked_in (listed_at (given_memory given memory) h)
      ∙ ap (λ o. unwrap_or o false) (told (λ l. l.marked) (λ chunks listed. refl) h) ∙ sym (marked_in (listed_at memory h))
    where
      marked_in : (listed : Option VmBlock) → is_marked_in listed ≡ unwrap_or (option_map (λ (l : VmBlock). l.marked) listed) false
      marked_in None = refl
      marked_in (Some l) = refl

  -- a block that is locked is as it was
  pub block_of-given : (name : Name) → 0 < locks_of memory name → block_of (given_memory given memory) name ≡ block_of memory name
  block_of-given name = owned name.owner name.h
    where
      held : (listed : VmBlock) → 0 < listed.block.locks → is_held listed ≡ true
      held listed some = rw (over 0 listed.block.locks some) (or-true listed.marked)
        where
          over : (n m : ℕ) → n < m → nat_lt n m ≡ true
          over n m lt = grind (arith, lt)

          or-true : (b : Bool) → (b || true) ≡ true
          or-true true = refl
          or-true false = refl

      listed-same : (entry : Option VmBlock) (gift : Option (List (Option (List ℕ))))
          → 0 < locks_in (option_map (λ (l : VmBlock). l.block) entry) → given_entry gift entry ≡ entry
      listed-same None gift some = nothing-given gift
      listed-same (Some l) gift some = entry-untouched gift l (held l some)

      owned : (owner : Owner) (h : ℕ) → 0 < locks_in (owned_block memory owner h)
          → owned_block (given_memory given memory) owner h ≡ owned_block memory owner h
      owned Mem h some = refl
      owned Vm h some = ap (option_map (λ (l : VmBlock). l.block)) (listed-given given memory.file.cur.blocks h
          ∙ listed-same (listed_at memory h) (at_handle None given h) some)
