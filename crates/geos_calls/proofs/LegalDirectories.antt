-- What keeps directories of the VM file legal.
use Rattle.std.proofs.Common.{◌≡◌, ◌≢◌, ℕ, zero, suc, ◌<◌, Bool, true, false, ◌==◌, if◌then◌else◌, Option, Some, None, get_or, replicate, refl, sym, ap, ◌∙◌, subst, arith}
use Rattle.std.specs.Prelude.{IfSome, IsSomeAnd, option_map}
use Rattle.std.proofs.lemmas.Bool.{eq-eqb}
use Rattle.std.proofs.lemmas.List.{length-map, length-replicate}
use Rattle.geos_calls.specs.Handles.{at_handle, with_entry_at}
use Rattle.geos_calls.specs.Directories.{VmBlock, KeptBlock, Directory, kept_block, idle_block, with_each, without_block, no_directory}
use Rattle.geos_terms.specs.Names.{group_uid}
use Rattle.geos_calls.specs.VmFile.{Pair, Kept, Sure, Unsure, doubted, empty_file}
use Rattle.geos_calls.specs.Legal.{IsLegalListed, IsLegalKept, uid_at, IsLegalDirectory, IsCurrent, IsStored, IsPair, ArePairs, IsFile}
use Rattle.geos_calls.proofs.Laws.{entry-other}
use Rattle.geos_calls.proofs.HandleLists.{entry-kept, entry-told, entry-each, length-with_entry_at}

-- a directory without a block lists none
get-none : {X : Type 0} (n k : ℕ) → get_or {A = Option X} (replicate n None) k None ≡ None
get-none zero k = refl
get-none (suc n) zero = refl
get-none (suc n) (suc k) = get-none n k

pub none-listed : {B : Type 0} (h : ℕ) → at_handle None (replicate {A = Option B} 1024 None) h ≡ None
none-listed zero = refl
none-listed (suc h) = get-none 1024 h

pub no_directory-legal : {B : Type 0} (legal : B → Type 0) (uid : B → ℕ) → IsLegalDirectory legal uid no_directory
no_directory-legal {B} legal uid = record {
  handles = length-replicate {A = Option B} 1024 None;
  blocks = λ h. subst (λ b. IfSome b legal) (sym (none-listed h)) tt;
  maps = record { map_block = λ some. absurd (some refl); map_group = λ some. absurd (some refl); no_item = λ none. refl; word = omega arith };
}

module _ {B : Type 0} (legal : B → Type 0) (uid : B → ℕ) (directory : Directory B) (is : IsLegalDirectory legal uid directory) where
  -- an entry of the same user ID, or of none, in the place of one
  pub entry-legal : (h : ℕ) (entry : Option B) → IfSome entry legal → option_map uid entry ≡ uid_at uid directory h
      → IsLegalDirectory legal uid (record directory { blocks = with_entry_at directory.blocks h entry })
  entry-legal h entry new same = record {
    handles = length-with_entry_at directory.blocks h entry ∙ is.handles;
    blocks = λ k. entry-kept (λ b. IfSome b legal) directory.blocks h k entry None new (is.blocks k);
    maps = record {
      map_block = λ some. subst (λ u. IsSomeAnd u (λ u. u ≢ group_uid)) (sym (told directory.map_block)) (is.maps.map_block some);
      map_group = λ some. subst (λ u. IsSomeAnd u (λ u. u ≡ group_uid)) (sym (told directory.map_group)) (is.maps.map_group some);
      no_item = is.maps.no_item;
      word = is.maps.word;
    };
  }
    where
      told : (k : ℕ) → option_map uid (at_handle None (with_entry_at directory.blocks h entry) k) ≡ uid_at uid directory k
      told k = entry-told (option_map uid) directory.blocks h k entry None same

  -- a change of the entry of one handle preserves a property of another's user ID
  listed-else : (P : ℕ → Type 0) (h k : ℕ) (entry : Option B) → k ≢ h → IsSomeAnd (uid_at uid directory k) P
      → IsSomeAnd (option_map uid (at_handle None (with_entry_at directory.blocks h entry) k)) P
  listed-else P h k entry ne there = subst (λ o. IsSomeAnd (option_map uid o) P) (sym (entry-other None entry directory.blocks h k ne)) there

  -- nothing is mapped that is not listed
  apart : (P : ℕ → Type 0) (h k : ℕ) → at_handle None directory.blocks h ≡ None → IsSomeAnd (uid_at uid directory k) P → k ≢ h
  apart P h k none there e = let gone : uid_at uid directory k ≡ None = ap (uid_at uid directory) e ∙ ap (option_map uid) none in
      subst (λ o. IsSomeAnd o P) gone there

  -- an entry where there is none
  pub added-legal : (h : ℕ) (b : B) → legal b → at_handle None directory.blocks h ≡ None
      → IsLegalDirectory legal uid (record directory { blocks = with_entry_at directory.blocks h (Some b) })
  added-legal h b new none = record {
    handles = length-with_entry_at directory.blocks h (Some b) ∙ is.handles;
    blocks = λ k. entry-kept (λ b. IfSome b legal) directory.blocks h k (Some b) None new (is.blocks k);
    maps = record {
      map_block = λ some. (let there = is.maps.map_block some in
          listed-else (λ u. u ≢ group_uid) h directory.map_block (Some b) (apart (λ u. u ≢ group_uid) h directory.map_block none there) there);
      map_group = λ some. (let there = is.maps.map_group some in
          listed-else (λ u. u ≡ group_uid) h directory.map_group (Some b) (apart (λ u. u ≡ group_uid) h directory.map_group none there) there);
      no_item = is.maps.no_item;
      word = is.maps.word;
    };
  }

  -- a directory that lists a block no more
  pub removed-legal : (h : ℕ) → IsLegalDirectory legal uid (without_block directory h)
  removed-legal h = record {
    handles = length-with_entry_at directory.blocks h None ∙ is.handles;
    blocks = λ k. entry-kept (λ b. IfSome b legal) directory.blocks h k None None tt (is.blocks k);
    maps = record {
      map_block = block (directory.map_block == h) refl;
      map_group = group (directory.map_group == h) refl;
      no_item = item (directory.map_group == h);
      word = small (directory.map_group == h);
    };
  }
    where
      else-where : (k : ℕ) → (k == h) ≡ false → k ≢ h
      else-where k ne e = absurd (let yes_is = eq-eqb k h e in let both : false ≡ true = sym ne ∙ yes_is in cc)

      block : (b : Bool) → (directory.map_block == h) ≡ b → (if b then 0 else directory.map_block) ≢ 0
          → IsSomeAnd (option_map uid (at_handle None (with_entry_at directory.blocks h None) (if b then 0 else directory.map_block)))
          (λ u. u ≢ group_uid)
      block true e some = absurd (some refl)
      block false e some = listed-else (λ u. u ≢ group_uid) h directory.map_block None (else-where directory.map_block e) (is.maps.map_block some)

      group : (b : Bool) → (directory.map_group == h) ≡ b → (if b then 0 else directory.map_group) ≢ 0
          → IsSomeAnd (option_map uid (at_handle None (with_entry_at directory.blocks h None) (if b then 0 else directory.map_group)))
          (λ u. u ≡ group_uid)
      group true e some = absurd (some refl)
      group false e some = listed-else (λ u. u ≡ group_uid) h directory.map_group None (else-where directory.map_group e) (is.maps.map_group some)

      item : (b : Bool) → (if b then 0 else directory.map_group) ≡ 0 → (if b then 0 else directory.map_item) ≡ 0
      item true e = refl
      item false e = is.maps.no_item e

      small : (b : Bool) → (if b then 0 else directory.map_item) < 65536
      small true = omega arith
      small false = is.maps.word

-- a directory with each block changed, which keeps its user ID
pub each-legal : {A B : Type 0} (f : A → B) (of_a : A → Type 0) (of_b : B → Type 0) (uid_a : A → ℕ) (uid_b : B → ℕ)
    → ((a : A) → of_a a → of_b (f a)) → ((a : A) → uid_b (f a) ≡ uid_a a)
    → (directory : Directory A) → IsLegalDirectory of_a uid_a directory → IsLegalDirectory of_b uid_b (with_each f directory)
each-legal {A} {B} f of_a of_b uid_a uid_b keeps same directory is = record {
  handles = length-map directory.blocks (option_map f) ∙ is.handles;
  blocks = λ h. subst (λ b. IfSome b of_b) (sym (entry-each f directory.blocks h)) (changed (at_handle None directory.blocks h) (is.blocks h));
  maps = record {
    map_block = λ some. subst (λ u. IsSomeAnd u (λ u. u ≢ group_uid)) (sym (told directory.map_block)) (is.maps.map_block some);
    map_group = λ some. subst (λ u. IsSomeAnd u (λ u. u ≡ group_uid)) (sym (told directory.map_group)) (is.maps.map_group some);
    no_item = is.maps.no_item;
    word = is.maps.word;
  };
}
  where
    changed : (o : Option A) → IfSome o of_a → IfSome (option_map f o) of_b
    changed None legal = tt
    changed (Some a) legal = keeps a legal

    ids : (o : Option A) → option_map uid_b (option_map f o) ≡ option_map uid_a o
    ids None = refl
    ids (Some a) = ap Some (same a)

    told : (h : ℕ) → uid_at uid_b (with_each f directory) h ≡ uid_at uid_a directory h
    told h = ap (option_map uid_b) (entry-each f directory.blocks h) ∙ ids (at_handle None directory.blocks h)

-- the current directory as a commit writes it, and one of the device as it becomes current
pub written-legal : (directory : Directory VmBlock) → IsCurrent directory → IsStored (with_each kept_block directory)
written-legal = each-legal kept_block IsLegalListed IsLegalKept (λ (b : VmBlock). b.uid) (λ (b : KeptBlock). b.uid)
    (λ a legal. record { uid = legal.uid; heap = legal.block.heap }) (λ a. refl)

pub loaded-legal : (directory : Directory KeptBlock) → IsStored directory → IsCurrent (with_each idle_block directory)
loaded-legal = each-legal idle_block IsLegalKept IsLegalListed (λ (b : KeptBlock). b.uid) (λ (b : VmBlock). b.uid)
    (λ a legal. record { uid = legal.uid; block = record { heap = legal.heap; few = omega arith } }) (λ a. refl)

-- it may be another legal pair that the device holds
pub doubted-legal : (kept : Kept) (new : Pair) → ArePairs kept → IsPair new → ArePairs (doubted kept new)
doubted-legal (Sure p) new old legal = (old, legal)
doubted-legal (Unsure p q) new old legal = old

pub empty_file-legal : (area : ℕ) → IsFile (empty_file area)
empty_file-legal area =
    let none = no_directory-legal IsLegalKept (λ (b : KeptBlock). b.uid) in
    record { cur = no_directory-legal IsLegalListed (λ (b : VmBlock). b.uid); saved = none; kept = (none, none) }
