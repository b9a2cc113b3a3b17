-- The model knows which handles name groups.
use Rattle.std.proofs.Common.{◌≡◌, ◌≢◌, ◌∙◌, ℕ, List, Option, Some, None, true, false, refl, ap, arith}
use Rattle.std.specs.Prelude.{◌==◌, IsSomeAnd, is_none, option_map}
use Rattle.std.proofs.lemmas.Bool.Decides.{nat_tests}
use Rattle.geos_calls.specs.Directories.{VmBlock, uid_in}
use Rattle.geos_terms.specs.Names.{group_uid}
use Rattle.geos_calls.specs.Given.{given_memory}
use Rattle.geos_calls.specs.Memory.{Memory, at_handle, is_group, listed_at}
use Rattle.geos_calls.proofs.LegalGiven.{entry-told_given, listed-given}
use Rattle.block_handles.specs.Store.{Store}
use Rattle.vm_file.specs.Device.{Medium}
use Rattle.vm_blocks.specs.FileOf.{IsMemoryOf}
use Rattle.vm_blocks.specs.Tied.{IsTied}
use Rattle.vm_blocks.specs.View.{VmState}
use Rattle.vm_blocks.proofs.Told.{some-uid, uid-some}
use Rattle.db_items.specs.Groups.{IsGroup}

-- what is listed has the user ID of groups, or not
has-group_uid : (l : Option VmBlock) → IsSomeAnd (option_map (λ (x : VmBlock). x.uid) l) (λ u. u ≡ group_uid) → (uid_in l == group_uid) ≡ true
has-group_uid None some = absurd some
has-group_uid (Some l) same = grind (arith, nat_tests, same)

hasnt-group_uid : (l : Option VmBlock) → (IsSomeAnd (option_map (λ (x : VmBlock). x.uid) l) (λ u. u ≡ group_uid) → ⊥)
    → (uid_in l == group_uid) ≡ false
hasnt-group_uid None none = refl
hasnt-group_uid (Some l) none = let ne : l.uid ≢ group_uid = none in grind (arith, nat_tests, ne)

-- a group is listed
some-listed : (l : Option VmBlock) → (uid_in l == group_uid) ≡ true → is_none l ≡ false
some-listed None is = absurd cc
some-listed (Some l) is = refl

pub group-listed : (m : Memory) (g : ℕ) → is_group m g ≡ true → is_none (listed_at m g) ≡ false
group-listed m g is = some-listed (listed_at m g) is

module _ {D : Type 0} (medium : Medium D) (v : VmState D) (s : Store) (tied : IsTied medium v s) (m : Memory)
    (is : IsMemoryOf medium v s m) (g : ℕ) where
  pub group-told : IsGroup v g → is_group m g ≡ true
  group-told group = has-group_uid (listed_at m g) (uid-some medium v s tied m is (λ u. u ≡ group_uid) g group)

  pub no_group-told : (IsGroup v g → ⊥) → is_group m g ≡ false
  no_group-told none = hasnt-group_uid (listed_at m g) (λ some. none (some-uid medium v s tied m is (λ u. u ≡ group_uid) g some))

-- no gift changes which handles do
same-uids : (k l : Option VmBlock) → option_map (λ (x : VmBlock). x.uid) k ≡ option_map (λ (x : VmBlock). x.uid) l → uid_in k ≡ uid_in l
same-uids None None same = refl
same-uids None (Some l) same = absurd cc
same-uids (Some k) None same = absurd cc
same-uids (Some k) (Some l) same = let e : k.uid ≡ l.uid = cc in e

pub is_group-given : (given : List (Option (List (Option (List ℕ))))) (m : Memory) (g : ℕ) → is_group (given_memory given m) g ≡ is_group m g
is_group-given given m g = ap (λ u. u == group_uid) (same-uids (listed_at (given_memory given m) g) (listed_at m g)
    (ap (option_map (λ (x : VmBlock). x.uid)) (listed-given given m.file.cur.blocks g)
    ∙ entry-told_given (λ (x : VmBlock). x.uid) (λ chunks listed. refl) (at_handle None given g) (at_handle None m.file.cur.blocks g)))
