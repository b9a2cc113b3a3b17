-- The keys of a table tell its names apart.
use Rattle.std.proofs.Common.{◌≡◌, ◌<◌, ◌≤◌, ◌+◌, ◌*◌, ◌^◌, ℕ, zero, suc, true, false, List, length, slice_index, refl, sym, ap, subst, ◌∙◌, arith, ⊎_elim}
use Rattle.std.specs.Prelude.{◌%◌, [], bytes_eq, nat_lt, cond, Some, None, slice_get, slice_index_or, slice_set}
use Rattle.std.specs.Int.{byte_worth, sum_through}
use Rattle.std.specs.Ordering.{is_eq, nat_cmp}
use Rattle.std.specs.Cmp.{unsigned_tied}
use Rattle.std.specs.Cmp.Lexicographic.{bytes_decides}
use Rattle.std.specs.List.{All}
use Rattle.std.specs.BTreeMap.{BTreeMap}
use Rattle.std.specs.BTreeMap as tree
use Rattle.std.proofs.Math.Path.{fun_ext}
use Rattle.std.proofs.Math.Nat.{mul_assoc, pow-suc}
use Rattle.std.proofs.lemmas.Nat.{same_from_place}
use Rattle.std.proofs.lemmas.Bool.{and_from, and_parts, cases_Bool, eq-eqb, eqb-true, false_from_ne_true, lt-ltb, ltb-true, ne_eqb, true≢false}
use Rattle.std.proofs.lemmas.List.{get_or_default}
use Rattle.std.proofs.lemmas.Grind.{same_number_lists}
use Rattle.std.proofs.lemmas.List.Sums.{AllPass-from_list_all, list_all-from_AllPass}
use Rattle.std.proofs.lemmas.Option.{slice_get_read}
use Rattle.geos_source.specs.declared.names.Table as code
use Rattle.geos_source.specs.declared.names.TheConstants.{TREES}
use Rattle.geos_source.specs.Names.{none_defined, with_name}
use Rattle.geos_source.specs.Keys.{key_of, is_keyed}
use Rattle.geos_source.specs.Tables.{value_at, table_of}
use Rattle.geos_source.proofs.Trees.{value_at-by, value_at-none, value_at-with}

-- a byte one place up is worth 256 times as much
worth-suc : (i b : ℕ) → byte_worth (suc i) b ≡ byte_worth i b * 256
worth-suc zero b = omega arith
worth-suc (suc i) b = ap (λ n. b * n) (pow-suc 256 (suc i)) ∙ sym (mul_assoc b (256 ^ suc i) 256)

-- so a sum of bytes one place up is worth 256 times as much
sum-times : (f g : ℕ → ℕ) (k : ℕ) → ((i : ℕ) → f i ≡ g i * 256) → sum_through f k ≡ sum_through g k * 256
sum-times f g zero h = h 0
sum-times f g (suc k) h = let front = sum-times f g k h in omega (arith, h (suc k))

-- a sum is its first term and the sum of the others
sum-first : (f : ℕ → ℕ) (k : ℕ) → sum_through f (suc k) ≡ f 0 + sum_through (λ i. f (suc i)) k
sum-first f zero = refl
sum-first f (suc k) = let front = sum-first f k in omega arith

-- what the bytes 0 to k are worth, the first of them as the lowest
abbrev worth : (ℕ → ℕ) → ℕ → ℕ
worth byte k = sum_through (λ i. byte_worth i (byte i)) k

-- the bytes after the first are one place up
worth-first : (byte : ℕ → ℕ) (k : ℕ) → worth byte (suc k) ≡ worth (λ i. byte (suc i)) k * 256 + byte 0
worth-first byte k =
    let first = sum-first (λ i. byte_worth i (byte i)) k in
    let others = sum-times (λ i. byte_worth (suc i) (byte (suc i))) (λ i. byte_worth i (byte (suc i))) k (λ i. worth-suc i (byte (suc i))) in
    omega arith

-- bytes that are worth the same have the same first byte, and the others are worth the same
places-apart : (f g : ℕ → ℕ) (k : ℕ) → ((i : ℕ) → i ≤ suc k → f i < 256) → ((i : ℕ) → i ≤ suc k → g i < 256) → worth f (suc k) ≡ worth g (suc k)
    → (worth (λ i. f (suc i)) k ≡ worth (λ i. g (suc i)) k) × (f 0 ≡ g 0)
places-apart f g k small small' same =
    same_from_place _ _ _ _ 256 (small 0 (omega arith)) (small' 0 (omega arith)) (sym (worth-first f k) ∙ same ∙ worth-first g k)

-- bytes that are worth the same are the same
worth-apart : (f g : ℕ → ℕ) (k : ℕ) → ((i : ℕ) → i ≤ k → f i < 256) → ((i : ℕ) → i ≤ k → g i < 256) → worth f k ≡ worth g k
    → (i : ℕ) → i ≤ k → f i ≡ g i
worth-apart f g zero small small' same zero le = same
worth-apart f g zero small small' same (suc i) le = absurd (omega arith)
worth-apart f g (suc k) small small' same zero le = (places-apart f g k small small' same).1
worth-apart f g (suc k) small small' same (suc i) le =
    worth-apart (λ j. f (suc j)) (λ j. g (suc j)) k (λ j l. small (suc j) (omega arith)) (λ j l. small' (suc j) (omega arith))
    (places-apart f g k small small' same).0 i (omega arith)

-- 16 bytes have a key
pub is_keyed-from : (name : List ℕ) → length name ≡ 16 → ((k : ℕ) → slice_index name k < 256) → is_keyed name ≡ true
unfolding is_keyed
is_keyed-from name long small =
    and_from _ _ (eq-eqb _ _ long)
    (list_all-from_AllPass (λ b. nat_lt b 256) name (λ k d lt. lt-ltb _ 256 (subst (λ b. b < 256) (get_or_default name k 0 d lt) (small k))))

-- what has a key is 16 bytes
is_keyed-parts : (name : List ℕ) → is_keyed name ≡ true → (length name ≡ 16) × ((k : ℕ) → k < length name → slice_index name k < 256)
unfolding is_keyed
is_keyed-parts name keyed =
    let parts = and_parts _ _ keyed in
    (eqb-true _ _ parts.0, λ k lt. ltb-true _ 256 (AllPass-from_list_all (λ b. nat_lt b 256) name parts.1 k 0 lt))

-- names with the same key are the same
key_of-apart : (a b : List ℕ) → is_keyed a ≡ true → is_keyed b ≡ true → key_of a ≡ key_of b → a ≡ b
unfolding key_of
key_of-apart a b p q same =
    let first = is_keyed-parts a p in
    let second = is_keyed-parts b q in
    same_number_lists a b (omega arith)
    (λ k lt. worth-apart (slice_index a) (slice_index b) 15 (λ i le. first.1 i (omega arith)) (λ i le. second.1 i (omega arith)) same k (omega arith))

-- so the keys of two names are equal exactly if the names are
key_of-tells : (a b : List ℕ) → is_keyed a ≡ true → is_keyed b ≡ true → is_eq (nat_cmp (key_of a) (key_of b)) ≡ bytes_eq a b
key_of-tells a b p q =
    unsigned_tied (key_of a) (key_of b)
    ∙ ⊎_elim
    (λ yes. eq-eqb _ _ (ap key_of ((bytes_decides a b).0 yes)) ∙ sym yes)
    (λ no. ne_eqb _ _ (λ same. true≢false (sym ((bytes_decides a b).1 (key_of-apart a b p q same)) ∙ no)) ∙ sym no)
    (cases_Bool (bytes_eq a b))

-- what has no key is none of the names
other-keyed : (a b : List ℕ) → is_keyed a ≡ true → is_keyed b ≡ false → bytes_eq a b ≡ false
other-keyed a b p q = false_from_ne_true _ (λ yes. true≢false (sym p ∙ ap is_keyed ((bytes_decides a b).0 yes) ∙ q))

-- a table looks a name up by its key
table_of-keyed : (table : code.Table) (name : List ℕ) → is_keyed name ≡ true → table_of table name ≡ value_at table.trees.items (key_of name)
unfolding table_of
table_of-keyed table name keyed = ap (λ b. cond b (value_at table.trees.items (key_of name)) None) keyed

-- what has no key stands for nothing
table_of-other : (table : code.Table) (name : List ℕ) → is_keyed name ≡ false → table_of table name ≡ None
unfolding table_of
table_of-other table name other = ap (λ b. cond b (value_at table.trees.items (key_of name)) None) other

-- each key has a tree in a table
tree_there : (table : code.Table) (key : ℕ) (here : BTreeMap ℕ ℕ) → here ≡ slice_index_or table.trees.items (key % TREES) here
    → slice_get table.trees.items (key % TREES) ≡ Some here
tree_there table key here is =
    slice_get_read table.trees.items table.trees.len (key % TREES) here table.trees.ok.0 (omega (arith, table.all_trees)) is

-- a name stands for what its key stands for in its tree
pub table_of-there : (table : code.Table) (name : List ℕ) (key : ℕ) (here : BTreeMap ℕ ℕ) → is_keyed name ≡ true → key ≡ key_of name
    → here ≡ slice_index_or table.trees.items (key % TREES) here → tree.get nat_cmp here key ≡ table_of table name
table_of-there table name key here keyed its_key is =
    sym (value_at-by table.trees.items key (Some here) (tree_there table key here is)) ∙ ap (value_at table.trees.items) its_key
    ∙ sym (table_of-keyed table name keyed)

-- a table of trees with no keys has no names
pub table_of-none : (table : code.Table) → All (λ t. t.entries ≡ []) table.trees.items → table_of table ≡ none_defined
table_of-none table empty = fun_ext (λ name.
    ⊎_elim (λ yes. table_of-keyed table name yes ∙ value_at-none table.trees.items empty (key_of name))
    (λ no. table_of-other table name no) (cases_Bool (is_keyed name)))

-- a table with one more key has one more name
table_of-with : (old new : code.Table) (name : List ℕ) (value : ℕ) → is_keyed name ≡ true
    → ((key : ℕ) → value_at new.trees.items key ≡ cond (is_eq (nat_cmp (key_of name) key)) (Some value) (value_at old.trees.items key))
    → table_of new ≡ with_name (table_of old) name value
table_of-with old new name value keyed one_more = fun_ext (λ other.
    ⊎_elim
    (λ yes.
    table_of-keyed new other yes
    ∙ one_more (key_of other)
    ∙ ap (λ same. cond same (Some value) (value_at old.trees.items (key_of other))) (key_of-tells name other keyed yes)
    ∙ ap (cond (bytes_eq name other) (Some value)) (sym (table_of-keyed old other yes)))
    (λ no.
    table_of-other new other no
    ∙ sym (table_of-other old other no)
    ∙ ap (λ same. cond same (Some value) (table_of old other)) (sym (other-keyed name other keyed no)))
    (cases_Bool (is_keyed other)))

-- and so has a table in which the tree of that key has it
pub table_of-set : (old new : code.Table) (name : List ℕ) (key value : ℕ) (here next : BTreeMap ℕ ℕ) → is_keyed name ≡ true → key ≡ key_of name
    → here ≡ slice_index_or old.trees.items (key % TREES) here → new.trees.items ≡ slice_set old.trees.items (key % TREES) next
    → ((other : ℕ) → tree.get nat_cmp next other ≡ cond (is_eq (nat_cmp key other)) (Some value) (tree.get nat_cmp here other))
    → table_of new ≡ with_name (table_of old) name value
table_of-set old new name key value here next keyed its_key is set one_more =
    table_of-with old new name value keyed (λ other.
    ap (λ trees. value_at trees other) set
    ∙ value_at-with old.trees.items here next key value (tree_there old key here is) one_more other
    ∙ ap (λ k. cond (is_eq (nat_cmp k other)) (Some value) (value_at old.trees.items other)) its_key)
