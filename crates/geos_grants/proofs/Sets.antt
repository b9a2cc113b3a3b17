-- Sets of effects, and lists.
use Rattle.std.proofs.Common.{◌≡◌, ℕ, zero, suc, Bool, true, false, cond, Option, Some, None, List, [], ◌∷◌, length, refl, subst, arith}
use Rattle.std.specs.Prelude.{◌&&◌, ◌||◌, not, slice_index_or}
use Rattle.geos_verify.specs.Lists.{zip2}
use Rattle.geos_grants.specs.declared.effect.Effect.{Effect}
use Rattle.geos_grants.specs.declared.effect.Effect.TheVariants.{Output, ReadsLent, ChangesLent, Memory, LocksByHandle, ReadsFile, ChangesFile, Map, Commits}
use Rattle.geos_grants.specs.declared.effects.Effects.{Effects}
use Rattle.geos_grants.specs.Grants.{is_beyond, plain_beyond}
use Rattle.geos_grants.specs.Sets.{has, united}

-- the flags of two lists of one length, at a place
pub zip2-at : (xs ys : List Bool) → length xs ≡ length ys → (k : ℕ)
    → slice_index_or (zip2 ◌||◌ xs ys) k false ≡ (slice_index_or xs k false || slice_index_or ys k false)
zip2-at [] [] same k = refl
zip2-at [] (y ∷ ys) same k = absurd (omega (arith, same))
zip2-at (x ∷ xs) [] same k = absurd (omega (arith, same))
zip2-at (x ∷ xs) (y ∷ ys) same zero = refl
zip2-at (x ∷ xs) (y ∷ ys) same (suc k) = zip2-at xs ys (omega (arith, same)) k

-- the united set has what one of the two has
pub united-has : (a b : Effects) → length a.reads_lent ≡ length b.reads_lent → length a.changes_lent ≡ length b.changes_lent → (effect : Effect)
    → has (united a b) effect ≡ (has a effect || has b effect)
united-has a b reads changes Output = refl
united-has a b reads changes (ReadsLent k) = zip2-at a.reads_lent b.reads_lent reads k
united-has a b reads changes (ChangesLent k) = zip2-at a.changes_lent b.changes_lent changes k
united-has a b reads changes Memory = refl
united-has a b reads changes LocksByHandle = refl
united-has a b reads changes ReadsFile = refl
united-has a b reads changes ChangesFile = refl
united-has a b reads changes Map = refl
united-has a b reads changes Commits = refl

-- Effects that are found and not granted

is-denied : (x y : Bool) → (x && not y) ≡ true → (x ≡ true) × (y ≡ false)
is-denied true false h = (refl, refl)
is-denied true true h = absurd cc
is-denied false y h = absurd cc

is-allowed : (x y : Bool) → (x && not y) ≡ false → x ≡ true → y ≡ true
is-allowed true true h x = refl
is-allowed true false h x = absurd cc
is-allowed false y h x = absurd cc

cond-some : (P : Effect → Type 0) (b : Bool) (x e : Effect) (rest : Option Effect) → (b ≡ true → P x) → (rest ≡ Some e → P e)
    → cond b (Some x) rest ≡ Some e → P e
cond-some P true x e rest here later is = (let same : x ≡ e = cc in subst P same (here refl))
cond-some P false x e rest here later is = later is

cond-none : (b : Bool) (x : Effect) (rest : Option Effect) → cond b (Some x) rest ≡ None → (b ≡ false) × (rest ≡ None)
cond-none true x rest is = absurd cc
cond-none false x rest is = (refl, is)

module _ (found grants : Effects) where
  abbrev IsDenied : Effect → Type 0
  IsDenied effect = (has found effect ≡ true) × (has grants effect ≡ false)

  denied : (effect : Effect) → is_beyond found grants effect ≡ true → IsDenied effect
  denied effect h = is-denied (has found effect) (has grants effect) h

  allowed : (effect : Effect) → is_beyond found grants effect ≡ false → has found effect ≡ true → has grants effect ≡ true
  allowed effect h = is-allowed (has found effect) (has grants effect) h

  -- the one that is found first is not granted
  pub plain-some : (effect : Effect) → plain_beyond found grants ≡ Some effect → (has found effect ≡ true) × (has grants effect ≡ false)
  plain-some effect =
      cond-some IsDenied (is_beyond found grants Output) Output effect _ (denied Output)
      (cond-some IsDenied (is_beyond found grants Memory) Memory effect _ (denied Memory)
      (cond-some IsDenied (is_beyond found grants LocksByHandle) LocksByHandle effect _ (denied LocksByHandle)
      (cond-some IsDenied (is_beyond found grants ReadsFile) ReadsFile effect _ (denied ReadsFile)
      (cond-some IsDenied (is_beyond found grants ChangesFile) ChangesFile effect _ (denied ChangesFile)
      (cond-some IsDenied (is_beyond found grants Map) Map effect _ (denied Map)
      (cond-some IsDenied (is_beyond found grants Commits) Commits effect None (denied Commits) (λ e. absurd cc)))))))

  -- where none is found, all are granted
  pub all-granted : plain_beyond found grants ≡ None
      → ((k : ℕ) → slice_index_or found.reads_lent k false ≡ true → slice_index_or grants.reads_lent k false ≡ true)
      → ((k : ℕ) → slice_index_or found.changes_lent k false ≡ true → slice_index_or grants.changes_lent k false ≡ true)
      → (effect : Effect) → has found effect ≡ true → has grants effect ≡ true
  all-granted none reads changes effect is =
      let first = cond-none (is_beyond found grants Output) Output _ none in
      let second = cond-none (is_beyond found grants Memory) Memory _ first.1 in
      let third = cond-none (is_beyond found grants LocksByHandle) LocksByHandle _ second.1 in
      let fourth = cond-none (is_beyond found grants ReadsFile) ReadsFile _ third.1 in
      let fifth = cond-none (is_beyond found grants ChangesFile) ChangesFile _ fourth.1 in
      let sixth = cond-none (is_beyond found grants Map) Map _ fifth.1 in
      let seventh = cond-none (is_beyond found grants Commits) Commits None sixth.1 in
      by first.0 second.0 third.0 fourth.0 fifth.0 sixth.0 seventh.0 effect is
    where
      by : is_beyond found grants Output ≡ false → is_beyond found grants Memory ≡ false → is_beyond found grants LocksByHandle ≡ false
          → is_beyond found grants ReadsFile ≡ false → is_beyond found grants ChangesFile ≡ false → is_beyond found grants Map ≡ false
          → is_beyond found grants Commits ≡ false → (effect : Effect) → has found effect ≡ true → has grants effect ≡ true
      by a b c d e f g Output = allowed Output a
      by a b c d e f g (ReadsLent k) = reads k
      by a b c d e f g (ChangesLent k) = changes k
      by a b c d e f g Memory = allowed Memory b
      by a b c d e f g LocksByHandle = allowed LocksByHandle c
      by a b c d e f g ReadsFile = allowed ReadsFile d
      by a b c d e f g ChangesFile = allowed ChangesFile e
      by a b c d e f g Map = allowed Map f
      by a b c d e f g Commits = allowed Commits g
