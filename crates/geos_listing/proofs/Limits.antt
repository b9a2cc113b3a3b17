-- What a legal image says of its instructions.
use Rattle.std.proofs.Common.{◌≡◌, ◌<◌, ℕ, zero, suc, ◌+◌, Bool, true, Some, List, [], ◌∷◌, length, take, slice_get, refl, sym, subst, arith, get_or}
use Rattle.std.specs.Prelude.{IfSome}
use Rattle.std.specs.List.{All, list_all}
use Rattle.std.specs.Option.{option_map_or}
use Rattle.std.proofs.lemmas.Bool.{and_parts}
use Rattle.std.proofs.lemmas.List.Elements.{All-more}
use Rattle.geos_image.specs.declared.point.Point.{Point}
use Rattle.geos_image.specs.Parts.{Parts}
use Rattle.geos_image.specs.declared.instr.Instr.{Instr}
use Rattle.geos_image.specs.Legal.{is_image, is_instr, is_given, is_point}
use Rattle.geos_image.proofs.Instrs.{is_below, image_parts}
use Rattle.geos_opcodes.specs.declared.fields.Field.TheVariants.{A, B, C, D, Imm, Target}
use Rattle.geos_listing.specs.Instrs.{KeepsLimits}

-- a legal instruction's fields are below the limits of what they hold
keeps_limits : (image : Parts) (i : Instr) → is_instr (length image.routines) (length image.points) i ≡ true → KeepsLimits image i
keeps_limits image i legal A = (is_below _ _ i legal).a
keeps_limits image i legal B = (is_below _ _ i legal).b
keeps_limits image i legal C = (is_below _ _ i legal).c
keeps_limits image i legal D = (is_below _ _ i legal).d
keeps_limits image i legal Imm = (is_below _ _ i legal).imm
keeps_limits image i legal Target = (is_below _ _ i legal).target

-- there is an element at an index
pub item_at : {A : Type 0} (xs : List A) (k : ℕ) → k < length xs → (x : A) × (slice_get xs k ≡ Some x)
item_at [] k lt = absurd (omega (arith, lt))
item_at (x ∷ xs) zero lt = (x, refl)
item_at (x ∷ xs) (suc k) lt = item_at xs k (omega (arith, lt))

-- where all pass a test, each does
list_all-get : {A : Type 0} (test : A → Bool) (xs : List A) (k : ℕ) (x : A) → list_all test xs ≡ true → slice_get xs k ≡ Some x → test x ≡ true
list_all-get test [] k x h e = absurd cc
list_all-get test (y ∷ xs) zero x h e = let same : y ≡ x = cc in subst (λ v. test v ≡ true) same ((and_parts (test y) (list_all test xs) h).0)
list_all-get test (y ∷ xs) (suc k) x h e = list_all-get test xs k x ((and_parts (test y) (list_all test xs) h).1) e

-- an element that is there is read
pub get_or-at : {A : Type 0} (xs : List A) (k : ℕ) (x d : A) → slice_get xs k ≡ Some x → get_or xs k d ≡ x
get_or-at [] k x d e = absurd cc
get_or-at (y ∷ xs) zero x d e = cc
get_or-at (y ∷ xs) (suc k) x d e = get_or-at xs k x d e

-- one more element is as all before it are
pub All-one_more : {A : Type 0} (P : A → Type 0) (xs : List A) (k : ℕ) → k < length xs → All P (take k xs)
    → IfSome (slice_get xs k) P → All P (take (k + 1) xs)
All-one_more P xs k lt before there =
    let at = item_at xs k lt in
    let here : P at.0 = rw at.1 at there in
    All-more P xs k at.0 lt before (subst P (sym (get_or-at xs k at.0 at.0 at.1)) here)

-- an instruction of a legal image keeps the limits
pub KeepsLimits-at : (image : Parts) (pc : ℕ) (i : Instr) → is_image image ≡ true → pc < length image.points
    → IfSome (slice_get image.points pc) (λ point. i ≡ point.instr) → KeepsLimits image i
KeepsLimits-at image pc i legal lt there =
    let n = length image.points in
    let r = length image.routines in
    let at = item_at image.points pc lt in
    let same : i ≡ at.0.instr = rw at.1 at there in
    let point = list_all-get (is_point image.keyed r n) image.points pc at.0 (image_parts image legal).points at.1 in
    rw same (keeps_limits image at.0.instr ((and_parts (is_instr r n at.0.instr) (is_given image.keyed at.0.row) point).0))

-- the text of the instruction at a pc
pub instr-at : (f : Instr → List ℕ) (points : List Point) (pc : ℕ) (i : Instr) → pc < length points
    → IfSome (slice_get points pc) (λ point. i ≡ point.instr)
    → option_map_or (λ point. f point.instr) (slice_get points pc) [] ≡ f i
instr-at f points pc i lt there =
    let at = item_at points pc lt in
    let same : i ≡ at.0.instr = rw at.1 at there in
    rw (at.1, same) refl
