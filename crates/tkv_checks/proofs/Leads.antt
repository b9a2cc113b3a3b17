-- What leads where: jumps in a row, and code that leads on to more places.
use Rattle.std.proofs.Common.{◌≡◌, ℕ, zero, suc, ◌+◌, Bool, true, false, Option, Some, None, List, refl, sym, subst, arith}
use Rattle.std.specs.Prelude.{◌==◌, slice_get}
use Rattle.geos_image.specs.declared.instr.Instr.{Instr}
use Rattle.geos_image.specs.Parts.{Parts}
use Rattle.tkv_meaning.specs.Statements.{Stmt, Skip, Act, Try, Leave, Then, Block, Loop, Count, Closing}
use Rattle.tkv_meaning.specs.Code.{aimed, jump, At, Jumps, Comes, chosen, with_label, Has, HasTest, HasCode}
use Rattle.tkv_checks.specs.declared.places.Place.{Place}
use Rattle.tkv_checks.specs.declared.places.Place.TheVariants as place
use Rattle.tkv_checks.specs.declared.places.Open.{Open}
use Rattle.tkv_checks.specs.declared.places.Open.TheVariants as open_as
use Rattle.tkv_checks.specs.Places.{IsAt, IsWithin, through, exits_at, IsGrown, Grows}

-- a property holds wherever another does
abbrev pub Implies : (ℕ → Type 0) → (ℕ → Type 0) → Type 0
Implies one other = (p : ℕ) → one p → other p

abbrev pub ImpliesAt : (ℕ → ℕ → Type 0) → (ℕ → ℕ → Type 0) → Type 0
ImpliesAt one other = (l p : ℕ) → one l p → other l p

pub comes_map : (image : Parts) (one other : ℕ → Type 0) → Implies one other → Implies (Comes image one) (Comes image other)
comes_map image one other f p (n, q, jumps, it) = (n, q, jumps, f q it)

jumps_to : (image : Parts) (there : ℕ → Type 0) (n p q : ℕ) → Jumps image n p q → Comes image there q → Comes image there p
jumps_to image there zero p q e comes = subst (Comes image there) (sym e) comes
jumps_to image there (suc n) p q (to, at, rest) comes = let more = jumps_to image there n to q rest comes in
    (suc more.0, more.1, (to, at, more.2), more.3)

pub comes_on : (image : Parts) (there : ℕ → Type 0) → Implies (Comes image (Comes image there)) (Comes image there)
comes_on image there p (n, q, jumps, comes) = jumps_to image there n p q jumps comes

-- one more jump at the end
pub jumped_on : (image : Parts) (p here to : ℕ) → At image here (jump to) → Comes image (λ q. q ≡ here) p → Comes image (λ q. q ≡ to) p
jumped_on image p here to at comes = comes_on image (λ q. q ≡ to) p (comes_map image (λ q. q ≡ here) (Comes image (λ q. q ≡ to))
    (λ q e. (1, to, (to, subst (λ (x : ℕ). At image x (jump to)) (sym e) at, refl), refl)) p comes)

pub here : (image : Parts) (there : ℕ → Type 0) → Implies there (Comes image there)
here image there p it = (0, p, refl, it)

-- a pc has a property if jumps lead from it to one that has
pub come_from : (image : Parts) (there : ℕ → Type 0) (c p : ℕ) → there c → Comes image (λ q. q ≡ c) p → Comes image there p
come_from image there c p it comes = comes_map image (λ q. q ≡ c) there (λ q e. subst there (sym e) it) p comes

pub within : (image : Parts) (one other : Place) → IsWithin one other → Implies (IsAt image one) (IsAt image other)
within image place.Nowhere other is p it = absurd it
within image (place.At c) other is p it = subst (λ (x : Place). IsAt image x p) is it
within image place.Returned other is p it = subst (λ (x : Place). IsAt image x p) is it

pub chosen_map : (b : Bool) (one other next more : ℕ → Type 0) → Implies one next → Implies other more → Implies (chosen b one other) (chosen b next more)
chosen_map true one other next more f g p it = f p it
chosen_map false one other next more f g p it = g p it

has_map : (image : Parts) (i : Instr) (one other : ℕ → Type 0) → Implies one other → Implies (Has image i one) (Has image i other)
has_map image i one other f p it =
    comes_map image (λ q. At image q i × one (q + 1)) (λ q. At image q i × other (q + 1)) (λ q k. (k.0, f (q + 1) k.1)) p it

test_map : (image : Parts) (k : ℕ) (body more : (ℕ → Type 0) → ℕ → Type 0) (one other : ℕ → Type 0)
    → ((after : ℕ → Type 0) → Implies (body after) (more after)) → Implies one other → Implies (HasTest image k body one) (HasTest image k more other)
test_map image k body more one other f g p (head, test, comes, code, at, it) =
    (head, test, comes, f (Comes image (λ q. q ≡ test)) head code, at, g (test + 1) it)

-- code leads on to more places
pub code_map : (image : Parts) (a : Stmt) (next more : ℕ → Type 0) (exits others : ℕ → ℕ → Type 0) → Implies next more → ImpliesAt exits others
    → Implies (HasCode image a next exits) (HasCode image a more others)
code_map image Skip next more exits others f g p it = comes_map image next more f p it
code_map image (Act i) next more exits others f g p it = has_map image i next more f p it
code_map image (Try i l) next more exits others f g p it =
    comes_map image (λ q. (to : ℕ) × At image q (aimed i to) × next (q + 1) × exits l to) (λ q. (to : ℕ) × At image q (aimed i to) × more (q + 1) × others l to)
    (λ q k. (k.0, k.1, f (q + 1) k.2, g l k.0 k.3)) p it
code_map image (Leave l) next more exits others f g p it = comes_map image (exits l) (others l) (g l) p it
code_map image (Then a b) next more exits others f g p it =
    code_map image a (HasCode image b next exits) (HasCode image b more others) exits others (code_map image b next more exits others f g) g p it
code_map image (Block l a) next more exits others f g p it =
    code_map image a next more (with_label l next exits) (with_label l more others) f
    (λ j. chosen_map (j == l) next (exits j) more (others j) f (g j)) p it
code_map image (Loop k a) next more exits others f g p it =
    code_map image a (HasTest image k (λ after. HasCode image a after exits) next) (HasTest image k (λ after. HasCode image a after others) more) exits others
    (test_map image k (λ after. HasCode image a after exits) (λ after. HasCode image a after others) next more
    (λ after. code_map image a after after exits others (λ q x. x) g) f) g p it
code_map image (Count k a) next more exits others f g p it =
    test_map image k (λ after. HasCode image a after exits) (λ after. HasCode image a after others) next more
    (λ after. code_map image a after after exits others (λ q x. x) g) f p it
code_map image (Closing a i) next more exits others f g p it =
    code_map image a (Has image i next) (Has image i more) (λ l. Has image i (exits l)) (λ l. Has image i (others l)) (has_map image i next more f)
    (λ l. has_map image i (exits l) (others l) (g l)) p it

-- What is open

through_map : (image : Parts) (one other : Option Open) (d : ℕ) (exits others : ℕ → ℕ → Type 0) → IsGrown one other → ImpliesAt exits others
    → ImpliesAt (through image one d exits) (through image other d others)
through_map image None other d exits others is g l p it = subst (λ (x : Option Open). through image x d others l p) is (g l p it)
through_map image (Some open_as.Turns) other d exits others is g l p it = subst (λ (x : Option Open). through image x d others l p) is (g l p it)
through_map image (Some (open_as.Closing i)) other d exits others is g l p it =
    subst (λ (x : Option Open). through image x d others l p) is (has_map image i (exits l) (others l) (g l) p it)
through_map image (Some (open_as.Block end)) None d exits others is g l p it = absurd cc
through_map image (Some (open_as.Block end)) (Some open_as.Turns) d exits others is g l p it = absurd cc
through_map image (Some (open_as.Block end)) (Some (open_as.Closing i)) d exits others is g l p it = absurd cc
through_map image (Some (open_as.Block end)) (Some (open_as.Block more)) d exits others is g l p it =
    chosen_map (l == d) (IsAt image end) (exits l) (IsAt image more) (others l) (within image end more is) (g l) p it

pub exits_map : (image : Parts) (old new : List Open) (d : ℕ) → Grows d old new → ImpliesAt (exits_at image old d) (exits_at image new d)
exits_map image old new zero grows l p it = absurd it
exits_map image old new (suc d) grows l p it =
    through_map image (slice_get old d) (slice_get new d) d (exits_at image old d) (exits_at image new d) (grows d (omega arith))
    (exits_map image old new d (λ i lt. grows i (omega (arith, lt)))) l p it

within_same : (a : Place) → IsWithin a a
within_same place.Nowhere = tt
within_same (place.At c) = refl
within_same place.Returned = refl

within_trans : (a b c : Place) → IsWithin a b → IsWithin b c → IsWithin a c
within_trans place.Nowhere b c f g = tt
within_trans (place.At n) b c f g = subst (λ (x : Place). IsWithin x c) (sym f) g
within_trans place.Returned b c f g = subst (λ (x : Place). IsWithin x c) (sym f) g

pub grown_same : (x : Option Open) → IsGrown x x
grown_same None = refl
grown_same (Some open_as.Turns) = refl
grown_same (Some (open_as.Closing i)) = refl
grown_same (Some (open_as.Block end)) = within_same end

pub grown_trans : (x y z : Option Open) → IsGrown x y → IsGrown y z → IsGrown x z
grown_trans None y z f g = subst (λ (w : Option Open). IsGrown w z) (sym f) g
grown_trans (Some open_as.Turns) y z f g = subst (λ (w : Option Open). IsGrown w z) (sym f) g
grown_trans (Some (open_as.Closing i)) y z f g = subst (λ (w : Option Open). IsGrown w z) (sym f) g
grown_trans (Some (open_as.Block a)) (Some (open_as.Block b)) (Some (open_as.Block c)) f g = within_trans a b c f g
grown_trans (Some (open_as.Block a)) (Some (open_as.Block b)) (Some open_as.Turns) f g = absurd cc
grown_trans (Some (open_as.Block a)) (Some (open_as.Block b)) (Some (open_as.Closing i)) f g = absurd cc
grown_trans (Some (open_as.Block a)) (Some (open_as.Block b)) None f g = absurd cc
grown_trans (Some (open_as.Block a)) (Some open_as.Turns) z f g = absurd cc
grown_trans (Some (open_as.Block a)) (Some (open_as.Closing i)) z f g = absurd cc
grown_trans (Some (open_as.Block a)) None z f g = absurd cc

pub grows_same : (d : ℕ) (xs : List Open) → Grows d xs xs
grows_same d xs i lt = grown_same (slice_get xs i)

pub grows_trans : (d : ℕ) (xs ys zs : List Open) → Grows d xs ys → Grows d ys zs → Grows d xs zs
grows_trans d xs ys zs f g i lt = grown_trans (slice_get xs i) (slice_get ys i) (slice_get zs i) (f i lt) (g i lt)
