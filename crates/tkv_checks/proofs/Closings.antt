-- The code of brackets, from the code of their bodies.
use Rattle.std.proofs.Common.{◌≡◌, ℕ, suc, ◌+◌, true, Option, Some, None, List, refl, sym, ◌∙◌, subst, inl, inr, ◌⊎◌}
use Rattle.std.specs.Prelude.{◌==◌, slice_get, IfSome}
use Rattle.geos_image.specs.declared.instr.Instr.{Instr}
use Rattle.geos_image.specs.Parts.{Parts}
use Rattle.tkv_places.specs.declared.placed.Placed.{Placed}
use Rattle.tkv_places.specs.declared.placed.PlacedKind.{PlacedKind}
use Rattle.tkv_places.specs.declared.placed.PlacedKind.TheVariants as kind
use Rattle.tkv_meaning.specs.Statements.{Stmt, Act, Try, Leave, Closing, is_plain, Continues, IsFormed}
use Rattle.tkv_meaning.specs.Code.{aimed, turn, At, Comes, with_label, Has, HasTry, HasTest, HasCode}
use Rattle.tkv_checks.specs.declared.places.Place.{Place}
use Rattle.tkv_checks.specs.declared.places.Place.TheVariants as place
use Rattle.tkv_checks.specs.declared.places.Open.{Open}
use Rattle.tkv_checks.specs.declared.places.Open.TheVariants as open_as
use Rattle.tkv_checks.specs.declared.steps.Bracket.{Bracket}
use Rattle.tkv_checks.specs.declared.steps.Outcomes.{Outcomes}
use Rattle.tkv_checks.specs.Places.{IsAt, IsWithin, through, exits_at}
use Rattle.tkv_checks.specs.Items.{no_block, IsBegin, wrapped}
use Rattle.tkv_checks.specs.Walks.{IsPast, IsTried, HasCodeFrom, LeavesTo, IsSingle, IsWhole, Closes}
use Rattle.tkv_checks.proofs.Leads.{Implies, here, come_from, within, chosen_map, code_map}

-- no code is at no place
nowhere : (image : Parts) (from : Place) (other : ℕ → Type 0) → from ≡ place.Nowhere → Implies (IsAt image from) other
nowhere image from other e p it = absurd (subst (λ (x : Place). IsAt image x p) e it)

-- at the place of a pc
at_pc : (image : Parts) (from : Place) (c p : ℕ) → from ≡ place.At c → IsAt image from p → Comes image (λ q. q ≡ c) p
at_pc image from c p e it = subst (λ (x : Place). IsAt image x p) e it

pub past_has : (image : Parts) (i : Instr) (from next : Place) → IsPast image i from next → Implies (IsAt image from) (Has image i (IsAt image next))
past_has image i from next (inl is) p it = nowhere image from (Has image i (IsAt image next)) is.0 p it
past_has image i from next (inr (c, e, at, on)) p it =
    come_from image (λ q. At image q i × IsAt image next (q + 1)) c p (at, on) (at_pc image from c p e it)

pub tried_has : (image : Parts) (i : Instr) (from : Place) (found : Outcomes) (target : ℕ → Type 0) → IsTried image i from found
    → Implies (IsAt image found.target) target → Implies (IsAt image from) (HasTry image i (IsAt image found.next) target)
tried_has image i from found target (inl is) leads p it = nowhere image from (HasTry image i (IsAt image found.next) target) is.0 p it
tried_has image i from found target (inr (c, to, e, at, on, there)) leads p it =
    come_from image (λ q. (to : ℕ) × At image q (aimed i to) × IsAt image found.next (q + 1) × target to) c p (to, at, on, leads to there)
    (at_pc image from c p e it)

whole : (image : Parts) (around : List Open) (d : ℕ) (bracket : Bracket) (a : Stmt) (next : Place) (kd : PlacedKind) → bracket.item.kind ≡ kd
    → IsBegin d (wrapped kd bracket.item.instr d a) bracket.item → IsFormed (wrapped kd bracket.item.instr d a)
    → HasCodeFrom image around d bracket.here (wrapped kd bracket.item.instr d a) next → IsWhole image around d bracket a next
whole image around d bracket a next kd e begins formed code = record {
  begins = subst (λ (k : PlacedKind). IsBegin d (wrapped k bracket.item.instr d a) bracket.item) (sym e) begins;
  formed = subst (λ (k : PlacedKind). IsFormed (wrapped k bracket.item.instr d a)) (sym e) formed;
  code = subst (λ (k : PlacedKind). HasCodeFrom image around d bracket.here (wrapped k bracket.item.instr d a) next) (sym e) code;
}

-- the code of a body, with the entry of its own bracket given explicitly
body_code : (image : Parts) (around : List Open) (d : ℕ) (opened : Open) (from : Place) (a : Stmt) (after : Place) → slice_get around d ≡ Some opened
    → HasCodeFrom image around (suc d) from a after
    → Implies (IsAt image from) (HasCode image a (IsAt image after) (through image (Some opened) d (exits_at image around d)))
body_code image around d opened from a after e code p it =
    subst (λ (x : Option Open). HasCode image a (IsAt image after) (through image x d (exits_at image around d)) p) e (code p it)

pub block_closes : (image : Parts) (bracket : Bracket) (end after next : Place) → bracket.item.kind ≡ kind.Block → bracket.inner ≡ bracket.here
    → IsWithin after next → IsWithin end next → Closes image bracket (open_as.Block end) after next
block_closes image bracket end after next is same one other around d a e formed code = whole image around d bracket a next kind.Block is (is, refl) formed
    (λ p it. code_map image a (IsAt image after) (IsAt image next) (through image (Some (open_as.Block end)) d (exits_at image around d))
    (with_label d (IsAt image next) (exits_at image around d)) (within image after next one)
    (λ l. chosen_map (l == d) (IsAt image end) (exits_at image around d l) (IsAt image next) (exits_at image around d l) (within image end next other)
    (λ q x. x)) p
    (body_code image around d (open_as.Block end) bracket.inner a after e code p (subst (λ (x : Place). IsAt image x p) (sym same) it)))

pub closing_closes : (image : Parts) (bracket : Bracket) (i : Instr) (after next : Place) → bracket.item.kind ≡ kind.Closing → bracket.item.instr ≡ i
    → bracket.inner ≡ bracket.here → Continues i.opcode → IsPast image i after next → Closes image bracket (open_as.Closing i) after next
closing_closes image bracket i after next is instr same continues past around d a e formed code =
    whole image around d bracket a next kind.Closing is (is, refl) (formed, subst (λ (j : Instr). Continues j.opcode) (sym instr) continues)
    (subst (λ (j : Instr). HasCodeFrom image around d bracket.here (Closing a j) next) (sym instr)
    (λ p it. code_map image a (IsAt image after) (Has image i (IsAt image next)) (through image (Some (open_as.Closing i)) d (exits_at image around d))
    (λ l. Has image i (exits_at image around d l)) (past_has image i after next past) (λ l q x. x) p
    (body_code image around d (open_as.Closing i) bracket.inner a after e code p (subst (λ (x : Place). IsAt image x p) (sym same) it))))

pub loop_closes : (image : Parts) (bracket : Bracket) (after : Place) (found : Outcomes) → bracket.item.kind ≡ kind.Loop
    → bracket.item.instr ≡ turn bracket.item.instr.a 0 → IsTried image (turn bracket.item.instr.a 0) after found
    → (after ≡ place.Nowhere) ⊎ (found.target ≡ bracket.here) → bracket.inner ≡ bracket.here → Closes image bracket open_as.Turns after found.next
loop_closes image bracket after found is instr tried again same around d a e formed code =
    whole image around d bracket a found.next kind.Loop is (is, instr) formed (λ p it. code_map image a (IsAt image after) test exits exits (tests tried again)
    (λ l q x. x) p (body p (subst (λ (x : Place). IsAt image x p) (sym same) it)))
  where
    k : ℕ
    k = bracket.item.instr.a

    exits : ℕ → ℕ → Type 0
    exits = exits_at image around d

    test : ℕ → Type 0
    test = HasTest image k (λ later. HasCode image a later exits) (IsAt image found.next)

    body : Implies (IsAt image bracket.inner) (HasCode image a (IsAt image after) exits)
    body = body_code image around d open_as.Turns bracket.inner a after e code

    tests : IsTried image (turn k 0) after found → (after ≡ place.Nowhere) ⊎ (found.target ≡ bracket.here) → Implies (IsAt image after) test
    tests (inl none) more p it = nowhere image after test none.0 p it
    tests (inr way) (inl none) p it = nowhere image after test none p it
    tests (inr (c, to, at_c, at, on, there)) (inr to_here) p it = (
      to,
      c,
      at_pc image after c p at_c it,
      code_map image a (IsAt image after) (Comes image (λ q. q ≡ c)) exits exits (λ q x. at_pc image after c q at_c x) (λ l q x. x) to
          (body to (subst (λ (x : Place). IsAt image x to) (to_here ∙ sym same) there)),
      at,
      on,
    )

pub count_closes : (image : Parts) (bracket : Bracket) (after : Place) (found : Outcomes) → bracket.item.kind ≡ kind.Count
    → bracket.item.instr ≡ turn bracket.item.instr.a 0 → IsTried image (turn bracket.item.instr.a 0) bracket.here found
    → (after ≡ place.Nowhere) ⊎ (after ≡ bracket.here) → bracket.inner ≡ found.target → Closes image bracket open_as.Turns after found.next
count_closes image bracket after found is instr tried again same around d a e formed code =
    whole image around d bracket a found.next kind.Count is (is, instr) formed (tests tried again)
  where
    k : ℕ
    k = bracket.item.instr.a

    exits : ℕ → ℕ → Type 0
    exits = exits_at image around d

    test : ℕ → Type 0
    test = HasTest image k (λ later. HasCode image a later exits) (IsAt image found.next)

    body : Implies (IsAt image bracket.inner) (HasCode image a (IsAt image after) exits)
    body = body_code image around d open_as.Turns bracket.inner a after e code

    tests : IsTried image (turn k 0) bracket.here found → (after ≡ place.Nowhere) ⊎ (after ≡ bracket.here) → Implies (IsAt image bracket.here) test
    tests (inl none) more p it = nowhere image bracket.here test none.0 p it
    tests (inr (c, to, at_c, at, on, there)) more p it = (
      to,
      c,
      at_pc image bracket.here c p at_c it,
      code_map image a (IsAt image after) (Comes image (λ q. q ≡ c)) exits exits (back more) (λ l q x. x) to
          (body to (subst (λ (x : Place). IsAt image x to) (sym same) there)),
      at,
      on,
    )
      where
        back : (after ≡ place.Nowhere) ⊎ (after ≡ bracket.here) → Implies (IsAt image after) (Comes image (λ q. q ≡ c))
        back (inl none) q x = nowhere image after (Comes image (λ r. r ≡ c)) none q x
        back (inr one) q x = at_pc image after c q (one ∙ at_c) x

-- what holds of a value that may be there, from two facts of it
pub of_some : {A : Type 0} (one other both : A → Type 0) → ((x : A) → one x → other x → both x) → (o : Option A) → IfSome o one → IfSome o other → IfSome o both
of_some one other both f None a b = tt
of_some one other both f (Some x) a b = f x a b

-- Items that begin no bracket

pub act_single : (image : Parts) (around : List Open) (d : ℕ) (item : Placed) (from next : Place) → item.kind ≡ kind.Do → item.to ≡ no_block
    → Continues item.instr.opcode → IsPast image item.instr from next → IsSingle image around d item from next
act_single image around d item from next is to continues past =
    record { a = Act item.instr; is = (is, to, refl); formed = continues; code = past_has image item.instr from next past }

pub try_single : (image : Parts) (around : List Open) (d : ℕ) (item : Placed) (from : Place) (found : Outcomes) → item.kind ≡ kind.Do
    → is_plain item.instr.opcode ≡ true → IsTried image item.instr from found → LeavesTo image around d item.to found.target
    → IsSingle image around d item from found.next
try_single image around d item from found is plain tried leaves = record {
  a = Try item.instr item.to;
  is = (is, refl, refl);
  formed = plain;
  code = tried_has image item.instr from found (exits_at image around d item.to) tried leaves;
}

pub leave_single : (image : Parts) (around : List Open) (d : ℕ) (item : Placed) (from : Place) → item.kind ≡ kind.Leave
    → LeavesTo image around d item.to from → IsSingle image around d item from place.Nowhere
leave_single image around d item from is leaves =
    record { a = Leave item.to; is = (is, refl); formed = tt; code = λ p it. here image (exits_at image around d item.to) p (leaves p it) }
