-- Statements that have been read, one item or bracket more at a time.
use Rattle.std.proofs.Common.{◌≡◌, ℕ, zero, suc, ◌+◌, ◌≤◌, Option, Some, List, [], ◌∷◌, refl, sym, ap, ◌∙◌, subst, arith}
use Rattle.std.specs.Prelude.{slice_get, slice_set}
use Rattle.geos_image.specs.Parts.{Parts}
use Rattle.tkv_places.specs.declared.placed.Placed.{Placed}
use Rattle.tkv_places.specs.declared.placed.PlacedKind.{PlacedKind}
use Rattle.tkv_places.specs.declared.placed.PlacedKind.TheVariants as kind
use Rattle.tkv_meaning.specs.Statements.{Stmt, Skip, Act, Try, Leave, Then, Block, Loop, Count, Closing, IsFormed}
use Rattle.tkv_meaning.specs.Code.{HasCode}
use Rattle.tkv_checks.specs.declared.places.Place.{Place}
use Rattle.tkv_checks.specs.declared.places.Open.{Open}
use Rattle.tkv_checks.specs.declared.steps.Bracket.{Bracket}
use Rattle.tkv_checks.specs.Places.{IsAt, exits_at, IsGrown, AreGrown, Grows}
use Rattle.tkv_checks.specs.Items.{IsItem, IsBegin, ItemAt, wrapped, Spells}
use Rattle.tkv_checks.specs.Walks.{HasCodeFrom, IsSingle, IsWhole, Closes, IsRead}
use Rattle.tkv_checks.specs.declared.walk.Read.{Read}
use Rattle.tkv_checks.proofs.Leads.{here, code_map, exits_map, grows_same, grows_trans}

pub read_none : (image : Parts) (items : List Placed) (around : List Open) (d i : ℕ) (from : Place) → IsRead image items around d i from i from
read_none image items around d i from =
    record { a = Skip; spells = refl; formed = tt; code = λ p it. here image (IsAt image from) p it; on = omega arith }

-- one statement more
then_read : (image : Parts) (items : List Placed) (old new : List Open) (d i at j : ℕ) (from middle next : Place) (b : Stmt)
    → IsRead image items old d i from at middle → Grows d old new → Spells items d b at j → IsFormed b → HasCodeFrom image new d middle b next → at ≤ j
    → IsRead image items new d i from j next
then_read image items old new d i at j from middle next b r grows spells formed code on = record {
  a = Then r.a b;
  spells = (at, r.spells, spells);
  formed = (r.formed, formed);
  code = λ p it. code_map image r.a (IsAt image middle) (HasCode image b (IsAt image next) (exits_at image new d)) (exits_at image old d) (exits_at image new d)
      code (exits_map image old new d grows) p (r.code p it);
  on = (let before = r.on in omega (arith, before, on));
}

-- what is grown is grown below a level
pub grown_below : (d : ℕ) (old new : List Open) → AreGrown old new → Grows d old new
grown_below d old new grown i lt = grown i

single_spells : (items : List Placed) (d at : ℕ) (item : Placed) (a : Stmt) → slice_get items at ≡ Some item → IsItem a item → Spells items d a at (suc at)
single_spells items d at item (Act instr) get is = ((item, get, is), refl)
single_spells items d at item (Try instr l) get is = ((item, get, is), refl)
single_spells items d at item (Leave l) get is = ((item, get, is), refl)
single_spells items d at item Skip get is = absurd is
single_spells items d at item (Then a b) get is = absurd is
single_spells items d at item (Block l a) get is = absurd is
single_spells items d at item (Loop k a) get is = absurd is
single_spells items d at item (Count k a) get is = absurd is
single_spells items d at item (Closing a instr) get is = absurd is

pub single_read : (image : Parts) (items : List Placed) (old new : List Open) (d i at : ℕ) (from middle next : Place) (item : Placed)
    → IsRead image items old d i from at middle → AreGrown old new → slice_get items at ≡ Some item → IsSingle image new d item middle next
    → IsRead image items new d i from (at + 1) next
single_read image items old new d i at from middle next item r grown get s =
    then_read image items old new d i at (at + 1) from middle next s.a r (grown_below d old new grown)
    (subst (λ (j : ℕ). Spells items d s.a at j) (omega arith) (single_spells items d at item s.a get s.is)) s.formed s.code (omega arith)

wrapped_spells : (items : List Placed) (d at m : ℕ) (item last : Placed) (a : Stmt) (kd : PlacedKind) → slice_get items at ≡ Some item
    → IsBegin d (wrapped kd item.instr d a) item → Spells items (suc d) a (suc at) m → slice_get items m ≡ Some last → last.kind ≡ kind.End
    → Spells items d (wrapped kd item.instr d a) at (suc m)
wrapped_spells items d at m item last a kind.Block get is body end ends = (m, (item, get, is), body, (last, end, ends), refl)
wrapped_spells items d at m item last a kind.Loop get is body end ends = (m, (item, get, is), body, (last, end, ends), refl)
wrapped_spells items d at m item last a kind.Count get is body end ends = (m, (item, get, is), body, (last, end, ends), refl)
wrapped_spells items d at m item last a kind.Closing get is body end ends = (m, (item, get, is), body, (last, end, ends), refl)
wrapped_spells items d at m item last a kind.Do get is body end ends = absurd is
wrapped_spells items d at m item last a kind.Leave get is body end ends = absurd is
wrapped_spells items d at m item last a kind.End get is body end ends = absurd is

pub bracket_read : (image : Parts) (items : List Placed) (old new : List Open) (d i at m : ℕ) (from after next : Place) (bracket : Bracket) (last : Placed)
    (opened : Open) → IsRead image items old d i from at bracket.here → Grows d old new → slice_get items at ≡ Some bracket.item
    → IsRead image items new (d + 1) (at + 1) bracket.inner m after → slice_get items m ≡ Some last → last.kind ≡ kind.End
    → slice_get new d ≡ Some opened → Closes image bracket opened after next → IsRead image items new d i from (m + 1) next
bracket_read image items old new d i at m from after next bracket last opened r grows get body end ends there closes =
    then_read image items old new d i at (m + 1) from bracket.here next (wrapped bracket.item.kind bracket.item.instr d body.a) r grows
    (subst (λ (j : ℕ). Spells items d (wrapped bracket.item.kind bracket.item.instr d body.a) at j) (omega arith)
    (wrapped_spells items d at m bracket.item last body.a bracket.item.kind get w.begins
    inside end ends))
    w.formed w.code (let on = body.on in omega (arith, on))
  where
    deeper : d + 1 ≡ suc d
    deeper = omega arith

    later : at + 1 ≡ suc at
    later = omega arith

    inside : Spells items (suc d) body.a (suc at) m
    inside = subst (λ (e : ℕ). Spells items e body.a (suc at) m) deeper (subst (λ (k : ℕ). Spells items (d + 1) body.a k m) later body.spells)

    w : IsWhole image new d bracket body.a next
    w = closes new d body.a there body.formed (subst (λ (e : ℕ). HasCodeFrom image new e bracket.inner body.a after) deeper body.code)

-- a write leaves the other places as they were
get_set_other : {A : Type 0} (xs : List A) (i j : ℕ) (y : A) → (j ≡ i → ⊥) → slice_get (slice_set xs i y) j ≡ slice_get xs j
get_set_other [] i j y other = refl
get_set_other (x ∷ xs) zero zero y other = absurd (other refl)
get_set_other (x ∷ xs) zero (suc j) y other = refl
get_set_other (x ∷ xs) (suc i) zero y other = refl
get_set_other (x ∷ xs) (suc i) (suc j) y other = get_set_other xs i j y (λ same. other (ap suc same))

-- what is open at a level is as before the body of a bracket at that level
pub grown_around : (d : ℕ) (entry old new : List Open) (opened : Open) → Grows d entry old → Grows (d + 1) (slice_set old d opened) new → Grows d entry new
grown_around d entry old new opened before body = grows_trans d entry old new before (λ i lt.
    subst (λ (x : Option Open). IsGrown x (slice_get new i)) (get_set_other old d i opened (λ same. omega (arith, same, lt))) (body i (omega (arith, lt))))

pub bracket_step : (image : Parts) (items : List Placed) (entry old new : List Open) (d i at : ℕ) (from middle : Place) (read : Read) (bracket : Bracket)
    (item : Placed) (opened x : Open) (next : Place) → Grows d entry old × IsRead image items old d i from at middle → slice_get items at ≡ Some item
    → (bracket.item ≡ item) × (bracket.here ≡ middle)
    → Grows (d + 1) (slice_set old d opened) new × IsRead image items new (d + 1) (at + 1) bracket.inner read.end read.after
    → ItemAt items read.end (λ item. item.kind ≡ kind.End) → slice_get new d ≡ Some x → Closes image bracket x read.after next
    → Grows d entry new × IsRead image items new d i from (read.end + 1) next
bracket_step image items entry old new d i at from middle read bracket item opened x next before get same body (last, there, ends) held closes = (
  grown_around d entry old new opened before.0 body.0,
  bracket_read image items old new d i at read.end from read.after next bracket last x
      (subst (IsRead image items old d i from at) (sym same.1) before.1) (grown_around d old old new opened (grows_same d old) body.0)
      (get ∙ ap Some (sym same.0)) body.1 there ends held closes,
)

pub single_step : (image : Parts) (items : List Placed) (entry old new : List Open) (d i at : ℕ) (from middle next : Place) (item : Placed)
    → Grows d entry old × IsRead image items old d i from at middle → slice_get items at ≡ Some item → AreGrown old new
    → IsSingle image new d item middle next → Grows d entry new × IsRead image items new d i from (at + 1) next
single_step image items entry old new d i at from middle next item before get grown single =
    (grows_trans d entry old new before.0 (grown_below d old new grown), single_read image items old new d i at from middle next item before.1 grown get single)
