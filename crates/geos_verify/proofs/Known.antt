-- What is known at the places of an image, and along the edges between them.
use Rattle.std.proofs.Common.{◌≡◌, ℕ, zero, suc, ◌+◌, ◌<◌, ◌≤◌, Bool, true, false, List, [], ◌∷◌, ◌++◌, length, take, get_or, Option, Some, None, slice_get, refl, sym, ap, subst, ◌∙◌, arith}
use Rattle.std.specs.Prelude.{not, IfSome}
use Rattle.std.proofs.lemmas.List.{take_more}
use Rattle.geos_image.specs.declared.instr.Instr.{Instr}
use Rattle.geos_image.specs.declared.row.Row.{Row}
use Rattle.geos_image.specs.declared.point.Point.{Point}
use Rattle.geos_image.specs.Parts.{Parts}
use Rattle.geos_verify.specs.Rows.{fits, row_along, after, at_point, HasEdge}
use Rattle.geos_image.specs.Keys.{falls_through, gives}
use Rattle.geos_image.specs.Legal.{is_image}
use Rattle.geos_image.proofs.Given.{gives-cut}
use Rattle.geos_image.specs.declared.potential.Potential.{Potential}
use Rattle.std.specs.Option.{is_some}
use Rattle.geos_verify.specs.declared.place.Place.{Place}
use Rattle.geos_verify.specs.Places.{or_row, place_of, places, at_place, RowAt}
use Rattle.geos_verify.specs.Rules.{misfits_at}
use Rattle.geos_verify.proofs.RowsFit.{fits-refl}
use Rattle.geos_verify.proofs.Places.{item_at, if_some, found-within, places-length, place-at, place-next}

some-is : {A : Type 0} (o : Option A) (x y : A) → o ≡ Some x → o ≡ Some y → x ≡ y
some-is o x y e f = let both : Some x ≡ Some y = sym e ∙ f in cc

pub at_place-is : (image : Parts) (to : ℕ) (place : Place) (test : Place → Bool) → slice_get (places image) to ≡ Some place
    → at_place image to test ≡ test place
at_place-is image to place test e = rw (e, at_place) refl

-- what is known at the next place, by what is given there
pub next-row : (image : Parts) (pc : ℕ) (i : Instr) (row : Row) (next : Point) → IfSome (slice_get image.points pc) (λ point. i ≡ point.instr)
    → RowAt image pc row → pc < length image.points → slice_get image.points (pc + 1) ≡ Some next
    → slice_get (places image) (pc + 1) ≡ Some (place_of next (row_along image i i.opcode row))
next-row image pc i row next here known lt there =
    let found = item_at image.points pc lt in
    let at = place-at image pc found.0 found.1 in
    let i_is : i ≡ at.0.instr = if_some (λ point. i ≡ point.instr) (slice_get image.points pc) found.0 found.1 here ∙ sym at.2.instr in
    let row_is : at.0.row ≡ row = if_some (λ place. place.row ≡ row) (slice_get (places image) pc) at.0 at.1 known in
    let plus : suc pc ≡ pc + 1 = omega arith in
    let step = place-next image pc at.0 next at.1 (ap (slice_get image.points) plus ∙ there) in
    sym (ap (slice_get (places image)) plus) ∙ step ∙ ap (λ (j : Instr). Some (place_of next (row_along image j j.opcode at.0.row))) (sym i_is)
    ∙ ap (λ (r : Row). Some (place_of next (row_along image i i.opcode r))) row_is

-- if the next pc has no row, the row after the instruction implies the row that is known there
pub goes-on-fits : (image : Parts) (pc : ℕ) (i : Instr) (row : Row) (given : Option Row)
    → IfSome (slice_get image.points pc) (λ point. i ≡ point.instr) → RowAt image pc row → pc + 1 < length image.points
    → IfSome (slice_get image.points (pc + 1)) (λ point. given ≡ point.row) → given ≡ None
    → false ≡ misfits_at image (pc + 1) (row_along image i i.opcode row)
unfolding misfits_at
goes-on-fits image pc i row given here known lt next none =
    let found = item_at image.points (pc + 1) lt in
    let row_is : found.0.row ≡ None = sym (if_some (λ point. given ≡ point.row) (slice_get image.points (pc + 1)) found.0 found.1 next) ∙ none in
    let at = next-row image pc i row found.0 here known (omega (arith, lt)) found.1 in
    let next_row = row_along image i i.opcode row in
    sym (ap not (at_place-is image (pc + 1) (place_of found.0 next_row) (λ place. fits next_row place.row) at)
    ∙ ap (λ (o : Option Row). not (fits next_row (or_row o next_row))) row_is ∙ ap not (fits-refl next_row))

-- where one is given, it has to fit that
pub goes-on-given : (image : Parts) (pc : ℕ) (row given : Row) → IfSome (slice_get image.points pc) (λ point. Some given ≡ point.row)
    → pc < length image.points → misfits_at image pc row ≡ not (fits row given)
unfolding misfits_at
goes-on-given image pc row given next lt =
    let found = item_at image.points pc lt in
    let at = place-at image pc found.0 found.1 in
    let row_is : at.0.row ≡ given =
    at.2.row given (sym (if_some (λ point. Some given ≡ point.row) (slice_get image.points pc) found.0 found.1 next)) in
    ap not (at_place-is image pc at.0 (λ place. fits row place.row) at.1) ∙ ap (λ (r : Row). not (fits row r)) row_is

-- ---- what is known at a place, as the verifier carries it on

pub row-past : (image : Parts) (pc : ℕ) (row : Row) → length image.points ≤ pc → RowAt image pc row
row-past image pc row le = go (slice_get (places image) pc) refl
  where
    go : (o : Option Place) → slice_get (places image) pc ≡ o → IfSome o (λ place. place.row ≡ row)
    go None e = tt
    go (Some place) e = absurd (omega (arith, le, found-within (places image) pc place e, places-length image))

row-at : (image : Parts) (pc : ℕ) (place : Place) (row : Row) → slice_get (places image) pc ≡ Some place → place.row ≡ row → RowAt image pc row
row-at image pc place row e same = subst (λ (o : Option Place). IfSome o (λ p. p.row ≡ row)) (sym e) same

pub row-given : (image : Parts) (pc : ℕ) (given : Row) → IfSome (slice_get image.points pc) (λ point. Some given ≡ point.row)
    → pc < length image.points → RowAt image pc given
row-given image pc given next lt =
    let found = item_at image.points pc lt in
    let at = place-at image pc found.0 found.1 in
    row-at image pc at.0 given at.1
    (at.2.row given (sym (if_some (λ point. Some given ≡ point.row) (slice_get image.points pc) found.0 found.1 next)))

row-after : (image : Parts) (pc : ℕ) (row : Row) → RowAt image pc row → pc + 1 < length image.points
    → IfSome (slice_get image.points (pc + 1)) (λ point. None ≡ point.row) → RowAt image (pc + 1) (after image pc row false)
row-after image pc row known lt next =
    let found = item_at image.points (pc + 1) lt in
    let before = item_at image.points pc (omega (arith, lt)) in
    let i = before.0.instr in
    let here : IfSome (slice_get image.points pc) (λ point. i ≡ point.instr) =
    subst (λ (o : Option Point). IfSome o (λ point. i ≡ point.instr)) (sym before.1) refl in
    let row_is : found.0.row ≡ None = sym (if_some (λ point. None ≡ point.row) (slice_get image.points (pc + 1)) found.0 found.1 next) in
    let at = next-row image pc i row found.0 here known (omega (arith, lt)) found.1 in
    let after_is : after image pc row false ≡ row_along image i i.opcode row = rw (before.1, after) refl in
    row-at image (pc + 1) (place_of found.0 (row_along image i i.opcode row)) (after image pc row false) at
    (ap (λ (o : Option Row). or_row o (row_along image i i.opcode row)) row_is ∙ sym after_is)

-- the row that is known at the next pc: its given row, or otherwise the computed one
pub row-chosen : (image : Parts) (pc : ℕ) (row : Row) (given : Option Row) (computed : Row) → RowAt image pc row → pc + 1 < length image.points
    → IfSome (slice_get image.points (pc + 1)) (λ point. given ≡ point.row) → (given ≡ None → computed ≡ after image pc row false)
    → RowAt image (pc + 1) (or_row given computed)
row-chosen image pc row (Some r) computed known lt next computed_is = row-given image (pc + 1) r next lt
row-chosen image pc row None computed known lt next computed_is = subst (RowAt image (pc + 1)) (sym (computed_is refl))
    (row-after image pc row known lt next)

or-gives : (b : Bool) → (b ≡ false → ⊥) → b ≡ true
or-gives true h = refl
or-gives false h = absurd (h refl)

-- if the pc after an instruction has no row, the instruction falls through to it
pub goes-on : (image : Parts) → is_image image ≡ true → (pc : ℕ) (given : Option Row) → pc + 1 < length image.points
    → IfSome (slice_get image.points (pc + 1)) (λ point. given ≡ point.row) → given ≡ None → HasEdge image pc false
goes-on image legal pc given lt next none =
    let found = item_at image.points (pc + 1) lt in
    let before = item_at image.points pc (omega (arith, lt)) in
    let row_is : found.0.row ≡ None = sym (if_some (λ point. given ≡ point.row) (slice_get image.points (pc + 1)) found.0 found.1 next) ∙ none in
    let none_there : gives image (pc + 1) ≡ false = rw (found.1, gives) (ap is_some row_is) in
    let falls : falls_through before.0.instr.opcode ≡ true = or-gives (falls_through before.0.instr.opcode)
    (λ no. let yes = gives-cut image legal pc before.0 before.1 no lt in absurd cc) in
    rw (before.1, at_point) falls

-- a row is given only where there is a point
pub gives-within : (image : Parts) (pc : ℕ) → gives image pc ≡ true → pc < length image.points
gives-within image pc h = go image.points pc h
  where
    go : (points : List Point) (pc : ℕ) → elim (slice_get points pc) [ None ↦ false | Some point ↦ is_some point.row ] ≡ true → pc < length points
    go [] pc h = absurd cc
    go (point ∷ points) zero h = omega arith
    go (point ∷ points) (suc pc) h = let ih = go points pc h in omega (arith, ih)

pub place-is : (p : Place) (i : Instr) (row : Row) (potential : Potential) → i ≡ p.instr → p.row ≡ row
    → potential ≡ p.potential → record { instr = i; row = row; potential = potential } ≡ p
place-is p i row potential e f g =
    let A : Instr → Place = λ i. record { instr = i; row = row; potential = potential } in
    let B : Row → Place = λ r. record { instr = p.instr; row = r; potential = potential } in
    let C : Potential → Place = λ q. record { instr = p.instr; row = p.row; potential = q } in
    ap A e ∙ ap B (sym f) ∙ ap C g

-- the place at a pc, from its parts
pub by-parts : (image : Parts) (pc : ℕ) (i : Instr) (row : Row) (potential : Potential) (P : Place → Type 0)
    → IfSome (slice_get image.points pc) (λ point. i ≡ point.instr) → RowAt image pc row
    → IfSome (slice_get image.points pc) (λ point. potential ≡ point.potential) → pc < length image.points
    → P (record { instr = i; row = row; potential = potential }) → IfSome (slice_get (places image) pc) P
by-parts image pc i row potential P here known paid lt h =
    let found = item_at image.points pc lt in
    let at = place-at image pc found.0 found.1 in
    let i_is : i ≡ at.0.instr = if_some (λ point. i ≡ point.instr) (slice_get image.points pc) found.0 found.1 here ∙ sym at.2.instr in
    let row_is : at.0.row ≡ row = if_some (λ place. place.row ≡ row) (slice_get (places image) pc) at.0 at.1 known in
    let potential_is : potential ≡ at.0.potential = if_some (λ point. potential ≡ point.potential) (slice_get image.points pc) found.0 found.1 paid
    ∙ sym at.2.potential in
    subst (λ (o : Option Place). IfSome o P) (sym at.1) (subst P (place-is at.0 i row potential i_is row_is potential_is) h)

-- the list of the first places, with one more at its end
pub places-more : (image : Parts) (pc : ℕ) (place : Place) → IfSome (slice_get (places image) pc) (λ p. place ≡ p)
    → pc < length image.points → take pc (places image) ++ place ∷ [] ≡ take (pc + 1) (places image)
places-more image pc place here lt =
    let found = item_at (places image) pc (omega (arith, lt, places-length image)) in
    let same : place ≡ found.0 = if_some (λ p. place ≡ p) (slice_get (places image) pc) found.0 found.1 here in
    let within : pc < length (places image) = omega (arith, lt, places-length image) in
    let read : get_or (places image) pc place ≡ found.0 = get_or-found (places image) pc found.0 place found.1 in
    sym (take_more (places image) pc place within ∙ ap (λ (p : Place). take pc (places image) ++ p ∷ []) (read ∙ sym same))
  where
    get_or-found : (xs : List Place) (k : ℕ) (x d : Place) → slice_get xs k ≡ Some x → get_or xs k d ≡ x
    get_or-found [] k x d e = absurd cc
    get_or-found (y ∷ xs) zero x d e = cc
    get_or-found (y ∷ xs) (suc k) x d e = get_or-found xs k x d e
