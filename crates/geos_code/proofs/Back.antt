-- In code whose edges all lead ahead, none leads back.
use Rattle.std.proofs.Common.{◌≡◌, ℕ, ◌<◌, ◌≤◌, Bool, true, false, Option, Some, None, slice_get, refl, sym, ap, subst, arith, ◌∙◌, ◌≢◌, length}
use Rattle.std.specs.Prelude.{◌&&◌, nat_le, nat_lt, if◌then◌else◌, IfSome}
use Rattle.std.proofs.lemmas.Bool.{le-leb, lt-ltb, and_parts, ltb-true, false≢true}
use Rattle.geos_image.specs.declared.instr.Instr.{Instr}
use Rattle.geos_image.specs.declared.point.Point.{Point}
use Rattle.geos_verify.proofs.Places.{item_at, if_some}
use Rattle.geos_verify.specs.Rows.{has_edge}
use Rattle.geos_code.specs.Code.{ForwardIn, instrs_of, edge_end, is_loop, IsPcOf}
use Rattle.geos_code.specs.Edges.{lead_of, edge_ahead, edge_within, leads_ahead}
use Rattle.geos_code.specs.declared.body.Body.{Body}
use Rattle.geos_code.specs.declared.edges.Lead.{Lead}
use Rattle.geos_code.proofs.Bodies.{in-body}
use Rattle.geos_code.proofs.Ends.{code-at}
use Rattle.std.proofs.lemmas.Option.{same_Some, none-some}
use Rattle.geos_opcodes.specs.declared.opcode.Opcode.{Opcode}
use Rattle.geos_opcodes.specs.declared.opcode.Opcode.TheVariants.{Loop}
use Rattle.geos_image.specs.Parts.{Parts}

-- of the edges of the instruction at a pc of a routine whose edges all lead ahead, those that stay in it are those that lead ahead
within-ahead : (start limit pc to : ℕ) (has : Bool) → start ≤ pc → (has ≡ true → pc < to)
    → (has && nat_le start to && nat_lt to limit) ≡ (has && nat_lt pc to && nat_lt to limit)
within-ahead start limit pc to false low ahead = refl
within-ahead start limit pc to true low ahead =
    let less = ahead refl in
    let above : nat_le start to ≡ true = le-leb start to (omega arith) in
    let further : nat_lt pc to ≡ true = lt-ltb pc to less in
    rw (above, further) refl

pub ahead-alone : (body : Body) → ForwardIn body.image.now body.r → (pc : ℕ) (branch : Bool) (lead : Option Lead) → body.start ≤ pc → pc < body.end
    → IfSome (slice_get body.image.now.points pc) (λ point. lead ≡ edge_within body.start body.end pc point.instr branch)
    → IfSome (slice_get body.image.now.points pc) (λ point. lead ≡ edge_ahead body.end pc point.instr branch)
ahead-alone body forward pc branch lead low high h =
    let image = body.image.now in
    let found = item_at image.points pc (omega (arith, body.room)) in
    let i = found.0.instr in
    let here = if_some (λ point. lead ≡ edge_within body.start body.end pc point.instr branch) (slice_get image.points pc) found.0 found.1 h in
    let read : slice_get (instrs_of image) pc ≡ Some i = code-at image pc found.0 found.1 in
    let ahead : has_edge i branch ≡ true → pc < edge_end pc i branch =
    (λ has. forward.ahead pc (edge_end pc i branch) branch i (in-body body pc low high) (record { read = read; has = has; leads = refl })) in
    let same = within-ahead body.start body.end pc (edge_end pc i branch) (has_edge i branch) low ahead in
    let P : Option Point → Type 0 = λ o. IfSome o (λ point. lead ≡ edge_ahead body.end pc point.instr branch) in
    subst P (sym found.1) (here ∙ ap (λ (b : Bool). if b then Some (lead_of pc i branch) else None) same)

-- the edge of an instruction that is read at a pc
module _ (body : Body) (pc : ℕ) (branch : Bool) (i : Instr) (high : pc < body.end)
    (there : IfSome (slice_get body.image.now.points pc) (λ point. i ≡ point.instr)) where
  pub within-is : (lead : Option Lead) → lead ≡ edge_within body.start body.end pc i branch
      → IfSome (slice_get body.image.now.points pc) (λ point. lead ≡ edge_within body.start body.end pc point.instr branch)
  within-is lead is =
      let image = body.image.now in
      let found = item_at image.points pc (omega (arith, body.room)) in
      let same : i ≡ found.0.instr = if_some (λ point. i ≡ point.instr) (slice_get image.points pc) found.0 found.1 there in
      let P : Option Point → Type 0 = λ o. IfSome o (λ point. lead ≡ edge_within body.start body.end pc point.instr branch) in
      subst P (sym found.1) (is ∙ ap (λ (x : Instr). edge_within body.start body.end pc x branch) same)

  pub within-some : (to : ℕ) → to ≡ edge_end pc i branch → has_edge i branch ≡ true → body.start ≤ to → to < body.end
      → IfSome (slice_get body.image.now.points pc)
      (λ point. Some (record { edge = record { from = pc; branch = branch }; to = to }) ≡ edge_within body.start body.end pc point.instr branch)
  within-some to to_is has low below =
      let above : nat_le body.start (edge_end pc i branch) ≡ true = subst (λ (n : ℕ). nat_le body.start n ≡ true) to_is (le-leb body.start to low) in
      let before : nat_lt (edge_end pc i branch) body.end ≡ true = subst (λ (n : ℕ). nat_lt n body.end ≡ true) to_is (lt-ltb to body.end below) in
      let is : edge_within body.start body.end pc i branch ≡ Some (lead_of pc i branch) = rw (has, above, before) refl in
      within-is (Some (record { edge = record { from = pc; branch = branch }; to = to })) (ap (λ (n : ℕ). Some (record { edge = record { from = pc; branch = branch }; to = n })) to_is
      ∙ sym is)

-- Edges that lead ahead

edge-some : (limit pc : ℕ) (i : Instr) (branch b : Bool) (lead : Lead) → leads_ahead limit pc i branch ≡ b → Some lead ≡ edge_ahead limit pc i branch
    → (leads_ahead limit pc i branch ≡ true) × (edge_end pc i branch ≡ lead.to) × (pc < lead.to) × (has_edge i branch ≡ true)
edge-some limit pc i branch true lead e is =
    let a = and_parts (has_edge i branch && nat_lt pc (edge_end pc i branch)) (nat_lt (edge_end pc i branch) limit) e in
    let b = and_parts (has_edge i branch) (nat_lt pc (edge_end pc i branch)) a.0 in
    let lt = ltb-true pc (edge_end pc i branch) b.1 in
    let there : edge_ahead limit pc i branch ≡ Some (lead_of pc i branch) = rw e refl in
    let same : lead ≡ lead_of pc i branch = same_Some lead (lead_of pc i branch) (is ∙ there) in
    let to : edge_end pc i branch ≡ lead.to = ap (λ (x : Lead). x.to) (sym same) in
    (e, to, omega arith, b.0)
edge-some limit pc i branch false lead e is =
    let none : edge_ahead limit pc i branch ≡ None = rw e refl in
    absurd (none-some lead (sym none ∙ sym is))

pub none-ahead : (limit pc : ℕ) (i : Instr) (branch b : Bool) → leads_ahead limit pc i branch ≡ b → None ≡ edge_ahead limit pc i branch
    → leads_ahead limit pc i branch ≡ false
none-ahead limit pc i branch false e is = e
none-ahead limit pc i branch true e is =
    let there : edge_ahead limit pc i branch ≡ Some (lead_of pc i branch) = rw e refl in
    absurd (none-some (lead_of pc i branch) (is ∙ there))

module _ (image : Parts) (limit pc : ℕ) (branch : Bool) (lt : pc < length image.points) where
  -- what is read of an lead that leads ahead
  pub read-ahead : (lead : Lead) → IfSome (slice_get image.points pc) (λ point. Some lead ≡ edge_ahead limit pc point.instr branch)
      → (point : Point) × (slice_get image.points pc ≡ Some point) × (leads_ahead limit pc point.instr branch ≡ true)
      × (edge_end pc point.instr branch ≡ lead.to) × (pc < lead.to) × (has_edge point.instr branch ≡ true)
  read-ahead lead h =
      let found = item_at image.points pc lt in
      let here = if_some (λ point. Some lead ≡ edge_ahead limit pc point.instr branch) (slice_get image.points pc) found.0 found.1 h in
      let e = edge-some limit pc found.0.instr branch (leads_ahead limit pc found.0.instr branch) lead refl here in
      (found.0, found.1, e.0, e.1, e.2, e.3)

-- LOOPs

-- what is a LOOP has that opcode
pub loop-only : (opcode : Opcode) → is_loop opcode ≡ true → opcode ≡ Loop
loop-only Loop e = refl
loop-only _ e = absurd (false≢true e)

-- there is no LOOP
pub no-loop : (image : Parts) (r : ℕ) → ForwardIn image r → (pc : ℕ) (i : Instr) → IsPcOf image r pc → pc < length image.points
    → IfSome (slice_get image.points pc) (λ point. i ≡ point.instr) → i.opcode ≢ Loop
no-loop image r forward pc i within lt there =
    let found = item_at image.points pc lt in
    let same : i ≡ found.0.instr = if_some (λ point. i ≡ point.instr) (slice_get image.points pc) found.0 found.1 there in
    forward.no_loop pc i within (code-at image pc found.0 found.1 ∙ ap (λ (x : Instr). Some x) (sym same))
