-- What a potential is worth, what an edge asks of the potential before it, and when that pays for the edge.
use Rattle.std.specs.Prelude.{ℕ, ◌+◌, Bool, ◌&&◌, ◌||◌, ◌==◌, not, nat_lt, nat_le, ◌*◌, List, [], ◌∷◌, Option, Some, None, slice_get, slice_index, slice_set}
use Rattle.std.specs.List.{list_any}
use Rattle.geos_opcodes.specs.declared.opcode.Opcode.{Opcode}
use Rattle.geos_opcodes.specs.declared.opcode.Opcode.TheVariants.{Setk, Setkw, Loop, Call}
use Rattle.geos_image.specs.declared.instr.Instr.{Instr}
use Rattle.geos_image.specs.declared.row.Row.{Row}
use Rattle.geos_image.specs.declared.potential.Potential.{Potential}
use Rattle.geos_image.specs.Parts.{Parts}
use Rattle.geos_verify.specs.declared.asked.Asked.{Asked}
use Rattle.geos_verify.specs.Lists.{all2}
use Rattle.geos_verify.specs.Rows.{bound}
use Rattle.geos_verify.specs.Touched.{touched_by}

-- one step, and what is left at the end of the edge
abbrev pub asks : Potential → Asked
asks q = record { steps = q.constant + 1; counter = None; coefficients = q.coefficients }

-- the same if the edge sets counter k to a number that is at most n: the edge also pays n times the new coefficient
-- of k, and requires nothing of the old coefficient of k
abbrev pub asks_setting : ℕ → ℕ → Potential → Asked
asks_setting k n q = record { steps = q.constant + 1 + slice_index q.coefficients k * n; counter = None; coefficients = slice_set q.coefficients k 0 }

-- the same if the edge takes 1 from counter k, whose coefficient then helps to pay
abbrev pub asks_taking : ℕ → Potential → Asked
asks_taking k q = record { steps = q.constant + 1; counter = Some k; coefficients = q.coefficients }

-- the same if the edge calls a routine with this budget
abbrev pub asks_calling : ℕ → Potential → Asked
asks_calling budget q = record { steps = q.constant + 1 + budget; counter = None; coefficients = q.coefficients }

-- what a potential has to pay for steps with: its constant, and the coefficient of the counter that
-- helps, if one does
abbrev pub left_with : Option ℕ → Potential → ℕ
left_with None p = p.constant
left_with (Some k) p = p.constant + slice_index p.coefficients k

-- the potential p has at least the required constant and coefficients
abbrev pub is_paid : Asked → Potential → Bool
is_paid asked p = nat_le asked.steps (left_with asked.counter p) && all2 nat_le asked.coefficients p.coefficients

-- the constant pays for a step and the next constant, and each coefficient for the next one
abbrev pub pays : Potential → Potential → Bool
pays p q = is_paid (asks q) p

-- the same if the edge sets counter k to a number that is at most n
abbrev pub pays_setting : ℕ → ℕ → Potential → Potential → Bool
pays_setting k n p q = is_paid (asks_setting k n q) p

-- the same if the edge takes 1 from counter k
abbrev pub pays_taking : ℕ → Potential → Potential → Bool
pays_taking k p q = is_paid (asks_taking k q) p

-- the coefficient of each touched counter is 0
abbrev pub are_spent : List Bool → Potential → Bool
are_spent touched q = all2 (λ is_touched k. not is_touched || k == 0) touched q.coefficients

-- the same if the edge calls a routine with this budget, which touches these counters
abbrev pub pays_calling : ℕ → List Bool → Potential → Potential → Bool
pays_calling budget touched p q = is_paid (asks_calling budget q) p && are_spent touched q

-- what a routine may take, called once; none where there is no such routine
abbrev pub budget_of : Parts → ℕ → ℕ
budget_of image r = elim (slice_get image.routines r) [ None ↦ 0 | Some routine ↦ routine.budget ]

-- what the edge to the next instruction requires, if q is the potential there; on this edge of a LOOP its counter is
-- 0
abbrev pub asked_along : Parts → Instr → Opcode → Row → Potential → Asked
asked_along image i Setk row q = asks_setting i.a i.imm q
asked_along image i Setkw row q = asks_setting i.a (bound row i.b) q
asked_along image i Loop row q = asks_setting i.a 0 q
asked_along image i Call row q = asks_calling (budget_of image i.imm) q
asked_along image i _ row q = asks q

-- what the edge to the target asks
abbrev pub asked_branching : Instr → Opcode → Potential → Asked
asked_branching i Loop q = asks_taking i.a q
asked_branching i _ q = asks q

-- the edge to the next instruction is paid for; after a call the coefficient of each counter that the routine touches
-- must be 0
abbrev pub pays_along : Parts → Instr → Opcode → Row → Potential → Potential → Bool
pays_along image i Call row p q = is_paid (asked_along image i Call row q) p && are_spent (touched_by image i.imm) q
pays_along image i opcode row p q = is_paid (asked_along image i opcode row q) p

-- the edge to the target is
abbrev pub pays_branching : Instr → Opcode → Potential → Potential → Bool
pays_branching i opcode p q = is_paid (asked_branching i opcode q) p

-- within the budget where every counter may be anything
abbrev pub is_within : ℕ → Potential → Bool
is_within budget p = nat_le p.constant budget && not (list_any (λ k. nat_lt 0 k) p.coefficients)

-- the sum of the products, place by place
abbrev pub dot : List ℕ → List ℕ → ℕ
dot [] ks = 0
dot (c ∷ cs) [] = 0
dot (c ∷ cs) (k ∷ ks) = c * k + dot cs ks

-- the constant, and each coefficient times its counter
abbrev pub value : Potential → List ℕ → ℕ
value p counters = p.constant + dot p.coefficients counters
