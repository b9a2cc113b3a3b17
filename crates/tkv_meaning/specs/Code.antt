-- The code of a statement, in any layout.
use Rattle.std.specs.Prelude.{◌≡◌, ◌==◌, ℕ, zero, suc, ◌+◌, Bool, true, false, Some, slice_get}
use Rattle.geos_image.specs.declared.instr.Instr.{Instr}
use Rattle.geos_image.specs.declared.point.Point.{Point}
use Rattle.geos_image.specs.Parts.{Parts}
use Rattle.geos_opcodes.specs.declared.opcode.Opcode.TheVariants as op
use Rattle.tkv_meaning.specs.Statements.{Stmt, Skip, Act, Try, Leave, Then, Block, Loop, Count, Closing}

-- the instruction with a target
abbrev pub aimed : Instr → ℕ → Instr
aimed i to = record i { target = to }

-- a jump to a pc
abbrev pub jump : ℕ → Instr
jump to = record { opcode = op.Jmp; a = 0; b = 0; c = 0; d = 0; imm = 0; target = to }

-- the test of a loop: if the counter is above 0, it decrements the counter and jumps back to a pc
abbrev pub turn : ℕ → ℕ → Instr
turn k to = record { opcode = op.Loop; a = k; b = 0; c = 0; d = 0; imm = 0; target = to }

-- a return
abbrev pub ret : Instr
ret = record { opcode = op.Ret; a = 0; b = 0; c = 0; d = 0; imm = 0; target = 0 }

-- the instruction at a pc
abbrev pub At : Parts → ℕ → Instr → Type 0
At image pc i = (point : Point) × (slice_get image.points pc ≡ Some point) × (point.instr ≡ i)

-- so many jumps lead from a pc to another
abbrev pub Jumps : Parts → ℕ → ℕ → ℕ → Type 0
Jumps image zero p q = p ≡ q
Jumps image (suc n) p q = (to : ℕ) × At image p (jump to) × Jumps image n to q

-- jumps lead from a pc to one with this property
abbrev pub Comes : Parts → (ℕ → Type 0) → ℕ → Type 0
Comes image there p = (n q : ℕ) × Jumps image n p q × there q

-- one of two kinds of pcs
abbrev pub chosen : Bool → (ℕ → Type 0) → (ℕ → Type 0) → ℕ → Type 0
chosen true next other = next
chosen false next other = other

-- the pcs of the ends of blocks, with one more label
abbrev pub with_label : ℕ → (ℕ → Type 0) → (ℕ → ℕ → Type 0) → ℕ → ℕ → Type 0
with_label l next exits j = chosen (j == l) next (exits j)

-- the instruction is at a pc, and after it control continues
abbrev pub Has : Parts → Instr → (ℕ → Type 0) → ℕ → Type 0
Has image i next = Comes image (λ q. At image q i × next (q + 1))

-- the instruction is at a pc; after it control continues, or goes to its target
abbrev pub HasTry : Parts → Instr → (ℕ → Type 0) → (ℕ → Type 0) → ℕ → Type 0
HasTry image i next target = Comes image (λ q. (to : ℕ) × At image q (aimed i to) × next (q + 1) × target to)

-- the test of a loop is at a pc, and leads back to its body, after which control reaches the test again
abbrev pub HasTest : Parts → ℕ → ((ℕ → Type 0) → ℕ → Type 0) → (ℕ → Type 0) → ℕ → Type 0
HasTest image k body next pc = (head test : ℕ) × Comes image (λ q. q ≡ test) pc × body (Comes image (λ q. q ≡ test)) head
    × At image test (turn k head) × next (test + 1)

-- the code of a statement begins at a pc: control continues where `next` holds, and leaves to the end of block l where `exits l` holds.
-- Instructions may be anywhere, and jumps may lead from one to the next.
abbrev pub HasCode : Parts → Stmt → (ℕ → Type 0) → (ℕ → ℕ → Type 0) → ℕ → Type 0
HasCode image Skip next exits pc = Comes image next pc
HasCode image (Act i) next exits pc = Has image i next pc
HasCode image (Try i l) next exits pc = HasTry image i next (exits l) pc
HasCode image (Leave l) next exits pc = Comes image (exits l) pc
HasCode image (Then a b) next exits pc = HasCode image a (HasCode image b next exits) exits pc
HasCode image (Block l a) next exits pc = HasCode image a next (with_label l next exits) pc
HasCode image (Loop k a) next exits pc = HasCode image a (HasTest image k (λ after. HasCode image a after exits) next) exits pc
HasCode image (Count k a) next exits pc = HasTest image k (λ after. HasCode image a after exits) next pc
HasCode image (Closing a i) next exits pc = HasCode image a (Has image i next) (λ l. Has image i (exits l)) pc

-- a return is at a pc, or jumps lead to one
abbrev pub Returns : Parts → ℕ → Type 0
Returns image = Comes image (λ q. At image q ret)

-- no pc
abbrev pub Nowhere : ℕ → Type 0
Nowhere pc = ⊥

-- the code of a routine's statement begins at a pc: after it the routine returns, and it leaves to no block outside
abbrev pub IsRoutineCode : Parts → Stmt → ℕ → Type 0
IsRoutineCode image body pc = HasCode image body (Returns image) (λ l. Nowhere) pc
