-- Which statement the items of a placed program are.
use Rattle.std.specs.Prelude.{◌≡◌, ℕ, suc, Some, List, length, slice_get}
use Rattle.geos_image.specs.declared.instr.Instr.{Instr}
use Rattle.tkv_places.specs.declared.placed.Placed.{Placed}
use Rattle.tkv_places.specs.declared.placed.PlacedKind.{PlacedKind}
use Rattle.tkv_places.specs.declared.placed.PlacedKind.TheVariants as kind
use Rattle.tkv_meaning.specs.Statements.{Stmt, Skip, Act, Try, Leave, Then, Block, Loop, Count, Closing}
use Rattle.tkv_meaning.specs.Code.{ret, turn}

-- the number that leaves to no block
abbrev pub no_block : ℕ
no_block = 65535

-- an item of a kind has an index
abbrev pub ItemAt : List Placed → ℕ → (Placed → Type 0) → Type 0
ItemAt items i is = (item : Placed) × (slice_get items i ≡ Some item) × is item

-- the items from i to before j begin with an item of a kind, and end with its end; the items between them are a body
abbrev pub Brackets : List Placed → (Placed → Type 0) → (ℕ → ℕ → Type 0) → ℕ → ℕ → Type 0
Brackets items begins body i j = (m : ℕ) × ItemAt items i begins × body (suc i) m × ItemAt items m (λ item. item.kind ≡ kind.End) × (j ≡ suc m)

-- the item is the statement, which is no bracket and no sequence
abbrev pub IsItem : Stmt → Placed → Type 0
IsItem (Act instr) item = (item.kind ≡ kind.Do) × (item.to ≡ no_block) × (item.instr ≡ instr)
IsItem (Try instr l) item = (item.kind ≡ kind.Do) × (item.to ≡ l) × (item.instr ≡ instr)
IsItem (Leave l) item = (item.kind ≡ kind.Leave) × (item.to ≡ l)
IsItem _ item = ⊥

-- the item begins the statement, which is a bracket with so many around it; a block's label is how many
abbrev pub IsBegin : ℕ → Stmt → Placed → Type 0
IsBegin d (Block l a) item = (item.kind ≡ kind.Block) × (l ≡ d)
IsBegin d (Loop k a) item = (item.kind ≡ kind.Loop) × (item.instr ≡ turn k 0)
IsBegin d (Count k a) item = (item.kind ≡ kind.Count) × (item.instr ≡ turn k 0)
IsBegin d (Closing a instr) item = (item.kind ≡ kind.Closing) × (item.instr ≡ instr)
IsBegin d _ item = ⊥

-- the statement that brackets make of a body: of a kind, with an instruction, and so many brackets around them
abbrev pub wrapped : PlacedKind → Instr → ℕ → Stmt → Stmt
wrapped kind.Block instr d a = Block d a
wrapped kind.Loop instr d a = Loop instr.a a
wrapped kind.Count instr d a = Count instr.a a
wrapped kind.Closing instr d a = Closing a instr
wrapped _ instr d a = Skip

-- the items from i to before j are the statement, with so many brackets around them
abbrev pub Spells : List Placed → ℕ → Stmt → ℕ → ℕ → Type 0
Spells items d Skip i j = j ≡ i
Spells items d (Act instr) i j = ItemAt items i (IsItem (Act instr)) × (j ≡ suc i)
Spells items d (Try instr l) i j = ItemAt items i (IsItem (Try instr l)) × (j ≡ suc i)
Spells items d (Leave l) i j = ItemAt items i (IsItem (Leave l)) × (j ≡ suc i)
Spells items d (Then a b) i j = (m : ℕ) × Spells items d a i m × Spells items d b m j
Spells items d (Block l a) i j = Brackets items (IsBegin d (Block l a)) (Spells items (suc d) a) i j
Spells items d (Loop k a) i j = Brackets items (IsBegin d (Loop k a)) (Spells items (suc d) a) i j
Spells items d (Count k a) i j = Brackets items (IsBegin d (Count k a)) (Spells items (suc d) a) i j
Spells items d (Closing a instr) i j = Brackets items (IsBegin d (Closing a instr)) (Spells items (suc d) a) i j

-- the items are a routine's: its statement, and a return
pub record SpellsRoutine (items : List Placed) (body : Stmt) : Type 0 where
  pub end : ℕ
  pub spells : Spells items 0 body 0 end
  pub return : ItemAt items end (λ item. (item.kind ≡ kind.Do) × (item.instr ≡ ret))
  pub last : length items ≡ suc end
