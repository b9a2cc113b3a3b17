-- What a check of a routine knows after some items.
use Rattle.std.specs.Prelude.{◌≡◌, ◌≢◌, ◌⊎◌, ◌<◌, ◌≤◌, ℕ, suc, ◌+◌, ◌-◌, ◌^◌, Bool, not, if◌then◌else◌, nat_lt, ◌==◌, Option, Some, None, List, ◌++◌, length, drop, slice_get, slice_index, slice_set, bytes_eq, true, false}
use Rattle.tkv_syntax.specs.declared.item.Item.{Item}
use Rattle.tkv_syntax.specs.declared.item.ItemKind.{ItemKind}
use Rattle.tkv_syntax.specs.declared.item.ItemKind.TheVariants as kind
use Rattle.tkv_places.specs.declared.placed.Placed.{Placed}
use Rattle.tkv_places.specs.declared.placed.PlacedKind.{PlacedKind}
use Rattle.tkv_places.specs.declared.placed.PlacedKind.TheVariants as placed_kind
use Rattle.std.specs.Global.{Vec}
use Rattle.geos_image.specs.declared.instr.Instr.{Instr}
use Rattle.geos_opcodes.specs.declared.opcode.Opcode.{Opcode}
use Rattle.geos_opcodes.specs.declared.opcode.Opcode.TheVariants as op
use Rattle.tkv_meaning.specs.Statements.{Stmt}
use Rattle.tkv_meaning.specs.Meaning.{Scope, On, Out, Drifts}
use Rattle.tkv_meaning.specs.Written.{RoutineDoes}
use Rattle.tkv_checks.specs.Items.{SpellsRoutine, ItemAt, no_block}
use Rattle.tkv_names.specs.declared.seen.Known.{Known}
use Rattle.tkv_names.specs.declared.seen.Known.TheVariants as known
use Rattle.tkv_names.specs.declared.seen.Seen.{Seen}
use Rattle.tkv_names.specs.Named.{Env, name_at, with_name, joined, holds, Next, Past, parameters, Says, Outputs}
use Rattle.tkv_names.specs.Straight.{Straight, Any}

-- a value is what is known of it
abbrev pub Holds : Known → List ℕ → Option ℕ → Type 0
Holds known.Nothing words value = Unit {0}
Holds (known.Constant n) words value = value ≡ Some n
Holds (known.Register r) words value = value ≡ Some (slice_index words r)

-- each register that is known to have a name's word has it
abbrev pub Agrees : List ℕ → List (Option ℕ) → Env → List ℕ → Type 0
Agrees text held env words = (r a : ℕ) → r < 8 → slice_get held r ≡ Some (Some a) → slice_index words r ≡ env (name_at text a)

-- names and values are what is known of them
pub record Tied (text : List ℕ) (seen : Seen) (env : Env) (values words : List ℕ) : Type 0 where
  pub size : length words ≡ 8
  pub held : Agrees text seen.held env words
  pub first : Holds seen.first words (slice_get values 0)
  pub second : Holds seen.second words (slice_get values 1)
  pub third : Holds seen.third words (slice_get values 2)
  pub fourth : Holds seen.fourth words (slice_get values 3)

-- what the placed items output from here on, the items of the source may output
abbrev pub Sound : List ℕ → List Item → List Placed → Seen → Type 0
Sound text items placed seen = (env : Env) (values : List ℕ) (x y : Scope) → Tied text seen env values x.words
    → Straight (drop seen.placed placed) seen.level On x y
    → (more : List ℕ) × (y.output ≡ x.output ++ more) × Says text (drop seen.item items) Next env values more

-- it is enough to look at what is known later
abbrev pub Leads : List ℕ → List Item → List Placed → Seen → Seen → Type 0
Leads text items placed seen next = Sound text items placed next → Sound text items placed seen

-- no value that is known is in the register
abbrev pub IsFree : Seen → ℕ → Type 0
IsFree seen r = (r < 8) × (seen.first ≢ known.Register r) × (seen.second ≢ known.Register r) × (seen.third ≢ known.Register r)
    × (seen.fourth ≢ known.Register r)

-- the placed item is an instruction after which control continues, with so many brackets open
abbrev pub IsDone : List Placed → ℕ → ℕ → Instr → Type 0
IsDone placed k d instr = ItemAt placed k (λ item. (item.kind ≡ placed_kind.Do) × (item.to ≡ no_block) × (item.instr ≡ instr)) × (d ≤ no_block)

-- what is known after an item that only adds a value
abbrev pub pushed : Seen → Known → Seen
pushed seen known = record seen { item = suc seen.item; first = known; second = seen.first; third = seen.second; fourth = seen.third }

-- without the last value
abbrev pub popped : Seen → Seen
popped seen = record seen { first = seen.second; second = seen.third; third = seen.fourth; fourth = known.Nothing }

-- after a placed instruction that sets a register
abbrev pub written : Seen → ℕ → Seen
written seen r = record seen { placed = suc seen.placed; held = slice_set seen.held r None }

-- the placed items output what the routine of the source says that item `index` declares, whatever words it is called with
abbrev pub MeansNamed : List ℕ → List Item → ℕ → List Placed → Type 0
MeansNamed text items index placed = (body : Stmt) → SpellsRoutine placed body → (x y : Scope) → length x.words ≡ 8
    → RoutineDoes Any body x y → (output : List ℕ) × (y.output ≡ x.output ++ output) × Outputs text items index x.words output

-- from a placed item on control comes to another, with so many brackets open, and does nothing on the way
abbrev pub Reaches : List Placed → ℕ → ℕ → ℕ → ℕ → Type 0
Reaches placed k d j e = (x y : Scope) → Straight (drop k placed) d On x y → Straight (drop j placed) e On x y

-- the same, if control leaves to the end of a block
abbrev pub Escapes : List Placed → ℕ → ℕ → ℕ → ℕ → ℕ → Type 0
Escapes placed k d l j e = (x y : Scope) → Straight (drop k placed) d (Out l) x y → Straight (drop j placed) e On x y

-- no placed item is left there
abbrev pub IsOver : List Placed → ℕ → Type 0
IsOver placed k = length placed ≤ k

-- the placed item is an instruction; if it goes to its target, control comes to another item
abbrev pub IsFork : List Placed → ℕ → ℕ → Instr → ℕ → ℕ → Type 0
IsFork placed k d instr j e = ItemAt placed k (λ item. (item.kind ≡ placed_kind.Do) × (item.instr ≡ instr) × Escapes placed (suc k) d item.to j e)

-- on the way to the end of block l control passes over a placed item: so many brackets are open before it, and so many after it
abbrev pub Opens : ℕ → PlacedKind → ℕ → ℕ → Type 0
Opens l placed_kind.Do d e = e ≡ d
Opens l placed_kind.Leave d e = e ≡ d
Opens l placed_kind.End d e = (d ≡ suc e) × (e ≢ l)
Opens l _ d e = e ≡ suc d

-- the placed item outputs a register; if that is refused, the routine ends
abbrev pub IsOut : List Placed → ℕ → ℕ → ℕ → Type 0
IsOut placed k d r = ItemAt placed k (λ item. (item.kind ≡ placed_kind.Do) × (item.instr.opcode ≡ op.Out) × (item.instr.a ≡ r)
    × ((j e : ℕ) × Escapes placed (suc k) d item.to j e × IsOver placed j))

-- a placed instruction makes one of the last two values, which are in registers
pub record OnWords (placed : List Placed) (opcode : Opcode) (seen next : Seen) : Type 0 where
  pub instr : Instr
  pub done : IsDone placed seen.placed seen.level instr
  pub is : instr.opcode ≡ opcode
  pub left : seen.second ≡ known.Register instr.b
  pub right : seen.first ≡ known.Register instr.c
  pub free : IsFree (popped (popped seen)) instr.a
  pub after : next ≡ pushed (written (popped (popped seen)) instr.a) (known.Register instr.a)

-- an instruction with this opcode and number makes of a word what an operation makes of the word and a constant
abbrev pub Immediate : ItemKind → ℕ → Opcode → ℕ → Type 0
Immediate kind.Mul n opcode imm = (opcode ≡ op.Muli) × (imm ≡ n)
Immediate kind.Mask n opcode imm = (opcode ≡ op.And) × (imm ≡ n)
Immediate kind.Right n opcode imm = (opcode ≡ op.Shr) × (imm ≡ n)
Immediate kind.Left n opcode imm = (opcode ≡ op.Muli) × (imm ≡ 2 ^ n)
Immediate kind.Div n opcode imm = (opcode ≡ op.Shr) × (n ≡ 2 ^ imm)
Immediate kind.Rem n opcode imm = (opcode ≡ op.And) × ((k : ℕ) × (n ≡ 2 ^ k)) × (imm ≡ n - 1)
Immediate _ n opcode imm = ⊥

-- the operation makes the same of two words in both orders
abbrev pub Commutes : ItemKind → Type 0
Commutes o = (o ≡ kind.Mul) ⊎ (o ≡ kind.Mask)

-- the last two values are the word in a register and a constant
abbrev pub IsBeside : ItemKind → Seen → ℕ → ℕ → Type 0
IsBeside o seen r n = ((seen.second ≡ known.Register r) × (seen.first ≡ known.Constant n))
    ⊎ (Commutes o × (seen.second ≡ known.Constant n) × (seen.first ≡ known.Register r))

-- the operation makes the word of two constants
abbrev pub IsFolded : ItemKind → ℕ → ℕ → ℕ → Type 0
IsFolded kind.Add x y word = word ≡ joined kind.Add x y
IsFolded kind.Sub x y word = word ≡ joined kind.Sub x y
IsFolded kind.Mul x y word = word ≡ joined kind.Mul x y
IsFolded kind.Div x y word = word ≡ joined kind.Div x y
IsFolded kind.Rem x y word = word ≡ joined kind.Rem x y
IsFolded kind.Mask x y word = word ≡ joined kind.Mask x y
IsFolded kind.Left x y word = word ≡ joined kind.Left x y
IsFolded kind.Right x y word = word ≡ joined kind.Right x y
IsFolded _ x y word = ⊥

-- later the last two values are in registers, and an instruction makes one of them
pub record OnBoth (text : List ℕ) (items : List Item) (placed : List Placed) (opcode : Opcode) (seen next : Seen) : Type 0 where
  pub between : Seen
  pub same : between.item ≡ seen.item
  pub leads : Leads text items placed seen between
  pub words : OnWords placed opcode between next

-- a register has the word of a name
abbrev pub HasName : List ℕ → List (Option ℕ) → ℕ → ℕ → Type 0
HasName text held at r = (a : ℕ) × (r < 8) × (slice_get held r ≡ Some (Some a)) × (name_at text a ≡ name_at text at)

-- whether a register has the word of a name
abbrev pub is_name : List ℕ → Option (Option ℕ) → ℕ → Bool
is_name text (Some (Some a)) at = bytes_eq (name_at text a) (name_at text at)
is_name text _ at = false

-- the registers are the same, but one of them does not have the word of the name
abbrev pub Clears : List ℕ → List (Option ℕ) → ℕ → ℕ → List (Option ℕ) → Type 0
Clears text old at k new = (r a : ℕ) → slice_get new r ≡ Some (Some a)
    → (slice_get old r ≡ Some (Some a)) × (r ≡ k → bytes_eq (name_at text a) (name_at text at) ≡ false)

-- the registers are the same, but one of them has the word of a name only if it has the word of the same name in another list
abbrev pub KeepsOne : List ℕ → List (Option ℕ) → List (Option ℕ) → ℕ → List (Option ℕ) → Type 0
KeepsOne text old other k new = (r a : ℕ) → slice_get new r ≡ Some (Some a)
    → (slice_get old r ≡ Some (Some a)) × (r ≡ k → is_name text (slice_get other r) a ≡ true)

-- the same of all registers below one
abbrev pub KeepsBelow : List ℕ → List (Option ℕ) → List (Option ℕ) → ℕ → List (Option ℕ) → Type 0
KeepsBelow text old other k new = (r a : ℕ) → slice_get new r ≡ Some (Some a)
    → (slice_get old r ≡ Some (Some a)) × (r < k → is_name text (slice_get other r) a ≡ true)

-- the registers below one do not have the word of the name, and all others have what they had
abbrev pub Cleared : List ℕ → List (Option ℕ) → ℕ → ℕ → List (Option ℕ) → Type 0
Cleared text old at k new = (r a : ℕ) → slice_get new r ≡ Some (Some a)
    → (slice_get old r ≡ Some (Some a)) × (r < k → bytes_eq (name_at text a) (name_at text at) ≡ false)

-- whatever names stand for, from here on a name stands for the word in a register
abbrev pub Renames : List ℕ → List (Option ℕ) → ℕ → ℕ → List (Option ℕ) → Type 0
Renames text old at r new = (env : Env) (words : List ℕ) → Agrees text old env words
    → Agrees text new (with_name env (name_at text at) (slice_index words r)) words

-- what is known where a routine begins
pub record Begins (text : List ℕ) (items : List Item) (index : ℕ) (seen : Seen) : Type 0 where
  pub head : Item
  pub there : slice_get items index ≡ Some head
  pub declares : head.kind ≡ kind.Fn
  pub item : seen.item ≡ index + 2 + head.b
  pub placed : seen.placed ≡ 0
  pub level : seen.level ≡ 0
  pub held : (words : List ℕ) → Agrees text seen.held (parameters text items (index + 1) words head.b) words
  pub first : seen.first ≡ known.Nothing
  pub second : seen.second ≡ known.Nothing
  pub third : seen.third ≡ known.Nothing
  pub fourth : seen.fourth ≡ known.Nothing

-- the item sets a name to one value
abbrev pub IsSetting : Item → Type 0
IsSetting item = ((item.kind ≡ kind.Let) × (item.b ≡ 1)) ⊎ ((item.kind ≡ kind.Assign) × (item.b ≡ 1))

-- the item has no effect
abbrev pub IsPassed : Item → Type 0
IsPassed item = ((item.kind ≡ kind.Begin) × (item.a ≡ 0)) ⊎ ((item.kind ≡ kind.End) ⊎ ((item.kind ≡ kind.If) ⊎ ((item.kind ≡ kind.Alt) ⊎ (item.kind ≡ kind.IfEnd))))

-- past the part of the source that contains an item, another item is next
abbrev pub Passes : List ℕ → List Item → ℕ → ℕ → Type 0
Passes text items i j = (env : Env) (values more : List ℕ) → Says text (drop j items) Next env values more
    → Says text (drop i items) (Past 0) env values more

-- the item ends a part, and control goes past the part that contains it
abbrev pub IsPart : Item → Type 0
IsPart item = (item.kind ≡ kind.AltEnd) ⊎ ((item.kind ≡ kind.CondEnd) ⊎ (item.kind ≡ kind.Else))

-- whether an instruction goes to its target
abbrev pub leaves_if : Opcode → Instr → List ℕ → Bool
leaves_if op.Chk instr words = nat_lt instr.imm (slice_index words instr.a)
leaves_if op.Beq instr words = slice_index words instr.a == slice_index words instr.b
leaves_if op.Blt instr words = nat_lt (slice_index words instr.a) (slice_index words instr.b)
leaves_if _ instr words = false

-- the instruction is one that tests words
abbrev pub IsBranch : Opcode → Type 0
IsBranch opcode = (opcode ≡ op.Chk) ⊎ ((opcode ≡ op.Beq) ⊎ (opcode ≡ op.Blt))

-- the first truth, if the second one is to be the same, or its opposite
abbrev pub agreed : Bool → Bool → Bool
agreed same truth = if same then truth else not truth

-- the instruction goes to its target if the comparison of the last two values holds, or only if it does not
pub record Decides (test : ℕ) (seen : Seen) (instr : Instr) (same : Bool) : Type 0 where
  pub left : List ℕ → ℕ
  pub right : List ℕ → ℕ
  pub is_left : (words : List ℕ) (value : Option ℕ) → Holds seen.second words value → value ≡ Some (left words)
  pub is_right : (words : List ℕ) (value : Option ℕ) → Holds seen.first words value → value ≡ Some (right words)
  pub branch : IsBranch instr.opcode
  pub decides : (words : List ℕ) → leaves_if instr.opcode instr words ≡ agreed same (holds test (left words) (right words))

-- the instruction with this opcode and these registers compares the words in two registers
abbrev pub Compares : ℕ → ℕ → ℕ → Opcode → ℕ → ℕ → Bool → Type 0
Compares test left right opcode a b same = IsBranch opcode × ((instr : Instr) (words : List ℕ) → instr.a ≡ a → instr.b ≡ b
    → leaves_if opcode instr words ≡ agreed same (holds test (slice_index words left) (slice_index words right)))

-- a word is above a bound if its comparison with a number holds, or only if it does not
abbrev pub Limits : ℕ → ℕ → ℕ → Bool → Type 0
Limits test number most same = (word : ℕ) → nat_lt most word ≡ agreed same (holds test word number)

-- all that is known where control may go on: it is enough to look at that
abbrev pub AllSound : List ℕ → List Item → List Placed → List (Option Seen) → Type 0
AllSound text items placed waiting = (k : ℕ) (seen : Seen) → slice_get waiting k ≡ Some (Some seen) → Sound text items placed seen

-- the source says an item there
abbrev pub IsPlace : List Item → ℕ → ℕ → Type 0
IsPlace items index at = (item : Item) × (slice_get items index ≡ Some item) × (item.at ≡ at)

-- if there is an item, placed routine r outputs what the source says of the routine that it declares
abbrev pub IfNamed : List ℕ → List Item → List (Vec Placed) → ℕ → Option ℕ → Type 0
IfNamed text items placed r found = (index : ℕ) (one : Vec Placed) → found ≡ Some index → slice_get placed r ≡ Some one
    → MeansNamed text items index one.items

-- the same of each routine of a list
abbrev pub AreNamed : List ℕ → List Item → List (Vec Placed) → List (Option ℕ) → Type 0
AreNamed text items placed named = (r index : ℕ) (one : Vec Placed) → slice_get named r ≡ Some (Some index) → slice_get placed r ≡ Some one
    → MeansNamed text items index one.items
