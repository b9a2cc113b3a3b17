-- What the items of a source mean: names stand for words, and each value is where its operands were.
use Rattle.std.specs.Prelude.{◌≡◌, ◌⊎◌, ℕ, zero, suc, ◌+◌, ◌-◌, ◌*◌, ◌/◌, ◌%◌, ◌^◌, ◌<◌, Bool, ◌||◌, ◌&&◌, ◌==◌, not, nat_le, nat_lt, if◌then◌else◌, bit_and, bytes_eq, Some, None, List, [], ◌∷◌, drop, slice_get, slice_index}
use Rattle.tkv_syntax.specs.declared.item.Item.{Item}
use Rattle.tkv_syntax.specs.declared.item.ItemKind.{ItemKind}
use Rattle.tkv_syntax.specs.declared.item.ItemKind.TheVariants as kind

-- the byte is in a range
abbrev pub between : ℕ → ℕ → ℕ → Bool
between low high byte = nat_le low byte && nat_le byte high

-- a name may have the byte: a digit, a letter or an underscore
abbrev pub is_letter : ℕ → Bool
is_letter byte = between 48 57 byte || (between 65 90 byte || (between 97 122 byte || byte == 95))

-- the letters from an offset of a text on, so many at most
abbrev pub letters : ℕ → List ℕ → ℕ → List ℕ
letters zero text at = []
letters (suc n) text at = if is_letter (slice_index text at) then slice_index text at ∷ letters n text (suc at) else []

-- the name at an offset of a text
abbrev pub name_at : List ℕ → ℕ → List ℕ
name_at text at = letters 16 text at

-- the words that names stand for
abbrev pub Env : Type 0
Env = List ℕ → ℕ

-- the same, but a name stands for this word now
abbrev pub with_name : Env → List ℕ → ℕ → Env
with_name env name word other = if bytes_eq other name then word else env other

-- what an operation makes of two words: arithmetic wraps
abbrev pub joined : ItemKind → ℕ → ℕ → ℕ
joined kind.Add x y = (x + y) % 65536
joined kind.Sub x y = (x + 65536 - y) % 65536
joined kind.Mul x y = (x * y) % 65536
joined kind.Div x y = x / y
joined kind.Rem x y = x % y
joined kind.Mask x y = bit_and x y
joined kind.Left x y = (x * 2 ^ y) % 65536
joined kind.Right x y = x / 2 ^ y
joined _ x y = 0

-- whether a comparison of two words holds: `==`, `!=`, `<`, `>=`, `>` or `<=`
abbrev pub holds : ℕ → ℕ → ℕ → Bool
holds test x y =
    if test == 0 then x == y else
    if test == 1 then not (x == y) else
    if test == 2 then nat_lt x y else
    if test == 3 then not (nat_lt x y) else
    if test == 4 then nat_lt y x else not (nat_lt y x)

-- where control continues: with the next item, or past the part that contains it, if so many parts that begin within it have not ended
pub data Turn : Type 0 where
  Next : Turn
  Past : ℕ → Turn

-- where control continues after an item that is passed over. The parts of a condition end with `AltEnd` and `CondEnd`, and the statements of its
-- branches with `Else` and `IfEnd`.
abbrev pub passed : ItemKind → ℕ → Turn
passed kind.If n = Past (suc n)
passed kind.Alt n = Past (suc n)
passed kind.AltEnd zero = Next
passed kind.AltEnd (suc n) = Past n
passed kind.CondEnd zero = Next
passed kind.Else zero = Next
passed kind.IfEnd zero = Next
passed kind.IfEnd (suc n) = Past n
passed _ n = Past n

-- what the items from one on may output, if names stand for words, and these values are not used yet, the last one first
abbrev pub Saying : Type 1
Saying = Env → List ℕ → List ℕ → Type 0

-- an operation takes two values, and leaves one
abbrev pub Joins : ItemKind → Saying → Saying
Joins op rest env values output = (x y : ℕ) × (before : List ℕ) × (values ≡ y ∷ x ∷ before) × rest env (joined op x y ∷ before) output

-- the name stands for the last value from here on
abbrev pub Sets : List ℕ → Saying → Saying
Sets name rest env values output = (x : ℕ) × (before : List ℕ) × (values ≡ x ∷ before) × rest (with_name env name x) before output

-- the last value is output, and then what the items that follow output; or the output is refused, which ends the routine
abbrev pub Puts : Saying → Saying
Puts rest env values output = (x : ℕ) × (before : List ℕ) × (values ≡ x ∷ before)
    × ((output ≡ []) ⊎ ((more : List ℕ) × (output ≡ x ∷ more) × rest env before more))

-- a test takes two values. If the comparison does not hold, control goes past the alternative that contains it.
abbrev pub Tests : ℕ → (Turn → Saying) → Saying
Tests test rest env values output = (x y : ℕ) × (before : List ℕ) × (values ≡ y ∷ x ∷ before)
    × rest (if holds test x y then Next else Past 0) env before output

-- what an item does, before the items that follow it
abbrev pub DoesItem : List ℕ → Item → ItemKind → (Turn → Saying) → Saying
DoesItem text item kind.Number rest env values output = rest Next env (item.a ∷ values) output
DoesItem text item kind.Named rest env values output = rest Next env (env (name_at text item.at) ∷ values) output
DoesItem text item kind.Add rest env values output = Joins kind.Add (rest Next) env values output
DoesItem text item kind.Sub rest env values output = Joins kind.Sub (rest Next) env values output
DoesItem text item kind.Mul rest env values output = Joins kind.Mul (rest Next) env values output
DoesItem text item kind.Div rest env values output = Joins kind.Div (rest Next) env values output
DoesItem text item kind.Rem rest env values output = Joins kind.Rem (rest Next) env values output
DoesItem text item kind.Mask rest env values output = Joins kind.Mask (rest Next) env values output
DoesItem text item kind.Left rest env values output = Joins kind.Left (rest Next) env values output
DoesItem text item kind.Right rest env values output = Joins kind.Right (rest Next) env values output
DoesItem text item kind.Let rest env values output = (item.b ≡ 1) × Sets (name_at text item.at) (rest Next) env values output
DoesItem text item kind.Assign rest env values output = (item.b ≡ 1) × Sets (name_at text item.at) (rest Next) env values output
DoesItem text item kind.Put rest env values output = Puts (rest Next) env values output
DoesItem text item kind.Begin rest env values output = (item.a ≡ 0) × rest Next env values output
DoesItem text item kind.End rest env values output = rest Next env values output
DoesItem text item kind.If rest env values output = rest Next env values output
DoesItem text item kind.Alt rest env values output = rest Next env values output
DoesItem text item kind.Test rest env values output = (item.a < 6) × Tests item.a rest env values output
-- all tests of an alternative hold: control goes past the condition
DoesItem text item kind.AltEnd rest env values output = rest (Past 0) env values output
-- no alternative holds: control goes past the statements for which one does
DoesItem text item kind.CondEnd rest env values output = rest (Past 0) env values output
-- those statements are over: control goes past the statements after `else`
DoesItem text item kind.Else rest env values output = rest (Past 0) env values output
DoesItem text item kind.IfEnd rest env values output = rest Next env values output
DoesItem text item kind.Return rest env values output = (item.a ≡ 0) × (output ≡ [])
DoesItem text item kind.BodyEnd rest env values output = output ≡ []
DoesItem text item _ rest env values output = ⊥

-- what the items may output: those that control reaches, one after another
abbrev pub Says : List ℕ → List Item → Turn → Saying
Says text [] turn env values output = ⊥
Says text (item ∷ items) Next env values output = DoesItem text item item.kind (Says text items) env values output
Says text (item ∷ items) (Past n) env values output = Says text items (passed item.kind n) env values output

-- the words of the first so many parameters: parameter k is item `first + k`, and stands for the word k that the routine is called with
abbrev pub parameters : List ℕ → List Item → ℕ → List ℕ → ℕ → Env
parameters text items first words zero = λ name. 0
parameters text items first words (suc k) =
    elim (slice_get items (first + k)) [
      | None ↦ parameters text items first words k
      | Some item ↦ with_name (parameters text items first words k) (name_at text item.at) (slice_index words k)
    ]

-- the routine that item `index` declares, called with these words, may output this: parameters follow the item, then the body begins
pub record Outputs (text : List ℕ) (items : List Item) (index : ℕ) (words output : List ℕ) : Type 0 where
  pub head : Item
  pub there : slice_get items index ≡ Some head
  pub declares : head.kind ≡ kind.Fn
  pub says : Says text (drop (index + 2 + head.b) items) Next (parameters text items (index + 1) words head.b) [] output
