-- Worked examples of the meaning of items.
use Rattle.std.proofs.Common.{◌≡◌, ℕ, Bool, true, false, List, [], ◌∷◌, refl, inl, inr, arith}
use Rattle.tkv_syntax.specs.declared.item.Item.{Item}
use Rattle.tkv_syntax.specs.declared.item.ItemKind.{ItemKind}
use Rattle.tkv_syntax.specs.declared.item.ItemKind.TheVariants as kind
use Rattle.tkv_names.specs.Named.{Env, name_at, with_name, joined, holds, Next, Says}

-- arithmetic wraps
differences : joined kind.Sub 10 3 ≡ 7
differences = refl

negative : joined kind.Sub 3 10 ≡ 65529
negative = refl

sums : joined kind.Add 65535 2 ≡ 1
sums = refl

-- a shift to the left wraps too, and a quotient has a remainder
shifted : joined kind.Left 3 15 ≡ 32768
shifted = refl

quotient : joined kind.Div 50 8 ≡ 6
quotient = refl

remainder : joined kind.Rem 50 8 ≡ 2
remainder = refl

-- comparisons
least : holds 2 3 10 ≡ true
least = refl

same : holds 3 10 10 ≡ true
same = refl

greatest : holds 5 11 10 ≡ false
greatest = refl

-- the text `x y1+`, with the names x and y1
text : List ℕ
text = 120 ∷ 32 ∷ 121 ∷ 49 ∷ 43 ∷ []

first_name : name_at text 0 ≡ 120 ∷ []
unfolding text
first_name = refl

second_name : name_at text 2 ≡ 121 ∷ 49 ∷ []
unfolding text
second_name = refl

-- an item at an offset, with the number a
item : ItemKind → ℕ → ℕ → Item
item k at a = record { kind = k; at = at; a = a; b = 0; c = 0 }

-- x is 10
env : Env
env = with_name (λ name. 0) (120 ∷ []) 10

-- out(x - 3)?; outputs 7, or nothing if it is refused
program : List Item
program = item kind.Named 0 0 ∷ item kind.Number 0 3 ∷ item kind.Sub 0 0 ∷ item kind.Put 0 0 ∷ item kind.BodyEnd 0 0 ∷ []

outputs : Says text program Next env [] (7 ∷ [])
unfolding program text env item
outputs = (10, 3, [], refl, (7, [], refl, inr ([], refl, refl)))

refused : Says text program Next env [] []
unfolding program text env item
refused = (10, 3, [], refl, (7, [], refl, inl refl))

-- out(50 % x)?; outputs 0
left_constant : List Item
left_constant = item kind.Number 0 50 ∷ item kind.Named 0 0 ∷ item kind.Rem 0 0 ∷ item kind.Put 0 0 ∷ item kind.BodyEnd 0 0 ∷ []

divided : Says text left_constant Next env [] (0 ∷ [])
unfolding left_constant text env item
divided = (50, 10, [], refl, (0, [], refl, inr ([], refl, refl)))

-- y1 = x - 3; out(y1)?;
assigns : List Item
assigns = item kind.Named 0 0 ∷ item kind.Number 0 3 ∷ item kind.Sub 0 0 ∷ record (item kind.Assign 2 0) { b = 1 } ∷ item kind.Named 2 0 ∷ item kind.Put 0 0 ∷ item kind.BodyEnd 0 0 ∷ []

assigned : Says text assigns Next env [] (7 ∷ [])
unfolding assigns text env item
assigned = (10, 3, [], refl, (refl, (7, [], refl, (7, [], refl, inr ([], refl, refl)))))

-- of `if x < 11` the first branch outputs 1, and the other one 2
conditional : List Item
conditional = item kind.If 0 0 ∷ item kind.Alt 0 0 ∷ item kind.Named 0 0 ∷ item kind.Number 0 11 ∷ item kind.Test 0 2 ∷ item kind.AltEnd 0 0 ∷ item kind.CondEnd 0 0
    ∷ item kind.Number 0 1 ∷ item kind.Put 0 0 ∷ item kind.Else 0 0 ∷ item kind.Number 0 2 ∷ item kind.Put 0 0 ∷ item kind.IfEnd 0 0 ∷ item kind.BodyEnd 0 0 ∷ []

holds_then : Says text conditional Next env [] (1 ∷ [])
unfolding conditional text env item
holds_then = (omega arith, (10, 11, [], refl, (1, [], refl, inr ([], refl, refl))))

-- if x is 20, it outputs 2
twenty : Env
twenty = with_name (λ name. 0) (120 ∷ []) 20

fails_else : Says text conditional Next twenty [] (2 ∷ [])
unfolding conditional text twenty item
fails_else = (omega arith, (20, 11, [], refl, (2, [], refl, inr ([], refl, refl))))

-- if x == 1 || x == 10 && x != 3 { return; } out(1)?; outputs nothing
alternatives : List Item
alternatives = item kind.If 0 0 ∷ item kind.Alt 0 0 ∷ item kind.Named 0 0 ∷ item kind.Number 0 1 ∷ item kind.Test 0 0 ∷ item kind.AltEnd 0 0
    ∷ item kind.Alt 0 0 ∷ item kind.Named 0 0 ∷ item kind.Number 0 10 ∷ item kind.Test 0 0 ∷ item kind.Named 0 0 ∷ item kind.Number 0 3 ∷ item kind.Test 0 1 ∷ item kind.AltEnd 0 0
    ∷ item kind.CondEnd 0 0 ∷ item kind.Return 0 0 ∷ item kind.Else 0 0 ∷ item kind.IfEnd 0 0 ∷ item kind.Number 0 1 ∷ item kind.Put 0 0 ∷ item kind.BodyEnd 0 0 ∷ []

returns_early : Says text alternatives Next env [] []
unfolding alternatives text env item
returns_early = (omega arith, (10, 1, [], refl, (omega arith, (10, 10, [], refl, (omega arith, (10, 3, [], refl, (refl, refl)))))))

goes_on : Says text alternatives Next twenty [] (1 ∷ [])
unfolding alternatives text twenty item
goes_on = (omega arith, (20, 1, [], refl, (omega arith, (20, 10, [], refl, (1, [], refl, inr ([], refl, refl))))))
