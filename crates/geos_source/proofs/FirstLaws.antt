-- Of several faults, in whatever order, one is the first.
use Rattle.std.proofs.Common.{◌≡◌, ◌∙◌, ◌<◌, ◌+◌, ◌*◌, ℕ, Bool, true, false, cond, ◌||◌, ◌&&◌, ◌==◌, if◌then◌else◌, List, [], ◌∷◌, ◌++◌, Option, Some, None, length, zero, suc, refl, sym, ap, arith, get_or}
use Rattle.std.proofs.Math.ListN.{set}
use Rattle.std.specs.Prelude.{nat_le, nat_lt}
use Rattle.geos_source.specs.declared.fault.Why.{Why}
use Rattle.geos_source.specs.declared.fault.Why.TheVariants.{UnknownWord, WrongOperands, OutOfRange, Undefined, UsedTwice, TooMany, OutOfPlace}
use Rattle.geos_source.specs.declared.fault.BadLine.{BadLine}
use Rattle.geos_source.specs.Faults.{why_number, least, first, at_line, precedes}
use Rattle.geos_source.specs.Tallies.{first_in}

why_number-small : (why : Why) → why_number why < 8
why_number-small UnknownWord = omega arith
why_number-small WrongOperands = omega arith
why_number-small OutOfRange = omega arith
why_number-small Undefined = omega arith
why_number-small UsedTwice = omega arith
why_number-small TooMany = omega arith
why_number-small OutOfPlace = omega arith

-- the why of a number, or another
why_numbered : ℕ → Why
why_numbered n =
    if n == 1 then UnknownWord else if n == 2 then WrongOperands else if n == 3 then OutOfRange else if n == 4 then Undefined
    else if n == 5 then UsedTwice else if n == 6 then TooMany else OutOfPlace

why_again : (why : Why) → why_numbered (why_number why) ≡ why
unfolding why_numbered
why_again UnknownWord = refl
why_again WrongOperands = refl
why_again OutOfRange = refl
why_again Undefined = refl
why_again UsedTwice = refl
why_again TooMany = refl
why_again OutOfPlace = refl

-- a fault's place in the order of all
abbrev rank : BadLine → ℕ
rank fault = fault.line * 8 + why_number fault.why

from_rank : (t : Bool) (a b c d : ℕ) → b < 8 → d < 8 → t ≡ (nat_lt a c || (a == c && nat_le b d)) → t ≡ nat_le (a * 8 + b) (c * 8 + d)
from_rank t a b c d e f g = grind arith

precedes-rank : (f g : BadLine) → precedes f g ≡ nat_le (rank f) (rank g)
precedes-rank f g = from_rank (precedes f g) f.line (why_number f.why) g.line (why_number g.why) (why_number-small f.why)
    (why_number-small g.why) refl

-- of two faults the one of the lower rank, or of equal ranks the first
by_rank : (f g : BadLine) → first (Some f) (Some g) ≡ cond (nat_le (rank f) (rank g)) (Some f) (Some g)
by_rank f g = ap (λ t. cond t (Some f) (Some g)) (precedes-rank f g)

first-cond : (t : Bool) (f g : BadLine) (h : Option BadLine) → first (cond t (Some f) (Some g)) h ≡ cond t (first (Some f) h) (first (Some g) h)
first-cond true f g h = refl
first-cond false f g h = refl

first-on_cond : (t : Bool) (f : BadLine) (g h : BadLine) → first (Some f) (cond t (Some g) (Some h)) ≡ cond t
    (first (Some f) (Some g)) (first (Some f) (Some h))
first-on_cond true f g h = refl
first-on_cond false f g h = refl

pick-assoc : (t u v : Bool) (a b c : ℕ) (x y z : Option BadLine) → t ≡ nat_le a b → u ≡ nat_le b c → v ≡ nat_le a c
    → cond t (cond v x z) (cond u y z) ≡ cond u (cond t x y) (cond v x z)
pick-assoc true true true a b c x y z p q r = refl
pick-assoc true true false a b c x y z p q r = absurd (grind arith)
pick-assoc true false v a b c x y z p q r = refl
pick-assoc false true v a b c x y z p q r = refl
pick-assoc false false true a b c x y z p q r = absurd (grind arith)
pick-assoc false false false a b c x y z p q r = refl

some-assoc : (f g h : BadLine) → first (first (Some f) (Some g)) (Some h) ≡ first (Some f) (first (Some g) (Some h))
some-assoc f g h =
    let t = precedes f g in
    let u = precedes g h in
    let v = precedes f h in
    first-cond t f g (Some h)
    ∙ pick-assoc t u v (rank f) (rank g) (rank h) (Some f) (Some g) (Some h) (precedes-rank f g) (precedes-rank g h) (precedes-rank f h)
    ∙ sym (first-on_cond u f g h)

first-none_of : (t : Bool) (f g : BadLine) → first (cond t (Some f) (Some g)) None ≡ cond t (Some f) (Some g)
first-none_of true f g = refl
first-none_of false f g = refl

pub first-assoc : (a b c : Option BadLine) → first (first a b) c ≡ first a (first b c)
first-assoc None b c = refl
first-assoc (Some f) None c = refl
first-assoc (Some f) (Some g) None = first-none_of (precedes f g) f g
first-assoc (Some f) (Some g) (Some h) = some-assoc f g h

pub first-none : (a : Option BadLine) → first a None ≡ a
first-none None = refl
first-none (Some f) = refl

-- faults of equal ranks are the same
rank-line : (a b c d : ℕ) → b < 8 → d < 8 → a * 8 + b ≡ c * 8 + d → (a ≡ c) × (b ≡ d)
rank-line a b c d e f g = (omega arith, omega arith)

made-same : (f g : BadLine) → f.line ≡ g.line → f.why ≡ g.why → f ≡ g
made-same f g e h =
    let first_step : f ≡ record { line = g.line; why = f.why } = ap (λ (l : ℕ). let r : BadLine = record { line = l; why = f.why } in r) e in
    let second_step : record { line = g.line; why = f.why } ≡ g = ap (λ (w : Why). let r : BadLine = record { line = g.line; why = w } in r) h in
    first_step ∙ second_step

rank-same : (f g : BadLine) → rank f ≡ rank g → f ≡ g
rank-same f g e =
    let parts = rank-line f.line (why_number f.why) g.line (why_number g.why) (why_number-small f.why) (why_number-small g.why) e in
    made-same f g parts.0 (sym (why_again f.why) ∙ ap why_numbered parts.1 ∙ why_again g.why)

pick-comm : (t u : Bool) (a b : ℕ) (x y : Option BadLine) → (a ≡ b → x ≡ y) → t ≡ nat_le a b → u ≡ nat_le b a → cond t x y ≡ cond u y x
pick-comm true true a b x y same p q = same (grind arith)
pick-comm true false a b x y same p q = refl
pick-comm false true a b x y same p q = refl
pick-comm false false a b x y same p q = absurd (grind arith)

pub first-comm : (a b : Option BadLine) → first a b ≡ first b a
first-comm None None = refl
first-comm None (Some g) = refl
first-comm (Some f) None = refl
first-comm (Some f) (Some g) =
    pick-comm (precedes f g) (precedes g f) (rank f) (rank g) (Some f) (Some g) (λ e. ap Some (rank-same f g e))
    (precedes-rank f g) (precedes-rank g f)

-- ---- the first of lines

least-cond : (line : ℕ) (t : Bool) (a b : Why) → at_line line (cond t (Some a) (Some b)) ≡ cond t (at_line line (Some a)) (at_line line (Some b))
least-cond line true a b = refl
least-cond line false a b = refl

same_line : (t u : Bool) (a b n : ℕ) → t ≡ nat_le a b → u ≡ nat_le (n * 8 + a) (n * 8 + b) → t ≡ u
same_line t u a b n p q = grind arith

at_line-least : (line : ℕ) (a b : Option Why) → at_line line (least a b) ≡ first (at_line line a) (at_line line b)
at_line-least line None b = refl
at_line-least line (Some a) None = refl
at_line-least line (Some a) (Some b) =
    let f : BadLine = record { line = line; why = a } in
    let g : BadLine = record { line = line; why = b } in
    least-cond line (nat_le (why_number a) (why_number b)) a b
    ∙ ap (λ t. cond t (Some f) (Some g)) (same_line (nat_le (why_number a) (why_number b)) (precedes f g) (why_number a)
    (why_number b) line refl (precedes-rank f g))

pub first_in-push : (n : ℕ) (whys : List (Option Why)) → first_in n (whys ++ None ∷ []) ≡ first_in n whys
first_in-push n [] = refl
first_in-push n (why ∷ whys) = ap (first (at_line n why)) (first_in-push (n + 1) whys)

pub swap : (a b c : Option BadLine) → first (first a b) c ≡ first (first a c) b
swap a b c = first-assoc a b c ∙ ap (first a) (first-comm b c) ∙ sym (first-assoc a c b)

-- a fault of one of the lines comes to them
pub first_in-set : (n line : ℕ) (whys : List (Option Why)) (at : ℕ) (old : Option Why) (why : Why) → line ≡ n + at
    → at < length whys → old ≡ get_or whys at old
    → first_in n (set whys at (least old (Some why))) ≡ first (first_in n whys) (Some (record { line = line; why = why }))
first_in-set n line [] at old why e within h = absurd (omega arith)
first_in-set n line (w ∷ ws) zero old why e within h =
    let same : n ≡ line = omega arith in
    ap (λ x. first x (first_in (n + 1) ws)) (at_line-least n old (Some why))
    ∙ swap (at_line n old) (Some (record { line = n; why = why })) (first_in (n + 1) ws)
    ∙ ap (λ l. first (first (at_line n old) (first_in (n + 1) ws)) (Some (record { line = l; why = why }))) same
    ∙ ap (λ o. first (first (at_line n o) (first_in (n + 1) ws)) (Some (record { line = line; why = why }))) h
first_in-set n line (w ∷ ws) (suc at) old why e within h =
    let below : at < length ws = omega arith in
    let behind : line ≡ (n + 1) + at = omega arith in
    ap (first (at_line n w)) (first_in-set (n + 1) line ws at old why behind below h)
    ∙ sym (first-assoc (at_line n w) (first_in (n + 1) ws) (Some (record { line = line; why = why })))

-- the faults of all parts of a text
pub first-all : (a b c d : Option BadLine) → first (first (first b c) a) d ≡ first (first a b) (first c d)
first-all a b c d =
    ap (λ x. first x d) (first-comm (first b c) a)
    ∙ first-assoc a (first b c) d
    ∙ ap (first a) (first-assoc b c d)
    ∙ sym (first-assoc a b (first c d))
