use Rattle.std.proofs.Common.{◌≡◌, true, nat_eq, ◌&&◌, sym, ◌∙◌}
use Rattle.std.proofs.lemmas.Bool.{and_parts, eqb-true}
use Rattle.geos_image.specs.declared.instr.Instr.{Instr}
use Rattle.geos_opcodes.specs.contracts.opcode.Opcode.{the_type}
use denote.Enum.Bare.{differs_false}
use Rattle.tkv_checks.proofs.places.are_same.Goals as goal

-- instructions with the same fields are the same
same_fields : (x y : Instr) → x.opcode ≡ y.opcode → x.imm ≡ y.imm → x.target ≡ y.target → x.a ≡ y.a → x.b ≡ y.b → x.c ≡ y.c → x.d ≡ y.d → x ≡ y
same_fields x y o i t a b c d = λ k. record { a = a k; b = b k; c = c k; opcode = o k; d = d k; imm = i k; target = t k }

pub returns : goal.returns
returns c e =
    let one : Instr = c.args.one.now in
    let other : Instr = c.args.other.now in
    let a = and_parts (nat_eq one.a other.a) (nat_eq one.b other.b && (nat_eq one.c other.c && (nat_eq one.d other.d && true))) (sym c.eq.ensures ∙ e) in
    let b = and_parts (nat_eq one.b other.b) (nat_eq one.c other.c && (nat_eq one.d other.d && true)) a.1 in
    let x = and_parts (nat_eq one.c other.c) (nat_eq one.d other.d && true) b.1 in
    let d = and_parts (nat_eq one.d other.d) true x.1 in
    same_fields one other (differs_false the_type tt one.opcode other.opcode (sym c.ne.ensures ∙ c.if-ne.false)) c.if-one-other.false c.if-one-other-2.false
    (eqb-true one.a other.a a.0) (eqb-true one.b other.b b.0) (eqb-true one.c other.c x.0) (eqb-true one.d other.d d.0)
