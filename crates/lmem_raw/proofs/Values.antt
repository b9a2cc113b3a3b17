-- The machine values of the crate's structs: what is owned tells them, and is made of nothing.
use Rattle.std.proofs.Common.{◌≡◌, List, [], ◌∷◌, ◌++◌, refl, ◌∙◌, lit<}
use seplogic.Ra.Ura.{Ura}
use mir.Syntax.{ty_ptr, ty_struct, tcons, tnil}
use mir.Val.{Val, vstruct, vcons, vnil, of_list}
use base.Logic.{ent, emp}
use base.Fml.{Fml}
use types.Logic.{Logic, sem}
use denote.RattleType.{RattleType}
use denote.RawPtr.{Ptr, RawPtr, block_ptr, null_ptr, ptr_val}
use denote.Shadow.{shadow, makes_shadow}
use denote.Struct.Struct.{Struct}
use Rattle.core.proofs.cell.Inside.{Good}

-- a struct given only by its fields: what it owns does not depend on its name
abbrev pub plainly : List RattleType → RattleType
plainly Rs = Struct (record { name = []; args = []; types = []; fields = Rs })

pub ptr_typed : (p : Ptr) → Good ty_ptr (ptr_val p)
ptr_typed (block_ptr b o) = (tt, tt)
ptr_typed null_ptr = (tt, record { fits = lit< tt })

abbrev pub raw_val : Ptr → Val
raw_val p0 = vstruct (vcons (ptr_val p0) vnil)

abbrev pub raw_own : Ptr → List Val → Fml
raw_own p0 = (plainly (RawPtr ∷ [])).own_val (p0, tt)

pub raw_told : (p0 : Ptr) (vs : List Val) → shadow (raw_own p0 vs) → (vs ≡ raw_val p0 ∷ []) × Unit {0}
raw_told p0 vs s = (s.1.0 ∙ (λ i. vstruct (of_list (s.1.1.0 i ++ [])) ∷ []), tt)

pub raw_made : {M : Type 1} {𝓤 : Ura M} (𝓛 : Logic 𝓤) (p0 : Ptr) → Unit {0} → ent 𝓤 (emp 𝓤) (sem 𝓛 (raw_own p0 (raw_val p0 ∷ [])))
raw_made 𝓛 p0 f = makes_shadow 𝓛 (raw_own p0 (raw_val p0 ∷ [])) (λ _. (tt, (tt, tt))) ((ptr_val p0 ∷ [], tt), (refl, (refl, tt)))

pub raw_typed : (p0 : Ptr) → Unit {0} → Good (ty_struct [] (tcons ty_ptr tnil)) (raw_val p0)
raw_typed (block_ptr bp0 op0) f = (tt, (tt, tt))
raw_typed null_ptr f = (tt, (record { fits = lit< tt }, tt))

abbrev pub token_val : Val
token_val = vstruct (vcons (vstruct vnil) vnil)

abbrev pub token_own : List Val → Fml
token_own = (plainly (plainly [] ∷ [])).own_val (tt, tt)

pub token_told : (vs : List Val) → shadow (token_own vs) → (vs ≡ token_val ∷ []) × Unit {0}
token_told vs s = (s.1.0 ∙ (λ i. vstruct (of_list (s.1.1.0.1.0 i ++ [])) ∷ []), tt)

pub token_made : {M : Type 1} {𝓤 : Ura M} (𝓛 : Logic 𝓤) → Unit {0} → ent 𝓤 (emp 𝓤) (sem 𝓛 (token_own (token_val ∷ [])))
token_made 𝓛 f = makes_shadow 𝓛 (token_own (token_val ∷ [])) (λ _. (tt, ((λ _. (tt, tt)), tt)))
    ((vstruct vnil ∷ [], tt), (refl, ((tt, (refl, tt)), tt)))
