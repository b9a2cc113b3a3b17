-- Ways of control: past parts of a source, and out of placed blocks.
use Rattle.std.proofs.Common.{◌≡◌, ◌≢◌, ℕ, suc, Bool, cond, Some, List, refl, sym, ap, ◌∙◌, subst, arith, eq-eqb}
use Rattle.std.specs.Prelude.{◌==◌, drop, slice_get}
use Rattle.geos_image.specs.declared.instr.Instr.{Instr}
use Rattle.geos_opcodes.specs.declared.opcode.Opcode.TheVariants as op
use Rattle.tkv_syntax.specs.declared.item.Item.{Item}
use Rattle.tkv_places.specs.declared.placed.Placed.{Placed}
use Rattle.tkv_places.specs.declared.placed.PlacedKind.{PlacedKind}
use Rattle.tkv_places.specs.declared.placed.PlacedKind.TheVariants as kind
use Rattle.tkv_meaning.specs.Meaning.{Scope, Way, On, Out, outside}
use Rattle.tkv_checks.specs.Items.{ItemAt}
use Rattle.tkv_names.specs.Named.{Env, Turn, Next, Past, passed, Says}
use Rattle.tkv_names.specs.Straight.{Doing, Goes, Straight}
use Rattle.tkv_names.specs.Seen.{Passes, Reaches, Escapes, IsFork, IsOut, IsOver, Opens}
use Rattle.tkv_names.proofs.Lists.{dropped}
use Rattle.tkv_names.proofs.Steps.{at_item}
use Rattle.tkv_names.proofs.Bodies.{outer}

-- Parts of a source

module _ (text : List ℕ) (items : List Item) (from : ℕ) where
  -- control that is to go past a part passes over items, up to one
  abbrev pub Passing : ℕ → ℕ → Type 0
  Passing index depth = (env : Env) (vs more : List ℕ) → Says text (drop index items) (Past depth) env vs more → Says text (drop from items) (Past 0) env vs more

  turns : (index depth : ℕ) (turn : Turn) (item : Item) → slice_get items index ≡ Some item → passed item.kind depth ≡ turn → (env : Env) (vs more : List ℕ)
      → Says text (drop (suc index) items) turn env vs more → Says text (drop index items) (Past depth) env vs more
  turns index depth turn item there e env vs more h = subst (λ (is : List Item). Says text is (Past depth) env vs more) (sym (dropped items index item there))
      (subst (λ (t : Turn). Says text (drop (suc index) items) t env vs more) (sym e) h)

  pub passing_next : (index depth left n : ℕ) (item : Item) → slice_get items index ≡ Some item → passed item.kind depth ≡ Past left → n ≡ suc index
      → Passing index depth → Passing n left
  passing_next index depth left n item there e f passing env vs more h = passing env vs more
      (turns index depth (Past left) item there e env vs more (subst (λ (k : ℕ). Says text (drop k items) (Past left) env vs more) f h))

  pub passing_end : (index depth n : ℕ) (item : Item) → slice_get items index ≡ Some item → depth ≡ 0 → passed item.kind 0 ≡ Next → n ≡ suc index
      → Passing index depth → Passes text items from n
  passing_end index depth n item there nil e f passing env vs more h = passing env vs more
      (subst (λ (k : ℕ). Says text (drop index items) (Past k) env vs more) (sym nil)
      (turns index 0 Next item there e env vs more (subst (λ (k : ℕ). Says text (drop k items) Next env vs more) f h)))

-- Blocks

goes_out : (item : Placed) (o : PlacedKind) (rest : Doing) (l d e : ℕ) (x y : Scope) → Opens l o d e → Goes item o rest d (Out l) x y → rest e (Out l) x y
goes_out item kind.Do rest l d e x y opens h = subst (λ (n : ℕ). rest n (Out l) x y) (sym opens) h
goes_out item kind.Leave rest l d e x y opens h = subst (λ (n : ℕ). rest n (Out l) x y) (sym opens) h
goes_out item kind.End rest l d e x y (same, ne) h = subst (λ (way : Way). rest e way x y) (outer l e (λ q. ne (sym q)))
    (subst (λ (n : ℕ). Goes item kind.End rest n (Out l) x y) same h)
goes_out item kind.Block rest l d e x y opens h = subst (λ (n : ℕ). rest n (Out l) x y) (sym opens) h
goes_out item kind.Loop rest l d e x y opens h = subst (λ (n : ℕ). rest n (Out l) x y) (sym opens) h
goes_out item kind.Count rest l d e x y opens h = subst (λ (n : ℕ). rest n (Out l) x y) (sym opens) h
goes_out item kind.Closing rest l d e x y opens h = subst (λ (n : ℕ). rest n (Out l) x y) (sym opens) h

module _ (placed : List Placed) (from level l : ℕ) where
  -- control that leaves to the end of a block passes over items, up to one
  abbrev pub Escaping : ℕ → ℕ → Type 0
  Escaping index depth = (x y : Scope) → Straight (drop from placed) level (Out l) x y → Straight (drop index placed) depth (Out l) x y

  pub escaping_next : (index depth left n : ℕ) (o : PlacedKind) → ItemAt placed index (λ item. item.kind ≡ o) → Opens l o depth left → n ≡ suc index
      → Escaping index depth → Escaping n left
  escaping_next index depth left n o (item, there, is) opens f escaping x y h = subst (λ (k : ℕ). Straight (drop k placed) left (Out l) x y) (sym f)
      (goes_out item o (Straight (drop (suc index) placed)) l depth left x y opens
      (at_item placed index item o depth (Out l) x y there is (escaping x y h)))

  pub escaping_end : (index depth n : ℕ) (o : PlacedKind) → ItemAt placed index (λ item. item.kind ≡ o) → o ≡ kind.End → depth ≡ suc l → n ≡ suc index
      → Escaping index depth → Escapes placed from level l n l
  escaping_end index depth n o (item, there, is) ends inner f escaping x y h = subst (λ (k : ℕ). Straight (drop k placed) l On x y) (sym f)
      (subst (λ (way : Way). Straight (drop (suc index) placed) l way x y) (ap (λ (b : Bool). cond b On (Out l)) (eq-eqb l l refl))
      (at_item placed index item kind.End (suc l) (Out l) x y there (is ∙ ends)
      (subst (λ (d : ℕ). Straight (drop index placed) d (Out l) x y) inner (escaping x y h))))

module _ (placed : List Placed) (k d : ℕ) (item : Placed) (there : slice_get placed k ≡ Some item) where
  pub into_block : (n e : ℕ) → item.kind ≡ kind.Block → n ≡ suc k → e ≡ suc d → Reaches placed k d n e
  into_block n e is f g x y h = subst (λ (j : ℕ). Straight (drop j placed) e On x y) (sym f) (subst (λ (j : ℕ). Straight (drop (suc k) placed) j On x y) (sym g)
      (at_item placed k item kind.Block d On x y there is h))

  pub over_end : (n e : ℕ) → item.kind ≡ kind.End → n ≡ suc k → d ≡ suc e → Reaches placed k d n e
  over_end n e is f g x y h = subst (λ (j : ℕ). Straight (drop j placed) e On x y) (sym f)
      (at_item placed k item kind.End (suc e) On x y there is (subst (λ (j : ℕ). Straight (drop k placed) j On x y) g h))

  pub by_leave : (n j e : ℕ) → item.kind ≡ kind.Leave → n ≡ suc k → Escapes placed n d item.to j e → Reaches placed k d j e
  by_leave n j e is f escapes x y h = escapes x y (subst (λ (m : ℕ). Straight (drop m placed) d (Out item.to) x y) (sym f)
      (at_item placed k item kind.Leave d On x y there is h))

  pub is_fork : (n j e : ℕ) → item.kind ≡ kind.Do → n ≡ suc k → Escapes placed n d item.to j e → IsFork placed k d item.instr j e
  is_fork n j e is f escapes = (item, there, (is, refl, subst (λ (m : ℕ). Escapes placed m d item.to j e) f escapes))

-- an instruction that outputs a register, and whose refusal ends the routine
pub is_out : (placed : List Placed) (k d j e r : ℕ) (i : Instr) → IsFork placed k d i j e → i.opcode ≡ op.Out → i.a ≡ r → IsOver placed j → IsOut placed k d r
is_out placed k d j e r i (item, there, (is, same, escapes)) opcode register over = (
  item,
  there,
  (
    is,
    ap (λ (q : Instr). q.opcode) same ∙ opcode,
    ap (λ (q : Instr). q.a) same ∙ register,
    (j, e, escapes, over),
  ),
)
