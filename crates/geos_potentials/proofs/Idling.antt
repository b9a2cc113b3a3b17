-- The notes on idle counters are true: a counter that is noted as one that may not pay may not pay.
use Rattle.std.proofs.Common.{◌≡◌, ◌<◌, ◌⊎◌, ◌+◌, ℕ, zero, suc, Bool, true, false, not, List, [], ◌∷◌, ◌++◌, Option, Some, refl, sym, ap, ◌∙◌, subst, arith, inl, inr, None}
use Rattle.geos_verify.proofs.Places.{if_some}
use Rattle.std.specs.Prelude.{◌||◌, ◌==◌, slice_index_or, IfSome, slice_get, ◌&&◌}
use Rattle.std.proofs.lemmas.Bool.{false≢true}
use Rattle.std.proofs.lemmas.Option.{same_Some}
use Rattle.geos_opcodes.specs.declared.opcode.Opcode.{Opcode}
use Rattle.geos_opcodes.specs.declared.opcode.Opcode.TheVariants.{Setk, Setkw, Loop, Call}
use Rattle.geos_image.specs.declared.instr.Instr.{Instr}
use Rattle.geos_image.specs.declared.point.Point.{Point}
use Rattle.geos_image.specs.declared.row.Row.{Row}
use Rattle.geos_image.specs.Keys.{branches}
use Rattle.geos_image.specs.Parts.{Parts, start_of}
use Rattle.geos_verify.specs.Rows.{has_edge}
use Rattle.geos_verify.specs.Touched.{touches, noted}
use Rattle.control_graph.specs.declared.arcs.Arc.{Arc}
use Rattle.control_graph.specs.declared.arcs.Counting.{Counting}
use Rattle.geos_potentials.specs.declared.classes.Classes.{Classes}
use Rattle.control_graph.specs.Arcs.{arc_at, keeps, forgets}
use Rattle.geos_potentials.specs.Arcs.{unit_at, counting_of, AreArcs}
use Rattle.geos_counters.specs.Counters.{touched_by}
use Rattle.geos_code.specs.Code.{IsPcOf, is_loop}
use Rattle.geos_counters.specs.Idle.{calls_touching, MayNotPay, LeadsIdle, IsIdleWay, IsNeverPaid}
use Rattle.geos_counters.specs.Touching.{NotesTouched}
use Rattle.geos_potentials.specs.Demands.{IsKeptOver}
use Rattle.geos_code.specs.Known.{row_of, known_at}
use Rattle.geos_potentials.specs.Spreads.{ComeBehind, ComeFrom, ForgetsIt}
use Rattle.geos_potentials.specs.Stuck.{NotesIdle, LeadsOnIdle}
use Rattle.geos_counters.specs.Trails.{IsTrail, LeadsKeeping, keeps_counter}
use Rattle.geos_code.specs.Edges.{LeadsTo}
use Rattle.geos_potentials.proofs.Demand.{is-arc}

-- What edges do to counters

by_bool : (b : Bool) → (not b ≡ true) ⊎ (b ≡ true)
by_bool true = inr refl
by_bool false = inl refl

-- an edge that keeps a counter, by a table that says only what routines touch, keeps it, or is that of a call that touches it
kept-or-called : (image : Parts) (row : Row) (table : List (List Bool)) (i : Instr) (opcode : Opcode) (branch : Bool) (k : ℕ) → i.opcode ≡ opcode
    → has_edge i branch ≡ true → keeps (counting_of row table i opcode branch) k ≡ true
    → (keeps_counter image k i opcode branch ≡ true) ⊎ ((branch ≡ false) × (calls_touching image k i ≡ true))
kept-or-called image row table i Setk true k is has e = absurd (false≢true (subst (λ (o : Opcode). branches o ≡ true) is has))
kept-or-called image row table i Setk false k is has e = inl e
kept-or-called image row table i Setkw true k is has e = absurd (false≢true (subst (λ (o : Opcode). branches o ≡ true) is has))
kept-or-called image row table i Setkw false k is has e = inl e
kept-or-called image row table i Loop true k is has e = inl refl
kept-or-called image row table i Loop false k is has e = inl e
kept-or-called image row table i Call true k is has e = absurd (false≢true (subst (λ (o : Opcode). branches o ≡ true) is has))
kept-or-called image row table i Call false k is has e = elim (by_bool (touches image k i.imm)) [
  | inl kept ↦ inl kept
  | inr touching ↦ inr (refl, rw (is, touching) refl)
]
kept-or-called image row table i _ branch k is has e = inl refl

none-touched : (k : ℕ) → slice_index_or (false ∷ false ∷ false ∷ false ∷ []) k false ≡ true → ⊥
none-touched zero e = false≢true e
none-touched (suc zero) e = false≢true e
none-touched (suc (suc zero)) e = false≢true e
none-touched (suc (suc (suc zero))) e = false≢true e
none-touched (suc (suc (suc (suc k)))) e = false≢true e

pub noted-by : (table : List (List Bool)) (r k : ℕ) → slice_index_or (touched_by table r) k false ≡ true → noted table k r ≡ true
noted-by [] r k e = absurd (none-touched k e)
noted-by (touched ∷ table) zero k e = e
noted-by (touched ∷ table) (suc r) k e = noted-by table r k e

-- what forgets a counter is a call that touches it
forgets-called : (image : Parts) (row : Row) (table : List (List Bool)) (i : Instr) (opcode : Opcode) (k : ℕ) → NotesTouched image table
    → i.opcode ≡ opcode → forgets (counting_of row table i opcode false) k ≡ true → calls_touching image k i ≡ true
forgets-called image row table i Call k notes is e = rw (is, notes k i.imm (noted-by table i.imm k e)) refl
forgets-called image row table i _ k notes is e = absurd (false≢true e)

-- Ways

trail-on : (image : Parts) (r k : ℕ) (branches : List Bool) (from mid : ℕ) (branch : Bool) (to : ℕ) → IsTrail image r (Some k) from branches mid
    → LeadsKeeping image r (Some k) mid branch to → IsTrail image r (Some k) from (branches ++ (branch ∷ [])) to
trail-on image r k [] from mid branch to trail lead =
    (to, subst (λ (n : ℕ). LeadsKeeping image r (Some k) n branch to) (sym trail) lead, refl)
trail-on image r k (first ∷ branches) from mid branch to trail lead =
    (trail.0, trail.1, trail-on image r k branches trail.0 mid branch to trail.2 lead)

module _ (image : Parts) (r : ℕ) (known : List (Option Row)) (table : List (List Bool)) (arcs : List (List (Option Arc)))
    (are : AreArcs image r known table arcs) (notes : NotesTouched image table) where
  idle-on : (k mid to : ℕ) (branch : Bool) → MayNotPay image r k mid → LeadsKeeping image r (Some k) mid branch to → MayNotPay image r k to
  idle-on k mid to branch (inl unset) lead = inl (record {
    branches = unset.branches ++ (branch ∷ []);
    trail = trail-on image r k unset.branches (start_of image.routines r) mid branch to unset.trail lead;
  })
  idle-on k mid to branch (inr left) lead = inr (record {
    at = left.at;
    here = left.here;
    touches = left.touches;
    kept = record {
      behind = left.kept.behind;
      branches = left.kept.branches ++ (branch ∷ []);
      trail = trail-on image r k left.kept.branches (left.at + 1) mid branch to left.kept.trail lead;
    };
  })

  -- after a call that touches a counter, the counter may not pay
  left-behind : (k pc to : ℕ) → IsPcOf image r pc → IsPcOf image r to → (leads : LeadsTo image pc false to)
      → calls_touching image k leads.point.instr ≡ true → MayNotPay image r k to
  left-behind k pc to within stays leads touching = inr (record {
    at = pc;
    here = within;
    touches = (leads.point, leads.there, touching);
    kept = record {
      behind = subst (IsPcOf image r) (sym leads.leads) stays;
      branches = [];
      trail = leads.leads;
    };
  })

  -- a counter that may not pay may not either where an edge leads that keeps it
  idle-over : (k pc : ℕ) (branch : Bool) (arc : Arc) → IsPcOf image r pc → arc_at arcs pc branch ≡ Some arc → keeps arc.counting k ≡ true
      → MayNotPay image r k pc → MayNotPay image r k arc.to
  idle-over k pc branch arc within read kept idle =
      let A = is-arc image r known table arcs are pc branch arc within read in
      let i = A.leads.point.instr in
      let row = row_of (known_at known pc) in
      let kept_here : keeps (counting_of row table i i.opcode branch) k ≡ true = ap (λ (c : Counting). keeps c k) (sym A.counting) ∙ kept in
      elim (kept-or-called image row table i i.opcode branch k refl A.leads.has kept_here) [
        | inl keeping ↦ idle-on k pc arc.to branch idle (record {
          leads = A.leads;
          stays = A.stays;
          kept = λ point there. (let same : A.leads.point ≡ point = same_Some A.leads.point point (sym A.leads.there ∙ there) in
              subst (λ (p : Point). keeps_counter image k p.instr p.instr.opcode branch ≡ true) same keeping);
        })
        | inr calling ↦ by-call branch calling.0 A.leads calling.1 A.stays
      ]
    where
      by-call : (branch : Bool) → branch ≡ false → (leads : LeadsTo image pc branch arc.to) → calls_touching image k leads.point.instr ≡ true
          → IsPcOf image r arc.to → MayNotPay image r k arc.to
      by-call false is leads touching stays = left-behind k pc arc.to within stays leads touching
      by-call true is leads touching stays = absurd (false≢true (sym is))

  idle-way : (k : ℕ) (branches : List Bool) (from to : ℕ) → IsPcOf image r from → IsKeptOver arcs k from branches to → MayNotPay image r k from
      → MayNotPay image r k to
  idle-way k [] from to within way idle = subst (MayNotPay image r k) way idle
  idle-way k (branch ∷ branches) from to within way idle =
      let A = is-arc image r known table arcs are from branch way.0 within way.1 in
      idle-way k branches way.0.to to A.stays way.3 (idle-over k from branch way.0 within way.1 way.2 idle)

  -- if a counter is noted as touched, it may not pay
  touched-idle : (touched : List (List ℕ)) → ComeBehind arcs (start_of image.routines r) (IsPcOf image r) ForgetsIt touched → (pc k : ℕ)
      → IsPcOf image r pc → 0 < unit_at touched pc k → MayNotPay image r k pc
  touched-idle touched come pc k within some =
      let C = come pc k within.above some in
      let A = is-arc image r known table arcs are C.at false C.arc C.here C.read in
      let i = A.leads.point.instr in
      let row = row_of (known_at known C.at) in
      let forgetting : forgets (counting_of row table i i.opcode false) k ≡ true = ap (λ (c : Counting). forgets c k) (sym A.counting) ∙ C.done in
      idle-way k C.branches C.arc.to pc A.stays C.way (left-behind k C.at C.arc.to C.here A.stays A.leads
      (forgets-called image row table i i.opcode k notes refl forgetting))

  unset-idle : (unset : List (List ℕ)) → ComeFrom arcs (start_of image.routines r) unset → (pc k : ℕ)
      → IsPcOf image r pc → 0 < unit_at unset pc k → MayNotPay image r k pc
  unset-idle unset come pc k within some =
      let C = come pc k within.above some in
      let start = start_of image.routines r in
      let begins : IsPcOf image r start = (let above = within.above in let below = within.below in
      record { above = omega arith; below = omega (arith, above, below) }) in
      idle-way k C.0 start pc begins C.1 (inl (record { branches = []; trail = refl }))

  some-number : (n : ℕ) → not (n == 0) ≡ true → 0 < n
  some-number zero e = absurd (false≢true e)
  some-number (suc n) e = omega arith

  pub notes-idle : (classes : Classes) → ComeBehind arcs (start_of image.routines r) (IsPcOf image r) ForgetsIt classes.touched
      → ComeFrom arcs (start_of image.routines r) classes.unset → NotesIdle image r classes
  notes-idle classes touched unset pc k within e = by_both (not (unit_at classes.touched pc k == 0)) refl e
    where
      by_both : (b : Bool) → not (unit_at classes.touched pc k == 0) ≡ b → (b || not (unit_at classes.unset pc k == 0)) ≡ true
          → MayNotPay image r k pc
      by_both true is e = touched-idle classes.touched touched pc k within (some-number (unit_at classes.touched pc k) is)
      by_both false is e = unset-idle classes.unset unset pc k within (some-number (unit_at classes.unset pc k) e)

-- Ways round

-- one edge more
idle-more : (image : Parts) (r : ℕ) (branches : List Bool) (from mid : ℕ) (branch : Bool) (to : ℕ) → IsIdleWay image r from branches mid
    → LeadsIdle image r mid branch to → IsIdleWay image r from (branches ++ (branch ∷ [])) to
idle-more image r [] from mid branch to way lead = (to, subst (λ (n : ℕ). LeadsIdle image r n branch to) (sym way) lead, refl)
idle-more image r (first ∷ branches) from mid branch to way lead = (way.0, way.1, idle-more image r branches way.0 mid branch to way.2 lead)

-- places that are led to one after another from a first one
pub record ComesIdle (image : Parts) (r from to : ℕ) : Type 0 where
  pub branches : List Bool
  pub way : IsIdleWay image r from branches to

pub comes-more : (image : Parts) (r from mid to : ℕ) → ComesIdle image r from mid → LeadsOnIdle image r mid to → ComesIdle image r from to
comes-more image r from mid to C lead = record {
  branches = C.branches ++ (lead.1.0 ∷ []);
  way = idle-more image r C.branches from mid lead.1.0 to C.way lead.1.1;
}

-- a path that comes back to its start is a cycle
pub comes-back : (image : Parts) (r from mid : ℕ) → ComesIdle image r from mid → LeadsOnIdle image r mid from → IsNeverPaid image r
comes-back image r from mid C lead = record {
  from = mid;
  begins = lead.0;
  branch = lead.1.0;
  next = from;
  first = lead.1.1;
  branches = C.branches;
  way = C.way;
}

-- an edge that is found, where no LOOP may pay on it
pub leads-idle : (image : Parts) (r pc : ℕ) (branch : Bool) (i : Instr) → IfSome (slice_get image.points pc) (λ point. i ≡ point.instr)
    → ((branch && is_loop i.opcode) ≡ true → MayNotPay image r i.a pc) → (found : Option ℕ) → IfSome found (LeadsTo image pc branch)
    → IfSome found (IsPcOf image r) → IfSome found (LeadsIdle image r pc branch)
leads-idle image r pc branch i there may None leads stays = tt
leads-idle image r pc branch i there may (Some to) leads stays =
    let same : i ≡ leads.point.instr = if_some (λ point. i ≡ point.instr) (slice_get image.points pc) leads.point leads.there there in record {
      leads = leads;
      stays = stays;
      idle = λ loops. subst (λ (x : Instr). MayNotPay image r x.a pc) same
          (may (ap (λ (x : Instr). branch && is_loop x.opcode) same ∙ loops));
    }
