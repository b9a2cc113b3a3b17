-- One more pc is marked, and waits; and one no longer waits.
use Rattle.std.proofs.Common.{◌≡◌, ◌≢◌, ◌<◌, ◌+◌, ℕ, suc, Bool, true, false, length, get_or, set, refl, sym, ap, ◌∙◌, subst, inl, inr, arith, ◌⊎◌}
use Rattle.std.specs.Prelude.{◌&&◌}
use Rattle.std.proofs.lemmas.Bool.{cases_eq, lt-ltb}
use Rattle.std.proofs.lemmas.List.{get_or-set_same, get_or-set_other, length-set}
use Rattle.geos_flow.specs.declared.waiting.Waiting.{Waiting}
use Rattle.geos_flow.specs.Marks.{is_marked}
use Rattle.geos_flow.specs.Waiting.{Has, count, IsKept, Waits, Extends, Notes, TakesNext}
use Rattle.geos_flow.proofs.Marked.{set-grows, has-marked, has-within, count-bound, count-set}

-- what the code makes of one more
abbrev pub with_one : Waiting → ℕ → Waiting
with_one w pc = record { marks = set w.marks pc true; order = set w.order w.end pc; next = w.next; end = w.end + 1 }

pub extends-same : (w : Waiting) → Extends w w
extends-same w = record { keeps = λ k h. h; waits = λ k waits. waits; fresh = λ k h. inl h; next = refl }

pub extends-on : (a b c : Waiting) → Extends a b → Extends b c → Extends a c
extends-on a b c first second = record {
  keeps = λ k h. second.keeps k (first.keeps k h);
  waits = λ k waits. second.waits k (first.waits k waits);
  fresh = λ k h. elim (second.fresh k h) [
    | inr waits ↦ inr waits
    | inl has ↦ elim (first.fresh k has) [ inl was ↦ inl was | inr waits ↦ inr (second.waits k waits) ]
  ];
  next = second.next ∙ first.next;
}

module _ (w : Waiting) (pc : ℕ) (low : pc < 4096) (long : length w.order ≡ 4096) (kept : IsKept w) where
  pub notes-same : is_marked w.marks pc ≡ true → Notes pc w w
  notes-same is = record {
    extends = extends-same w;
    there = has-marked w.marks pc is;
    was = λ k h. inl h;
  }

  module _ (is : is_marked w.marks pc ≡ false) where
    full : length w.marks ≡ 4096
    full = kept.long

    not-yet : get_or w.marks pc false ≡ false
    not-yet = subst (λ (b : Bool). (b && get_or w.marks pc false) ≡ false) (lt-ltb pc 4096 low) is

    one-more : count (set w.marks pc true) ≡ suc (count w.marks)
    one-more = count-set w.marks pc (let all = full in omega arith) not-yet

    pub room : w.end < 4096
    room =
        let len = length-set w.marks pc true in
        let all = full in
        let most = count-bound (set w.marks pc true) 4096 (λ k h. (let lt = has-within (set w.marks pc true) k h in omega arith)) in
        let more = one-more in
        let is_end = kept.end in
        omega arith

    pub kept-more : IsKept (with_one w pc)
    kept-more = record {
      long = length-set w.marks pc true ∙ full;
      next = let le = kept.next in omega arith;
      end = let more = one-more in let is_end = kept.end in omega arith;
      has = λ n less. elim (cases_eq n w.end) [
        | inl same ↦
            let here : get_or (set w.order w.end pc) n 0 ≡ pc = ap (λ k. get_or (set w.order w.end pc) k 0) same
            ∙ get_or-set_same w.order w.end pc 0 (let lt = room in omega arith) in
            subst (λ k. Has (set w.marks pc true) k) (sym here) (get_or-set_same w.marks pc true false (let all = full in omega arith))
        | inr ne ↦
            let there = get_or-set_other w.order w.end n pc 0 ne in
            subst (λ k. Has (set w.marks pc true) k) (sym there)
            ((set-grows w.marks pc).keeps (get_or w.order n 0) (kept.has n (omega (arith, less, ne))))
      ];
    }

    waits-more : (k : ℕ) → Waits w k → Waits (with_one w pc) k
    waits-more k waits = record {
      at = waits.at;
      from = waits.from;
      before = let lt = waits.before in omega arith;
      there = let lt = waits.before in get_or-set_other w.order w.end waits.at pc 0 (λ same. omega arith) ∙ waits.there;
    }

    waits-here : Waits (with_one w pc) pc
    waits-here = record {
      at = w.end;
      from = kept.next;
      before = omega arith;
      there = let lt = room in get_or-set_same w.order w.end pc 0 (omega arith);
    }

    was : (k : ℕ) → Has (set w.marks pc true) k → Has w.marks k ⊎ (k ≡ pc)
    was k h = elim (cases_eq k pc) [ inl same ↦ inr same | inr ne ↦ inl (sym (get_or-set_other w.marks pc k true false ne) ∙ h) ]

    pub notes-more : Notes pc w (with_one w pc)
    notes-more = record {
      extends = record {
        keeps = (set-grows w.marks pc).keeps;
        waits = waits-more;
        fresh = λ k h. elim (was k h) [ inl before ↦ inl before | inr same ↦ inr (subst (Waits (with_one w pc)) (sym same) waits-here) ];
        next = refl;
      };
      there = get_or-set_same w.marks pc true false (let all = full in omega arith);
      was = was;
    }

module _ (w : Waiting) (kept : IsKept w) (some : w.next ≢ w.end) where
  abbrev pub without_next : Waiting
  without_next = record { marks = w.marks; order = w.order; next = w.next + 1; end = w.end }

  pub kept-less : IsKept without_next
  kept-less = record { long = kept.long; next = let le = kept.next in omega (arith, some); end = kept.end; has = kept.has }

  pub takes-next : TakesNext w without_next (get_or w.order w.next 0)
  takes-next = record {
    has = kept.has w.next (let le = kept.next in omega (arith, some));
    marks = refl;
    next = refl;
    waits = λ k waits. elim (cases_eq waits.at w.next) [
      | inl same ↦ inl (sym waits.there ∙ ap (λ n. get_or w.order n 0) same)
      | inr ne ↦ inr (record { at = waits.at; from = let le = waits.from in omega (arith, ne); before = waits.before; there = waits.there })
    ];
  }
