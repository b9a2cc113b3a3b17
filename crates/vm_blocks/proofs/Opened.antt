-- A file whose blocks are listed as its current directory lists them.
use Rattle.std.proofs.Common.{◌≡◌, ◌≢◌, ◌∙◌, ℕ, Bool, true, false, not, ◌||◌, List, length, Option, Some, None, refl, sym, ap, subst, arith}
use Rattle.std.specs.Prelude.{IsSomeAnd, option_map}
use Rattle.std.specs.List.{find}
use Rattle.std.proofs.Math.Dec.{eqb}
use Rattle.std.proofs.lemmas.Bool.{eqb-true, eq-eqb, ne_eqb}
use Rattle.block_handles.specs.Layout.{IsLaidOut}
use Rattle.block_handles.specs.Names.{IsHandle}
use Rattle.block_handles.specs.Store.{Store}
use Rattle.vm_file.specs.Device.{Medium}
use Rattle.vm_file.specs.declared.directory.Entry.{Entry}
use Rattle.vm_file.specs.declared.directory.Directory.{Directory}
use Rattle.vm_file.specs.Directories.{has_block, has_group, is_directory}
use Rattle.vm_file.proofs.DirectoryLaws.{found_entry, legal_from}
use Rattle.vm_blocks.specs.declared.entries.Held.{Held}
use Rattle.vm_blocks.specs.View.{VmState, held_at}
use Rattle.vm_blocks.specs.Tied.{AreMapped, IsTied, NoneResident, TiedAt}
use Rattle.vm_blocks.specs.Listed.{IsListOf, as_held}
use Rattle.vm_blocks.proofs.Mapping.{any-find}

-- a handle under which something is found is one
some-handle : (es : List Entry) (h : ℕ) (P : Entry → Type 0) (d : Directory) → d.entries.items ≡ es → is_directory d ≡ true
    → IsSomeAnd (find (λ e. eqb e.h h) es) P → IsHandle h
some-handle es h P d same legal some = on (find (λ e. eqb e.h h) d.entries.items)
    refl (subst (λ l. IsSomeAnd (find (λ e. eqb e.h h) l) P) (sym same) some)
  where
    on : (o : Option Entry) → find (λ e. eqb e.h h) d.entries.items ≡ o → IsSomeAnd o P → IsHandle h
    on None is some = absurd some
    on (Some e) is some =
        let f = found_entry d.entries.items 0 h e (legal_from d legal).entries is in
        let above = f.1.above in
        let most = f.1.most in
        let same = f.0 in
        (omega (arith, above, same), omega (arith, most, same))

or-later : (a b : Bool) → a ≡ false → (a || b) ≡ true → b ≡ true
or-later true b e t = absurd cc
or-later false b e t = t

held-some-and : (P : Entry → Type 0) (Q : Held → Type 0) (o : Option Entry) → ((e : Entry) → P e → Q (as_held e))
    → IsSomeAnd o P → IsSomeAnd (option_map as_held o) Q
held-some-and P Q None f s = s
held-some-and P Q (Some e) f s = f e s

not-same : (a b : ℕ) → not (eqb a b) ≡ true → a ≢ b
not-same a b t e = on (eqb a b) (eq-eqb a b e) t
  where
    on : (c : Bool) → c ≡ true → not c ≡ true → ⊥
    on true e t = cc
    on false e t = cc

no-group : (g item : ℕ) → g ≡ 0 → (not (eqb g 0) || eqb item 0) ≡ true → item ≡ 0
no-group g item z t = eqb-true item 0 (or-later (not (eqb g 0)) (eqb item 0) (ap not (eq-eqb g 0 z)) t)

module _ {D : Type 0} (v : VmState D) (d : Directory) (legal : is_directory d ≡ true) (lists : IsListOf v d) where
  -- what a legal directory maps is listed
  pub list-maps : AreMapped v
  list-maps =
      let l = legal_from d legal in
      record {
        block = λ some.
            let some-d : d.map_block ≢ 0 = λ z. some (lists.map_block ∙ z) in
            let any = or-later (eqb d.map_block 0) (has_block d.entries.items d.map_block) (ne_eqb d.map_block 0 some-d) l.maps.0 in
            let is = any-find (λ e. not (eqb e.uid 65280)) d.entries.items 0 d.map_block l.entries any in
            let q = some-handle d.entries.items d.map_block (λ e. not (eqb e.uid 65280) ≡ true) d refl legal is in
            subst (λ h. IsSomeAnd (held_at v h) (λ e. e.uid ≢ 65280)) (sym lists.map_block)
            (subst (λ o. IsSomeAnd o (λ e. e.uid ≢ 65280)) (sym (lists.each d.map_block q))
            (held-some-and (λ e. not (eqb e.uid 65280) ≡ true) (λ e. e.uid ≢ 65280) (find (λ e. eqb e.h d.map_block) d.entries.items)
            (λ e t. not-same e.uid 65280 t) is));
        group = λ some.
            let same : v.map_item.0 ≡ d.map_item.0 = ap (λ p. p.0) lists.map_item in
            let some-d : d.map_item.0 ≢ 0 = λ z. some (same ∙ z) in
            let any = or-later (eqb d.map_item.0 0) (has_group d.entries.items d.map_item.0) (ne_eqb d.map_item.0 0 some-d) l.maps.1 in
            let is = any-find (λ e. eqb e.uid 65280) d.entries.items 0 d.map_item.0 l.entries any in
            let q = some-handle d.entries.items d.map_item.0 (λ e. eqb e.uid 65280 ≡ true) d refl legal is in
            subst (λ h. IsSomeAnd (held_at v h) (λ e. e.uid ≡ 65280)) (sym same)
            (subst (λ o. IsSomeAnd o (λ e. e.uid ≡ 65280)) (sym (lists.each d.map_item.0 q))
            (held-some-and (λ e. eqb e.uid 65280 ≡ true) (λ e. e.uid ≡ 65280) (find (λ e. eqb e.h d.map_item.0) d.entries.items)
            (λ e t. eqb-true e.uid 65280 t) is));
        no_item = λ z.
            let same : v.map_item.0 ≡ d.map_item.0 = ap (λ p. p.0) lists.map_item in
            ap (λ p. p.1) lists.map_item ∙ no-group d.map_item.0 d.map_item.1 (sym same ∙ z) l.maps.2;
      }

-- a file of which no block is in memory is tied to the region
pub opened-tied : {D : Type 0} (medium : Medium D) (v : VmState D) (s : Store) → length v.entries ≡ 1024
    → is_directory v.file.current ≡ true → IsListOf v v.file.current → IsLaidOut s → NoneResident s → IsTied medium v s
opened-tied medium v s long legal lists laid none = record {
  laid = laid;
  long = long;
  each = λ h p.
      subst (TiedAt medium v.file h (held_at v h)) (sym (none h p))
      (subst (λ o. TiedAt medium v.file h o None) (sym (lists.each h p)) (on h (find (λ e. eqb e.h h) v.file.current.entries.items) refl));
  maps = list-maps v v.file.current legal lists;
}
  where
    on : (h : ℕ) (o : Option Entry) → find (λ e. eqb e.h h) v.file.current.entries.items ≡ o → TiedAt medium v.file h (option_map as_held o) None
    on h None is = tt
    on h (Some x) is = record {
      size = (found_entry v.file.current.entries.items 0 h x (legal_from v.file.current legal).entries is).1.size;
      clean = refl;
      kept = rw is refl;
    }
