use Rattle.std.proofs.Common.{◌≡◌, ℕ, ◌+◌, ◌≤◌, ◌∙◌, List, Option, length, refl, ap, sym, subst, arith, length-append, rules}
use Rattle.std.specs.Vec.{vec_items}
use Rattle.std.proofs.lemmas.Result.{on_ok_weaker}
use Rattle.std.specs.Prelude.{MatchOption, unwrap_or}
use Rattle.lmem_raw.specs.Bytes.{part}
use Rattle.geos_terms.specs.Block.{handle_word}
use Rattle.geos_terms.specs.Heap.{IsHeap}
use Rattle.vm_file.specs.State.{place_in}
use Rattle.vm_file.proofs.Blocks.{shown_some, shown_none, some_length, block_appended, filled_stored}
use Rattle.vm_file.proofs.Moments.{reads_none, reads_well}
use Rattle.vm_file.proofs.spell.spell_block.Goals as goal

pub returns-in-Some-clause-items : goal.returns-in-Some-clause-items
returns-in-Some-clause-items g c = λ h.
    let e = c.args.e in
    let ws = c.in-Some.bytes.now in
    let is = shown_some c.in-Some.bytes (g.S.Source.resident_bytes c.args.source.now e.h) c.in-Some.ensures in
    let long = some_length e (g.S.Source.resident_bytes c.args.source.now e.h) ws is c.requires.length in
    let stored = part (g.D.Device.medium.image c.args.device.now) (c.args.kept.now.from + place_in c.args.kept.now.directory.now.entries.items e.h)
    e.len in
    block_appended e _ ws _ _ _ (ap (λ o. unwrap_or o stored) is) long c.put_words.ensures.items (search rules)

pub returns-in-None-clause-cause : goal.returns-in-None-clause-cause
returns-in-None-clause-cause g c = λ h filled.
    let e = c.args.e in
    let image = g.D.Device.medium.image c.args.device.now in
    let none = shown_none (g.S.Source.resident_bytes c.args.source.now e.h) c.in-None.ensures in
    let place : c.args.kept.now.from + c.from.result ≡ c.args.kept.now.from + place_in c.args.kept.now.directory.now.entries.items e.h =
    ap (λ k. c.args.kept.now.from + k) (c.from.ensures ∙ c.place_in.ensures.exact ∙ ap (λ es. place_in es e.h) c.deref.ensures.0) in
    let stored = filled_stored e.h e.uid (g.S.Source.resident_bytes c.args.source.now e.h)
    (part image (c.args.kept.now.from + place_in c.args.kept.now.directory.now.entries.items e.h) e.len) none filled in
    let P : ℕ → Type 0 = λ k. IsHeap (part image k e.len) in
    c.append_block.ensures.cause h (subst P (sym place) stored.0) (ap (λ k. handle_word (part image k e.len)) place ∙ stored.1)

pub returns-in-Some-clause-read : goal.returns-in-Some-clause-read
returns-in-Some-clause-read g c = (let d = g.D.Device in reads_well d.medium _ _ _ (reads_none d.medium c.args.device.now) refl)

pub returns-in-None-clause-items : goal.returns-in-None-clause-items
returns-in-None-clause-items g c = λ h.
    let e = c.args.e in
    let image = g.D.Device.medium.image c.args.device.now in
    let mid = vec_items c.put_words.new.into in
    let none = shown_none (g.S.Source.resident_bytes c.args.source.now e.h) c.in-None.ensures in
    let place : c.args.kept.now.from + c.from.result ≡ c.args.kept.now.from + place_in c.args.kept.now.directory.now.entries.items e.h =
    ap (λ k. c.args.kept.now.from + k) (c.from.ensures ∙ c.place_in.ensures.exact ∙ ap (λ es. place_in es e.h) c.deref.ensures.0) in
    let ws = part image (c.args.kept.now.from + c.from.result) e.len in
    let stored = part image (c.args.kept.now.from + place_in c.args.kept.now.directory.now.entries.items e.h) e.len in
    on_ok_weaker c.append_block.result
    (λ is.
    let long : length ws ≡ e.len = omega (
      arith,
      ap length is,
      length-append mid ws,
      c.append_block.ensures.len,
      c.put_words.new.into.ok.0,
      c.append_block.new.into.ok.0,
    ) in
    block_appended e _ ws _ mid _ (ap (λ o. unwrap_or o stored) none ∙ ap (λ k. part image k e.len) (sym place)) long c.put_words.ensures.items is)
    (c.append_block.ensures.items h)

pub append_block-requires-clause-within : goal.append_block-requires-clause-within
append_block-requires-clause-within g c =
    let e = c.args.e in
    let image = g.D.Device.medium.image c.args.device.now in
    let none = shown_none (g.S.Source.resident_bytes c.args.source.now e.h) c.in-None.ensures in
    let place : c.args.kept.now.from + c.from.result ≡ c.args.kept.now.from + place_in c.args.kept.now.directory.now.entries.items e.h =
    ap (λ k. c.args.kept.now.from + k) (c.from.ensures ∙ c.place_in.ensures.exact ∙ ap (λ es. place_in es e.h) c.deref.ensures.0) in
    let W : Option (List ℕ) → Type 0 = λ o. MatchOption o
    (c.args.kept.now.from + place_in c.args.kept.now.directory.now.entries.items e.h + e.len ≤ length image) (λ bytes. Unit {0}) in
    subst (λ k. k + e.len ≤ length image) (sym place) (subst W none c.requires.within)
