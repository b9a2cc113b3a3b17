use Rattle.std.proofs.Common.{◌≡◌, ◌+◌, ◌*◌, ◌-◌, ◌<◌, ◌≤◌, ℕ, List, Some, length, set, replicate, ap, sym, ◌∙◌, subst, arith}
use Rattle.std.proofs.lemmas.Result.{err_from_is_err_and}
use Rattle.lmem_raw.specs.Bytes.{part, with_part}
use Rattle.geos_terms.specs.Chunks.{entry_bytes, need, resized, sixteens, with_inserted, with_zeros}
use Rattle.geos_terms.specs.Block.{chunks, entries}
use Rattle.geos_terms.proofs.Sums.{count-chunks}
use Rattle.geos_terms.proofs.Lowest.{item-bytes, item-set, in-use-set, set-bytes, set-twice, used-length}
use Rattle.geos_terms.proofs.Nexts.{some-chunk}
use Rattle.geos_terms.proofs.Resizes.{length-resized, length-with_zeros, opened-zeros}
use Rattle.lmem_heap.specs.Refusals.{IsRoomError}
use Rattle.lmem_heap.proofs.resize.insert.Goals as goal

-- what is needed for a chunk with n more bytes
needed-same : (b : List ℕ) (c i len at n : ℕ) → c ≡ 16 + 2 * i → i < entries b → length (entry_bytes (chunks b) i) ≡ len
    → at ≤ len → need (set (chunks b) i (Some (resized (entry_bytes (chunks b) i) (len + n)))) ≡ need (with_inserted (chunks b) c at n)
needed-same b c i len at n is h long fits =
    let bytes = entry_bytes (chunks b) i in
    let count = count-chunks b in
    ap sixteens (used-length (chunks b) i (resized bytes (len + n)) (with_zeros bytes at n) (omega (arith, count))
    (length-resized bytes (len + n) ∙ sym (length-with_zeros bytes at n (omega arith) ∙ ap (λ x. x + n) long)))
    ∙ ap need (item-set b c i (λ x. with_zeros x at n) is h)

pub returns-then-at-len-clause-refused : goal.returns-then-at-len-clause-refused
returns-then-at-len-clause-refused c =
    let f = c.in_ok-i.ensures.found in
    let e = ap length (item-bytes c.args.block.now c.args.chunk c.in_ok-i.i f.0 f.1) in
    (some-chunk c.args.block.now c.in_ok-i.i c.args.chunk f.1 f.2 f.0, omega (arith, c.place_of_entry-len.ensures.len, e, c.if-at-len.true))

pub returns-in_err-resize-clause-refused : goal.returns-in_err-resize-clause-refused
returns-in_err-resize-clause-refused c =
    let b = c.args.block.now in
    let f = c.in_ok-i.ensures.found in
    let l = c.place_of_entry-len.ensures.len in
    let e = ap length (item-bytes b c.args.chunk c.in_ok-i.i f.0 f.1) in
    let q = err_from_is_err_and c.from_residual-in_err-resize.result c.from_residual-in_err-resize.ensures.1 in
    rw (q.1, q.2) (
      some-chunk b c.in_ok-i.i c.args.chunk f.1 f.2 f.0,
      omega (arith, l, e, c.if-at-len.false),
      subst (λ (x : ℕ). IsRoomError c.in_err-resize.field-0.0 x (length b))
          (needed-same b c.args.chunk c.in_ok-i.i _ c.args.at c.args.count f.0 f.1 l c.if-at-len.false) c.in_err-resize.ensures.refused,
    )

pub open_bytes-requires-clause-known : goal.open_bytes-requires-clause-known
open_bytes-requires-clause-known c =
    (in-use-set c.args.block.now c.resize.new.block c.in_ok-i.i _ c.in_ok-resize.ensures.ok c.in_ok-i.ensures.found.1).0

pub open_bytes-requires-clause-used : goal.open_bytes-requires-clause-used
open_bytes-requires-clause-used c =
    (in-use-set c.args.block.now c.resize.new.block c.in_ok-i.i _ c.in_ok-resize.ensures.ok c.in_ok-i.ensures.found.1).1

pub open_bytes-requires-clause-within : goal.open_bytes-requires-clause-within
open_bytes-requires-clause-within c =
    let b = c.args.block.now in
    let i = c.in_ok-i.i in
    let count = count-chunks b in
    let bytes = entry_bytes (chunks b) i in
    let len = c.place_of_entry-len.result.1 in
    let now : length (entry_bytes (chunks c.resize.new.block) i) ≡ len + c.args.count = ap (λ xs. length (entry_bytes xs i)) c.in_ok-resize.ensures.ok
    ∙ ap length (set-bytes (chunks b) i (resized bytes (len + c.args.count)) (omega (arith, count, c.in_ok-i.ensures.found)))
    ∙ length-resized bytes (len + c.args.count) in
    omega (arith, now, c.if-at-len.false)

pub returns-clause-ok : goal.returns-clause-ok
returns-clause-ok c =
    let b = c.args.block.now in
    let f = c.in_ok-i.ensures.found in
    let i = c.in_ok-i.i in
    let count = count-chunks b in
    let at = c.args.at in
    let n = c.args.count in
    let cs = chunks b in
    let bytes = entry_bytes cs i in
    let len = c.place_of_entry-len.result.1 in
    let l : length bytes ≡ len = c.place_of_entry-len.ensures.len in
    let e = ap length (item-bytes b c.args.chunk i f.0 f.1) in
    let r = resized bytes (len + n) in
    let ok = c.in_ok-resize.ensures.ok in
    let now : entry_bytes (chunks c.resize.new.block) i ≡ r = ap (λ xs. entry_bytes xs i) ok ∙ set-bytes cs i r (omega (arith, count)) in
    let F : List ℕ → List ℕ = λ x. with_part (with_part x (at + n) (part x at (length x - (at + n)))) at (replicate n 0) in
    let rest : length r - (at + n) ≡ length bytes - at = omega (arith, length-resized bytes (len + n), l) in
    let same : F r ≡ with_zeros bytes at n = ap (λ m. with_part (with_part r (at + n) (part r at m)) at (replicate n 0)) rest
    ∙ ap (λ m. with_part (with_part (resized bytes (m + n)) (at + n) (part (resized bytes (m + n)) at (length bytes - at))) at (replicate n 0))
    (sym l) ∙ opened-zeros bytes at n (omega (arith, l, c.if-at-len.false)) in (
      some-chunk b i c.args.chunk f.1 f.2 f.0,
      omega (arith, l, e, c.if-at-len.false),
      c.open_bytes.ensures.chunks ∙ ap (λ x. set (chunks c.resize.new.block) i (Some (F x))) now
          ∙ ap (λ xs. set xs i (Some (F r))) ok ∙ set-twice cs i (Some r) (Some (F r)) ∙ ap (λ x. set cs i (Some x)) same
          ∙ item-set b c.args.chunk i (λ x. with_zeros x at n) f.0 f.1,
    )

pub returns-clause-fits : goal.returns-clause-fits
returns-clause-fits c =
    let f = c.in_ok-i.ensures.found in
    subst (λ (x : ℕ). x ≤ length c.args.block.now) (needed-same c.args.block.now c.args.chunk c.in_ok-i.i _ c.args.at
    c.args.count f.0 f.1 c.place_of_entry-len.ensures.len c.if-at-len.false) c.in_ok-resize.ensures.fits
