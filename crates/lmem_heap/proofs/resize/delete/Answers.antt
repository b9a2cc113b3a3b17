use Rattle.std.proofs.Common.{◌≡◌, ◌+◌, ◌-◌, Some, None, length, set, get_or, ap, sym, ◌∙◌, arith, get_or-set_same}
use Rattle.lmem_raw.specs.Bytes.{part, with_part}
use Rattle.lmem_raw.proofs.Parts.{length-with_part}
use Rattle.geos_terms.specs.Chunks.{cost, cost_of, entry_bytes, resized, without_part}
use Rattle.geos_terms.specs.Block.{chunks}
use Rattle.geos_terms.proofs.Costs.{cost-mono}
use Rattle.geos_terms.proofs.Sums.{count-chunks}
use Rattle.geos_terms.proofs.Lowest.{item-bytes, item-set, in-use-set, set-bytes, set-twice}
use Rattle.geos_terms.proofs.Nexts.{some-chunk}
use Rattle.geos_terms.proofs.Resizes.{closed-without}
use Rattle.lmem_heap.proofs.resize.delete.Goals as goal

pub returns-then-at-count-clause-refused : goal.returns-then-at-count-clause-refused
returns-then-at-count-clause-refused c =
    let f = c.in_ok-i.ensures.found in
    let e = ap length (item-bytes c.args.block.now c.args.chunk c.in_ok-i.i f.0 f.1) in
    (some-chunk c.args.block.now c.in_ok-i.i c.args.chunk f.1 f.2 f.0, omega (arith, c.place_of_entry-len.ensures.len, e, c.if-at-count.true))

pub close_bytes-requires-clause-within : goal.close_bytes-requires-clause-within
close_bytes-requires-clause-within c =
    omega (arith, c.place_of_entry-len.ensures.len, c.if-at-count.false)

pub resize_chunk-requires-clause-known : goal.resize_chunk-requires-clause-known
resize_chunk-requires-clause-known c =
    (in-use-set c.args.block.now c.close_bytes.new.block c.in_ok-i.i _ c.close_bytes.ensures.chunks c.in_ok-i.ensures.found.1).0

pub resize_chunk-requires-clause-used : goal.resize_chunk-requires-clause-used
resize_chunk-requires-clause-used c =
    (in-use-set c.args.block.now c.close_bytes.new.block c.in_ok-i.i _ c.close_bytes.ensures.chunks c.in_ok-i.ensures.found.1).1

pub resize_chunk-requires-clause-room : goal.resize_chunk-requires-clause-room
resize_chunk-requires-clause-room c =
    let b = c.args.block.now in
    let i = c.in_ok-i.i in
    let count = count-chunks b in
    let bytes = entry_bytes (chunks b) i in
    let len = c.place_of_entry-len.result.1 in
    let l : length bytes ≡ len = c.place_of_entry-len.ensures.len in
    let moved = with_part bytes c.args.at (part bytes (c.args.at + c.args.count) (length bytes - (c.args.at + c.args.count))) in
    let here : cost_of (get_or (chunks c.close_bytes.new.block) i None) ≡ cost len =
    ap (λ xs. cost_of (get_or xs i None)) c.close_bytes.ensures.chunks
    ∙ ap cost_of (get_or-set_same (chunks b) i (Some moved) None (omega (arith, count, c.in_ok-i.ensures.found)))
    ∙ ap cost (length-with_part bytes c.args.at (part bytes (c.args.at + c.args.count) (length bytes - (c.args.at + c.args.count))) ∙ l) in
    omega (arith, here, cost-mono (len - c.args.count) len (omega arith))

pub returns-clause-ok : goal.returns-clause-ok
returns-clause-ok c =
    let b = c.args.block.now in
    let f = c.in_ok-i.ensures.found in
    let i = c.in_ok-i.i in
    let count = count-chunks b in
    let n = c.args.count in
    let cs = chunks b in
    let bytes = entry_bytes cs i in
    let len = c.place_of_entry-len.result.1 in
    let d = c.close_bytes.new.block in
    let l : length bytes ≡ len = c.place_of_entry-len.ensures.len in
    let e = ap length (item-bytes b c.args.chunk i f.0 f.1) in
    let moved = with_part bytes c.args.at (part bytes (c.args.at + n) (length bytes - (c.args.at + n))) in
    let before : chunks d ≡ set cs i (Some moved) = c.close_bytes.ensures.chunks in
    let now : entry_bytes (chunks d) i ≡ moved = ap (λ xs. entry_bytes xs i) before ∙ set-bytes cs i moved (omega (arith, count)) in
    let same : resized moved (len - n) ≡ without_part bytes c.args.at n = ap (λ m. resized moved (m - n)) (sym l)
    ∙ closed-without bytes c.args.at n (omega (arith, l, c.if-at-count.false)) in (
      some-chunk b i c.args.chunk f.1 f.2 f.0,
      omega (arith, l, e, c.if-at-count.false),
      c.resize_chunk.ensures.chunks ∙ ap (λ x. set (chunks d) i (Some (resized x (len - n)))) now
          ∙ ap (λ xs. set xs i (Some (resized moved (len - n)))) before ∙ set-twice cs i (Some moved) (Some (resized moved (len - n)))
          ∙ ap (λ x. set cs i (Some x)) same ∙ item-set b c.args.chunk i (λ x. without_part x c.args.at n) f.0 f.1,
    )
