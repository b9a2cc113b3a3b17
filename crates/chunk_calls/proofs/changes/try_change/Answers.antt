use Rattle.std.proofs.Common.{◌+◌, length}
use Rattle.geos_terms.specs.ArrayEdits.{append_element, insert_element, remove_element, clear_array, resize_element}
use Rattle.geos_terms.specs.Edits.{delete_bytes, free, insert_bytes, realloc}
use Rattle.chunk_calls.specs.declared.obstacle.Obstacle.TheVariants.{Refused}
use Rattle.chunk_calls.specs.Refused.{why_no_array, why_no_chunk, why_no_element, why_not_appended, why_not_deleted, why_not_grown, why_not_inserted, why_not_resized}
use Rattle.chunk_calls.proofs.Lending.{append-hinders, bad-hinders, chunk-there, delete-hinders, growth-hinders, if_err-map, insert-hinders, lent, mapped, mapped-twice, offset-within, on_ok-map, own-refused, realloc-hinders}
use Rattle.chunk_calls.proofs.Looked.{array-refuses, element-refuses}
use Rattle.chunk_calls.proofs.changes.try_change.Goals as goal

pub returns-in-Lfree-clause-tries : goal.returns-in-Lfree-clause-tries
returns-in-Lfree-clause-tries c =
    let e = c.free.ensures in
    let r = c.free.result in
    let i = c.in-Lfree in
    let b = c.bytes_mut in
    rw (mapped-twice why_no_chunk Refused r c.map_err.result c.map_err-in-Lfree.result c.map_err.ensures.cases c.map_err-in-Lfree.ensures.cases, i.is)
    (lent (free i.c) c.args.blocks.now c.args.name c.requires.there c.free.new.block b.result.now b.ensures.value
    c.free.auto.block e.heap e.handle (λ error. Refused (why_no_chunk error)) r
    (on_ok-map r (λ ok. (chunk-there _ i.c ok.0, ok.1)) e.ok) (bad-hinders _ (length b.result.now) i.c r e.bad) e.err)

pub returns-in-Lfree-clause-own : goal.returns-in-Lfree-clause-own
returns-in-Lfree-clause-own c =
    rw (
      mapped-twice why_no_chunk Refused c.free.result c.map_err.result c.map_err-in-Lfree.result c.map_err.ensures.cases
          c.map_err-in-Lfree.ensures.cases,
      c.in-Lfree.is,
    ) (own-refused why_no_chunk c.free.result)

pub returns-in-Lrealloc-clause-tries : goal.returns-in-Lrealloc-clause-tries
returns-in-Lrealloc-clause-tries c =
    let e = c.realloc.ensures in
    let r = c.realloc.result in
    let i = c.in-Lrealloc in
    let b = c.bytes_mut-in-Lrealloc in
    rw (mapped why_not_resized r c.map_err-in-Lrealloc.result c.map_err-in-Lrealloc.ensures.cases, i.is)
    (lent (realloc i.c i.n) c.args.blocks.now c.args.name c.requires.there c.realloc.new.block b.result.now
    b.ensures.value c.realloc.auto.block e.heap e.handle why_not_resized r
    (on_ok-map r (λ ok. (chunk-there _ i.c ok.0, ok.1)) e.ok) (if_err-map r (realloc-hinders _ _ i.c i.n) e.refused) e.err)

pub returns-in-Lins-clause-tries : goal.returns-in-Lins-clause-tries
returns-in-Lins-clause-tries c =
    let e = c.insert.ensures in
    let r = c.insert.result in
    let i = c.in-Lins in
    let b = c.bytes_mut-in-Lins in
    rw (mapped why_not_inserted r c.map_err-in-Lins.result c.map_err-in-Lins.ensures.cases, i.is)
    (lent (insert_bytes i.c i.at i.n) c.args.blocks.now c.args.name c.requires.there c.insert.new.block b.result.now
    b.ensures.value c.insert.auto.block e.heap e.handle why_not_inserted r
    (on_ok-map r (λ ok. (offset-within _ i.c i.at ok.0 ok.1, ok.2)) e.ok) (if_err-map r (insert-hinders _ _ i.c i.at i.n) e.refused) e.err)

pub returns-in-Ldel-clause-tries : goal.returns-in-Ldel-clause-tries
returns-in-Ldel-clause-tries c =
    let e = c.delete.ensures in
    let r = c.delete.result in
    let i = c.in-Ldel in
    let b = c.bytes_mut-in-Ldel in
    rw (
      mapped-twice why_not_deleted Refused r c.map_err-in-Ldel.result c.map_err-in-Ldel-2.result c.map_err-in-Ldel.ensures.cases
          c.map_err-in-Ldel-2.ensures.cases,
      i.is,
    )
    (lent (delete_bytes i.c i.at i.n) c.args.blocks.now c.args.name c.requires.there c.delete.new.block b.result.now
    b.ensures.value c.delete.auto.block e.heap e.handle (λ error. Refused (why_not_deleted error)) r
    (on_ok-map r (λ ok. (offset-within _ i.c (i.at + i.n) ok.0 ok.1, ok.2)) e.ok)
    (if_err-map r (delete-hinders _ (length b.result.now) i.c i.at i.n) e.refused) e.err)

pub returns-in-Ldel-clause-own : goal.returns-in-Ldel-clause-own
returns-in-Ldel-clause-own c = rw (
  mapped-twice why_not_deleted Refused c.delete.result c.map_err-in-Ldel.result
      c.map_err-in-Ldel-2.result c.map_err-in-Ldel.ensures.cases c.map_err-in-Ldel-2.ensures.cases,
  c.in-Ldel.is,
)
    (own-refused why_not_deleted c.delete.result)

pub returns-in-Lcontract-clause-tries : goal.returns-in-Lcontract-clause-tries
returns-in-Lcontract-clause-tries c = rw c.in-Lcontract.is c.contract.ensures.tries

pub returns-in-Caadd-clause-tries : goal.returns-in-Caadd-clause-tries
returns-in-Caadd-clause-tries c =
    let e = c.append.ensures in
    let r = c.append.result in
    let i = c.in-Caadd in
    let b = c.bytes_mut-in-Caadd in
    rw (mapped why_not_appended r c.map_err-in-Caadd.result c.map_err-in-Caadd.ensures.cases, i.is)
    (lent (append_element i.c i.n) c.args.blocks.now c.args.name c.requires.there c.append.new.block b.result.now
    b.ensures.value c.append.auto.block e.heap e.handle why_not_appended r
    e.ok (if_err-map r (append-hinders _ _) e.refused) e.err)

pub returns-in-Cains-clause-tries : goal.returns-in-Cains-clause-tries
returns-in-Cains-clause-tries c =
    let e = c.insert-in-Cains.ensures in
    let r = c.insert-in-Cains.result in
    let i = c.in-Cains in
    let b = c.bytes_mut-in-Cains in
    rw (mapped why_not_grown r c.map_err-in-Cains.result c.map_err-in-Cains.ensures.cases, i.is)
    (lent (insert_element i.c i.i i.n) c.args.blocks.now c.args.name c.requires.there c.insert-in-Cains.new.block
    b.result.now b.ensures.value c.insert-in-Cains.auto.block e.heap e.handle why_not_grown r
    e.ok (if_err-map r (growth-hinders _ _) e.refused) e.err)

pub returns-in-Cadel-clause-tries : goal.returns-in-Cadel-clause-tries
returns-in-Cadel-clause-tries c =
    let e = c.remove.ensures in
    let r = c.remove.result in
    let i = c.in-Cadel in
    let b = c.bytes_mut-in-Cadel in
    rw (
      mapped-twice why_no_element Refused r c.map_err-in-Cadel.result c.map_err-in-Cadel-2.result
          c.map_err-in-Cadel.ensures.cases c.map_err-in-Cadel-2.ensures.cases,
      i.is,
    )
    (lent (remove_element i.c i.i) c.args.blocks.now c.args.name c.requires.there c.remove.new.block b.result.now
    b.ensures.value c.remove.auto.block e.heap e.handle (λ error. Refused (why_no_element error)) r
    e.ok (if_err-map r (λ why. element-refuses why _) e.refused) e.err)

pub returns-in-Cadel-clause-own : goal.returns-in-Cadel-clause-own
returns-in-Cadel-clause-own c = rw (
  mapped-twice why_no_element Refused c.remove.result c.map_err-in-Cadel.result
      c.map_err-in-Cadel-2.result c.map_err-in-Cadel.ensures.cases c.map_err-in-Cadel-2.ensures.cases,
  c.in-Cadel.is,
)
    (own-refused why_no_element c.remove.result)

pub returns-in-Cazero-clause-tries : goal.returns-in-Cazero-clause-tries
returns-in-Cazero-clause-tries c =
    let e = c.clear.ensures in
    let r = c.clear.result in
    let i = c.in-Cazero in
    let b = c.bytes_mut-in-Cazero in
    rw (
      mapped-twice why_no_array Refused r c.map_err-in-Cazero.result c.map_err-in-Cazero-2.result
          c.map_err-in-Cazero.ensures.cases c.map_err-in-Cazero-2.ensures.cases,
      i.is,
    )
    (lent (clear_array i.c) c.args.blocks.now c.args.name c.requires.there c.clear.new.block b.result.now b.ensures.value
    c.clear.auto.block e.heap e.handle (λ error. Refused (why_no_array error)) r
    e.ok (if_err-map r (λ why. array-refuses why _) e.refused) e.err)

pub returns-in-Cazero-clause-own : goal.returns-in-Cazero-clause-own
returns-in-Cazero-clause-own c = rw (
  mapped-twice why_no_array Refused c.clear.result c.map_err-in-Cazero.result
      c.map_err-in-Cazero-2.result c.map_err-in-Cazero.ensures.cases c.map_err-in-Cazero-2.ensures.cases,
  c.in-Cazero.is,
)
    (own-refused why_no_array c.clear.result)

pub returns-in-Caresize-clause-tries : goal.returns-in-Caresize-clause-tries
returns-in-Caresize-clause-tries c =
    let e = c.resize_element.ensures in
    let r = c.resize_element.result in
    let i = c.in-Caresize in
    let b = c.bytes_mut-in-Caresize in
    rw (mapped why_not_grown r c.map_err-in-Caresize.result c.map_err-in-Caresize.ensures.cases, i.is)
    (lent (resize_element i.c i.i i.n) c.args.blocks.now c.args.name c.requires.there c.resize_element.new.block
    b.result.now b.ensures.value c.resize_element.auto.block e.heap e.handle why_not_grown r
    e.ok (if_err-map r (growth-hinders _ _) e.refused) e.err)
