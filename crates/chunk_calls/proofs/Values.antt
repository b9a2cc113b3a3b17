-- Blocks of a region of bytes are of bytes.
use Rattle.std.proofs.Common.{ℕ, List, sym, subst}
use Rattle.std.specs.Prelude.{OnOk, Result, Ok, Err}
use Rattle.block_handles.specs.Layout.{IsRegion}
use Rattle.block_handles.specs.Store.{Store, bytes_of, place_of, size_of}
use Rattle.geos_calls.specs.Legal.{AreBytes}
use Rattle.geos_calls.proofs.LegalBytes.{bytes-part}

pub values-of : (s : Store) (slot : ℕ) (region : List ℕ) → IsRegion s region → AreBytes region → AreBytes (bytes_of s slot)
values-of s slot region lies are = subst AreBytes (sym (lies.blocks slot)) (bytes-part region (place_of s slot) (size_of s slot) are)

-- what holds, holds where an answer is Ok
pub where_ok : {A E P : Type 0} (r : Result A E) → P → OnOk r P
where_ok (Ok answer) p = p
where_ok (Err why) p = tt
