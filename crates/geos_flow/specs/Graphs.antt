-- The edges to each pc, as linked lists.
use Rattle.std.specs.Prelude.{◌≡◌, ◌<◌, ◌≤◌, ◌+◌, ℕ, Bool, true, List, Option, Some, None, slice_index_or}
use Rattle.geos_image.specs.Parts.{Parts}
use Rattle.geos_flow.specs.declared.edge.Edge.{Edge}
use Rattle.geos_flow.specs.Edges.{end_in, number_of}

-- an edge leads from one pc to another
pub record LeadsTo (image : Parts) (from to : ℕ) : Type 0 where
  pub edge : Edge
  pub begins : edge.from ≡ from
  pub ends : end_in image edge ≡ Some to

-- the edge that follows an edge in its list
abbrev pub behind_of : List (Option Edge) → Edge → Option Edge
behind_of behind edge = slice_index_or behind (number_of edge) None

-- the number above that of an edge, if there is one
abbrev pub above : Option Edge → ℕ
above at = elim at [ None ↦ 0 | Some edge ↦ number_of edge + 1 ]

-- of the edges to a pc with numbers below one, it is the last, or there are none
pub record IsLast (image : Parts) (limit to : ℕ) (at : Option Edge) : Type 0 where
  pub below : above at ≤ limit
  pub leads : (edge : Edge) → at ≡ Some edge → end_in image edge ≡ Some to
  pub all : (edge : Edge) → number_of edge < limit → end_in image edge ≡ Some to → number_of edge < above at

-- of edges with numbers below one, the last to each pc, and for each the last one before it to the same pc
pub record AreInto (image : Parts) (limit : ℕ) (firsts behinds : List (Option Edge)) : Type 0 where
  pub first : (to : ℕ) → to < 4096 → IsLast image limit to (slice_index_or firsts to None)
  pub behind : (edge : Edge) (to : ℕ) → number_of edge < limit → end_in image edge ≡ Some to → IsLast image (number_of edge) to (behind_of behinds edge)

-- an edge leads to a pc and counts
pub record IsInto (image : Parts) (counts : Edge → ℕ → Bool) (to : ℕ) (edge : Edge) : Type 0 where
  pub ends : end_in image edge ≡ Some to
  pub is_counted : counts edge to ≡ true

-- there is an edge, and its number is at most that of the given edge
abbrev pub Stands : Option Edge → Edge → Type 0
Stands at edge = (first : Edge) × (at ≡ Some first) × (number_of first ≤ number_of edge)

-- of the edges that lead to a pc and count it is the first, or there are none
pub record IsFirstInto (image : Parts) (counts : Edge → ℕ → Bool) (to : ℕ) (at : Option Edge) : Type 0 where
  pub into : (edge : Edge) → at ≡ Some edge → IsInto image counts to edge
  pub first : (edge : Edge) → IsInto image counts to edge → Stands at edge
