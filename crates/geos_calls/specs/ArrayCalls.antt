-- The rows of the calls on arrays in the table of the kernel's calls.
use Rattle.std.specs.Prelude.{ℕ}
use Rattle.geos_terms.specs.declared.name.Name.{Name}
use Rattle.geos_calls.specs.Effects.{Reference, Call}
use Rattle.geos_terms.specs.ArrayEdits.{create_array, append_element, insert_element, remove_element, count_elements, refer_element, clear_array, resize_element}
use Rattle.geos_calls.specs.Calls.{changes, enlarges, reads, refers}

-- makes an empty array
abbrev pub canew : Name → ℕ → Call ℕ
canew name k = enlarges (create_array k) name

-- appends an element of zero bytes
abbrev pub caadd : Name → ℕ → ℕ → Call (Unit {0})
caadd name c n = enlarges (append_element c n) name

-- puts an element of zero bytes at an index
abbrev pub cains : Name → ℕ → ℕ → ℕ → Call (Unit {0})
cains name c i n = enlarges (insert_element c i n) name

-- takes an element out
abbrev pub cadel : Name → ℕ → ℕ → Call (Unit {0})
cadel name c i = changes (remove_element c i) name

-- returns the count of elements
abbrev pub cacount : Name → ℕ → Call ℕ
cacount name c = reads (count_elements c) name

-- returns a reference to an element of at least n bytes
abbrev pub caelt : Name → ℕ → ℕ → ℕ → Call Reference
caelt name c i n = refers (refer_element c i n) name

-- takes all elements out
abbrev pub cazero : Name → ℕ → Call (Unit {0})
cazero name c = changes (clear_array c) name

-- gives an element of varying size n bytes
abbrev pub caresize : Name → ℕ → ℕ → ℕ → Call (Unit {0})
caresize name c i n = enlarges (resize_element c i n) name
