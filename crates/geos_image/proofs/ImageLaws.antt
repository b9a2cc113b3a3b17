-- Reading and encoding images are inverse: bytes that are read as an image are its encoding, and its encoding is read
-- as the image.
use Rattle.std.proofs.Common.{◌≡◌, ℕ, ◌+◌, ◌*◌, ◌^◌, ◌<◌, ◌≤◌, Bool, true, false, List, [], ◌∷◌, ◌++◌, length, take, drop, All, Result, Ok, Err, refl, sym, ap, subst, ◌∙◌, lit<, append_assoc, arith}
use Rattle.std.specs.Prelude.{IfOk, ◌==◌, ◌&&◌, ◌||◌, nat_lt, nat_le, nat_eq, replicate}
use Rattle.std.specs.List.{flat_map, list_all}
use Rattle.std.specs.Cmp.Lexicographic.{pointwise, bytes_decides}
use Rattle.std.proofs.lemmas.Bool.{and_parts, eqb-true, eq-eqb, lt-ltb, le-leb}
use Rattle.std.proofs.lemmas.List.{append-nil, take-append-drop, drop_all, length-drop, length-map}
use Rattle.std.proofs.lemmas.List.Folds.{flat_map-map}
use Rattle.std.proofs.lemmas.List.Elements.{All-nil, All-cons}
use Rattle.geos_image.specs.declared.error.ReadError.{ReadError}
use Rattle.geos_image.specs.declared.instr.Instr.{Instr}
use Rattle.geos_image.specs.declared.row.Row.{Row}
use Rattle.geos_image.specs.declared.routine.Routine.{Routine}
use Rattle.geos_image.specs.declared.point.Point.{Point}
use Rattle.geos_image.specs.Parts.{Parts, total_count, instrs_of}
use Rattle.geos_image.specs.Keys.{key_flags, with_rows, flag_count}
use Rattle.geos_image.specs.Legal.{is_given, is_image, is_instr, is_point, rows_stand, row_flags}
use Rattle.geos_image.specs.Ranges.{PointFits, ImageFits}
use Rattle.geos_image.specs.Spelling.{magic, word, instr, row, routine, told, version, rest, spelling}
use Rattle.geos_image.specs.Reading.{guard, word_at, items_at, instr_at, header_at, routines_at, points_at, bare_points_at, row_at, whole_at, keyed_at, rest_at, image_at, Gives}
use Rattle.geos_image.proofs.Steps.{ok_is, after, guard_ok}
use Rattle.geos_image.proofs.Places.{IsBytes, Takes, Takes-then, Left, Left-as, Left-byte, four_texts}
use Rattle.geos_image.proofs.NumberLaws.{word_found, word_again}
use Rattle.geos_image.proofs.InstrLaws.{instr_found, instr_again}
use Rattle.geos_image.proofs.RunLaws.{items_found, items_again}
use Rattle.geos_image.proofs.RowLaws.{row_found, row_again}
use Rattle.geos_image.proofs.PointLaws.{potential_told, stripped, points_found, points_again, bare_found, bare_again}
use Rattle.geos_image.proofs.KeyLaws.{with_rows-instrs, with_rows-potentials, with_rows-given, given_told, rows_in, stand-count, stand-back, given-rows, IsFine, rows-fine}
use Rattle.geos_image.proofs.RoutineLaws.{routines_found, routines_again}
use Rattle.geos_image.proofs.Instrs.{image_parts}

-- the header of so many routines
abbrev header : Bool → ℕ → List ℕ
header keyed n = magic ++ word (version keyed) ++ word n

or-left : (a b : Bool) → (a || b) ≡ true → b ≡ false → a ≡ true
or-left true b h e = refl
or-left false true h e = absurd cc
or-left false false h e = h

-- a version that passes is the one that is noted
version_is : (v : ℕ) (b : Bool) → (v == 2) ≡ b → (v == 1 || v == 2) ≡ true → v ≡ version b
version_is v true e h = eqb-true v 2 e
version_is v false e h = eqb-true v 1 (or-left (v == 1) (v == 2) h e)

header_found : (bytes : List ℕ) → IsBytes bytes → (head : Bool × ℕ) → header_at bytes ≡ Ok head → Takes bytes 0 (header head.0 head.1) 8
unfolding header_at
header_found bytes fits head h =
    after (guard 0 (nat_le 4 (length bytes) && pointwise nat_eq (take 4 bytes) magic)) _ head h (λ named read-name h.
    after (word_at bytes 4) _ head h (λ number read-version h.
    after (guard 4 (number == 1 || number == 2)) _ head h (λ known tested h.
    after (word_at bytes 6) _ head h (λ count read-count h.
    after (guard 6 (nat_lt 0 count && nat_le count 32)) _ head h (λ in_range ranged h.
    let tests = and_parts (nat_le 4 (length bytes)) (pointwise nat_eq (take 4 bytes) magic) (guard_ok 0 _ named read-name) in
    let front : take 4 bytes ≡ magic = (bytes_decides (take 4 bytes) magic).0 tests.1 in
    let takes-magic : Takes bytes 0 magic 4 = record { parts = sym (take-append-drop 4 bytes) ∙ ap (λ (t : List ℕ). t ++ drop 4 bytes) front } in
    let known_is : number ≡ version (number == 2) = version_is number (number == 2) refl (guard_ok 4 _ known tested) in
    let takes-version = subst (λ (k : ℕ). Takes bytes 4 (word k) 6) known_is (word_found bytes fits 4 6 number refl read-version) in
    let takes-count = word_found bytes fits 6 8 count refl read-count in
    let read : Bool × ℕ = (number == 2, count) in
    subst (λ (x : Bool × ℕ). Takes bytes 0 (header x.0 x.1) 8) (ok_is read head h)
    (Takes-then (Takes-then takes-magic takes-version) takes-count))))))

-- the encoded instructions of points
instrs_text : (points : List Point) → flat_map instr (instrs_of points) ≡ flat_map (λ (point : Point). instr point.instr) points
instrs_text points = flat_map-map instr (λ (point : Point). point.instr) points

-- what is read after the instructions of an image
record RestFound (bytes : List ℕ) (keyed : Bool) (routines : List Routine) (instrs : List Instr) (at : ℕ) (image : Parts) : Type 0 where
  pub keyed_is : image.keyed ≡ keyed
  pub routines_are : image.routines ≡ routines
  pub instrs_are : instrs_of image.points ≡ instrs
  pub end : ℕ
  pub takes : Takes bytes at (rest image.keyed image.points) end
  pub ends : length bytes ≡ end

whole_found : (bytes : List ℕ) → IsBytes bytes → (routines : List Routine) (instrs : List Instr) (at : ℕ) (image : Parts)
    → whole_at bytes routines instrs at ≡ Ok image → RestFound bytes false routines instrs at image
unfolding whole_at
whole_found bytes fits routines instrs at image h =
    let end = at + 58 * length instrs in
    after (points_at bytes instrs at) _ image h (λ points read-points h.
    after (guard end (length bytes == end)) _ image h (λ ended tested h.
    let read : Parts = record { keyed = false; routines = routines; points = points } in
    let found = points_found bytes fits instrs at end points refl read-points in
    subst (RestFound bytes false routines instrs at) (ok_is read image h)
    (record {
      keyed_is = refl;
      routines_are = refl;
      instrs_are = found.1;
      end = end;
      takes = found.0;
      ends =
          eqb-true _ _ (guard_ok end _ ended tested);
    })))

keyed_found : (bytes : List ℕ) → IsBytes bytes → (routines : List Routine) (instrs : List Instr) (at : ℕ) (image : Parts)
    → keyed_at bytes routines instrs at ≡ Ok image → RestFound bytes true routines instrs at image
unfolding keyed_at
keyed_found bytes fits routines instrs at image h =
    let flags = key_flags routines instrs in
    let count = flag_count flags instrs in
    let from = at + 20 * length instrs in
    let end = from + 38 * count in
    after (bare_points_at bytes instrs at) _ image h (λ points read-points h.
    after (items_at (row_at true bytes) 38 count from) _ image h (λ rows read-rows h.
    after (guard end (length bytes == end)) _ image h (λ ended tested h.
    let read : Parts = record { keyed = true; routines = routines; points = with_rows flags points rows } in
    let bare = bare_found bytes fits instrs at from points refl read-points in
    let found = items_found bytes (row_at true bytes) row 38 (row_found true bytes fits) count from end rows refl read-rows in
    let as_many : flag_count flags (instrs_of points) ≡ length rows = ap (flag_count flags) bare.1 ∙ sym found.1 in
    let takes-potentials = subst (λ (t : List ℕ). Takes bytes at t from) (sym (with_rows-potentials flags points rows)) bare.0 in
    let takes-rows = subst (λ (t : List ℕ). Takes bytes from t end) (sym (with_rows-given flags points rows as_many)) found.0 in
    subst (RestFound bytes true routines instrs at) (ok_is read image h) (record {
      keyed_is = refl;
      routines_are = refl;
      instrs_are = with_rows-instrs flags points rows ∙ bare.1;
      end = end;
      takes = Takes-then takes-potentials takes-rows;
      ends = eqb-true _ _ (guard_ok end _ ended tested);
    }))))

rest_found : (keyed : Bool) (bytes : List ℕ) → IsBytes bytes → (routines : List Routine) (instrs : List Instr) (at : ℕ) (image : Parts)
    → rest_at keyed bytes routines instrs at ≡ Ok image → RestFound bytes keyed routines instrs at image
rest_found false = whole_found
rest_found true = keyed_found

-- bytes that hold the parts of an image and no more are its spelling
whole : (bytes : List ℕ) (image : Parts) (code entries end : ℕ) → Takes bytes 0 (header image.keyed (length image.routines)) 8
    → Takes bytes 8 (flat_map routine image.routines) code
    → Takes bytes code (flat_map instr (instrs_of image.points)) entries → Takes bytes entries (rest image.keyed image.points) end
    → length bytes ≡ end → bytes ≡ spelling image
whole bytes image code entries end p q r s e =
    let all = Takes-then (Takes-then (Takes-then p q) (subst (λ (t : List ℕ). Takes bytes code t entries) (instrs_text image.points) r)) s in
    all.parts ∙ ap (λ (t : List ℕ). spelling image ++ t) (drop_all end bytes (omega arith)) ∙ append-nil (spelling image)

-- bytes that are read as an image are its spelling
pub image_found : (bytes : List ℕ) → IsBytes bytes → (image : Parts) → image_at bytes ≡ Ok image → bytes ≡ spelling image
unfolding image_at
image_found bytes fits image h =
    after (header_at bytes) _ image h (λ head read-head h.
    after (routines_at head.0 bytes head.1 8 []) _ image h (λ routines read-routines h.
    let total = total_count routines in
    let code = 8 + 100 * head.1 in
    let entries = 8 + 100 * head.1 + 10 * total in
    after (items_at (instr_at head.1 total bytes) 10 total code) _ image h (λ instrs read-instrs h.
    let rest = rest_found head.0 bytes fits routines instrs entries image h in
    let takes-routines = routines_found head.0 bytes fits head.1 8 code [] routines refl read-routines in
    let takes-instrs = items_found bytes (instr_at head.1 total bytes) instr 10 (instr_found head.1 total bytes fits)
    total code entries instrs refl read-instrs in
    let all : routines ≡ takes-routines.0 = takes-routines.1 in
    let count_is : head.1 ≡ length image.routines = sym (ap length rest.routines_are ∙ ap length all ∙ takes-routines.2) in
    let header-text = subst (λ (k : ℕ). Takes bytes 0 (header image.keyed k) 8) count_is
    (subst (λ (b : Bool). Takes bytes 0 (header b head.1) 8) (sym rest.keyed_is) (header_found bytes fits head read-head)) in
    let routines-text = subst (λ (rs : List Routine). Takes bytes 8 (flat_map routine rs) code) (sym (rest.routines_are ∙ all)) takes-routines.3 in
    let instrs-text = subst (λ (is : List Instr). Takes bytes code (flat_map instr is) entries) (sym rest.instrs_are) takes-instrs.0 in
    whole bytes image code entries rest.end header-text routines-text instrs-text rest.takes rest.ends)))

header_again : (keyed : Bool) (bytes : List ℕ) (n : ℕ) (rest : List ℕ) → 0 < n → n ≤ 32 → Left bytes 0 (header keyed n ++ rest)
    → (header_at bytes ≡ Ok (keyed, n)) × Left bytes 8 rest
unfolding header_at
header_again false bytes n rest some few l =
    let left : Left bytes 4 (word 1 ++ (word n ++ rest)) = (Left-byte 4 refl (Left-byte 3 refl (Left-byte 2 refl (Left-byte 1 refl l).2).2).2).2 in
    let front : take 4 bytes ≡ magic = ap (take 4) l.parts in
    let number = word_again bytes 4 6 1 (word n ++ rest) refl (lit< tt) left in
    let count = word_again bytes 6 8 n rest refl (omega arith) number.1 in
    (rw (le-leb 4 (length bytes) left.within, front, number.0, count.0, lt-ltb 0 n some, le-leb n 32 few) refl, count.1)
header_again true bytes n rest some few l =
    let left : Left bytes 4 (word 2 ++ (word n ++ rest)) = (Left-byte 4 refl (Left-byte 3 refl (Left-byte 2 refl (Left-byte 1 refl l).2).2).2).2 in
    let front : take 4 bytes ≡ magic = ap (take 4) l.parts in
    let number = word_again bytes 4 6 2 (word n ++ rest) refl (lit< tt) left in
    let count = word_again bytes 6 8 n rest refl (omega arith) number.1 in
    (rw (le-leb 4 (length bytes) left.within, front, number.0, count.0, lt-ltb 0 n some, le-leb n 32 few) refl, count.1)

-- the instructions of points are ones that an image may have
instrs_legal : (borrows : Bool) (routines instrs : ℕ) (points : List Point) → list_all (is_point borrows routines instrs) points ≡ true
    → All (λ i. is_instr routines instrs i ≡ true) (instrs_of points)
instrs_legal borrows routines instrs [] h = All-nil (λ i. is_instr routines instrs i ≡ true)
instrs_legal borrows routines instrs (point ∷ points) h =
    let parts = and_parts (is_point borrows routines instrs point) (list_all (is_point borrows routines instrs) points) h in
    let here = and_parts (is_instr routines instrs point.instr) (is_given borrows point.row) parts.0 in
    All-cons (λ i. is_instr routines instrs i ≡ true) point.instr (instrs_of points) here.0 (instrs_legal borrows routines instrs points parts.1)

-- bytes end where nothing is left of them
ends : (bytes : List ℕ) (at : ℕ) → Left bytes at [] → length bytes ≡ at
ends bytes at l = omega (arith, l.within, length-drop at bytes, ap length l.parts)

-- how many instructions points have
points_count : (points : List Point) → length (instrs_of points) ≡ length points
points_count points = length-map points (λ (point : Point). point.instr)

module _ (bytes : List ℕ) (routines : List Routine) (points : List Point) (r n at : ℕ) (fits : All PointFits points) where
  whole_again : list_all (is_point false r n) points ≡ true → rows_stand (replicate 4096 true) points ≡ true
      → Left bytes at (flat_map told points ++ []) → whole_at bytes routines (instrs_of points) at ≡ Ok
      (record { keyed = false; routines = routines; points = points })
  unfolding whole_at
  whole_again legal stand left =
      let end = at + 58 * length (instrs_of points) in
      let place : end ≡ at + 58 * length points = ap (λ (k : ℕ). at + 58 * k) (points_count points) in
      let again = points_again 4096 r n bytes points at end [] place stand legal fits left in
      rw (again.0, eq-eqb (length bytes) end (ends bytes end again.1)) refl

  keyed_again : list_all (is_point true r n) points ≡ true → rows_stand (key_flags routines (instrs_of points)) points ≡ true
      → Left bytes at (rest true points ++ []) → keyed_at bytes routines (instrs_of points) at ≡ Ok
      (record { keyed = true; routines = routines; points = points })
  unfolding keyed_at
  keyed_again legal stand left =
      let instrs = instrs_of points in
      let flags = key_flags routines instrs in
      let count = flag_count flags instrs in
      let from = at + 20 * length instrs in
      let end = from + 38 * count in
      let place : from ≡ at + 20 * length points = ap (λ (k : ℕ). at + 20 * k) (points_count points) in
      let apart = Left-as (append_assoc (flat_map potential_told points) (flat_map given_told points) []) left in
      let bare = bare_again bytes points at from (flat_map given_told points ++ []) place fits apart in
      let rows-left = Left-as (ap (λ (t : List ℕ). t ++ []) (given-rows points)) bare.1 in
      let as_many : length (rows_in points) ≡ count = sym (stand-count flags points stand) in
      let again = λ (at next : ℕ) (x : Row) (rest : List ℕ) (place : next ≡ at + 38) (fine : IsFine x)
      (l : Left bytes at (row x ++ rest)). row_again true bytes at next x rest place fine.legal fine.fits l in
      let rows = items_again bytes (row_at true bytes) row 38 IsFine again (rows_in points) count from end [] as_many
      refl (rows-fine r n points legal fits) rows-left in
      let back : with_rows flags (stripped points) (rows_in points) ≡ points = stand-back flags points stand in
      rw (bare.0, rows.0, eq-eqb (length bytes) end (ends bytes end rows.1))
      (ap (λ (ps : List Point). Ok (record { keyed = true; routines = routines; points = ps })) back)

  rest_again : (keyed : Bool) → list_all (is_point keyed r n) points ≡ true → rows_stand (row_flags keyed routines points) points ≡ true
      → Left bytes at (rest keyed points ++ []) → rest_at keyed bytes routines (instrs_of points) at ≡ Ok
      (record { keyed = keyed; routines = routines; points = points })
  rest_again false legal stand left = whole_again legal stand left
  rest_again true legal stand left = keyed_again legal stand left

-- an image's spelling is read as the image
pub image_again : (bytes : List ℕ) (image : Parts) → is_image image ≡ true → ImageFits image → bytes ≡ spelling image → image_at bytes ≡ Ok image
unfolding image_at
image_again bytes image legal fits e =
    let parts = image_parts image legal in
    let count = length image.routines in
    let total = total_count image.routines in
    let code = 8 + 100 * count in
    let entries = 8 + 100 * count + 10 * total in
    let routines-text = flat_map routine image.routines in
    let points-text = rest image.keyed image.points in
    let few : count ≤ 2 ^ 16 = omega (arith, parts.few) in
    let short : total ≤ 2 ^ 16 = omega (arith, parts.short, parts.counts) in
    let points-legal : list_all (is_point image.keyed count total) image.points ≡ true =
    subst (λ (n : ℕ). list_all (is_point image.keyed count n) image.points ≡ true) (sym parts.counts) parts.points in
    let same-instrs = ap (λ (t : List ℕ). header image.keyed count ++ (routines-text ++ (t ++ (points-text ++ []))))
    (sym (instrs_text image.points)) in
    let texts = e ∙ sym (append-nil (spelling image)) ∙ four_texts (header image.keyed count) routines-text
    (flat_map (λ (point : Point). instr point.instr) image.points) points-text [] ∙ same-instrs in
    let left : Left bytes 0 (header image.keyed count ++ (routines-text ++ (flat_map instr (instrs_of image.points) ++ (points-text ++ [])))) =
    record { within = omega arith; parts = texts } in
    let head = header_again image.keyed bytes count _ parts.some parts.few left in
    let routines = routines_again image.keyed bytes image.routines count 8 code [] _ refl refl parts.routines
    (omega (arith, parts.short, parts.counts)) fits.routines head.1 in
    let legal-instr = λ (i : Instr). is_instr count total i ≡ true in
    let again = λ (at next : ℕ) (i : Instr) (rest : List ℕ) (place : next ≡ at + 10) (h : legal-instr i)
    (l : Left bytes at (instr i ++ rest)). instr_again count total bytes at next i rest few short place h l in
    let instrs = items_again bytes (instr_at count total bytes) instr 10 legal-instr again (instrs_of image.points)
    total code entries _ (points_count image.points ∙ sym parts.counts) refl (instrs_legal image.keyed count total image.points points-legal)
    routines.1 in
    let rest = rest_again bytes image.routines image.points count total entries fits.points image.keyed points-legal parts.rows instrs.1 in
    rw (head.0, routines.0, instrs.0, rest) refl

-- the bytes that were read are the encoding of the result
pub found_by : (bytes : List ℕ) (result : Result Parts ReadError) → IsBytes bytes → Gives (λ (image : Parts). image) result (image_at bytes)
    → IfOk result (λ image. bytes ≡ spelling image)
found_by bytes (Ok image) fits h = image_found bytes fits image h
found_by bytes (Err e) fits h = tt
