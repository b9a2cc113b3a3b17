use Rattle.std.proofs.Common.{◌≡◌, ◌+◌, ◌*◌, Some, length, ap, sym, ◌∙◌, arith}
use Rattle.std.specs.Prelude.{nat_le, ◌==◌, ◌&&◌}
use Rattle.std.proofs.lemmas.Bool.{and_left, and_right, lt-leb, ne_eqb}
use Rattle.geos_terms.specs.Bytes.{word}
use Rattle.geos_terms.specs.Arrays.{are_offsets, words_from, arr}
use Rattle.geos_terms.proofs.ArrayReads.{reads, array_in, headed, not-headed, varying-array, varying-none, equal-array, equal-none}
use Rattle.chunk_array.proofs.shape.Shape.of.Goals as goal
use Rattle.chunk_array.proofs.shape.Shape.of.Goals.{then-bytes-lt-HEADER-via-then-bytes-lt-HEADER, then-bytes-lt-HEADER-via-else-bytes-lt-HEADER+then-get16-ne0, then-bytes-lt-HEADER-via-else-bytes-lt-HEADER+else-get16-ne0+then-get16-ne8, then-element_size-eq0, else-element_size-eq0}

pub returns-then-bytes-lt-HEADER : goal.returns-then-bytes-lt-HEADER
returns-then-bytes-lt-HEADER c =
    let b = c.args.bytes.now in
    not-headed b (elim c.then-bytes-lt-HEADER.branch [
      | then-bytes-lt-HEADER-via-then-bytes-lt-HEADER w ↦ and_left (nat_le 8 (length b) && (word b 4 == 0))
          (word b 6 == 8) (and_left (nat_le 8 (length b)) (word b 4 == 0) (lt-leb 8 (length b) w.if-bytes-lt-HEADER.true))
      | then-bytes-lt-HEADER-via-else-bytes-lt-HEADER+then-get16-ne0 w ↦ (
          and_left (nat_le 8 (length b) && (word b 4 == 0)) (word b 6 == 8)
          (and_right (nat_le 8 (length b)) (word b 4 == 0) (ne_eqb (word b 4) 0 (λ e. w.if-get16-ne0.true (w.get16.ensures ∙ e)))))
      | then-bytes-lt-HEADER-via-else-bytes-lt-HEADER+else-get16-ne0+then-get16-ne8 w ↦ (
          and_right (nat_le 8 (length b) && (word b 4 == 0)) (word b 6 == 8)
          (ne_eqb (word b 6) 8 (λ e. w.if-get16-ne8.true (w.get16-else-get16-ne0.ensures ∙ e))))
    ])

pub returns-then-fits : goal.returns-then-fits
returns-then-fits c =
    let b = c.args.bytes.now in
    let size = c.get16-element_size.ensures in
    let count = c.get16-count.ensures in
    let h = headed b c.if-bytes-lt-HEADER.false (sym c.get16.ensures ∙ c.if-get16-ne0.false)
    (sym c.get16-else-get16-ne0.ensures ∙ c.if-get16-ne8.false) in
    let is : arr b ≡ Some (array_in b) = (elim c.if-element_size-eq0.branch [
      | then-element_size-eq0 w ↦ (varying-array b h (sym size ∙ w.if-element_size-eq0.true)
          (ap (λ n. are_offsets (words_from b 8 n) (8 + 2 * n) (length b)) (sym count) ∙ sym w.are_offsets-fits.ensures
          ∙ sym w.fits-is ∙ c.if-fits.true))
      | else-element_size-eq0 w ↦ equal-array b h (λ e. w.if-element_size-eq0.false (size ∙ e))
          (ap (λ n. length b == 8 + n * word b 2) (sym count) ∙ ap (λ k. length b == 8 + c.get16-count.result * k) (sym size)
          ∙ sym w.fits-is ∙ c.if-fits.true)
    ]) in
    let r = reads b (array_in b) (λ k. let t = c.type_inv.bytes k in omega arith) is in
    record { array = array_in b; is = is; count = sym r.spells.count ∙ sym count; size = sym size }

pub returns-else-fits : goal.returns-else-fits
returns-else-fits c =
    let b = c.args.bytes.now in
    let size = c.get16-element_size.ensures in
    let h = headed b c.if-bytes-lt-HEADER.false (sym c.get16.ensures ∙ c.if-get16-ne0.false)
    (sym c.get16-else-get16-ne0.ensures ∙ c.if-get16-ne8.false) in
    elim c.if-element_size-eq0.branch [
      | then-element_size-eq0 w ↦ varying-none b h (sym size ∙ w.if-element_size-eq0.true)
          (ap (λ n. are_offsets (words_from b 8 n) (8 + 2 * n) (length b)) (sym c.get16-count.ensures)
          ∙ sym w.are_offsets-fits.ensures ∙ sym w.fits-is ∙ c.if-fits.false)
      | else-element_size-eq0 w ↦ equal-none b h (λ e. w.if-element_size-eq0.false (size ∙ e))
          (ap (λ n. length b == 8 + n * word b 2) (sym c.get16-count.ensures) ∙ ap (λ k. length b == 8 + c.get16-count.result * k) (sym size)
          ∙ sym w.fits-is ∙ c.if-fits.false)
    ]
