use Rattle.std.proofs.Common.{◌≡◌, ◌+◌, ◌<◌, length, ap, sym, ◌∙◌, arith}
use Rattle.lmem_raw.specs.Bytes.{part}
use Rattle.geos_terms.specs.Block.{chunks}
use Rattle.geos_terms.specs.Arrays.{element, element_at}
use Rattle.geos_terms.proofs.ArrayTests.{array-of}
use Rattle.geos_terms.proofs.ArrayPlaces.{element-ends, part-element}
use Rattle.geos_terms.proofs.Entered.{part-part}
use Rattle.chunk_array.proofs.Shaped.{holds}
use Rattle.chunk_array.proofs.look.element.Goals as goal

pub returns-clause-place : goal.returns-clause-place
returns-clause-place c =
    let b = c.args.block.now in
    let f = c.in-Ok.ensures in
    let found = c.in-Ok.found in
    let h = holds b c.args.chunk found f.is in
    let a = f.is.shape.array in
    let start = c.place-place.result.begin in
    let len = c.place-place.result.len in
    let p = c.place-place.ensures in
    let from : start ≡ element_at a c.args.index = p.begin a h.is in
    let to = p.end a h.is in
    let l : c.args.index < length a.elements = omega (arith, f.known, h.shaped.count) in
    let e = element-ends a c.args.index l in
    let n : len ≡ length (element a c.args.index) = omega (arith, from, to, e) in
    let same = array-of (chunks b) c.args.chunk (part b found.at found.len) a h.there h.is in
    record {
      begin = found.at;
      whole = found.len;
      chunk = f.is.place;
      inside = f.is.within;
      place = ap (λ x. found.at + x) (from ∙ sym (ap (λ x. element_at x c.args.index) same));
      long = n ∙ sym (ap (λ x. length (element x c.args.index)) same);
      within = omega (arith, p.within.1);
      bytes = sym (part-part b found.at found.len start len p.within.1 f.is.within) ∙ ap (λ m. part (part b found.at found.len) start m) n
          ∙ ap (λ m. part (part b found.at found.len) m (length (element a c.args.index))) from
          ∙ part-element (part b found.at found.len) a c.args.index h.shaped.reads l ∙ sym (ap (λ x. element x c.args.index) same);
    }
