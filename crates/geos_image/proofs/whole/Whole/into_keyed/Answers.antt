use Rattle.std.proofs.Common.{rules, ◌≡◌, Bool, true, false, List, ap, subst, sym, ◌∙◌}
use Rattle.geos_image.specs.declared.point.Point.{Point}
use Rattle.geos_image.specs.Parts.{Parts, instrs_of}
use Rattle.geos_image.specs.Legal.{is_formed, is_image}
use Rattle.geos_image.specs.Keys.{key_flags, kept_rows}
use Rattle.geos_image.proofs.Kept.{keyed-legal}
use Rattle.geos_image.proofs.whole.Whole.into_keyed.Goals as goal

pub invariant_of-result : goal.invariant_of-result
invariant_of-result c =
    let whole : Parts = record { keyed = false; routines = c.self.inside.routines.items; points = c.self.inside.points.items } in
    let formed : is_formed true whole ≡ true = c.self.invariant in
    let flags : c.keys_of-flags.result ≡ key_flags whole.routines (instrs_of whole.points) = search rules in
    let points : c.keep_rows.new.points.items ≡ kept_rows (key_flags whole.routines (instrs_of whole.points)) whole.points =
    c.keep_rows.ensures ∙ ap (λ (fs : List Bool). kept_rows fs whole.points) flags in (
      subst (λ (ps : List Point). is_image (record { keyed = true; routines = whole.routines; points = ps }) ≡ true)
          (sym points) (keyed-legal whole formed),
      tt,
    )
