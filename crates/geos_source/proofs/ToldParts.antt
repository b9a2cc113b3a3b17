-- What stays known of what lines tell: rows and instructions of the routine that has begun.
use Rattle.std.proofs.Common.{◌≡◌, ◌∙◌, ◌<◌, ◌+◌, ℕ, true, ◌||◌, min, List, [], ◌∷◌, ◌++◌, map, Option, Some, None, Ok, length, bytes_eq, refl, sym, ap, arith}
use Rattle.std.proofs.lemmas.List.{length_push}
use Rattle.geos_image.specs.declared.instr.Instr.{Instr}
use Rattle.geos_image.specs.declared.row.Row.{Row}
use Rattle.geos_image.specs.Legal.{is_named, is_row, is_instr}
use Rattle.geos_image.proofs.Pushes.{list_all-push}
use Rattle.geos_source.specs.declared.fault.BadLine.{BadLine}
use Rattle.geos_source.specs.declared.progress.TextRoutine.{TextRoutine}
use Rattle.geos_source.specs.declared.progress.Part.{Part}
use Rattle.geos_source.specs.declared.progress.Part.TheVariants.{Outside, Head, Body}
use Rattle.geos_source.specs.Names.{Names}
use Rattle.geos_source.specs.Declarations.{Declared, one_more_instr}
use Rattle.geos_source.specs.Texts.{Draft, misplaced_in, misplaced_out, take_in, take_out, drop_labels, outside, with_instr_at}
use Rattle.geos_source.specs.Skeletons.{routine_of}
use Rattle.geos_source.proofs.Pushed.{counts-push, is_named-push}
use Rattle.geos_source.proofs.Told.{LegalInstr, MayStandBehind, Current, Told}

-- a draft of these parts
abbrev pub drafted : List TextRoutine → List Instr → Part → Option TextRoutine → Option ℕ → Option BadLine → Draft
drafted routines code part current waiting fault = record {
  routines = routines;
  code = code;
  progress =
      record { part = part; current = current; waiting = waiting; fault = fault };
}

module _ (names : Names) (d : Declared) (routines : List TextRoutine) (code : List Instr) where
  -- the routine that has begun has other rows
  rows-told : (part next : Part) (r s : TextRoutine) (waiting : Option ℕ) (fault other : Option BadLine)
      → Told names d (drafted routines code part (Some r) waiting fault) → waiting ≡ None
      → Current next routines (Some s) → s.routine.name ≡ r.routine.name → s.routine.count ≡ r.routine.count
      → Told names d (drafted routines code next (Some s) None other)
  rows-told part next r s waiting fault other h none current same_name same_count =
      let number = h.routines in
      let few = h.few in
      let counts = h.counts in
      let longer = length_push routines r in
      let as_long = length_push routines s in
      let sums = counts-push routines r in
      let same_sums = counts-push routines s in
      record {
        part = current;
        complete = h.complete;
        instrs = h.instrs;
        routines = omega arith;
        short = h.short;
        few = omega arith;
        counts = omega arith;
        unnamed = λ name e.
            is_named-push name routines s
            ∙ ap (λ (own : List ℕ). is_named name (map routine_of routines) || bytes_eq own name) same_name
            ∙ sym (is_named-push name routines r)
            ∙ h.unnamed name e;
        callees = h.callees;
        labels = h.labels;
        followed = λ same. h.followed none;
        code = h.code;
      }

  -- a line `in`
  pub in_part-told : (part : Part) (current : Option TextRoutine) (waiting : Option ℕ) (fault : Option BadLine) (n : ℕ) (row : Row)
      → Told names d (drafted routines code part current waiting fault)
      → misplaced_in part ≡ None → waiting ≡ None → is_row true row ≡ true
      → Told names d (record {
        routines = routines;
        code = code;
        progress = take_in n (Ok row)
            (drop_labels (record { part = part; current = current; waiting = waiting; fault = fault }));
      })
  in_part-told Outside current waiting fault n row h placed none legal = absurd cc
  in_part-told Body current waiting fault n row h placed none legal = absurd cc
  in_part-told (Head line has_in has_out) None waiting fault n row h placed none legal = absurd h.part
  in_part-told (Head line has_in has_out) (Some r) waiting fault n row h placed none legal =
      let b : MayStandBehind routines r.routine = h.part in
      let s : TextRoutine = record { line = r.line; routine = record r.routine { entry = row } } in
      let begins : MayStandBehind routines s.routine = record { name = b.name; new = b.new; entry = legal; exit = b.exit } in
      rows-told (Head line has_in has_out) (Head line true has_out) r s waiting fault _ h none begins refl refl

  -- a line `out`
  pub out_part-told : (part : Part) (current : Option TextRoutine) (waiting : Option ℕ) (fault : Option BadLine) (n : ℕ) (row : Row)
      → Told names d (drafted routines code part current waiting fault)
      → misplaced_out part ≡ None → waiting ≡ None → is_row true row ≡ true
      → Told names d (record {
        routines = routines;
        code = code;
        progress = take_out n (Ok row)
            (drop_labels (record { part = part; current = current; waiting = waiting; fault = fault }));
      })
  out_part-told Outside current waiting fault n row h placed none legal = absurd cc
  out_part-told Body current waiting fault n row h placed none legal = absurd cc
  out_part-told (Head line has_in has_out) None waiting fault n row h placed none legal = absurd h.part
  out_part-told (Head line has_in has_out) (Some r) waiting fault n row h placed none legal =
      let b : MayStandBehind routines r.routine = h.part in
      let s : TextRoutine = record { line = r.line; routine = record r.routine { exit = row } } in
      let begins : MayStandBehind routines s.routine = record { name = b.name; new = b.new; entry = b.entry; exit = legal } in
      rows-told (Head line has_in has_out) (Head line has_in true) r s waiting fault _ h none begins refl refl

  -- the routine that has begun has one more instruction
  counted-told : (part : Part) (r : TextRoutine) (waiting : Option ℕ) (fault other : Option BadLine) (i : Instr)
      → Told names d (drafted routines code part (Some r) waiting fault) → MayStandBehind routines r.routine
      → length code < 4096 → LegalInstr names i
      → Told names (one_more_instr d)
      (drafted routines (code ++ i ∷ []) Body
      (Some (record { line = r.line; routine = record r.routine { count = min (r.routine.count + 1) 4096 } })) None other)
  counted-told part r waiting fault other i h b room legal =
      let s : TextRoutine = record { line = r.line; routine = record r.routine { count = min (r.routine.count + 1) 4096 } } in
      let instrs = h.instrs in
      let number = h.routines in
      let few = h.few in
      let counts = h.counts in
      let longer = length_push routines r in
      let as_long = length_push routines s in
      let sums = counts-push routines r in
      let larger_sums = counts-push routines s in
      let longer_code = length_push code i in
      record {
        part = (record { name = b.name; new = b.new; entry = b.entry; exit = b.exit }, omega arith);
        complete = h.complete;
        instrs = omega arith;
        routines = omega arith;
        short = omega arith;
        few = omega arith;
        counts = omega arith;
        unnamed = λ name e. is_named-push name routines s ∙ sym (is_named-push name routines r) ∙ h.unnamed name e;
        callees = h.callees;
        labels = λ name pc e. let most = h.labels name pc e in omega arith;
        followed = λ same name pc e. let most = h.labels name pc e in omega arith;
        code = λ most_routines most_instrs callees labels.
            list_all-push (is_instr most_routines most_instrs) code i (h.code most_routines most_instrs callees labels)
            (legal most_routines most_instrs callees labels);
      }

  -- an instruction
  pub instr_part-told : (part : Part) (current : Option TextRoutine) (waiting : Option ℕ) (fault : Option BadLine) (n : ℕ) (i : Instr)
      → Told names d (drafted routines code part current waiting fault)
      → outside part ≡ None → length code < 4096 → LegalInstr names i
      → Told names (one_more_instr d)
      (record {
        routines = routines;
        code = code ++ i ∷ [];
        progress = with_instr_at n None
            (record { part = part; current = current; waiting = waiting; fault = fault });
      })
  instr_part-told Outside current waiting fault n i h placed room legal = absurd cc
  instr_part-told (Head line has_in has_out) None waiting fault n i h placed room legal = absurd h.part
  instr_part-told (Head line has_in has_out) (Some r) waiting fault n i h placed room legal =
      counted-told (Head line has_in has_out) r waiting fault _ i h h.part room legal
  instr_part-told Body None waiting fault n i h placed room legal = absurd h.part
  instr_part-told Body (Some r) waiting fault n i h placed room legal = counted-told Body r waiting fault _ i h h.part.0 room legal
