use Rattle.std.proofs.Common.{◌+◌, ◌≤◌, ◌∙◌, length, inl, inr, subst, sym}
use Rattle.std.proofs.lemmas.Bool.{false≢true}
use Rattle.vm_file.proofs.Moments.{reads_well, rose}
use Rattle.vm_file.proofs.reader.read_block.Goals as goal

pub returns-in-Err-clause-no_block : goal.returns-in-Err-clause-no_block
returns-in-Err-clause-no_block g c = inl (rose _ _ c.in-Err.ensures.cause.err)

pub returns-in-Err-clause-cause : goal.returns-in-Err-clause-cause
returns-in-Err-clause-cause g c = λ h heap handle. rose _ _ c.in-Err.ensures.cause.err

pub returns-in-Err-clause-read : goal.returns-in-Err-clause-read
returns-in-Err-clause-read g c =
    let e = c.in-Err.ensures in
    record {
      only = e.reads;
      ok = tt;
      once = inr e.cause.err;
      steady = λ s. absurd (s.reads c.args.device.now c.read_at.new.self c.args.at c.read_at.new.into _ e.call
          (subst (λ n. c.args.at + n ≤ length (g.D.Device.medium.image c.args.device.now)) (sym c.read_at.auto.into) c.requires));
    }

pub returns-then-is_heap_of-clause-read : goal.returns-then-is_heap_of-clause-read
returns-then-is_heap_of-clause-read g c = reads_well g.D.Device.medium _ _ _ c.in-Ok.ensures.reads c.in-Ok.ensures.cause.ok

pub returns-else-is_heap_of-clause-read : goal.returns-else-is_heap_of-clause-read
returns-else-is_heap_of-clause-read g c = record {
  only = c.in-Ok.ensures.reads;
  ok = tt;
  once =
      inl c.in-Ok.ensures.cause.ok;
  steady = λ s. c.in-Ok.ensures.cause.ok;
}

pub returns-else-is_heap_of-clause-no_block : goal.returns-else-is_heap_of-clause-no_block
returns-else-is_heap_of-clause-no_block g c = inr (c.in-Ok.ensures.call, λ heap. false≢true (sym c.if-is_heap_of.false ∙ c.is_heap_of.ensures.1 heap))
