-- Blocks that were not read, since what the device gave is none; and calls that begin with a sync.
use Rattle.std.proofs.Common.{◌≡◌, ◌⊎◌, ◌∙◌, inl, inr, ⊎_elim, ℕ, List, length, Result, refl, sym, subst}
use Rattle.std.proofs.lemmas.Result.{on_err_weaker}
use Rattle.vm_file.specs.declared.directory.Entry.{Entry}
use Rattle.vm_file.specs.Device.{Medium, Rose}
use Rattle.vm_file.specs.Outcomes.{BeginsWithSync, CausesNoBlock, CausesNoBlocks, FindsNoBlock, IsHeapUnder, IsOfBlock, ReadsOnly}
use Rattle.vm_file.proofs.Moments.{reads_none, reads_then}

module _ {D : Type 0} (medium : Medium D) where
  -- one of these entries is one of more, and the device may have been read before
  finds_on : (P Q : Entry → Type 0) (old mid new : D) → ((e : Entry) → P e → Q e) → ReadsOnly medium old mid → medium.failed mid ≡ medium.failed old
      → FindsNoBlock medium P mid new → FindsNoBlock medium Q old new
  finds_on P Q old mid new so only ok f = record {
    entry = f.entry;
    listed = so f.entry f.listed;
    before = f.before;
    only = reads_then medium old mid f.before only f.only;
    ok = f.ok ∙ ok;
    at = f.at;
    bytes = f.bytes;
    long = f.long;
    gave = f.gave;
  }

  -- so it is of why such blocks were not read
  abbrev pub Why : (Entry → Type 0) → D → D → Type 0
  Why of old new = Rose (medium.failed old) (medium.failed new) ⊎ FindsNoBlock medium of old new

  pub why_on : (P Q : Entry → Type 0) (old mid new : D) → ((e : Entry) → P e → Q e) → ReadsOnly medium old mid
      → medium.failed mid ≡ medium.failed old → Why P mid new → Why Q old new
  why_on P Q old mid new so only ok = ⊎_elim (λ rose. inl (subst (λ n. Rose n (medium.failed new)) ok rose))
      (λ found. inr (finds_on P Q old mid new so only ok found))

  pub why_more : (P Q : Entry → Type 0) (old new : D) → ((e : Entry) → P e → Q e) → Why P old new → Why Q old new
  why_more P Q old new so = why_on P Q old old new so (reads_none medium old) refl

  -- the block is that of an entry with its handle and length
  pub why_of : (P : Entry → Type 0) (old new : D) (entry : Entry) → P entry → Why (IsOfBlock entry.h entry.len) old new → Why P old new
  why_of P old new entry listed = ⊎_elim (λ rose. inl rose) (λ f. inr (record {
    entry = entry;
    listed = listed;
    before = f.before;
    only = f.only;
    ok = f.ok;
    at = f.at;
    bytes = f.bytes;
    long = f.long ∙ f.listed.1;
    gave = (f.gave.0, λ heap. f.gave.1 (subst (λ h. IsHeapUnder h f.bytes) (sym f.listed.0) heap));
  }))

  -- one read, from an offset that is this one
  pub why_at : {X E : Type 0} (h at place : ℕ) (old new : D) (bytes : List ℕ) (result : Result X E) → at ≡ place
      → CausesNoBlock medium h at old new bytes result → CausesNoBlock medium h place old new bytes result
  why_at h at place old new bytes result is = subst (λ k. CausesNoBlock medium h k old new bytes result) is

  -- the same for a single read
  pub why_one : {X E : Type 0} (h n at : ℕ) (old new : D) (bytes : List ℕ) (result : Result X E) → length bytes ≡ n
      → CausesNoBlock medium h at old new bytes result → CausesNoBlocks medium (IsOfBlock h n) old new result
  why_one h n at old new bytes result long = on_err_weaker result (⊎_elim (λ rose. inl rose) (λ gave. inr (record {
    entry = (let e : Entry = record { h = h; uid = 0; len = n } in e);
    listed = (refl, refl);
    before = old;
    only = reads_none medium old;
    ok = refl;
    at = at;
    bytes = bytes;
    long = long;
    gave = gave;
  })))

  -- how a call ends whose sync failed
  pub begins_so : (P Q : Type 0) (old new : D) → (P → Q) → BeginsWithSync medium P old new → BeginsWithSync medium Q old new
  begins_so P Q old new so b = record {
    answer = b.answer;
    synced = b.synced;
    sync = b.sync;
    refused = on_err_weaker b.answer (λ r. (r.0, so r.1)) b.refused;
    reads = b.reads;
    lasts = b.lasts;
  }
