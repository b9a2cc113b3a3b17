-- A script that ran or was stopped, as the script of a session.
use Rattle.std.proofs.Common.{◌≡◌, ◌≤◌, ◌∙◌, ℕ, Bool, false, true, List, length, Option, None, arith, ap, refl, subst, sym, inl, inr, ⊎_elim}
use Rattle.std.specs.Prelude.{Result, Ok, Err, IfOk, IfErr, IsErrAnd}
use Rattle.std.specs.Str.Lines.{lines}
use Rattle.std.specs.Io.KnownBytes.{Keeps}
use Rattle.std.proofs.KnownBytes.{Appends-kept}
use Rattle.geos_calls.specs.Memory as model
use Rattle.geos_calls.specs.VmFile.{Kept, VmFile, empty_file}
use Rattle.geos_machine.specs.Runs.{Within}
use Rattle.geos_calls.specs.Effects.{Choice}
use Rattle.vm_file.specs.Device.{IsSteady, Medium}
use Rattle.vm_file.specs.State.{HasRoom, Steadily}
use Rattle.geos_kernel.specs.Files.{vm_file_of}
use Rattle.geos_kernel.specs.View.{KernelOn, KernelState, SeesDevice, failed_in, memory_of, IsFileOf}
use Rattle.geos_image.specs.Parts.{Parts}
use Rattle.geos_input.specs.Hex.{hex_fault, image_bytes, script_lines, IsBadHex}
use Rattle.geos_cli.specs.declared.script.Mode.TheVariants.{Lenient}
use Rattle.script_commands.specs.Lines.{commands_of}
use Rattle.geos_cli.specs.Script.{EndsBy, IsAllowed, Loads, RanScript, Runs, RunsScript, ScriptEndsBy, Stage, StoppedScript, Stops, stage_of}
use Rattle.geos_text.specs.Words.{most_bytes}
use Rattle.geos_input.specs.Reading.{Reads}
use Rattle.geos_cli.proofs.Prints.{prints-still, up_to-still}
use Rattle.geos_input.specs.declared.fault.ScriptFault.{ScriptFault}
use Rattle.geos_input.specs.declared.fault.ScriptFault.TheVariants.{TooLong, BadHex, BadImage, Rejected, BadScript, Read, Write, Memory}
use Rattle.geos_cli.specs.Session.{IsInMemory, begun, no_blocks, RanBytes, StoppedBytes, EndsBytes, RanSession, StoppedSession, EndsSession}

-- what holds of a fault holds of it where it is passed on
pub passed-on : {A E : Type 0} (P : E → Type 0) (result : Result A E) (e : E) → IsErrAnd result (λ x. x ≡ e) → P e → IfErr result P
passed-on P (Ok x) e same h = tt
passed-on P (Err x) e same h = subst P (sym same) h

-- what holds at all holds where all went well
pub if-ok : {A E P : Type 0} (result : Result A E) → P → IfOk result (λ _. P)
if-ok (Ok x) h = h
if-ok (Err e) h = tt

-- and at each fault, whatever it is
pub if-fault : {A E P : Type 0} (result : Result A E) (fault : E) → P → IfErr result (λ x. x ≡ fault → P)
if-fault (Ok x) fault h = tt
if-fault (Err e) fault h = λ _. h

-- a fault of the digits ends the session
pub hex-ends : (bytes : List ℕ) → length bytes ≤ most_bytes → (fault : ScriptFault) → IsBadHex (lines bytes) fault → EndsBytes bytes fault
hex-ends bytes short (BadHex line) h = (short, h)
hex-ends bytes short Memory h = tt
hex-ends bytes short TooLong h = absurd h
hex-ends bytes short (BadImage at) h = absurd h
hex-ends bytes short (Rejected pc rule) h = absurd h
hex-ends bytes short (BadScript line) h = absurd h
hex-ends bytes short Read h = absurd h
hex-ends bytes short Write h = absurd h

-- what is allowed where the device is honest, and has not failed, is allowed in a session
module _ (honest : Type 0) (good : honest) where
  never-failed : (before now : ℕ) (choice : Choice) → IsAllowed honest before now choice → now ≡ 0 → before ≡ 0
  never-failed before now choice allowed zero =
      ⊎_elim (λ same. sym same ∙ zero) (λ risen. ⊎_elim (λ less. omega (arith, less, zero)) (λ most. omega (arith, most, zero)) risen)
      (allowed.lasts good)

  in-memory : (before now : ℕ) → before ≡ 0 → now ≡ 0 → (choice : Choice) → IsAllowed honest before now choice → IsInMemory before now choice
  in-memory before now first last choice allowed = record { device = refuses choice.device refl; given = allowed.given good }
    where
      refuses : (b : Bool) → choice.device ≡ b → choice.device ≡ false
      refuses false is = is
      refuses true is = (let risen : ⊥ = ⊎_elim (λ less. omega (arith, less, last)) (λ most. omega (arith, most, last)) (allowed.device good is) in
          absurd risen)

  runs-honest : (bytes : List ℕ) (ls : List (List ℕ)) (before after : Stage) (text : List ℕ) (keeps : List Kept) → after.failed ≡ 0
      → Runs Lenient (IsAllowed honest) bytes ls None before after text keeps → Runs Lenient IsInMemory bytes ls None before after text keeps
  runs-honest bytes ls before after text keeps zero (image, loads, prints) = (
    image,
    loads,
    prints-still (IsAllowed honest) IsInMemory never-failed in-memory Lenient image (commands_of image ls)
        before after text keeps zero prints,
  )

  stops-honest : (bytes : List ℕ) (ls : List (List ℕ)) (before after : Stage) (text : List ℕ) (keeps : List Kept) → after.failed ≡ 0
      → Stops Lenient (IsAllowed honest) bytes ls before after text keeps → Stops Lenient IsInMemory bytes ls before after text keeps
  stops-honest bytes ls before after text keeps zero (image, loads, part) = (
    image,
    loads,
    up_to-still (IsAllowed honest) IsInMemory never-failed in-memory Lenient image (commands_of image ls)
        before after text keeps zero part,
  )

-- a device that never fails within its length, and has room for the file, has not failed after a script
pub never-fails : {D : Type 0} (medium : Medium D) (old new : KernelOn D) → IsSteady medium → HasRoom medium.image (vm_file_of old)
    → Steadily medium (vm_file_of old) (vm_file_of new)
    → SeesDevice medium old × SeesDevice medium new → failed_in old.core ≡ 0 → failed_in new.core ≡ 0
never-fails medium old new steady room steadily sees none = sees.1 ∙ (steadily steady room).1 ∙ sym sees.0 ∙ none

-- bytes have an image and a script, which runs on a kernel without a block
module _ (honest : Type 0) (bytes items image script : List ℕ) (kernel later : KernelState) (good : honest)
    (short : length bytes ≤ most_bytes) (digits : hex_fault (lines bytes) ≡ None)
    (items_is : items ≡ image_bytes (lines bytes)) (script_is : lines script ≡ script_lines (lines bytes))
    (lent : image ≡ items) (tied : IsFileOf honest kernel (empty_file 65536))
    (empty : (f : VmFile) → memory_of kernel f ≡ record no_blocks { file = f }) (none : failed_in kernel ≡ 0)
    (still : failed_in later ≡ 0) where
  -- where the first command begins
  abbrev first : Stage
  first = stage_of kernel (empty_file 65536)

  first-begun : first ≡ begun
  first-begun =
      ap (λ (m : model.Memory). let s : Stage = record { memory = m; failed = failed_in kernel } in s) (empty (empty_file 65536))
      ∙ ap (λ n. let s : Stage = record { memory = no_blocks; failed = n } in s) none

  -- a property of the script holds of the lines after `end`
  in-session : (P : List ℕ → List (List ℕ) → Stage → Type 0) → P image (lines script) first
      → P (image_bytes (lines bytes)) (script_lines (lines bytes)) begun
  in-session P h =
      let with_image = subst (λ i. P i (lines script) first) (lent ∙ items_is) h in
      let with_script = subst (λ ls. P (image_bytes (lines bytes)) ls first) script_is with_image in
      subst (λ s. P (image_bytes (lines bytes)) (script_lines (lines bytes)) s) first-begun with_script

  -- the script ran
  runs : (text : List ℕ) (after : Stage) (keeps : List Kept) → after.failed ≡ 0
      → RunsScript Lenient (IsAllowed honest) image script None first after text keeps
      → (after : Stage) × (keeps : List Kept) × Runs Lenient IsInMemory (image_bytes (lines bytes))
      (script_lines (lines bytes)) None begun after text keeps
  runs text after keeps zero h = (
    after,
    keeps,
    in-session (λ i ls s. Runs Lenient IsInMemory i ls None s after text keeps)
        (runs-honest honest good image (lines script) first after text keeps zero h.1),
  )

  -- and the flush did not change the writer's text
  pub session-ran : {within : Within} (a b c : Option (List ℕ)) → RanScript Lenient honest within image script None kernel later a b
      → Keeps b c → RanBytes bytes a c
  session-ran {within} a b c (text, leads, appends) kept =
      let l = leads (empty_file 65536) tied in
      (text, (short, digits, runs text (stage_of later l.file) l.does.0 still l.does.1), Appends-kept a b c text appends kept)

  -- or the flush failed
  pub session-unflushed : {within : Within} (a b c : Option (List ℕ)) → RanScript Lenient honest within image script None kernel later a b
      → Keeps b c → StoppedBytes bytes a c
  session-unflushed {within} a b c (text, leads, appends) kept =
      let l = leads (empty_file 65536) tied in
      (text, (short, digits, inr (runs text (stage_of later l.file) l.does.0 still l.does.1)), Appends-kept a b c text appends kept)

  -- where it ran, the writer may have failed
  pub session-due : {within : Within} (a b : Option (List ℕ)) → RanScript Lenient honest within image script None kernel later a b
      → EndsBytes bytes Write
  session-due {within} a b (text, leads, appends) =
      let h = (leads (empty_file 65536) tied).does.1 in
      (short, digits, in-session (λ i ls s. (parts : Parts) × Loads i ls parts) (h.1.0, h.1.1))

  -- the script ended with a fault
  pub session-ends : length script ≤ length bytes → (fault : ScriptFault) → ScriptEndsBy image script fault → EndsBytes bytes fault
  session-ends shorter TooLong h = omega (arith, shorter, h)
  session-ends shorter (BadHex line) h = absurd h.1
  session-ends shorter (BadImage at) h = (short, digits, in-session (λ i ls s. EndsBy i ls (BadImage at)) h.1)
  session-ends shorter (Rejected pc rule) h = (short, digits, in-session (λ i ls s. EndsBy i ls (Rejected pc rule)) h.1)
  session-ends shorter (BadScript line) h = (short, digits, in-session (λ i ls s. EndsBy i ls (BadScript line)) h.1)
  session-ends shorter Read h = absurd h.1
  session-ends shorter Write h = (short, digits, in-session (λ i ls s. EndsBy i ls Write) h.1)
  session-ends shorter Memory h = tt

  -- the script was stopped
  pub session-stopped : {within : Within} (a b : Option (List ℕ)) → StoppedScript Lenient honest within image script kernel later a b
      → StoppedBytes bytes a b
  session-stopped {within} a b (text, leads, appends) =
      let l = leads (empty_file 65536) tied in
      let after = stage_of later l.file in
      let keeps = l.does.0 in
      let stops = in-session (λ i ls s. Stops Lenient IsInMemory i ls s after text keeps)
      (stops-honest honest good image (lines script) first after text keeps still l.does.1.1) in
      (text, (short, digits, inl (after, keeps, stops)), appends)

-- a fault that is the writer's
pub if-write : {A : Type 0} (P : Type 0) (Q : ScriptFault → Type 0) (result : Result A ScriptFault)
    → IfErr result (λ fault. (fault ≡ Write) × P) → Q Write → IfErr result Q
if-write P Q (Ok x) h q = tt
if-write P Q (Err e) h q = subst Q (sym h.0) q

-- a reader gave the bytes
module _ (given left : Option (List ℕ)) (bytes : List ℕ) (reads : Reads given left bytes) where
  -- and their session ran
  pub reader-ran : (a b : Option (List ℕ)) → RanBytes bytes a b → RanSession given left a b
  reader-ran a b (text, runs, appends) = (bytes, text, reads, runs, appends)

  -- or was stopped
  pub reader-stopped : (a b : Option (List ℕ)) → StoppedBytes bytes a b → StoppedSession given left a b
  reader-stopped a b (text, stops, appends) = (bytes, text, reads, stops, appends)

  -- or ended with a fault
  pub reader-ends : (fault : ScriptFault) → EndsBytes bytes fault → EndsSession given left fault
  reader-ends TooLong h = (bytes, reads.0, h)
  reader-ends (BadHex line) h = (bytes, reads, h)
  reader-ends (BadImage at) h = (bytes, reads, h)
  reader-ends (Rejected pc rule) h = (bytes, reads, h)
  reader-ends (BadScript line) h = (bytes, reads, h)
  reader-ends Write h = (bytes, reads, h)
  reader-ends Read h = tt
  reader-ends Memory h = tt
