-- Commands that were carried out one after another, or stopped, from kernel to kernel.
use Rattle.std.proofs.Common.{◌≡◌, true, ◌<◌, ◌≤◌, ◌+◌, ℕ, suc, List, [], ◌∷◌, ◌++◌, length, take, drop, get_or, refl, sym, ap, ◌∙◌, subst, take-append-drop, drop-cons, inl, inr, ⊎_elim}
use Rattle.std.specs.Prelude.{◌↔◌, Bool, ◌||◌, Option, Some, None, Result, Ok, Err, IfOk, IfErr}
use Rattle.std.specs.Str.Lines.{lines}
use Rattle.std.specs.Io.KnownBytes.{Appends, Keeps}
use Rattle.std.proofs.KnownBytes.{Appends-kept, Appends-nil, Appends-trans}
use Rattle.std.proofs.lemmas.List.{take_more, take_all}
use Rattle.geos_terms.specs.declared.refusal.Refusal.{Refusal}
use Rattle.geos_calls.specs.VmFile.{Kept, VmFile}
use Rattle.geos_calls.specs.VmCalls.{commit}
use Rattle.geos_calls.specs.Effects.{Choice}
use Rattle.vm_file.specs.declared.commit.How.{How}
use Rattle.vm_file.specs.Device.{Medium}
use Rattle.vm_file.proofs.Moments.{goes_on, weaker}
use Rattle.vm_blocks.specs.ListedCalls.{keeper_of}
use Rattle.geos_kernel.specs.View.{KernelState, failed_in, memory_of, IsFileOf}
use Rattle.geos_kernel.specs.Kernel.{Calls, IsChosen, NeverFell}
use Rattle.geos_image.specs.Parts.{Parts}
use Rattle.geos_machine.specs.declared.outcome.Outcome.{Outcome}
use Rattle.geos_machine.specs.Runs.{begin, kept_along, OpensAsOneOf, Throughout, Within}
use Rattle.granted_runs.specs.Keeps.{RanWithin}
use Rattle.geos_kernel.proofs.Chosen.{lasts-on}
use Rattle.geos_kernel.proofs.Seen.{file-on}
use Rattle.script_commands.specs.declared.command.Call.{Call}
use Rattle.script_commands.specs.declared.command.Command.{Command}
use Rattle.script_commands.specs.declared.command.Command.TheVariants as command
use Rattle.geos_cli.specs.declared.script.Mode.{Mode}
use Rattle.script_commands.specs.declared.command.Numbered.{Numbered}
use Rattle.geos_cli.specs.declared.script.RefusedCommand.{RefusedCommand}
use Rattle.geos_input.specs.Counted.{AppendsPart}
use Rattle.geos_input.specs.Fault.{KeptUnless}
use Rattle.geos_input.specs.declared.fault.ScriptFault.{ScriptFault}
use Rattle.script_commands.specs.MayCommit.{may_commit, last_may_commit, is_flush_due}
use Rattle.script_commands.specs.Outputs.{printed, committed}
use Rattle.geos_cli.specs.Script.{Does, GoesOn, Prints, PrintsAhead, PrintsPart, PrintsRefused, PrintsTo, PrintsUpTo, From, IsAllowed, Leads, Loads, RunsOn, RunsLent, NotLent, RanCommand, RanCommands, RanScript, RunsScript, StoppedCommand, StoppedCommands, StoppedScript, StopsScript, stage_of}
use Rattle.script_commands.specs.Lines.{commands_of}
use Rattle.script_commands.specs.Lent.{lent_by}
use Rattle.geos_text.specs.Words.{most_bytes}
use Rattle.geos_cli.proofs.Prints.{does-wider, prints-more, ran-wider}

-- what holds over two stretches of time holds over both
abbrev pub Joins : Type 0 → Within → Within → Within → Type 1
Joins honest within next whole = honest → (P Q R : List ℕ → Type 0) → ((c : List ℕ) → P c → R c) → ((c : List ℕ) → Q c → R c)
    → within P → next Q → whole R

-- so it is of what stops leave
pub throughout-then : {D : Type 0} {honest : Type 0} (medium : Medium D) (old mid new : D)
    → Joins honest (Throughout medium old mid) (Throughout medium mid new) (Throughout medium old new)
throughout-then medium old mid new h P Q R first second (passes, whole) (more, rest) = (
  goes_on medium.may_have_left old mid new R (weaker medium.may_have_left old mid P R first passes)
      (weaker medium.may_have_left mid new Q R second more),
  λ c l. ⊎_elim (λ past. first c (whole c past)) (λ now. second c now) (more old c l),
)

-- One command

-- the machine ran a call from the one kernel to the other
abbrev pub RunsCall : Type 0 → Within → Parts → Call → Outcome → KernelState → KernelState → Type 0
RunsCall honest within image call outcome kernel later =
    (f : VmFile) → IsFileOf honest kernel f → RanWithin honest within image call.routine call.words call.handles kernel later outcome f

-- a stop in between leaves the committed pair of one of the two kernels' models
abbrev pub StopsBetween : Type 0 → Within → KernelState → KernelState → Type 0
StopsBetween honest within kernel later =
    (f g : VmFile) → IsFileOf honest kernel f → IsFileOf honest later g → honest → within (OpensAsOneOf (f.kept ∷ g.kept ∷ []))

-- what came from outside between two kernels is allowed while the count of failures goes from the one to the other
pub allowed-between : (honest : Type 0) (kernel later : KernelState) → NeverFell honest kernel later → (choice : Choice)
    → IsChosen honest kernel later choice
    → IsAllowed honest (failed_in kernel) (failed_in later) choice
allowed-between honest kernel later lasts choice chosen = record { given = chosen.given; device = chosen.device; lasts = lasts }

module _ (honest : Type 0) (within : Within) (image : Parts) (kernel later : KernelState) where
  -- a routine was run
  pub run-leads : (call : Call) (outcome : Outcome) → RunsCall honest within image call outcome kernel later
      → Leads honest within kernel later (RunsOn (IsAllowed honest) image call (printed outcome.output.items))
  unfolding ran-wider
  run-leads call outcome ran f tied =
      let whole = ran f tied in
      let r = whole.ran in
      let wide =
      ran-wider (IsChosen honest kernel later) (IsAllowed honest (failed_in kernel) (failed_in later)) (allowed-between honest kernel later r.lasts)
      image call.routine call.words call.handles (memory_of kernel f) (memory_of later r.file) outcome r.ran in
      record {
        file = r.file;
        tied = r.tied;
        lasts = r.lasts;
        keeps = kept_along image r.ran.choices (begin image call.routine call.words call.handles (memory_of kernel f));
        does = (outcome, wide, refl, refl, whole.spares);
        stops = r.stops;
      }

  -- a call was carried out
  call-leads : (call : Call) (outcome : Outcome) (text : List ℕ) → text ≡ printed outcome.output.items
      → Leads honest within kernel later (RunsLent (IsAllowed honest) image call (printed outcome.output.items))
      → Leads honest within kernel later (λ before after keeps. Does (IsAllowed honest) image (command.Call call) (Ok tt) before after text keeps)
  call-leads call outcome text is leads f tied =
      let l = leads f tied in
      record {
        file = l.file;
        tied = l.tied;
        lasts = l.lasts;
        keeps = l.keeps;
        does = inl (refl, subst (λ t. RunsLent (IsAllowed honest) image call t (stage_of kernel f) (stage_of later l.file) l.keeps) (sym is) l.does);
        stops = l.stops;
      }

  -- a block that it lends was refused
  not-lent-leads : (call : Call) (why : Refusal) (text : List ℕ) → text ≡ committed (Err why)
      → Leads honest within kernel later (NotLent (IsAllowed honest) (lent_by image call) why)
      → Leads honest within kernel later (λ before after keeps. Does (IsAllowed honest) image (command.Call call) (Err why) before after text keeps)
  not-lent-leads call why text is leads f tied =
      let l = leads f tied in
      record { file = l.file; tied = l.tied; lasts = l.lasts; keeps = l.keeps; does = inr (why, refl, is, l.does); stops = l.stops }

  -- a commit was done or refused
  commit-leads : StopsBetween honest within kernel later → (how : How) (result : Result (Unit {0}) Refusal) (text : List ℕ) → text ≡ committed result
      → Calls honest (commit (keeper_of how)) result kernel later
      → Leads honest within kernel later (λ before after keeps. Does (IsAllowed honest) image (command.Commit how) result before after text keeps)
  commit-leads stops how result text is calls f tied =
      let c = calls.answers f tied in
      record {
        file = c.file;
        tied = c.tied;
        lasts = c.lasts;
        keeps = f.kept ∷ c.file.kept ∷ [];
        does = (c.choice, allowed-between honest kernel later c.lasts c.choice c.chosen, c.comes, is, refl);
        stops = stops f c.file tied c.tied;
      }

  module _ (a b : Option (List ℕ)) where
    -- a call was carried out, and printed
    pub call-ran : (call : Call) (outcome : Outcome)
        → Leads honest within kernel later (RunsLent (IsAllowed honest) image call (printed outcome.output.items))
        → Appends a b (printed outcome.output.items)
        → RanCommand honest within image (command.Call call) (Ok tt) kernel later a b
    call-ran call outcome ran shown = (printed outcome.output.items, call-leads call outcome (printed outcome.output.items) refl ran, shown)

    -- the writer failed while it was printed
    pub call-stopped : (call : Call) (outcome : Outcome)
        → Leads honest within kernel later (RunsLent (IsAllowed honest) image call (printed outcome.output.items))
        → AppendsPart a b (printed outcome.output.items)
        → StoppedCommand honest within image (command.Call call) kernel later a b
    call-stopped call outcome ran (part, rest, e, some, q) = (part, rest, Ok tt, some, call-leads call outcome (part ++ rest) (sym e) ran, q)

    -- a block was refused, and that was printed
    pub not-lent : (call : Call) (why : Refusal) → Leads honest within kernel later (NotLent (IsAllowed honest) (lent_by image call) why)
        → Appends a b (committed (Err why))
        → RanCommand honest within image (command.Call call) (Err why) kernel later a b
    not-lent call why refused shown = (committed (Err why), not-lent-leads call why (committed (Err why)) refl refused, shown)

    -- the writer failed then
    pub not-lent-stopped : (call : Call) (why : Refusal) → Leads honest within kernel later (NotLent (IsAllowed honest) (lent_by image call) why)
        → AppendsPart a b (committed (Err why))
        → StoppedCommand honest within image (command.Call call) kernel later a b
    not-lent-stopped call why refused (part, rest, e, some, q) =
        (part, rest, Err why, some, not-lent-leads call why (part ++ rest) (sym e) refused, q)

    -- a commit was done or refused, and that was printed
    pub commit-ran : StopsBetween honest within kernel later → (how : How) (result : Result (Unit {0}) Refusal)
        → Calls honest (commit (keeper_of how)) result kernel later → Appends a b (committed result)
        → RanCommand honest within image (command.Commit how) result kernel later a b
    commit-ran stops how result calls shown = (committed result, commit-leads stops how result (committed result) refl calls, shown)

    -- the writer failed then
    pub commit-stopped : StopsBetween honest within kernel later → (how : How) (result : Result (Unit {0}) Refusal)
        → Calls honest (commit (keeper_of how)) result kernel later → AppendsPart a b (committed result)
        → StoppedCommand honest within image (command.Commit how) kernel later a b
    commit-stopped stops how result calls (part, rest, e, some, q) =
        (part, rest, result, some, commit-leads stops how result (part ++ rest) (sym e) calls, q)

-- the same where other words say that the device is honest
module _ (other good : Type 0) (alike : other ↔ good) (within : Within) (image : Parts) (c : Command) (kernel later : KernelState) where
  wider : (before now : ℕ) (choice : Choice) → IsAllowed other before now choice → IsAllowed good before now choice
  wider before now choice allowed = record {
    given = λ g. allowed.given (alike.1 g);
    device = λ g t. allowed.device
        (alike.1 g) t;
    lasts = λ g. allowed.lasts (alike.1 g);
  }

  pub leads-alike : (result : Result (Unit {0}) Refusal) (text : List ℕ)
      → Leads other within kernel later (λ before after keeps. Does (IsAllowed other) image c result before after text keeps)
      → Leads good within kernel later (λ before after keeps. Does (IsAllowed good) image c result before after text keeps)
  leads-alike result text leads f tied =
      let l = leads f (file-on good other alike.0 kernel f tied) in
      record {
        file = l.file;
        tied = file-on other good alike.1 later l.file l.tied;
        lasts = λ g. l.lasts (alike.1 g);
        keeps = l.keeps;
        does = does-wider (IsAllowed other) (IsAllowed good) wider image c result (stage_of kernel f) (stage_of later l.file) text l.keeps l.does;
        stops = λ g. l.stops (alike.1 g);
      }

  pub ran-alike : (result : Result (Unit {0}) Refusal) (a b : Option (List ℕ))
      → RanCommand other within image c result kernel later a b → RanCommand good within image c result kernel later a b
  ran-alike result a b (text, leads, appends) = (text, leads-alike result text leads, appends)

  pub stopped-alike : (a b : Option (List ℕ)) → StoppedCommand other within image c kernel later a b
      → StoppedCommand good within image c kernel later a b
  stopped-alike a b (part, rest, result, some, leads, appends) = (part, rest, result, some, leads-alike result (part ++ rest) leads, appends)

-- All of them

-- before the first command
pub ran-none : (mode : Mode) (honest : Type 0) (within : Within) (image : Parts) (kernel : KernelState) (a : Option (List ℕ))
    → ((f : VmFile) → IsFileOf honest kernel f → honest → within (OpensAsOneOf (f.kept ∷ [])))
    → RanCommands mode honest within image [] None kernel kernel a a
ran-none mode honest within image kernel a started = ([], leads, Appends-nil a)
  where
    leads : Leads honest within kernel kernel (λ before after keeps. From (Prints mode (IsAllowed honest) image [] before after []) before keeps)
    leads f tied = record {
      file = f;
      tied = tied;
      lasts = λ g. inl refl;
      keeps = f.kept ∷ [];
      does =
          ([], (refl, refl, refl), refl);
      stops = started f tied;
    }

-- after the last command, all have run
pub ran-all : (mode : Mode) (honest : Type 0) (within : Within) (image : Parts) (commands : List Numbered) (k : ℕ) (kernel later : KernelState)
    (a b : Option (List ℕ)) → length commands ≤ k → RanCommands mode honest within image (take k commands) None kernel later a b
    → RanCommands mode honest within image commands None kernel later a b
ran-all mode honest within image commands k kernel later a b past ran =
    subst (λ cs. RanCommands mode honest within image cs None kernel later a b) (take_all k commands past) ran

-- and a flush keeps what the writer got
pub ran-kept : (mode : Mode) (honest : Type 0) (within : Within) (image : Parts) (commands : List Numbered)
    (kernel later : KernelState) (a b c : Option (List ℕ))
    → RanCommands mode honest within image commands None kernel later a b → Keeps b c
    → RanCommands mode honest within image commands None kernel later a c
ran-kept mode honest within image commands kernel later a b c (text, leads, appends) kept = (text, leads, Appends-kept a b c text appends kept)

-- the commands are those before index k, the one at k, and those after it
split-at : (commands : List Numbered) (k : ℕ) (default : Numbered) → k < length commands
    → commands ≡ take k commands ++ (get_or commands k default ∷ drop (suc k) commands)
split-at commands k default in_range = sym (take-append-drop k commands) ∙ ap (λ cs. take k commands ++ cs) (drop-cons commands k default in_range)

-- after one more command, that one is the last
last-added : (image : Parts) (done : List Numbered) (here : Numbered) → last_may_commit image (done ++ here ∷ []) ≡ may_commit image here.command
last-added image [] here = refl
last-added image (x ∷ []) here = refl
last-added image (x ∷ y ∷ ys) here = last-added image (y ∷ ys) here

pub last-done : (image : Parts) (commands : List Numbered) (k : ℕ) (default : Numbered) → k < length commands
    → last_may_commit image (take (k + 1) commands) ≡ may_commit image (get_or commands k default).command
last-done image commands k default in_range =
    ap (last_may_commit image) (take_more commands k default in_range) ∙ last-added image (take k commands) (get_or commands k default)

-- the flush before a command failed
pub stopped-ahead : (mode : Mode) (honest : Type 0) (within : Within) (image : Parts) (commands : List Numbered)
    (k : ℕ) (default : Numbered) (kernel later : KernelState)
    (a b : Option (List ℕ)) → k < length commands → RanCommands mode honest within image (take k commands) None kernel later a b
    → (behind ahead : Bool) → behind ≡ last_may_commit image (take k commands) → ahead ≡ may_commit image (get_or commands k default).command
    → (behind || ahead) ≡ true → StoppedCommands mode honest within image commands kernel later a b
stopped-ahead mode honest within image commands k default kernel later a b in_range (text, prints, appends) behind ahead last next due =
    (text, leads, appends)
  where
    is_due : is_flush_due image (take k commands) (get_or commands k default).command ≡ true
    is_due = ap (λ l. l || may_commit image (get_or commands k default).command) (sym last) ∙ ap (λ n. behind || n) (sym next) ∙ due

    leads : Leads honest within kernel later
        (λ before after keeps. From (PrintsUpTo mode (IsAllowed honest) image commands before after text) before keeps)
    leads f tied =
        let earlier = prints f tied in
        let ahead : PrintsAhead mode (IsAllowed honest) image commands (stage_of kernel f) (stage_of later earlier.file) text earlier.does.0 =
        record {
          done = take k commands;
          next = get_or commands k default;
          others = drop (suc k) commands;
          in_order = split-at commands k default in_range;
          due = is_due;
          printed_all = earlier.does.1;
        } in
        record {
          file = earlier.file;
          tied = earlier.tied;
          lasts = earlier.lasts;
          keeps = earlier.keeps;
          does =
              (earlier.does.0, inr ahead, earlier.does.2);
          stops = earlier.stops;
        }

-- a committed pair of some states is one of more states
pub one-left : (xs ys : List Kept) (c : List ℕ) → OpensAsOneOf xs c → OpensAsOneOf (xs ++ ys) c
one-left [] ys c h = absurd h
one-left (x ∷ xs) ys c (inl opens) = inl opens
one-left (x ∷ xs) ys c (inr others) = inr (one-left xs ys c others)

pub one-right : (xs ys : List Kept) (c : List ℕ) → OpensAsOneOf ys c → OpensAsOneOf (xs ++ ys) c
one-right [] ys c h = h
one-right (x ∷ xs) ys c h = inr (one-right xs ys c h)

module _ (mode : Mode) (honest : Type 0) (within next whole : Within) (join : Joins honest within next whole)
    (image : Parts) (commands : List Numbered) (k : ℕ)
    (default : Numbered) (kernel mid later : KernelState) (a b c : Option (List ℕ)) (in_range : k < length commands) where
  -- what a stop leaves over both stretches
  joined : (first : Kept) (earlier all own : List Kept) → all ≡ first ∷ earlier → within (OpensAsOneOf all) → next (OpensAsOneOf own) → honest
      → whole (OpensAsOneOf (first ∷ (earlier ++ own)))
  joined first earlier all own same before after h =
      join h (OpensAsOneOf all) (OpensAsOneOf own) (OpensAsOneOf (first ∷ (earlier ++ own)))
      (λ x o. one-left (first ∷ earlier) own x (subst (λ ks. OpensAsOneOf ks x) same o)) (λ x o. one-right (first ∷ earlier) own x o) before after

  abbrev here : Numbered
  here = get_or commands k default

  -- one more command ran and was printed, and the script continues
  pub ran-more : (result : Result (Unit {0}) Refusal) → GoesOn mode result
      → RanCommands mode honest within image (take k commands) None kernel mid a b → RanCommand honest next image here.command result mid later b c
      → RanCommands mode honest whole image (take (k + 1) commands) None kernel later a c
  ran-more result goes (text, prints, appends) (shown, does, behind) = (text ++ shown, leads, Appends-trans a b c text shown appends behind)
    where
      leads : Leads honest whole kernel later (λ before after keeps. From
          (Prints mode (IsAllowed honest) image (take (k + 1) commands) before after (text ++ shown)) before keeps)
      leads f tied =
          let earlier = prints f tied in
          let r = does earlier.file earlier.tied in
          let kept = earlier.does.0 in
          let all =
          prints-more mode (IsAllowed honest) image (take k commands) (stage_of kernel f) (stage_of mid earlier.file) (stage_of later r.file)
          text kept here result shown r.keeps earlier.does.1 r.does goes in
          record {
            file = r.file;
            tied = r.tied;
            lasts = lasts-on honest kernel mid later earlier.lasts r.lasts;
            keeps = f.kept ∷ (kept ++ r.keeps);
            does = (kept ++ r.keeps, rw (take_more commands k default in_range) all, refl);
            stops = λ h. joined f.kept kept earlier.keeps r.keeps earlier.does.2 (earlier.stops h) (r.stops h) h;
          }

  -- it was refused, and that was printed, and the script does not go on
  pub ran-refused : (refused : RefusedCommand) → refused.line ≡ here.line → (result : Result (Unit {0}) Refusal) → result ≡ Err refused.refusal
      → RanCommands mode honest within image (take k commands) None kernel mid a b → RanCommand honest next image here.command result mid later b c
      → RanCommands mode honest whole image commands (Some refused) kernel later a c
  ran-refused refused at result is (text, prints, appends) (shown, does, behind) =
      (text ++ shown, leads, Appends-trans a b c text shown appends behind)
    where
      leads : Leads honest whole kernel later (λ before after keeps. From
          (PrintsRefused mode (IsAllowed honest) image commands refused before after (text ++ shown)) before keeps)
      leads f tied =
          let earlier = prints f tied in
          let r = does earlier.file earlier.tied in
          let kept = earlier.does.0 in
          let ends : PrintsRefused mode (IsAllowed honest) image commands refused (stage_of kernel f) (stage_of later r.file)
          (text ++ shown) (kept ++ r.keeps) = record {
            done = take k commands;
            last = here;
            others = drop (suc k) commands;
            in_order = split-at commands k default in_range;
            line = at;
            between = stage_of mid earlier.file;
            earlier = text;
            own = shown;
            kept_earlier = kept;
            kept_last = r.keeps;
            printed_earlier = earlier.does.1;
            does = subst (λ o. Does (IsAllowed honest) image here.command o (stage_of mid earlier.file) (stage_of later r.file) shown r.keeps)
                is r.does;
            written = refl;
            kept = refl;
          } in
          record {
            file = r.file;
            tied = r.tied;
            lasts = lasts-on honest kernel mid later earlier.lasts r.lasts;
            keeps = f.kept ∷ (kept ++ r.keeps);
            does = (kept ++ r.keeps, ends, refl);
            stops = λ h. joined f.kept kept earlier.keeps r.keeps earlier.does.2 (earlier.stops h) (r.stops h) h;
          }

  -- the writer failed while it was printed
  pub stopped-at : RanCommands mode honest within image (take k commands) None kernel mid a b
      → StoppedCommand honest next image here.command mid later b c
      → StoppedCommands mode honest whole image commands kernel later a c
  stopped-at (text, prints, appends) (part, rest, result, some, does, behind) = (text ++ part, leads, Appends-trans a b c text part appends behind)
    where
      leads : Leads honest whole kernel later
          (λ before after keeps. From (PrintsUpTo mode (IsAllowed honest) image commands before after (text ++ part)) before keeps)
      leads f tied =
          let earlier = prints f tied in
          let r = does earlier.file earlier.tied in
          let kept = earlier.does.0 in
          let stops : PrintsPart mode (IsAllowed honest) image commands (stage_of kernel f) (stage_of later r.file)
          (text ++ part) (kept ++ r.keeps) = record {
            done = take k commands;
            last = here;
            others = drop (suc k) commands;
            in_order = split-at commands k default in_range;
            between = stage_of mid earlier.file;
            earlier = text;
            kept_earlier = kept;
            kept_last = r.keeps;
            printed_earlier = earlier.does.1;
            part = part;
            rest = rest;
            result = result;
            does = r.does;
            not_all = some;
            written = refl;
            kept = refl;
          } in
          record {
            file = r.file;
            tied = r.tied;
            lasts = lasts-on honest kernel mid later earlier.lasts r.lasts;
            keeps = f.kept ∷ (kept ++ r.keeps);
            does = (kept ++ r.keeps, inl stops, refl);
            stops = λ h. joined f.kept kept earlier.keeps r.keeps earlier.does.2 (earlier.stops h) (r.stops h) h;
          }

-- what holds where all went well, or at a fault, carried over
pub if_ok-map : {A E : Type 0} {P Q : A → Type 0} (r : Result A E) → ((x : A) → P x → Q x) → IfOk r P → IfOk r Q
if_ok-map (Ok x) m p = m x p
if_ok-map (Err e) m p = tt

pub if_err-map : {A E P Q : Type 0} (r : Result A E) (fault : E) → (P → Q) → IfErr r (λ _. P) → IfErr r (λ e. e ≡ fault → Q)
if_err-map (Ok x) fault m p = tt
if_err-map (Err e) fault m p = λ is. m p

-- a stream that success leaves unchanged, and that only this fault changes, is unchanged unless the result is this
-- fault
pub kept-unless : {A : Type 0} (Q : Type 0) (r : Result A ScriptFault) (fault : ScriptFault) (before now : ℕ) → IfOk r (λ _. now ≡ before)
    → IfErr r (λ e. (e ≡ fault) × Q) → KeptUnless fault r before now
kept-unless Q (Ok x) fault before now kept failed = kept
kept-unless Q (Err e) fault before now kept failed = λ other. absurd (other failed.0)

-- the commands of a script on an image that was loaded
module _ (mode : Mode) (honest : Type 0) (within : Within) (bytes script : List ℕ) (image : Parts) (kernel later : KernelState)
    (a b : Option (List ℕ))
    (short : length script ≤ most_bytes) (loads : Loads bytes (lines script) image) (items : List Numbered)
    (all : items ≡ commands_of image (lines script)) where
  pub script-ran : (refused : Option RefusedCommand) → RanCommands mode honest within image items refused kernel later a b
      → RanScript mode honest within bytes script refused kernel later a b
  script-ran refused (text, leads, appends) = (text, of_script, appends)
    where
      of_script : Leads honest within kernel later
          (λ before after keeps. From (RunsScript mode (IsAllowed honest) bytes script refused before after text) before keeps)
      of_script f tied =
          let l = subst (λ cs. Leads honest within kernel later
          (λ before after keeps. From (PrintsTo mode (IsAllowed honest) image cs refused before after text) before keeps)) all leads f tied in
          record {
            file = l.file;
            tied = l.tied;
            lasts = l.lasts;
            keeps = l.keeps;
            does =
                (l.does.0, (short, (image, loads, l.does.1)), l.does.2);
            stops = l.stops;
          }

  pub script-stopped : StoppedCommands mode honest within image items kernel later a b
      → StoppedScript mode honest within bytes script kernel later a b
  script-stopped (text, leads, appends) = (text, of_script, appends)
    where
      of_script : Leads honest within kernel later
          (λ before after keeps. From (StopsScript mode (IsAllowed honest) bytes script before after text) before keeps)
      of_script f tied =
          let l = subst (λ cs. Leads honest within kernel later
          (λ before after keeps. From (PrintsUpTo mode (IsAllowed honest) image cs before after text) before keeps)) all leads f tied in
          record {
            file = l.file;
            tied = l.tied;
            lasts = l.lasts;
            keeps = l.keeps;
            does =
                (l.does.0, (short, (image, loads, l.does.1)), l.does.2);
            stops = l.stops;
          }
