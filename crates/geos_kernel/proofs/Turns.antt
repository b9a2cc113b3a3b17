-- Calls answered one after another.
use Rattle.std.proofs.Common.{List, [], ◌∷◌, refl, sym, ap, subst, inl}
use Rattle.std.specs.Prelude.{◌↔◌, Result}
use Rattle.geos_terms.specs.declared.refusal.Refusal.{Refusal}
use Rattle.geos_calls.specs.VmFile.{VmFile}
use Rattle.geos_calls.specs.Effects.{Call, Choice, Reference}
use Rattle.geos_kernel.specs.declared.span.Span.{Span}
use Rattle.geos_kernel.specs.Spans.{Stands, IsFresh}
use Rattle.geos_kernel.specs.Kernel.{Calls, IsChosen, NeverFell}
use Rattle.geos_kernel.specs.Turns.{Turn, Does, Tells, TellsTwo, Refers, Answered, InTurn, Step, Leads, stale_by, AreChosen, AnsweredByRows, AnswersAlike, CallsAnswerInTurn}
use Rattle.geos_kernel.specs.View.{KernelState, IsFileOf, failed_in, memory_of}
use Rattle.geos_kernel.proofs.Chosen.{chosen-after, chosen-before, lasts-on}
use Rattle.geos_kernel.proofs.Seen.{file-on}

-- Other words for an honest device

calls-alike : (other good : Type 0) → other ↔ good → {A : Type 0} (row : Call A) (result : Result A Refusal) (old new : KernelState)
    → Calls other row result old new → Calls good row result old new
calls-alike other good alike row result old new calls = record {
  answers = λ f tied.
      let a = calls.answers f (file-on good other alike.0 old f tied) in
      record {
        choice = a.choice;
        chosen = record { given = λ g. a.chosen.given (alike.1 g); device = λ g t. a.chosen.device (alike.1 g) t };
        lasts = λ g. a.lasts (alike.1 g);
        file = a.file;
        tied = file-on other good alike.1 new a.file a.tied;
        comes = a.comes;
      };
  spans = λ f tied. calls.spans f (file-on good other alike.0 old f tied);
}

pub answered-alike : (other good : Type 0) → other ↔ good → AnswersAlike other good
answered-alike other good alike (Does row result) old new calls = calls-alike other good alike row result old new calls
answered-alike other good alike (Tells row result) old new calls = calls-alike other good alike row result old new calls
answered-alike other good alike (TellsTwo row result) old new calls = calls-alike other good alike row result old new calls
answered-alike other good alike (Refers row result) old new calls = calls-alike other good alike row result old new calls

module _ (good : Type 0) where
  -- what the row of one call comes to, in memory with this VM file
  record One (turn : Turn) (old new : KernelState) (f : VmFile) : Type 0 where
    choice : Choice
    chosen : IsChosen good old new choice
    lasts : NeverFell good old new
    file : VmFile
    tied : IsFileOf good new file
    comes : Leads turn choice (memory_of old f) (memory_of new file)
    spans : (span : Span) (ref : Reference) → Stands old span ref → IsFresh (memory_of old f) (stale_by turn choice (memory_of old f)) ref
        → Stands new span ref

  -- the row of one call answers so, and spans that it does not make stale stay
  one : (turn : Turn) (old new : KernelState) → Answered good turn old new → (f : VmFile) → IsFileOf good old f → One turn old new f
  one (Does row result) old new calls f tied =
      let a = calls.answers f tied in record {
        choice = a.choice;
        chosen = a.chosen;
        lasts = a.lasts;
        file =
            a.file;
        tied = a.tied;
        comes = a.comes;
        spans = calls.spans f tied a.choice;
      }
  one (Tells row result) old new calls f tied =
      let a = calls.answers f tied in record {
        choice = a.choice;
        chosen = a.chosen;
        lasts = a.lasts;
        file =
            a.file;
        tied = a.tied;
        comes = a.comes;
        spans = calls.spans f tied a.choice;
      }
  one (TellsTwo row result) old new calls f tied =
      let a = calls.answers f tied in record {
        choice = a.choice;
        chosen = a.chosen;
        lasts = a.lasts;
        file =
            a.file;
        tied = a.tied;
        comes = a.comes;
        spans = calls.spans f tied a.choice;
      }
  one (Refers row result) old new calls f tied =
      let a = calls.answers f tied in record {
        choice = a.choice;
        chosen = a.chosen;
        lasts = a.lasts;
        file =
            a.file;
        tied = a.tied;
        comes = a.comes;
        spans = calls.spans f tied a.choice;
      }

  -- what may come from one kernel on, from an earlier one on
  all-after : (old mid new : KernelState) → NeverFell good old mid → (steps : List Step) → AreChosen good mid new steps → AreChosen good old new steps
  all-after old mid new before [] h = tt
  all-after old mid new before (step ∷ steps) h = (chosen-after good old mid new step.choice before h.0, all-after old mid new before steps h.1)

  -- calls one after another, and the count of failures over them
  record All (turns : List Turn) (old new : KernelState) (f : VmFile) : Type 0 where
    by_rows : AnsweredByRows good turns old new f
    lasts : NeverFell good old new

  all : (turns : List Turn) (old new : KernelState) → InTurn good turns old new → (f : VmFile) → IsFileOf good old f → All turns old new f
  all [] old new same f tied = record {
    by_rows = record {
      steps = [];
      calls = refl;
      chosen = tt;
      file = f;
      tied = subst (λ s. IsFileOf good s f) (sym same) tied;
      run = ap (λ s. memory_of s f) same;
      spans = λ span ref stands spared. subst (λ s. Stands s span ref) (sym same) stands;
    };
    lasts = λ g. inl (ap failed_in same);
  }
  all (turn ∷ turns) old new made f tied =
      let first = one turn old made.0 made.1 f tied in
      let later = all turns made.0 new made.2 first.file first.tied in
      let rest = later.by_rows in
      record {
        by_rows = record {
          steps = record { turn = turn; choice = first.choice } ∷ rest.steps;
          calls = ap (λ l. turn ∷ l) rest.calls;
          chosen = (
            chosen-before good old made.0 new first.choice later.lasts first.chosen,
            all-after old made.0
                new first.lasts rest.steps rest.chosen,
          );
          file = rest.file;
          tied = rest.tied;
          run = (memory_of made.0 first.file, first.comes, rest.run);
          spans = λ span ref stands spared. rest.spans span ref (first.spans span ref stands spared.0) spared.1;
        };
        lasts = lasts-on good old made.0 new first.lasts later.lasts;
      }

  pub calls_answer_in_turn : CallsAnswerInTurn good
  calls_answer_in_turn = record {
    lists = λ turns old new made f tied. (all turns old new made f tied).by_rows;
    given = λ row result old new gives. gives;
  }
