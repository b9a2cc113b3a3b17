-- The code of a text, from what was declared and what its lines said.
use Rattle.std.proofs.Common.{◌≡◌, ◌∙◌, ℕ, List, Option, Result, sym, ap}
use Rattle.std.specs.Str.Lines.{lines}
use Rattle.geos_source.specs.declared.fault.BadLine.{BadLine}
use Rattle.geos_source.specs.Faults.{first}
use Rattle.geos_source.specs.Declarations.{Declared, declared}
use Rattle.geos_source.specs.Texts.{Draft, Code, draft_of, too_long, without_routine, unless_bad, code_of}

-- the first fault, of which this is known
abbrev pub fault_by : List ℕ → Declared → Draft → Option BadLine
fault_by text d draft = first (first (too_long text) d.fault) (first draft.progress.fault (without_routine draft.progress.part))

abbrev pub code_by : List ℕ → Declared → Draft → Result Code BadLine
code_by text d draft = unless_bad draft (fault_by text d draft)

pub code_of-known : (text : List ℕ) (d : Declared) (draft : Draft) → d ≡ declared (lines text) → draft ≡ draft_of d.names (lines text)
    → code_of text ≡ code_by text d draft
code_of-known text d draft e f = ap (λ x. code_by text x (draft_of x.names (lines text))) (sym e) ∙ ap (code_by text d) (sym f)

pub code_of-found : (text : List ℕ) (d : Declared) (draft : Draft) (fault : Option BadLine) → d ≡ declared (lines text)
    → draft ≡ draft_of d.names (lines text)
    → fault ≡ fault_by text d draft → code_of text ≡ unless_bad draft fault
code_of-found text d draft fault e f known = code_of-known text d draft e f ∙ ap (unless_bad draft) (sym known)
