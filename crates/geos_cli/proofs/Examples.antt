-- The definitions of scripts and sessions, computed on examples.
use Rattle.std.proofs.Common.{◌≡◌, ℕ, Bool, true, false, [], ◌∷◌, Some, None, refl}
use Rattle.std.specs.Prelude.{Err, codes, nat_lt}
use Rattle.std.specs.Str.Lines.{lines}
use Rattle.geos_input.specs.Hex.{hex_fault, image_bytes, script_lines}
use Rattle.geos_terms.specs.declared.refusal.Refusal.TheVariants as refusal
use Rattle.geos_terms.specs.Refusals.{first_refusal}
use Rattle.geos_calls.specs.Effects.{Choice, come_to, effect_of, outcome}
use Rattle.geos_calls.specs.Given.{given_memory}
use Rattle.geos_calls.specs.Memory.{Memory}
use Rattle.geos_calls.specs.VmCalls.{Keeper, commit, committed, left_by_commit, pair_to_keep}
use Rattle.geos_calls.specs.VmFile.{Pair, is_unsure, pair_length}
use Rattle.geos_cli.specs.Session.{IsInMemory}

-- an image in digits, its three faults, and the script after it
pub record Sessions : Type 0 where
  pub good : hex_fault (lines (codes "47 5\n2\t5431\n end \ncall add\n")) ≡ None
  pub image : image_bytes (lines (codes "47 5\n2\t5431\n end \ncall add\n")) ≡ 0x47 ∷ 0x52 ∷ 0x54 ∷ 0x31 ∷ []
  pub script : script_lines (lines (codes "47 5\n2\t5431\n end \ncall add\n")) ≡ codes "call add" ∷ []
  pub upper : image_bytes (lines (codes "aAfF\nend")) ≡ 0xaa ∷ 0xff ∷ []
  pub other : hex_fault (lines (codes "47\n4g\nzz\nend")) ≡ Some 2
  pub missing : hex_fault (lines (codes "4752\n")) ≡ Some 0
  pub other_first : hex_fault (lines (codes "47\nEND")) ≡ Some 2
  pub odd : hex_fault (lines (codes "47\n5\nend\n")) ≡ Some 3

sessions_computed : Sessions
sessions_computed = record { good = refl; image = refl; script = refl; upper = refl; other = refl; missing = refl; other_first = refl; odd = refl }

-- in a session no commit is refused 11
pub commit_computed : (keeper : Keeper) (before now : ℕ) (choice : Choice) (memory : Memory) → IsInMemory before now choice
    → (outcome (effect_of (commit keeper) choice memory)).0 ≡ Err refusal.Disk → ⊥
commit_computed keeper before now choice memory allowed =
    on (is_unsure given.file.kept) (nat_lt given.file.area (pair_length pair)) choice.memory choice.device allowed.device
  where
    given : Memory
    given = given_memory choice.given memory

    pair : Pair
    pair = pair_to_keep keeper given

    on : (unsure big memory device : Bool) → device ≡ false
        → (come_to {A = Unit {0}} (first_refusal ((unsure, refusal.Unsure) ∷ (big, refusal.TooBig) ∷ (memory, refusal.Memory)
        ∷ (device, refusal.Disk) ∷ [])) (left_by_commit choice given pair) tt (committed given pair)).0 ≡ Err refusal.Disk → ⊥
    on true big memory device none is = absurd cc
    on false true memory device none is = absurd cc
    on false false true device none is = absurd cc
    on false false false true none is = absurd cc
    on false false false false none is = absurd cc
