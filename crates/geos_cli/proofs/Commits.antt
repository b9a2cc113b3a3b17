-- Counts of locks over commits.
use Rattle.std.proofs.Common.{◌≡◌, Option, Some, None, ap, ◌∙◌, subst}
use Rattle.std.specs.Prelude.{Result}
use Rattle.std.proofs.lemmas.Bool.{cond_both}
use Rattle.geos_terms.specs.declared.refusal.Refusal.{Refusal}
use Rattle.geos_terms.specs.declared.refusal.Refusal.TheVariants as refusal
use Rattle.geos_terms.specs.Names.{vm}
use Rattle.geos_terms.specs.Refusals.{first_refusal}
use Rattle.geos_calls.specs.Memory.{Memory}
use Rattle.geos_calls.specs.Given.{given_memory}
use Rattle.geos_calls.specs.Effects.{Choice, outcome, effect_of, come_to}
use Rattle.geos_calls.specs.VmCalls.{Keeper, commit, committed, in_doubt, left_by_commit, pair_to_keep}
use Rattle.geos_calls.specs.VmFile.{Pair}
use Rattle.geos_calls.specs.Leaving.{NoneLocked}
use Rattle.geos_calls.proofs.Counted.{commit-counts}
use Rattle.geos_calls.proofs.LegalGiven.{locks_of-given}

-- if no block of the file was locked before a refused commit, none is afterwards
left-unlocked : (choice : Choice) (m : Memory) (pair : Pair) (why : Refusal) → NoneLocked m → NoneLocked (left_by_commit choice m pair why)
left-unlocked choice m pair refusal.Disk none = cond_both choice.unsure (in_doubt m pair) m NoneLocked (λ late. none) (λ early. none)
left-unlocked choice m pair why none = none

-- the same for every commit
pub commit-unlocked : (keeper : Keeper) (choice : Choice) (m after : Memory) (result : Result (Unit {0}) Refusal)
    → NoneLocked m → outcome (effect_of (commit keeper) choice m) ≡ (result, after) → NoneLocked after
commit-unlocked keeper choice m after result none comes = subst NoneLocked (ap (λ (x : Result (Unit {0}) Refusal × Memory). x.1) comes)
    (go (first_refusal (effect_of (commit keeper) choice m).refusals))
  where
    given : Memory
    given = given_memory choice.given m

    none_given : NoneLocked given
    none_given h = locks_of-given choice.given m (vm h) ∙ none h

    pair : Pair
    pair = pair_to_keep keeper given

    go : (o : Option Refusal) → NoneLocked (come_to {A = Unit {0}} o (left_by_commit choice given pair) tt (committed given pair)).1
    go None = λ h. commit-counts given pair none_given (vm h) ∙ none_given h
    go (Some why) = left-unlocked choice given pair why none_given
