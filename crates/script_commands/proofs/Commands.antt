-- The commands of a script, read line by line.
use Rattle.std.proofs.Common.{◌≡◌, ℕ, ◌+◌, Bool, true, false, List, [], ◌∷◌, Option, Some, None, refl}
use Rattle.std.specs.Prelude.{All, IfSome, option_and_then, option_map, bytes_eq, codes, if◌then◌else◌, ◌&&◌, not}
use Rattle.std.specs.List.{position_from, cons_option, AllByRecursion}
use Rattle.std.proofs.lemmas.List.Elements.{All-from_recursion}
use Rattle.geos_image.specs.Parts.{Parts}
use Rattle.script_commands.specs.declared.command.Call.{Call}
use Rattle.script_commands.specs.declared.command.Command.{Command}
use Rattle.script_commands.specs.declared.command.Command.TheVariants as command
use Rattle.geos_text.specs.Words.{is_empty}
use Rattle.script_commands.specs.declared.command.Numbered.{Numbered}
use Rattle.geos_verify.specs.Entry.{entry_slots}
use Rattle.script_commands.specs.Lines.{IsAdmitted, before_blocks, from_blocks, placed, routine_named, registers_of, call_named, how_named, command_of, commands_from, commands_of, is_bad, on_line, said, may_ask}

-- a line that says nothing
pub commands-blank : (image : Parts) (n : ℕ) (line : List ℕ) (lines : List (List ℕ)) → said line ≡ []
    → (position_from (is_bad image) n (line ∷ lines) ≡ position_from (is_bad image) (n + 1) lines)
    × (commands_from image n (line ∷ lines) ≡ commands_from image (n + 1) lines)
commands-blank image n line lines e = (rw e refl, rw e refl)

and-false : (b : Bool) → (b && false) ≡ false
and-false true = refl
and-false false = refl

-- a line that says a command
pub commands-more : (image : Parts) (n : ℕ) (line : List ℕ) (lines : List (List ℕ)) (c : Command) → command_of image (said line) ≡ Some c
    → (position_from (is_bad image) n (line ∷ lines) ≡ position_from (is_bad image) (n + 1) lines)
    × (commands_from image n (line ∷ lines) ≡ on_line n c ∷ commands_from image (n + 1) lines)
commands-more image n line lines c e =
    let good : is_bad image line ≡ false = rw e (and-false (not (is_empty (said line)))) in
    (rw good refl, rw e refl)

-- a line that says something else
pub commands-bad : (image : Parts) (n : ℕ) (line word : List ℕ) (words : List (List ℕ)) (lines : List (List ℕ))
    → said line ≡ word ∷ words → command_of image (said line) ≡ None
    → position_from (is_bad image) n (line ∷ lines) ≡ Some n
commands-bad image n line word words lines some none =
    let bad : is_bad image line ≡ true = rw (none, some) refl in
    rw bad refl

and_then-some : {T U : Type 0} (P : U → Type 0) (f : T → Option U) (o : Option T) → ((x : T) → IfSome (f x) P) → IfSome (option_and_then f o) P
and_then-some P f None h = tt
and_then-some P f (Some x) h = h x

if_admitted-some : (image : Parts) (call : Call) (b : Bool) → may_ask image call ≡ b
    → IfSome (if b then Some call else None) (λ c. may_ask image c ≡ true)
if_admitted-some image call true e = e
if_admitted-some image call false e = tt

chosen : {T : Type 0} (P : T → Type 0) (b : Bool) (o : Option T) → IfSome o P → IfSome (if b then o else None) P
chosen P true o h = h
chosen P false o h = tt

mapped : {T U : Type 0} (P : U → Type 0) (f : T → U) (o : Option T) → IfSome o (λ x. P (f x)) → IfSome (option_map f o) P
mapped P f None h = tt
mapped P f (Some x) h = h

any-some : {T : Type 0} (o : Option T) → IfSome o (λ x. Unit {0})
any-some None = tt
any-some (Some x) = tt

-- a call in a line is one that the machine admits
pub call_named-admitted : (image : Parts) (name : List ℕ) (numbers : List (List ℕ))
    → IfSome (call_named image name numbers) (λ c. may_ask image c ≡ true)
call_named-admitted image name numbers =
    and_then-some (λ c. may_ask image c ≡ true) _ (routine_named image name)
    (λ r. and_then-some (λ c. may_ask image c ≡ true) _ (registers_of (before_blocks numbers))
    (λ ws. and_then-some (λ c. may_ask image c ≡ true) _ (placed (entry_slots image r) (from_blocks numbers))
    (λ hs. if_admitted-some image (record { routine = r; words = ws; handles = hs }) _ refl)))

-- a command in a line is one that the machine admits
pub command_of-admitted : (image : Parts) (ws : List (List ℕ)) → IfSome (command_of image ws) (IsAdmitted image)
command_of-admitted image [] = tt
command_of-admitted image (word ∷ []) = mapped (IsAdmitted image) command.Commit (how_named word) (any-some (how_named word))
command_of-admitted image (word ∷ name ∷ numbers) = chosen (IsAdmitted image) (bytes_eq word (codes "call")) (option_map command.Call (call_named image name numbers))
    (mapped (IsAdmitted image) command.Call (call_named image name numbers) (call_named-admitted image name numbers))

cons_option-all : {T : Type 0} (P : T → Type 0) (o : Option T) (xs : List T) → IfSome o P → AllByRecursion P xs → AllByRecursion P (cons_option o xs)
cons_option-all P None xs h rest = rest
cons_option-all P (Some x) xs h rest = (h, rest)

each-admitted : (image : Parts) (n : ℕ) (lines : List (List ℕ)) → AllByRecursion (λ c. IsAdmitted image c.command) (commands_from image n lines)
each-admitted image n [] = tt
each-admitted image n (line ∷ lines) = cons_option-all (λ (c : Numbered). IsAdmitted image c.command)
    (option_map (on_line n) (command_of image (said line))) (commands_from image (n + 1) lines)
    (mapped (λ (c : Numbered). IsAdmitted image c.command) (on_line n) (command_of image (said line)) (command_of-admitted image (said line)))
    (each-admitted image (n + 1) lines)

-- so is each command of a script
pub commands-admitted : (image : Parts) (lines : List (List ℕ)) → All (λ c. IsAdmitted image c.command) (commands_of image lines)
commands-admitted image lines = All-from_recursion (λ (c : Numbered). IsAdmitted image c.command) (commands_of image lines)
    (each-admitted image 1 lines)
