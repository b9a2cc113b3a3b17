-- What a failed write leaves of a longer text, and of the count of failures.
use Rattle.std.proofs.Common.{◌≡◌, ◌≢◌, ◌<◌, ℕ, suc, List, [], ◌∷◌, ◌++◌, length, take, drop, get_or, sym, ap, ◌∙◌, arith, subst, append_assoc, append-nil, length-append, take-append-drop, drop-cons}
use Rattle.std.specs.Prelude.{Option, Result, Ok, Err, IfOk, IfErr, decimal}
use Rattle.std.specs.Io.KnownBytes.{Appends}
use Rattle.std.proofs.KnownBytes.{Appends-nil, Appends-trans}
use Rattle.std.proofs.lemmas.Grind.{flat_map-append}
use Rattle.geos_input.specs.declared.fault.ScriptFault.{ScriptFault}
use Rattle.geos_input.specs.declared.fault.ScriptFault.TheVariants.{Write}
use Rattle.geos_input.specs.Counted.{AppendsPart}
use Rattle.geos_input.specs.Fault.{KeptUnless}
use Rattle.vm_file.specs.Device.{Rose}
use Rattle.script_commands.specs.Outputs.{printed}

-- what holds at all holds at each error
pub IfErr-any : {A E : Type 0} {P : Type 0} (result : Result A E) → P → IfErr result (λ _. P)
IfErr-any (Ok x) p = tt
IfErr-any (Err e) p = p

-- if the only fault is the writer's, any claim about other faults is true
pub only-write : {A : Type 0} (P Q : Type 0) (result : Result A ScriptFault) → IfErr result (λ fault. (fault ≡ Write) × P)
    → IfErr result (λ fault. fault ≢ Write → Q)
only-write P Q (Ok x) h = tt
only-write P Q (Err e) h = λ other. absurd (other h.0)

-- the count of failures was unchanged, and then rose with the writer's fault
pub rose-since : {A : Type 0} (a b c : ℕ) (result : Result A ScriptFault) → b ≡ a → IfErr result (λ fault. (fault ≡ Write) × Rose b c)
    → IfErr result (λ fault. fault ≡ Write → Rose a c)
rose-since a b c (Ok x) same h = tt
rose-since a b c (Err e) same h = λ is. subst (λ n. Rose n c) same h.1

-- the count is unchanged unless the writer failed
pub kept-since : {A : Type 0} (P : Type 0) (a b c : ℕ) (result : Result A ScriptFault) → b ≡ a → IfOk result (λ _. c ≡ b)
    → IfErr result (λ fault. (fault ≡ Write) × P) → KeptUnless Write result a c
kept-since P a b c (Ok x) same kept h = kept ∙ same
kept-since P a b c (Err e) same kept h = λ other. absurd (other h.0)

-- a part of bytes between others is a part of all of them
pub part-between : (a b c : Option (List ℕ)) (front bytes behind : List ℕ) → Appends a b front → AppendsPart b c bytes
    → AppendsPart a c (front ++ (bytes ++ behind))
part-between a b c front bytes behind p (part, rest, e, some, q) =
    let whole : front ++ (bytes ++ behind) ≡ (front ++ part) ++ (rest ++ behind) =
    ap (λ bs. front ++ (bs ++ behind)) e ∙ ap (λ bs. front ++ bs) (append_assoc part rest behind) ∙ sym (append_assoc front part (rest ++ behind)) in
    let more : 0 < length (rest ++ behind) = omega (arith, length-append rest behind, some) in
    (front ++ part, rest ++ behind, whole, more, Appends-trans a b c front part p q)

-- what holds at each error gives what follows from it
pub IfErr-map : {A E P Q : Type 0} (result : Result A E) → (P → Q) → IfErr result (λ _. P) → IfErr result (λ _. Q)
IfErr-map (Ok x) m p = tt
IfErr-map (Err e) m p = m p

-- a part of the first bytes is a part of all
pub part-first : (a b : Option (List ℕ)) (bytes behind : List ℕ) → AppendsPart a b bytes → AppendsPart a b (bytes ++ behind)
part-first a b bytes behind q = part-between a a b [] bytes behind (Appends-nil a) q

-- a part of the last bytes, after all others, is a part of all of them
pub part-last : (a b c d : Option (List ℕ)) (front bytes last : List ℕ) → Appends a b front → Appends b c bytes
    → AppendsPart c d last → AppendsPart a d (front ++ (bytes ++ last))
part-last a b c d front bytes last p q r =
    subst (AppendsPart a d) (ap (λ bs. (front ++ bytes) ++ bs) (append-nil last) ∙ append_assoc front bytes last)
    (part-between a c d (front ++ bytes) last [] (Appends-trans a b c front bytes p q) r)

-- a printed word comes between the words before it and those after it
pub printed-at : (words : List ℕ) (k : ℕ) → k < length words
    → printed words ≡ printed (take k words) ++ (decimal (get_or words k 0) ++ (10 ∷ printed (drop (suc k) words)))
printed-at words k lt =
    let line : ℕ → List ℕ = λ word. decimal word ++ 10 ∷ [] in
    let w = get_or words k 0 in
    let rest = drop (suc k) words in
    let split : words ≡ take k words ++ (w ∷ rest) = sym (take-append-drop k words) ∙ ap (λ ws. take k words ++ ws) (drop-cons words k 0 lt) in
    ap printed split ∙ flat_map-append line (take k words) (w ∷ rest) ∙ ap (λ bs. printed (take k words) ++ bs)
    (append_assoc (decimal w) (10 ∷ []) (printed rest))

-- the writer failed at the digits of a word
pub part-digits : (a b c : Option (List ℕ)) (words : List ℕ) (k : ℕ) → k < length words
    → Appends a b (printed (take k words)) → AppendsPart b c (decimal (get_or words k 0)) → AppendsPart a c (printed words)
part-digits a b c words k lt p q =
    subst (AppendsPart a c) (sym (printed-at words k lt))
    (part-between a b c (printed (take k words)) (decimal (get_or words k 0)) (10 ∷ printed (drop (suc k) words)) p q)

-- the writer failed at the line feed after the digits
pub part-line-feed : (a b c d : Option (List ℕ)) (words : List ℕ) (k : ℕ) → k < length words
    → Appends a b (printed (take k words)) → Appends b c (decimal (get_or words k 0)) → AppendsPart c d (10 ∷ []) → AppendsPart a d (printed words)
part-line-feed a b c d words k lt p q r =
    let front = printed (take k words) in
    let digits = decimal (get_or words k 0) in
    let behind = printed (drop (suc k) words) in
    let whole = printed-at words k lt ∙ sym (append_assoc front digits (10 ∷ behind)) in
    subst (AppendsPart a d) (sym whole) (part-between a c d (front ++ digits) (10 ∷ []) behind (Appends-trans a b c front digits p q) r)
