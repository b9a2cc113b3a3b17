-- The handles that a call lends, slot by slot.
use Rattle.std.proofs.Common.{◌≡◌, ◌∙◌, ℕ, List, [], ◌∷◌, ◌++◌, length, get_or, refl, sym, ap, arith, append_assoc, append-nil}
use Rattle.geos_image.specs.declared.row.SlotState.{SlotState}
use Rattle.script_commands.specs.Lent.{lent_handle, lent_handles}

-- a list of four
pub four-read : {X : Type 0} (xs : List X) (d : X) → length xs ≡ 4 → xs ≡ get_or xs 0 d ∷ get_or xs 1 d ∷ get_or xs 2 d ∷ get_or xs 3 d ∷ []
four-read [] d e = absurd (omega (arith, e))
four-read (a ∷ []) d e = absurd (omega (arith, e))
four-read (a ∷ b ∷ []) d e = absurd (omega (arith, e))
four-read (a ∷ b ∷ c ∷ []) d e = absurd (omega (arith, e))
four-read (a ∷ b ∷ c ∷ x ∷ []) d e = refl
four-read (a ∷ b ∷ c ∷ x ∷ y ∷ xs) d e = absurd (omega (arith, e))

-- handles that are added one after another are those that are lent
pub lent-four : (a b c d : SlotState) (w x y z : ℕ) (states : List SlotState) (handles none one two three four : List ℕ)
    → states ≡ a ∷ b ∷ c ∷ d ∷ [] → handles ≡ w ∷ x ∷ y ∷ z ∷ [] → none ≡ []
    → one ≡ none ++ lent_handle a w → two ≡ one ++ lent_handle b x → three ≡ two ++ lent_handle c y
    → four ≡ three ++ lent_handle d z → four ≡ lent_handles states handles
lent-four a b c d w x y z states handles none one two three four s h e first second third fourth =
    fourth ∙ ap (λ l. l ++ lent_handle d z)
    (third ∙ ap (λ l. l ++ lent_handle c y) (second ∙ ap (λ l. l ++ lent_handle b x) (first ∙ ap (λ l. l ++ lent_handle a w) e)))
    ∙ append_assoc (lent_handle a w ++ lent_handle b x) (lent_handle c y) (lent_handle d z)
    ∙ append_assoc (lent_handle a w) (lent_handle b x) (lent_handle c y ++ lent_handle d z)
    ∙ ap (λ l. lent_handle a w ++ (lent_handle b x ++ (lent_handle c y ++ l))) (sym (append-nil (lent_handle d z)))
    ∙ sym (ap (λ l. lent_handles l handles) s ∙ ap (λ l. lent_handles (a ∷ b ∷ c ∷ d ∷ []) l) h)
