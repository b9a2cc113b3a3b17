-- The definitions of lines, computed on examples.
use Rattle.std.proofs.Common.{◌≡◌, [], ◌∷◌, Some, None, refl}
use Rattle.std.specs.Prelude.{codes}
use Rattle.std.specs.Fmt.{digits}
use Rattle.geos_text.specs.Words.{words}
use Rattle.script_commands.specs.Lines.{registers_of}
use Rattle.script_commands.specs.Names.{Names, in_place, kept_name, word_of}

-- missing numbers of a call are 0
registers_computed : registers_of (codes "2" ∷ codes "3" ∷ []) ≡ Some (2 ∷ 3 ∷ 0 ∷ 0 ∷ 0 ∷ 0 ∷ 0 ∷ 0 ∷ [])
registers_computed = refl

-- `h` stands for 5
abbrev h_is_5 : Names
h_is_5 = (codes "h", Some 5) ∷ []

-- lines that write names, and what names stand for
pub record NamesInLines : Type 0 where
  -- a name that was set is replaced by its word, also after `@`; other words are unchanged
  pub used : in_place h_is_5 (words (codes "call use $h 07 @$h @3")) ≡ Some (codes " call use 5 07 @5 @3")
  -- the words after `->` are no part of the line
  pub set : in_place h_is_5 (words (codes "call make 1 -> h")) ≡ Some (codes " call make 1")
  pub name : kept_name (words (codes "call make 1 -> h")) ≡ Some (codes "h")
  pub two_names : kept_name (words (codes "call make 1 -> h g")) ≡ None
  pub no_name : kept_name (words (codes "call make 1 -> -h")) ≡ None
  -- a name that is used before it is set has no word
  pub before : in_place [] (words (codes "call use $h")) ≡ None
  pub before_at : in_place [] (words (codes "call use @$h")) ≡ None
  pub other : in_place h_is_5 (words (codes "call use $H")) ≡ None
  -- of two words under one name the later counts; the name has no word if the last call output none
  pub later : word_of (codes "h") ((codes "h", Some 5) ∷ (codes "g", Some 6) ∷ (codes "h", Some 7) ∷ []) ≡ Some 7
  pub gone : word_of (codes "h") ((codes "h", Some 5) ∷ (codes "h", None) ∷ []) ≡ None

names_computed : NamesInLines
unfolding digits
names_computed = record {
  used = refl;
  set = refl;
  name = refl;
  two_names = refl;
  no_name = refl;
  before = refl;
  before_at = refl;
  other = refl;
  later = refl;
  gone = refl;
}
