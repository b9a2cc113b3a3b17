-- What the two writes of a commit leave, in turn.
use Rattle.std.proofs.Common.{◌≡◌, ◌⊎◌, ℕ, zero, suc, ◌+◌, ◌-◌, ◌*◌, ◌<◌, ◌≤◌, Bool, true, false, not, List, [], ◌∷◌, ◌++◌, length, take, drop, get_or, Result, Ok, refl, ap, sym, ◌∙◌, subst, inl, inr, ⊎_elim, arith, length-take, append-nil}
use Rattle.std.specs.Prelude.{MatchBool}
use Rattle.std.proofs.lemmas.List.{drop_at}
use Rattle.lmem_raw.specs.Bytes.{part, with_part}
use Rattle.lmem_raw.proofs.Parts.{with_part-split}
use Rattle.vm_file.specs.declared.directory.Directory.{Directory}
use Rattle.vm_file.specs.declared.commit.How.{How}
use Rattle.vm_file.specs.declared.commit.How.TheVariants.{Update, Save, Revert}
use Rattle.vm_file.specs.Committing.{FindsEither, IsContentsOf, Spells, current_after, saved_after}
use Rattle.vm_file.specs.Contents.{Contents, Pair, contents_spelling, listed, pair_in}
use Rattle.vm_file.specs.Device.{AfterWrite, IsSteady, Medium, NoneFails, Only, Passes, Touched}
use Rattle.vm_file.specs.Directories.{is_directory, directory_length}
use Rattle.vm_file.specs.Outcomes.{WritesOnly}
use Rattle.vm_file.specs.Reading.{header_at, pair_at, found, is_second, base_of, area_of}
use Rattle.vm_file.specs.State.{FileState, Finds, HasRoom, Holds, IsSound, IsOther, Leaves, pair_of}
use Rattle.vm_file.proofs.Moments.{weaker, goes_on}
use Rattle.vm_file.proofs.NewFiles.{take-append-ge}
use Rattle.vm_file.proofs.ReadLaws.{pair_ok}
use Rattle.vm_file.proofs.SpellLaws.{pair_again}
use Rattle.vm_file.proofs.StopLaws.{areas_apart, part_before, part_behind, header_kept, finds, found_sure, found_unsure}
use Rattle.vm_file.proofs.Touches.{touched_more, touched_not}

touched_back : (at n : ℕ) (old new : List ℕ) → Touched at n old new → Touched at n new old
touched_back at n old new t = record { long = sym t.long; before = sym t.before; behind = sym t.behind }

touched_then : (at n : ℕ) (old mid new : List ℕ) → Touched at n old mid → Touched at n mid new → Touched at n old new
touched_then at n old mid new one two = record { long = two.long ∙ one.long; before = two.before ∙ one.before; behind = two.behind ∙ one.behind }

-- a write in the one area leaves the other
area_kept : (old new : List ℕ) (area : ℕ) (b : Bool) → Touched (base_of area (not b)) area old new → area_of new area b ≡ area_of old area b
area_kept old new area b t = elim (areas_apart area b).1 [
  | inl low ↦ part_before new old (base_of area (not b)) (base_of area b) area low t.before
  | inr high ↦ part_behind new old (base_of area (not b) + area) (base_of area b) area high t.behind
]

-- a write of the selector leaves both
area_behind : (old new : List ℕ) (area : ℕ) (b : Bool) → Touched 512 1 old new → area_of new area b ≡ area_of old area b
area_behind old new area b t = part_behind new old 513 (base_of area b) area (areas_apart area b).0 t.behind

-- the bytes that were written begin the area
part_written : (xs ws : List ℕ) (at m : ℕ) → length ws ≤ m → at + length ws ≤ length xs
    → part (with_part xs at ws) at m ≡ ws ++ take (m - length ws) (drop (at + length ws) xs)
part_written xs ws at m small fits =
    let rest = drop (at + length ws) xs in
    let front : length (take at xs) ≡ at = length-take at xs ∙ omega (arith, fits) in
    ap (λ l. part l at m) (sym (with_part-split xs at (at + length ws) ws refl fits))
    ∙ ap (take m) (drop_at (take at xs) (ws ++ rest) at front) ∙ take-append-ge ws rest m (m - length ws) (omega (arith, small))

-- the byte that was written
byte_written : (xs : List ℕ) (at v : ℕ) → at < length xs → get_or (with_part xs at (v ∷ [])) at 0 ≡ v
byte_written [] at v h = absurd (omega arith)
byte_written (x ∷ xs) zero v h = refl
byte_written (x ∷ xs) (suc at) v h = byte_written xs at v (omega arith)

-- a pair whose directories are known is cut from its spelling, whatever follows
pub pair_cut : (x y : Directory) (q : Pair) (bytes rest : List ℕ) (at : ℕ) → Spells x y q bytes → (pair_at at (bytes ++ rest) ≡ Ok q)
    × (pair_in x y (bytes ++ rest) ≡ q)
pair_cut x y q bytes rest at spells =
    let again : pair_at at (bytes ++ rest) ≡ Ok q = ap (λ l. pair_at at (l ++ rest)) spells.spelled
    ∙ pair_again q at rest spells.cur_legal spells.saved_legal in
    let cut = (pair_ok at (bytes ++ rest) q again).there in (
      again,
      ap (λ d. pair_in d y (bytes ++ rest)) (sym spells.cur_listed)
          ∙ ap (λ d. pair_in (listed q.cur) d (bytes ++ rest)) (sym spells.saved_listed) ∙ cut,
    )

-- the encodings of two legal directories, one after the other
pub spells_pair : (x y : Directory) (a b : Contents) (bytes : List ℕ) → bytes ≡ contents_spelling a ++ contents_spelling b
    → IsContentsOf x a → IsContentsOf y b → Spells x y (let q : Pair = record { cur = a; saved = b } in q) bytes
spells_pair x y a b bytes is one two = record {
  spelled = is;
  cur_legal = one.legal;
  saved_legal = two.legal;
  cur_listed =
      one.lists;
  saved_listed = two.lists;
}

pub pair_whole : (x y : Directory) (q : Pair) (bytes : List ℕ) → Spells x y q bytes → pair_in x y bytes ≡ q
pair_whole x y q bytes spells = ap (pair_in x y) (sym (append-nil bytes)) ∙ (pair_cut x y q bytes [] 0 spells).1

-- the directories that a commit keeps are legal
pub current_legal : (how : How) (cur saved : Directory) → is_directory cur ≡ true → is_directory saved ≡ true
    → is_directory (current_after how cur saved) ≡ true
current_legal Update cur saved c s = c
current_legal Save cur saved c s = c
current_legal Revert cur saved c s = s

pub saved_legal : (how : How) (cur saved : Directory) → is_directory cur ≡ true → is_directory saved ≡ true
    → is_directory (saved_after how cur saved) ≡ true
saved_legal Update cur saved c s = s
saved_legal Save cur saved c s = c
saved_legal Revert cur saved c s = s

-- a sure file keeps its pair
pub sure_finds : {D : Type 0} (image : D → List ℕ) (f : FileState D) (c : List ℕ) → f.sure ≡ true → found c ≡ Ok (pair_of image f) → Finds image f c
sure_finds image f c sure is =
    let P : Bool → Type 0 = λ t. MatchBool t (found c ≡ Ok (pair_of image f))
    ((found c ≡ Ok (pair_of image f)) ⊎ ((q : Pair) × IsOther image f q × (found c ≡ Ok q))) in
    subst P (sym sure) is

-- `open` finds the one pair or the other
abbrev FindsOneOf : Pair → Pair → List ℕ → Type 0
FindsOneOf before after c = (found c ≡ Ok before) ⊎ (found c ≡ Ok after)

module _ {D : Type 0} (medium : Medium D) (f : FileState D) (sound : IsSound medium f) (sure : f.sure ≡ true) where
  -- where the other area begins
  abbrev other : ℕ
  other = base_of f.area (not f.second)

  -- the same file, its device in another state
  abbrev pub on : D → Bool → FileState D
  on d b = record { device = d; area = f.area; second = f.second; sure = b; current = f.current; saved = f.saved }

  settled : medium.honest f.device → (is_second (get_or (medium.image f.device) 512 0) ≡ f.second)
      × ((c : List ℕ) → medium.may_leave f.device c → Touched other f.area (medium.image f.device) c)
  settled h =
      let P : Bool → Type 0 = λ b. MatchBool b
      ((is_second (get_or (medium.image f.device) 512 0) ≡ f.second)
      × ((c : List ℕ) → medium.may_leave f.device c → Touched other f.area (medium.image f.device) c))
      (((q : Pair) × IsOther medium.image f q) × ((c : List ℕ) → medium.may_leave f.device c → Touched 512 1 (medium.image f.device) c)) in
      subst P sure (sound.holds h).leaves

  sure_leaves : (d : D) (b : Bool) (x y : Directory) → is_second (get_or (medium.image d) 512 0) ≡ b
      → ((c : List ℕ) → medium.may_leave d c → Touched (base_of f.area (not b)) f.area (medium.image d) c) →
      Leaves medium (let g : FileState D = record { device = d; area = f.area; second = b; sure = f.sure; current = x; saved = y } in g)
  sure_leaves d b x y named stop =
      let g : FileState D = record { device = d; area = f.area; second = b; sure = f.sure; current = x; saved = y } in
      let P : Bool → Type 0 = λ t. MatchBool t
      ((is_second (get_or (medium.image d) 512 0) ≡ b)
      × ((c : List ℕ) → medium.may_leave d c → Touched (base_of f.area (not b)) f.area (medium.image d) c))
      (((q : Pair) × IsOther medium.image g q) × ((c : List ℕ) → medium.may_leave d c → Touched 512 1 (medium.image d) c)) in
      subst P (sym sure) (named, stop)

  -- the file after a write of the other area that failed
  pub record TornFile (s : D) : Type 0 where
    pub legal : IsSound medium (on s f.sure)
    pub pair : medium.honest f.device → pair_of medium.image (on s f.sure) ≡ pair_of medium.image f
    pub either : medium.honest f.device → Passes medium.may_have_left f.device s (FindsEither medium.image f (on s f.sure))
    pub finds : medium.honest f.device → (c : List ℕ) → medium.may_leave s c → Finds medium.image (on s f.sure) c

  -- the file after a write of the selector that failed
  pub record UnsureFile (w : D) (q : Pair) : Type 0 where
    pub legal : IsSound medium (on w false)
    pub pair : medium.honest f.device → pair_of medium.image (on w false) ≡ pair_of medium.image f
    pub other : medium.honest f.device → IsOther medium.image (on w false) q
    pub either : medium.honest f.device → Passes medium.may_have_left f.device w (FindsEither medium.image f (on w false))
    pub finds : medium.honest f.device → (c : List ℕ) → medium.may_leave w c → Finds medium.image (on w false) c

  -- the other area is selected
  abbrev pub turned_to : D → Directory → Directory → FileState D
  turned_to w x y = record { device = w; area = f.area; second = not f.second; sure = f.sure; current = x; saved = y }

  -- the file after both writes
  pub record SelectedFile (w : D) (x y : Directory) (q : Pair) : Type 0 where
    pub legal : IsSound medium (turned_to w x y)
    pub pair : medium.honest f.device → pair_of medium.image (turned_to w x y) ≡ q
    pub either : medium.honest f.device → Passes medium.may_have_left f.device w (FindsEither medium.image f (turned_to w x y))
    pub finds : medium.honest f.device → (c : List ℕ) → medium.may_leave w c → Finds medium.image (turned_to w x y) c

  -- the other area is written, in part or whole
  module _ (s : D) (n : ℕ) (small : n ≤ f.area) (writes : WritesOnly medium other n f.device s) where
    torn : medium.honest f.device → Touched other f.area (medium.image f.device) (medium.image s)
    torn h = touched_more other n f.area (medium.image f.device) (medium.image s) small (writes.torn h)

    after : medium.honest f.device → (c : List ℕ) → AfterWrite other n (medium.may_leave f.device) c → Touched other f.area (medium.image f.device) c
    after h c a = touched_then other f.area (medium.image f.device) a.0 c ((settled h).1 a.0 a.1) (touched_more other n f.area a.0 c small a.2)

    pub torn_pair : (b : Bool) → medium.honest f.device → pair_of medium.image (on s b) ≡ pair_of medium.image f
    torn_pair b h = ap (pair_in f.current f.saved) (area_kept (medium.image f.device) (medium.image s) f.area f.second (torn h))

    pub torn_holds : medium.honest f.device → Holds medium (on s f.sure)
    torn_holds h =
        let was = sound.holds h in
        let n = was.long in
        let head = header_kept (medium.image s) (medium.image f.device) other f.area (areas_apart f.area (not f.second)).0 (torn h) in
        record {
          long = omega (arith, n, writes.long);
          header = ap header_at head.0 ∙ was.header;
          pair = ap (pair_at (base_of f.area f.second)) (area_kept (medium.image f.device) (medium.image s) f.area f.second (torn h))
              ∙ was.pair ∙ ap (λ p. let r : Result Pair ℕ = Ok p in r) (sym (torn_pair f.sure h));
          leaves = sure_leaves s f.second f.current f.saved
              (ap is_second head.1 ∙ (settled h).0)
              (λ c l. touched_then other f.area (medium.image s) (medium.image f.device) c
              (touched_back other f.area (medium.image f.device) (medium.image s) (torn h)) (after h c (writes.stop h c l)));
        }

    pub torn_sound : IsSound medium (on s f.sure)
    torn_sound = record {
      area = sound.area;
      current = sound.current;
      saved = sound.saved;
      fits = sound.fits;
      within = (let n = writes.long in let m = sound.within in omega (arith, n, m));
      holds = (λ h. torn_holds (writes.was h));
    }

    -- a stop in it finds the pair from before
    torn_finds : medium.honest f.device → (c : List ℕ) → AfterWrite other n (medium.may_leave f.device) c → found c ≡ Ok (pair_of medium.image f)
    torn_finds h c a =
        let was = sound.holds h in
        found_sure medium f c was.long was.header (settled h).0 was.pair (after h c a)

    torn_passes : (q : Pair) → medium.honest f.device → Passes medium.may_have_left f.device s (FindsOneOf (pair_of medium.image f) q)
    torn_passes q h = weaker medium.may_have_left f.device s _ _ (λ c a. inl (torn_finds h c a)) (writes.time h)

    -- the pair of the file as it was
    was_found : (c : List ℕ) → found c ≡ Ok (pair_of medium.image f) → Finds medium.image f c
    was_found c is = sure_finds medium.image f c sure is

    pub torn_file : TornFile s
    torn_file = record {
      legal = torn_sound;
      pair = torn_pair f.sure;
      either = (λ h. weaker medium.may_have_left f.device s _ _ (λ c a. inl (was_found c (torn_finds h c a))) (writes.time h));
      finds = (λ h c l. finds medium (on s f.sure) (torn_holds h) c l);
    }

    -- the pair is there, and then the selector is written
    module _ (bytes : List ℕ) (x y : Directory) (q : Pair) (count : n ≡ length bytes)
        (fits : other + length bytes ≤ length (medium.image f.device)) (spells : medium.honest f.device → Spells x y q bytes)
        (there : medium.honest f.device → medium.image s ≡ with_part (medium.image f.device) other bytes)
        (only : medium.honest f.device → Only (medium.image s) (medium.may_leave s)) (w : D) (selects : WritesOnly medium 512 1 s w) where
      behind : List ℕ
      behind = take (f.area - length bytes) (drop (other + length bytes) (medium.image f.device))

      written : medium.honest f.device → area_of (medium.image s) f.area (not f.second) ≡ bytes ++ behind
      unfolding behind
      written h = ap (λ l. part l other f.area) (there h) ∙ part_written (medium.image f.device) bytes other f.area (omega (arith, small, count)) fits

      pub other_there : medium.honest f.device → pair_at other (area_of (medium.image s) f.area (not f.second)) ≡ Ok q
      other_there h = ap (pair_at other) (written h) ∙ (pair_cut x y q bytes behind other (spells h)).0

      turned : medium.honest f.device → (c : List ℕ) → AfterWrite 512 1 (medium.may_leave s) c → Touched 512 1 (medium.image s) c
      turned h c a = subst (λ d. Touched 512 1 d c) (only h a.0 a.1) a.2

      select_finds : medium.honest f.device → (c : List ℕ) → AfterWrite 512 1 (medium.may_leave s) c → FindsOneOf (pair_of medium.image f) q c
      select_finds h c a =
          let now = torn_holds h in
          let P : Pair → Type 0 = λ p. (found c ≡ Ok p) ⊎ (found c ≡ Ok q) in
          subst P (torn_pair false h) (found_unsure medium (on s false) c q now.long now.header now.pair (other_there h) (turned h c a))

      select_passes : medium.honest f.device → Passes medium.may_have_left f.device w (FindsOneOf (pair_of medium.image f) q)
      select_passes h = goes_on medium.may_have_left f.device s w _ (torn_passes q h)
          (weaker medium.may_have_left s w _ _ (select_finds h) (selects.time (writes.stays h)))

      turned_now : medium.honest f.device → Touched 512 1 (medium.image s) (medium.image w)
      turned_now h = selects.torn (writes.stays h)

      pub unsure_pair : medium.honest f.device → pair_of medium.image (on w false) ≡ pair_of medium.image f
      unsure_pair h = ap (pair_in f.current f.saved) (area_behind (medium.image s) (medium.image w) f.area f.second (turned_now h))
          ∙ torn_pair false h

      pub unsure_other : medium.honest f.device → IsOther medium.image (on w false) q
      unsure_other h = ap (pair_at other) (area_behind (medium.image s) (medium.image w) f.area (not f.second) (turned_now h)) ∙ other_there h

      pub unsure_holds : medium.honest f.device → Holds medium (on w false)
      unsure_holds h =
          let now = torn_holds h in
          let n = now.long in
          record {
            long = omega (arith, n, selects.long);
            header = ap header_at (turned_now h).before ∙ now.header;
            pair = ap (pair_at (base_of f.area f.second)) (area_behind (medium.image s) (medium.image w) f.area f.second (turned_now h)) ∙ now.pair
                ∙ ap (λ p. let r : Result Pair ℕ = Ok p in r) (torn_pair f.sure h ∙ sym (unsure_pair h));
            leaves = (
              (q, unsure_other h),
              (λ c l. touched_then 512 1 (medium.image w) (medium.image s) c (touched_back 512 1 (medium.image s) (medium.image w) (turned_now h))
                  (turned h c (selects.stop (writes.stays h) c l))),
            );
          }

      pub unsure_sound : IsSound medium (on w false)
      unsure_sound = record {
        area = sound.area;
        current = sound.current;
        saved = sound.saved;
        fits = sound.fits;
        within = (let n = writes.long in let k = selects.long in let m = sound.within in omega (arith, n, k, m));
        holds = (λ h. unsure_holds (writes.was (selects.was h)));
      }

      pub unsure_file : UnsureFile w q
      unsure_file = record {
        legal = unsure_sound;
        pair = unsure_pair;
        other = unsure_other;
        either = (λ h. weaker medium.may_have_left f.device w _ _
            (λ c found_one. ⊎_elim (λ is. inl (was_found c is)) (λ is. inr (inr (q, unsure_other h, is))) found_one) (select_passes h));
        finds = (λ h c l. finds medium (on w false) (unsure_holds h) c l);
      }

      -- and it lasts
      module _ (selector : ℕ) (names : is_second selector ≡ not f.second) (turns : medium.honest f.device
          → medium.image w ≡ with_part (medium.image s) 512 (selector ∷ [])) (lasts : medium.honest f.device
          → Only (medium.image w) (medium.may_leave w))
          (x_legal : is_directory x ≡ true) (y_legal : is_directory y ≡ true) (long : directory_length x + directory_length y ≡ length bytes) where
        abbrev selected : FileState D
        selected = turned_to w x y

        area_now : medium.honest f.device → area_of (medium.image w) f.area (not f.second) ≡ bytes ++ behind
        area_now h = area_behind (medium.image s) (medium.image w) f.area (not f.second) (turned_now h) ∙ written h

        pub selected_pair : medium.honest f.device → pair_of medium.image selected ≡ q
        selected_pair h = ap (pair_in x y) (area_now h) ∙ (pair_cut x y q bytes behind other (spells h)).1

        pub selected_holds : medium.honest f.device → Holds medium selected
        selected_holds h =
            let now = torn_holds h in
            let n = now.long in
            let sel : get_or (medium.image w) 512 0 ≡ selector = ap (λ l. get_or l 512 0) (turns h) ∙ byte_written (medium.image s) 512 selector n in
            record {
              long = omega (arith, n, selects.long);
              header = ap header_at (turned_now h).before ∙ now.header;
              pair = ap (pair_at other) (area_now h) ∙ (pair_cut x y q bytes behind other (spells h)).0
                  ∙ ap (λ p. let r : Result Pair ℕ = Ok p in r) (sym (selected_pair h));
              leaves = sure_leaves w (not f.second) x y
                  (ap is_second sel ∙ names)
                  (λ c l. subst (Touched (base_of f.area (not (not f.second))) f.area (medium.image w)) (sym (lasts h c l))
                  (touched_not _ _ (medium.image w)));
            }

        pub selected_sound : IsSound medium selected
        selected_sound = record {
          area = sound.area;
          current = x_legal;
          saved = y_legal;
          fits = omega (arith, long, small, count);
          within = (let n = writes.long in let k = selects.long in omega (arith, n, k, fits, long));
          holds = (λ h. selected_holds (writes.was (selects.was h)));
        }

        pub selected_file : SelectedFile w x y q
        selected_file = record {
          legal = selected_sound;
          pair = selected_pair;
          either = (λ h. weaker medium.may_have_left f.device w _ _
              (λ c found_one. ⊎_elim (λ is. inl (was_found c is))
              (λ is. inr (sure_finds medium.image selected c sure (is ∙ ap (λ p. let r : Result Pair ℕ = Ok p in r) (sym (selected_pair h)))))
              found_one) (select_passes h));
          finds = (λ h c l. finds medium selected (selected_holds h) c l);
        }

-- an area begins at most at this offset
base_most : (area : ℕ) (b : Bool) → base_of area b ≤ 1024 + area
base_most area true = omega arith
base_most area false = omega arith

-- of a steady device that has room for the file neither write fails: of the area that is not selected, and of the selector
module _ {D : Type 0} (medium : Medium D) (f : FileState D) (base n : ℕ) (is : base ≡ base_of f.area (not f.second)) (fits : n ≤ f.area) (mid : D)
    (long : length (medium.image mid) ≡ length (medium.image f.device)) (passed : base + n ≤ length (medium.image f.device)
    → NoneFails medium f.device mid) where
  pub area_steadily : IsSteady medium → HasRoom medium.image f → (1024 + 2 * f.area ≤ length (medium.image mid))
      × (medium.failed mid ≡ medium.failed f.device)
  area_steadily steady room = (let most = base_most f.area (not f.second) in
      (omega (arith, room, long), passed (omega (arith, most, is, fits, room)) steady))

  pub both_steadily : (new : D) → length (medium.image new) ≡ length (medium.image mid)
      → (512 + 1 ≤ length (medium.image mid) → NoneFails medium mid new)
      → IsSteady medium → HasRoom medium.image f → (1024 + 2 * f.area ≤ length (medium.image new)) × (medium.failed new ≡ medium.failed f.device)
  both_steadily new same then steady room = (let one = area_steadily steady room in
      (omega (arith, one.0, same), then (omega (arith, one.0)) steady ∙ one.1))
