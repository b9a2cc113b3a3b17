-- What each item of a source leads to.
use Rattle.std.proofs.Common.{◌≡◌, ◌<◌, ℕ, suc, Bool, true, false, ◌+◌, ◌-◌, ◌%◌, Option, Some, None, List, [], refl, sym, ap, ◌∙◌, subst, inl, inr, ◌++◌}
use Rattle.std.specs.Prelude.{IfSome, if◌then◌else◌, drop, take, length, slice_get, slice_index}
use Rattle.geos_image.specs.declared.instr.Instr.{Instr}
use Rattle.geos_opcodes.specs.declared.opcode.Opcode.{Opcode}
use Rattle.geos_opcodes.specs.declared.opcode.Opcode.TheVariants as op
use Rattle.tkv_syntax.specs.declared.item.Item.{Item}
use Rattle.tkv_syntax.specs.declared.item.ItemKind.{ItemKind}
use Rattle.tkv_syntax.specs.declared.item.ItemKind.TheVariants as kind
use Rattle.tkv_places.specs.declared.placed.Placed.{Placed}
use Rattle.tkv_meaning.specs.Meaning.{On}
use Rattle.tkv_names.specs.declared.seen.Known.{Known}
use Rattle.tkv_names.specs.declared.seen.Known.TheVariants as known
use Rattle.tkv_names.specs.declared.seen.Seen.{Seen}
use Rattle.tkv_names.specs.Named.{Env, name_at, joined, parameters, Next, Past, Joins, Sets, DoesItem, Says}
use Rattle.tkv_names.specs.Straight.{Straight}
use Rattle.tkv_names.specs.Seen.{Holds, Sound, Leads, IsFree, IsDone, IsOut, IsOver, Passes, IsPart, IsFork, Decides, agreed, OnWords, OnBoth, Immediate, IsBeside, IsFolded, HasName, Renames, IsSetting, IsPassed, Begins, MeansNamed, pushed, popped, written}
use Rattle.tkv_names.proofs.Steps.{Gives, gives_ldi, gives_mov, gives_add, gives_sub}
use Rattle.tkv_names.proofs.Constants.{immediate_gives, immediate_does, turned, folded_does, folded_is}
use Rattle.tkv_names.proofs.Leads.{constant_is, register_is, moved, moved_second, joins, folds, number, name, passes, sets, puts, ends, way, after, forks}
use Rattle.tkv_names.proofs.Bodies.{routine_does}

pub some_map : {A : Type 0} (one other : A → Type 0) → ((x : A) → one x → other x) → (o : Option A) → IfSome o one → IfSome o other
some_map one other f None h = tt
some_map one other f (Some x) h = f x h

module _ (text : List ℕ) (items : List Item) (placed : List Placed) (seen : Seen) where
  pub load : (i : Instr) (n : ℕ) (next : Seen) → IsDone placed seen.placed seen.level i → i.opcode ≡ op.Ldi → i.imm ≡ n
      → IsFree seen i.a × (next ≡ written seen i.a) → seen.first ≡ known.Constant n
      → (next.item ≡ seen.item) × Leads text items placed seen (record next { first = known.Register i.a })
  load i n next done is imm (free, e) first = (
    ap (λ (s : Seen). s.item) e,
    subst (λ (s : Seen). Leads text items placed seen (record s { first = known.Register i.a })) (sym e)
        (moved text items placed seen i (λ ws. i.imm) done (gives_ldi i is) free
        (λ ws o h. constant_is seen.first n first ws o h ∙ ap (λ (m : ℕ). Some m) (sym imm))),
  )

  pub load_second : (i : Instr) (n : ℕ) (next : Seen) → IsDone placed seen.placed seen.level i → i.opcode ≡ op.Ldi → i.imm ≡ n
      → IsFree seen i.a × (next ≡ written seen i.a) → seen.second ≡ known.Constant n
      → (next.item ≡ seen.item) × Leads text items placed seen (record next { second = known.Register i.a })
  load_second i n next done is imm (free, e) second = (
    ap (λ (s : Seen). s.item) e,
    subst (λ (s : Seen). Leads text items placed seen (record s { second = known.Register i.a })) (sym e)
        (moved_second text items placed seen i (λ ws. i.imm) done (gives_ldi i is) free
        (λ ws o h. constant_is seen.second n second ws o h ∙ ap (λ (m : ℕ). Some m) (sym imm))),
  )

  pub move : (i : Instr) (r : ℕ) (next : Seen) → IsDone placed seen.placed seen.level i → i.opcode ≡ op.Mov → i.b ≡ r
      → IsFree seen i.a × (next ≡ written seen i.a) → seen.first ≡ known.Register r
      → (next.item ≡ seen.item) × Leads text items placed seen (record next { first = known.Register i.a })
  move i r next done is b (free, e) first = (
    ap (λ (s : Seen). s.item) e,
    subst (λ (s : Seen). Leads text items placed seen (record s { first = known.Register i.a })) (sym e)
        (moved text items placed seen i (λ ws. slice_index ws i.b) done (gives_mov i is) free
        (λ ws o h. register_is seen.first r first ws o h ∙ ap (λ (q : ℕ). Some (slice_index ws q)) (sym b))),
  )

  pub on_words : (opcode : Opcode) (one two bare : Seen) (i : Instr) (l r : ℕ) → IsDone placed seen.placed seen.level i → i.opcode ≡ opcode → i.b ≡ l → i.c ≡ r
      → seen.second ≡ known.Register l → seen.first ≡ known.Register r → one ≡ popped seen → two ≡ popped one
      → IsFree two i.a × (bare ≡ written two i.a) → (next : Seen) → next ≡ pushed bare (known.Register i.a) → OnWords placed opcode seen next
  on_words opcode one two bare i l r done is b c second first e f (free, g) next h = record {
    instr = i;
    done = done;
    is = is;
    left = second ∙ ap (λ (q : ℕ). known.Register q) (sym b);
    right = first ∙ ap (λ (q : ℕ). known.Register q) (sym c);
    free = subst (λ (s : Seen). IsFree s i.a) both free;
    after = h ∙ ap (λ (s : Seen). pushed s (known.Register i.a)) (g ∙ ap (λ (s : Seen). written s i.a) both);
  }
    where
      both : two ≡ popped (popped seen)
      both = f ∙ ap popped e

  -- the meaning of an item by its kind
  abbrev Means : ItemKind → Type 0
  Means o = (p : ℕ) (item : Item) (env : Env) (vs more : List ℕ) → Joins o (Says text (drop p items) Next) env vs more
      → DoesItem text item o (Says text (drop p items)) env vs more

  both_leads : (o : ItemKind) (opcode : Opcode) (f : Instr → List ℕ → ℕ) → ((i : Instr) → i.opcode ≡ opcode → Gives i (f i))
      → ((i : Instr) (ws : List ℕ) → f i ws ≡ joined o (slice_index ws i.b) (slice_index ws i.c)) → Means o
      → (item : Item) (next : Seen) → slice_get items seen.item ≡ Some item → item.kind ≡ o → OnBoth text items placed opcode seen next
      → Leads text items placed seen next
  both_leads o opcode f gives same means item next there is both sound = both.leads
      (subst (λ (s : Seen). Leads text items placed both.between s) (sym words.after)
      (joins text items placed both.between item o words.instr (f words.instr) (λ ws. slice_index ws words.instr.b) (λ ws. slice_index ws words.instr.c)
      (subst (λ (p : ℕ). slice_get items p ≡ Some item) (sym both.same) there)
      (λ env vs more h. subst (λ (k : ItemKind). DoesItem text item k (Says text (drop (suc both.between.item) items)) env vs more) (sym is)
      (means (suc both.between.item) item env vs more h))
      words.done (gives words.instr words.is) words.free (register_is both.between.second words.instr.b words.left)
      (register_is both.between.first words.instr.c words.right) (same words.instr)) sound)
    where
      words : OnWords placed opcode both.between next
      words = both.words

  -- after an instruction with a number, of which `immediate` says that it does the operation
  pub immediate_leads : (item : Item) (i : Instr) (r n : ℕ) (opcode : Opcode) (imm : ℕ) → slice_get items seen.item ≡ Some item
      → IsBeside item.kind seen r n → Immediate item.kind n opcode imm → IsDone placed seen.placed seen.level i → i.opcode ≡ opcode → i.b ≡ r → i.imm ≡ imm
      → (one two bare : Seen) → one ≡ popped seen → two ≡ popped one → IsFree two i.a × (bare ≡ written two i.a)
      → (next : Seen) → next ≡ pushed bare (known.Register i.a) → Leads text items placed seen next
  immediate_leads item i r n opcode imm there beside by_number done is b m one two bare e f (free, g) next h =
      subst (λ (s : Seen). Leads text items placed seen s) (sym after) (by beside)
    where
      both : two ≡ popped (popped seen)
      both = f ∙ ap popped e

      after : next ≡ pushed (written (popped (popped seen)) i.a) (known.Register i.a)
      after = h ∙ ap (λ (s : Seen). pushed s (known.Register i.a)) (g ∙ ap (λ (s : Seen). written s i.a) both)

      its : Immediate item.kind n i.opcode i.imm
      its = subst (λ (p : Opcode). Immediate item.kind n p i.imm) (sym is) (subst (λ (k : ℕ). Immediate item.kind n opcode k) (sym m) by_number)

      gives : Gives i (λ ws. joined item.kind (slice_index ws i.b) n)
      gives = immediate_gives item.kind n i its

      word : (k : Known) → k ≡ known.Register r → (ws : List ℕ) (o : Option ℕ) → Holds k ws o → o ≡ Some (slice_index ws i.b)
      word k q ws o holds = register_is k r q ws o holds ∙ ap (λ (j : ℕ). Some (slice_index ws j)) (sym b)

      does : (env : Env) (vs more : List ℕ) → Joins item.kind (Says text (drop (suc seen.item) items) Next) env vs more
          → DoesItem text item item.kind (Says text (drop (suc seen.item) items)) env vs more
      does env vs more = immediate_does text items item.kind n i.opcode i.imm its (suc seen.item) item env vs more

      by : IsBeside item.kind seen r n → Leads text items placed seen (pushed (written (popped (popped seen)) i.a) (known.Register i.a))
      by (inl (left, right)) = joins text items placed seen item item.kind i (λ ws. joined item.kind (slice_index ws i.b) n)
          (λ ws. slice_index ws i.b) (λ ws. n) there does done gives (subst (λ (s : Seen). IsFree s i.a) both free)
          (word seen.second left) (constant_is seen.first n right) (λ ws. refl)
      by (inr (commutes, left, right)) = joins text items placed seen item item.kind i (λ ws. joined item.kind (slice_index ws i.b) n)
          (λ ws. n) (λ ws. slice_index ws i.b) there does done gives (subst (λ (s : Seen). IsFree s i.a) both free)
          (constant_is seen.second n left) (word seen.first right) (λ ws. turned item.kind commutes (slice_index ws i.b) n)

  pub fold_leads : (item : Item) (a b word : ℕ) (one two : Seen) → slice_get items seen.item ≡ Some item → IsFolded item.kind a b word
      → seen.second ≡ known.Constant a → seen.first ≡ known.Constant b → one ≡ popped seen → two ≡ popped one
      → (next : Seen) → next ≡ pushed two (known.Constant word) → Leads text items placed seen next
  fold_leads item a b word one two there is left right e f next h = subst (λ (s : Seen). Leads text items placed seen s) (sym after)
      (folds text items placed seen item item.kind a b there (λ env vs more. folded_does text items item.kind a b word is (suc seen.item) item env vs more)
      left right)
    where
      after : next ≡ pushed (popped (popped seen)) (known.Constant (joined item.kind a b))
      after = h ∙ (ap (λ (s : Seen). pushed s (known.Constant word)) (f ∙ ap popped e)
          ∙ ap (λ (w : ℕ). pushed (popped (popped seen)) (known.Constant w)) (folded_is item.kind a b word is))

  pub sum_leads : (item : Item) (next : Seen) → slice_get items seen.item ≡ Some item → item.kind ≡ kind.Add
      → OnBoth text items placed op.Add seen next → Leads text items placed seen next
  sum_leads = both_leads kind.Add op.Add (λ i ws. (slice_index ws i.b + slice_index ws i.c) % 65536) gives_add (λ i ws. refl) (λ p item env vs more h. h)

  pub difference_leads : (item : Item) (next : Seen) → slice_get items seen.item ≡ Some item → item.kind ≡ kind.Sub
      → OnBoth text items placed op.Sub seen next → Leads text items placed seen next
  difference_leads = both_leads kind.Sub op.Sub (λ i ws. (slice_index ws i.b + 65536 - slice_index ws i.c) % 65536) gives_sub (λ i ws. refl)
      (λ p item env vs more h. h)

  pub name_leads : (item : Item) (r : ℕ) (next : Seen) → slice_get items seen.item ≡ Some item → item.kind ≡ kind.Named
      → HasName text seen.held item.at r → next ≡ pushed seen (known.Register r) → Leads text items placed seen next
  name_leads item r next there is (a, lt, held, same) e = subst (λ (s : Seen). Leads text items placed seen s) (sym e)
      (name text items placed seen item r a there is lt held same)

  pub number_leads : (item : Item) (next : Seen) → slice_get items seen.item ≡ Some item → item.kind ≡ kind.Number
      → next ≡ pushed seen (known.Constant item.a) → Leads text items placed seen next
  number_leads item next there is e = subst (λ (s : Seen). Leads text items placed seen s) (sym e) (number text items placed seen item there is)

  passed_does : (item : Item) → IsPassed item → (env : Env) (vs more : List ℕ) → Says text (drop (suc seen.item) items) Next env vs more
      → DoesItem text item item.kind (Says text (drop (suc seen.item) items)) env vs more
  passed_does item (inl (is, none)) env vs more h =
      subst (λ (k : ItemKind). DoesItem text item k (Says text (drop (suc seen.item) items)) env vs more) (sym is) (none, h)
  passed_does item (inr (inl is)) env vs more h =
      subst (λ (k : ItemKind). DoesItem text item k (Says text (drop (suc seen.item) items)) env vs more) (sym is) h
  passed_does item (inr (inr (inl is))) env vs more h =
      subst (λ (k : ItemKind). DoesItem text item k (Says text (drop (suc seen.item) items)) env vs more) (sym is) h
  passed_does item (inr (inr (inr (inl is)))) env vs more h =
      subst (λ (k : ItemKind). DoesItem text item k (Says text (drop (suc seen.item) items)) env vs more) (sym is) h
  passed_does item (inr (inr (inr (inr is)))) env vs more h =
      subst (λ (k : ItemKind). DoesItem text item k (Says text (drop (suc seen.item) items)) env vs more) (sym is) h

  pub pass_leads : (item : Item) (n : ℕ) → slice_get items seen.item ≡ Some item → IsPassed item → n ≡ suc seen.item
      → Leads text items placed seen (record seen { item = n })
  pass_leads item n there is e = subst (λ (p : ℕ). Leads text items placed seen (record seen { item = p })) (sym e)
      (passes text items placed seen item (suc seen.item) there (passed_does item is))

  part_does : (item : Item) → IsPart item → (env : Env) (vs more : List ℕ) → Says text (drop (suc seen.item) items) (Past 0) env vs more
      → DoesItem text item item.kind (Says text (drop (suc seen.item) items)) env vs more
  part_does item (inl is) env vs more h =
      subst (λ (k : ItemKind). DoesItem text item k (Says text (drop (suc seen.item) items)) env vs more) (sym is) h
  part_does item (inr (inl is)) env vs more h =
      subst (λ (k : ItemKind). DoesItem text item k (Says text (drop (suc seen.item) items)) env vs more) (sym is) h
  part_does item (inr (inr is)) env vs more h =
      subst (λ (k : ItemKind). DoesItem text item k (Says text (drop (suc seen.item) items)) env vs more) (sym is) h

  pub past_leads : (item : Item) (from n : ℕ) → slice_get items seen.item ≡ Some item → IsPart item → from ≡ suc seen.item → Passes text items from n
      → Leads text items placed seen (record seen { item = n })
  past_leads item from n there is e passing = passes text items placed seen item n there
      (λ env vs more h. part_does item is env vs more (subst (λ (k : ℕ). Says text (drop k items) (Past 0) env vs more) e (passing env vs more h)))

  setting_does : (item : Item) → IsSetting item → (env : Env) (vs more : List ℕ)
      → Sets (name_at text item.at) (Says text (drop (suc seen.item) items) Next) env vs more
      → DoesItem text item item.kind (Says text (drop (suc seen.item) items)) env vs more
  setting_does item (inl (is, one)) env vs more h =
      subst (λ (k : ItemKind). DoesItem text item k (Says text (drop (suc seen.item) items)) env vs more) (sym is) (one, h)
  setting_does item (inr (is, one)) env vs more h =
      subst (λ (k : ItemKind). DoesItem text item k (Says text (drop (suc seen.item) items)) env vs more) (sym is) (one, h)

  pub set_leads : (item : Item) (r : ℕ) (held : List (Option ℕ)) (p : Seen) (n : ℕ) → slice_get items seen.item ≡ Some item → IsSetting item
      → seen.first ≡ known.Register r → Renames text seen.held item.at r held → p ≡ popped seen → n ≡ suc seen.item
      → Leads text items placed seen (record p { item = n; held = held })
  set_leads item r held p n there is first renames e f =
      subst (λ (q : ℕ). Leads text items placed seen (record p { item = q; held = held })) (sym f)
      (subst (λ (s : Seen). Leads text items placed seen (record s { item = suc seen.item; held = held })) (sym e)
      (sets text items placed seen item r held there (setting_does item is) first renames))

  pub put_leads : (item : Item) (r : ℕ) (p : Seen) (n k : ℕ) → slice_get items seen.item ≡ Some item → item.kind ≡ kind.Put
      → seen.first ≡ known.Register r → IsOut placed seen.placed seen.level r → p ≡ popped seen → n ≡ suc seen.item → k ≡ suc seen.placed
      → Leads text items placed seen (record p { item = n; placed = k })
  put_leads item r p n k there is first out e f g =
      subst (λ (q : ℕ). Leads text items placed seen (record p { item = q; placed = k })) (sym f)
      (subst (λ (q : ℕ). Leads text items placed seen (record p { item = suc seen.item; placed = q })) (sym g)
      (subst (λ (s : Seen). Leads text items placed seen (record s { item = suc seen.item; placed = suc seen.placed })) (sym e)
      (puts text items placed seen item r there is first out)))

  pub fork_leads : (item : Item) (i : Instr) (same : Bool) (next past k d : ℕ) → slice_get items seen.item ≡ Some item → item.kind ≡ kind.Test
      → item.a < 6 → next ≡ suc seen.item → Passes text items next past → IsFork placed seen.placed seen.level i k d → Decides item.a seen i same
      → (one two : Seen) → one ≡ popped seen → two ≡ popped one → (n m p : ℕ) → n ≡ (if same then past else next) → m ≡ (if same then next else past)
      → p ≡ suc seen.placed → Sound text items placed (record two { item = n; placed = p })
      → Sound text items placed (record two { item = m; placed = k; level = d }) → Sound text items placed seen
  fork_leads item i same next past k d there is range follows passing at decided one two e f n m p g h q stays leaves =
      forks text items placed seen item i same past k d there is range (subst (λ (j : ℕ). Passes text items j past) follows passing) decided at
      (subst (Sound text items placed) stays_is stays) (subst (Sound text items placed) leaves_is leaves)
    where
      both : two ≡ popped (popped seen)
      both = f ∙ ap popped e

      stays_way : (b : Bool) → (if b then past else next) ≡ way (agreed b false) (suc seen.item) past
      stays_way true = refl
      stays_way false = follows

      leaves_way : (b : Bool) → (if b then next else past) ≡ way (agreed b true) (suc seen.item) past
      leaves_way true = follows
      leaves_way false = refl

      stays_is : record two { item = n; placed = p } ≡ after seen (way (agreed same false) (suc seen.item) past) (suc seen.placed) seen.level
      stays_is = ap (λ (s : Seen). record s { item = n; placed = p }) both
          ∙ (ap (λ (j : ℕ). record (popped (popped seen)) { item = j; placed = p }) (g ∙ stays_way same)
          ∙ ap (λ (j : ℕ). record (popped (popped seen)) { item = way (agreed same false) (suc seen.item) past; placed = j }) q)

      leaves_is : record two { item = m; placed = k; level = d } ≡ after seen (way (agreed same true) (suc seen.item) past) k d
      leaves_is = ap (λ (s : Seen). record s { item = m; placed = k; level = d }) both
          ∙ ap (λ (j : ℕ). after seen j k d) (h ∙ leaves_way same)

  pub body_ends : (item : Item) → slice_get items seen.item ≡ Some item → item.kind ≡ kind.BodyEnd → IsOver placed seen.placed → Sound text items placed seen
  body_ends item there is over = ends text items placed seen item there
      (λ env vs. subst (λ (k : ItemKind). DoesItem text item k (Says text (drop (suc seen.item) items)) env vs []) (sym is) refl) over

  pub return_ends : (item : Item) → slice_get items seen.item ≡ Some item → item.kind ≡ kind.Return → item.a ≡ 0 → IsOver placed seen.placed
      → Sound text items placed seen
  return_ends item there is none over = ends text items placed seen item there
      (λ env vs. subst (λ (k : ItemKind). DoesItem text item k (Says text (drop (suc seen.item) items)) env vs []) (sym is) (none, refl)) over

pub chain : (text : List ℕ) (items : List Item) (placed : List Placed) (a b c : Seen) → Leads text items placed a b → Leads text items placed b c
    → Leads text items placed a c
chain text items placed a b c f g sound = f (g sound)

pub means : (text : List ℕ) (items : List Item) (index : ℕ) (placed : List Placed) (end : ℕ) (seen : Seen) → length placed ≡ suc end
    → Begins text items index seen → Sound text items (take end placed) seen → MeansNamed text items index placed
means text items index placed end seen last begins sound body spells x y size does = (
  got.0,
  got.1,
  record {
    head = begins.head;
    there = begins.there;
    declares = begins.declares;
    says = subst (λ (p : ℕ). Says text (drop p items) Next (parameters text items (index + 1) x.words begins.head.b) [] got.0) begins.item got.2;
  },
)
  where
    nothing : (k : Known) (ws : List ℕ) (o : Option ℕ) → k ≡ known.Nothing → Holds k ws o
    nothing k ws o e = subst (λ (q : Known). Holds q ws o) (sym e) tt

    straight : Straight (drop seen.placed (take end placed)) seen.level On x y
    straight = subst (λ (k : ℕ). Straight (drop k (take end placed)) seen.level On x y) (sym begins.placed)
        (subst (λ (d : ℕ). Straight (take end placed) d On x y) (sym begins.level) (routine_does placed end body last spells x y does))

    got : (more : List ℕ) × (y.output ≡ x.output ++ more) × Says text (drop seen.item items) Next (parameters text items (index + 1) x.words begins.head.b) [] more
    got = sound (parameters text items (index + 1) x.words begins.head.b) [] x y (record {
      size = size;
      held = begins.held x.words;
      first = nothing seen.first x.words (slice_get [] 0) begins.first;
      second = nothing seen.second x.words (slice_get [] 1) begins.second;
      third = nothing seen.third x.words (slice_get [] 2) begins.third;
      fourth = nothing seen.fourth x.words (slice_get [] 3) begins.fourth;
    }) straight
