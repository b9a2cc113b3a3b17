-- What is known of names and values after each item: it is enough to look at what is known later.
use Rattle.std.proofs.Common.{◌≡◌, ◌≢◌, ◌<◌, ℕ, suc, Bool, true, Option, Some, List, [], ◌∷◌, ◌++◌, length, refl, sym, ap, ◌∙◌, subst, arith, inl, inr, append_assoc, append-nil}
use Rattle.std.specs.Prelude.{false, if◌then◌else◌, drop, slice_get, slice_index, slice_set}
use Rattle.geos_image.specs.declared.instr.Instr.{Instr}
use Rattle.tkv_syntax.specs.declared.item.Item.{Item}
use Rattle.tkv_syntax.specs.declared.item.ItemKind.{ItemKind}
use Rattle.tkv_syntax.specs.declared.item.ItemKind.TheVariants as kind
use Rattle.tkv_places.specs.declared.placed.Placed.{Placed}
use Rattle.tkv_places.specs.declared.placed.PlacedKind.TheVariants as placed_kind
use Rattle.tkv_meaning.specs.Meaning.{Scope, On, Drifts, Acts}
use Rattle.std.proofs.lemmas.Bool.{false≢true}
use Rattle.tkv_names.specs.declared.seen.Known.{Known}
use Rattle.tkv_names.specs.declared.seen.Known.TheVariants as known
use Rattle.tkv_names.specs.declared.seen.Seen.{Seen}
use Rattle.tkv_names.specs.Named.{Env, name_at, with_name, joined, holds, Next, Past, Joins, Sets, DoesItem, Says}
use Rattle.tkv_names.specs.Straight.{Any, Goes, Straight}
use Rattle.tkv_names.specs.Seen.{Holds, Agrees, Tied, Sound, Leads, IsFree, IsDone, IsOut, IsOver, IsFork, Reaches, Passes, Decides, leaves_if, agreed, pushed, popped, written}
use Rattle.tkv_names.proofs.Lists.{dropped, set_length, index_same, index_other, taken_out}
use Rattle.tkv_names.proofs.Steps.{Gives, drift_words, drift_output, puts_on, puts_off, at_item, on_done, over_drifts, branch_does}

-- Values

pub constant_is : (k : Known) (n : ℕ) → k ≡ known.Constant n → (ws : List ℕ) (o : Option ℕ) → Holds k ws o → o ≡ Some n
constant_is k n e ws o h = subst (λ (q : Known). Holds q ws o) e h

pub register_is : (k : Known) (r : ℕ) → k ≡ known.Register r → (ws : List ℕ) (o : Option ℕ) → Holds k ws o → o ≡ Some (slice_index ws r)
register_is k r e ws o h = subst (λ (q : Known). Holds q ws o) e h

holds_written : (k : Known) (ws : List ℕ) (r n : ℕ) (o : Option ℕ) → k ≢ known.Register r → Holds k ws o → Holds k (slice_set ws r n) o
holds_written known.Nothing ws r n o ne h = tt
holds_written (known.Constant c) ws r n o ne h = h
holds_written (known.Register q) ws r n o ne h =
    h ∙ ap (λ (v : ℕ). Some v) (sym (index_other ws r q n (λ e. ne (ap (λ (p : ℕ). known.Register p) e))))

one_value : (vs : List ℕ) (a : ℕ) → slice_get vs 0 ≡ Some a → (before : List ℕ) × (vs ≡ a ∷ before)
one_value [] a e = absurd cc
one_value (v ∷ vs) a e = (vs, ap (λ (w : ℕ). w ∷ vs) (let f : v ≡ a = cc in f))

two_values : (vs : List ℕ) (a b : ℕ) → slice_get vs 0 ≡ Some b → slice_get vs 1 ≡ Some a → (before : List ℕ) × (vs ≡ b ∷ a ∷ before)
two_values [] a b e f = absurd cc
two_values (v ∷ vs) a b e f = let more = one_value vs a f in
    (more.0, ap (λ (ws : List ℕ). v ∷ ws) more.1 ∙ ap (λ (w : ℕ). w ∷ a ∷ more.0) (let g : v ≡ b = cc in g))

module _ (text : List ℕ) (seen : Seen) (env : Env) where
  tied_written : (vs ws : List ℕ) (r n : ℕ) → IsFree seen r → Tied text seen env vs ws → Tied text (written seen r) env vs (slice_set ws r n)
  tied_written vs ws r n free tied = record {
    size = set_length ws r n ∙ tied.size;
    held = λ q a lt e. let old = taken_out seen.held r q a e in index_other ws r q n old.1 ∙ tied.held q a lt old.0;
    first = holds_written seen.first ws r n (slice_get vs 0) free.1 tied.first;
    second = holds_written seen.second ws r n (slice_get vs 1) free.2 tied.second;
    third = holds_written seen.third ws r n (slice_get vs 2) free.3 tied.third;
    fourth = holds_written seen.fourth ws r n (slice_get vs 3) free.4 tied.fourth;
  }

  tied_popped : (v : ℕ) (vs ws : List ℕ) → Tied text seen env (v ∷ vs) ws → Tied text (popped seen) env vs ws
  tied_popped v vs ws tied = record {
    size = tied.size;
    held = tied.held;
    first = tied.second;
    second = tied.third;
    third = tied.fourth;
    fourth = tt;
  }

  tied_pushed : (k : Known) (v : ℕ) (vs ws : List ℕ) → Holds k ws (Some v) → Tied text seen env vs ws → Tied text (pushed seen k) env (v ∷ vs) ws
  tied_pushed k v vs ws h tied = record {
    size = tied.size;
    held = tied.held;
    first = h;
    second = tied.first;
    third = tied.second;
    fourth = tied.third;
  }

-- the first of two items, or the second one
abbrev pub way : Bool → ℕ → ℕ → ℕ
way b one other = if b then one else other

-- what is known after a test, at other items
abbrev pub after : Seen → ℕ → ℕ → ℕ → Seen
after seen n p e = record (popped (popped seen)) { item = n; placed = p; level = e }

-- a register that an instruction sets has its word
set_is : (ws : List ℕ) (r n : ℕ) → r < 8 → length ws ≡ 8 → slice_index (slice_set ws r n) r ≡ n
set_is ws r n lt e = index_same ws r n (omega (arith, lt, e))

module _ (text : List ℕ) (items : List Item) (placed : List Placed) (seen : Seen) where
  -- what the items say from one on begins with what it does
  says_item : (item : Item) (env : Env) (vs more : List ℕ) → slice_get items seen.item ≡ Some item
      → DoesItem text item item.kind (Says text (drop (suc seen.item) items)) env vs more → Says text (drop seen.item items) Next env vs more
  says_item item env vs more e does = subst (λ (is : List Item). Says text is Next env vs more) (sym (dropped items seen.item item e)) does

  says_kind : (item : Item) (o : ItemKind) (env : Env) (vs more : List ℕ) → slice_get items seen.item ≡ Some item → item.kind ≡ o
      → DoesItem text item o (Says text (drop (suc seen.item) items)) env vs more → Says text (drop seen.item items) Next env vs more
  says_kind item o env vs more e is does = says_item item env vs more e
      (subst (λ (k : ItemKind). DoesItem text item k (Says text (drop (suc seen.item) items)) env vs more) (sym is) does)

  -- an instruction puts the last value into a register
  pub moved : (i : Instr) (f : List ℕ → ℕ) → IsDone placed seen.placed seen.level i → Gives i f → IsFree seen i.a
      → ((ws : List ℕ) (o : Option ℕ) → Holds seen.first ws o → o ≡ Some (f ws))
      → Leads text items placed seen (record (written seen i.a) { first = known.Register i.a })
  moved i f done gives free value sound env vs x y tied d = (got.0, got.1 ∙ ap (λ (o : List ℕ). o ++ got.0) output, got.2)
    where
      at : (m z : Scope) × Drifts Any x m × Acts Any i m false z × Straight (drop (suc seen.placed) placed) seen.level On z y
      at = on_done placed seen.placed seen.level i x y done d

      z : Scope
      z = at.1

      acted : (z.words ≡ slice_set at.0.words i.a (f at.0.words)) × (z.output ≡ at.0.output)
      acted = gives at.0 z at.3

      words : slice_set x.words i.a (f x.words) ≡ z.words
      words = sym (acted.0 ∙ ap (λ (ws : List ℕ). slice_set ws i.a (f ws)) (drift_words x at.0 at.2))

      output : z.output ≡ x.output
      output = acted.1 ∙ drift_output x at.0 at.2

      after : Tied text (written seen i.a) env vs (slice_set x.words i.a (f x.words))
      after = tied_written text seen env vs x.words i.a (f x.words) free tied

      got : (more : List ℕ) × (y.output ≡ z.output ++ more) × Says text (drop seen.item items) Next env vs more
      got = sound env vs z y (subst (λ (ws : List ℕ). Tied text (record (written seen i.a) { first = known.Register i.a }) env vs ws) words (record {
        size = after.size;
        held = after.held;
        first = value x.words (slice_get vs 0) tied.first ∙ ap (λ (v : ℕ). Some v) (sym (set_is x.words i.a (f x.words) free.0 tied.size));
        second = after.second;
        third = after.third;
        fourth = after.fourth;
      })) at.4

  -- the same of the value before the last one
  pub moved_second : (i : Instr) (f : List ℕ → ℕ) → IsDone placed seen.placed seen.level i → Gives i f → IsFree seen i.a
      → ((ws : List ℕ) (o : Option ℕ) → Holds seen.second ws o → o ≡ Some (f ws))
      → Leads text items placed seen (record (written seen i.a) { second = known.Register i.a })
  moved_second i f done gives free value sound env vs x y tied d = (got.0, got.1 ∙ ap (λ (o : List ℕ). o ++ got.0) output, got.2)
    where
      at : (m z : Scope) × Drifts Any x m × Acts Any i m false z × Straight (drop (suc seen.placed) placed) seen.level On z y
      at = on_done placed seen.placed seen.level i x y done d

      z : Scope
      z = at.1

      acted : (z.words ≡ slice_set at.0.words i.a (f at.0.words)) × (z.output ≡ at.0.output)
      acted = gives at.0 z at.3

      words : slice_set x.words i.a (f x.words) ≡ z.words
      words = sym (acted.0 ∙ ap (λ (ws : List ℕ). slice_set ws i.a (f ws)) (drift_words x at.0 at.2))

      output : z.output ≡ x.output
      output = acted.1 ∙ drift_output x at.0 at.2

      after : Tied text (written seen i.a) env vs (slice_set x.words i.a (f x.words))
      after = tied_written text seen env vs x.words i.a (f x.words) free tied

      got : (more : List ℕ) × (y.output ≡ z.output ++ more) × Says text (drop seen.item items) Next env vs more
      got = sound env vs z y (subst (λ (ws : List ℕ). Tied text (record (written seen i.a) { second = known.Register i.a }) env vs ws) words (record {
        size = after.size;
        held = after.held;
        first = after.first;
        second = value x.words (slice_get vs 1) tied.second ∙ ap (λ (v : ℕ). Some v) (sym (set_is x.words i.a (f x.words) free.0 tied.size));
        third = after.third;
        fourth = after.fourth;
      })) at.4

  -- an instruction joins the last two values
  pub joins : (item : Item) (o : ItemKind) (i : Instr) (f u v : List ℕ → ℕ) → slice_get items seen.item ≡ Some item
      → ((env : Env) (vs more : List ℕ) → Joins o (Says text (drop (suc seen.item) items) Next) env vs more
      → DoesItem text item item.kind (Says text (drop (suc seen.item) items)) env vs more)
      → IsDone placed seen.placed seen.level i → Gives i f → IsFree (popped (popped seen)) i.a
      → ((ws : List ℕ) (p : Option ℕ) → Holds seen.second ws p → p ≡ Some (u ws))
      → ((ws : List ℕ) (p : Option ℕ) → Holds seen.first ws p → p ≡ Some (v ws))
      → ((ws : List ℕ) → f ws ≡ joined o (u ws) (v ws))
      → Leads text items placed seen (pushed (written (popped (popped seen)) i.a) (known.Register i.a))
  joins item o i f u v there does done gives free left right same sound env vs x y tied d = (
    got.0,
    got.1 ∙ ap (λ (out : List ℕ). out ++ got.0) output,
    says_item item env vs got.0 there
        (does env vs got.0 (
          u x.words,
          v x.words,
          before,
          split.1,
          subst (λ (n : ℕ). Says text (drop (suc seen.item) items) Next env (n ∷ before) got.0)
              (same x.words) got.2,
        )),
  )
    where
      at : (m z : Scope) × Drifts Any x m × Acts Any i m false z × Straight (drop (suc seen.placed) placed) seen.level On z y
      at = on_done placed seen.placed seen.level i x y done d

      z : Scope
      z = at.1

      acted : (z.words ≡ slice_set at.0.words i.a (f at.0.words)) × (z.output ≡ at.0.output)
      acted = gives at.0 z at.3

      words : slice_set x.words i.a (f x.words) ≡ z.words
      words = sym (acted.0 ∙ ap (λ (ws : List ℕ). slice_set ws i.a (f ws)) (drift_words x at.0 at.2))

      output : z.output ≡ x.output
      output = acted.1 ∙ drift_output x at.0 at.2

      split : (before : List ℕ) × (vs ≡ v x.words ∷ u x.words ∷ before)
      split = two_values vs (u x.words) (v x.words) (right x.words (slice_get vs 0) tied.first) (left x.words (slice_get vs 1) tied.second)

      before : List ℕ
      before = split.0

      bare : Tied text (popped (popped seen)) env before x.words
      bare = tied_popped text (popped seen) env (u x.words) before x.words
          (tied_popped text seen env (v x.words) (u x.words ∷ before) x.words (subst (λ (ws : List ℕ). Tied text seen env ws x.words) split.1 tied))

      after : Tied text (pushed (written (popped (popped seen)) i.a) (known.Register i.a)) env (f x.words ∷ before) (slice_set x.words i.a (f x.words))
      after = tied_pushed text (written (popped (popped seen)) i.a) env (known.Register i.a) (f x.words) before (slice_set x.words i.a (f x.words))
          (ap (λ (n : ℕ). Some n) (sym (set_is x.words i.a (f x.words) free.0 tied.size)))
          (tied_written text (popped (popped seen)) env before x.words i.a (f x.words) free bare)

      got : (more : List ℕ) × (y.output ≡ z.output ++ more) × Says text (drop (suc seen.item) items) Next env (f x.words ∷ before) more
      got = sound env (f x.words ∷ before) z y (subst (λ (ws : List ℕ).
          Tied text (pushed (written (popped (popped seen)) i.a) (known.Register i.a)) env (f x.words ∷ before) ws) words after) at.4

  -- an operation joins two constants
  pub folds : (item : Item) (o : ItemKind) (a b : ℕ) → slice_get items seen.item ≡ Some item
      → ((env : Env) (vs more : List ℕ) → Joins o (Says text (drop (suc seen.item) items) Next) env vs more
      → DoesItem text item item.kind (Says text (drop (suc seen.item) items)) env vs more)
      → seen.second ≡ known.Constant a → seen.first ≡ known.Constant b
      → Leads text items placed seen (pushed (popped (popped seen)) (known.Constant (joined o a b)))
  folds item o a b there does left right sound env vs x y tied d =
      (got.0, got.1, says_item item env vs got.0 there (does env vs got.0 (a, b, before, split.1, got.2)))
    where
      split : (before : List ℕ) × (vs ≡ b ∷ a ∷ before)
      split = two_values vs a b (constant_is seen.first b right x.words (slice_get vs 0) tied.first)
          (constant_is seen.second a left x.words (slice_get vs 1) tied.second)

      before : List ℕ
      before = split.0

      bare : Tied text (popped (popped seen)) env before x.words
      bare = tied_popped text (popped seen) env a before x.words
          (tied_popped text seen env b (a ∷ before) x.words (subst (λ (ws : List ℕ). Tied text seen env ws x.words) split.1 tied))

      got : (more : List ℕ) × (y.output ≡ x.output ++ more) × Says text (drop (suc seen.item) items) Next env (joined o a b ∷ before) more
      got = sound env (joined o a b ∷ before) x y
          (tied_pushed text (popped (popped seen)) env (known.Constant (joined o a b)) (joined o a b) before x.words refl bare) d

  pub number : (item : Item) → slice_get items seen.item ≡ Some item → item.kind ≡ kind.Number
      → Leads text items placed seen (pushed seen (known.Constant item.a))
  number item there is sound env vs x y tied d = (got.0, got.1, says_kind item kind.Number env vs got.0 there is got.2)
    where
      got : (more : List ℕ) × (y.output ≡ x.output ++ more) × Says text (drop (suc seen.item) items) Next env (item.a ∷ vs) more
      got = sound env (item.a ∷ vs) x y (tied_pushed text seen env (known.Constant item.a) item.a vs x.words refl tied) d

  pub name : (item : Item) (r a : ℕ) → slice_get items seen.item ≡ Some item → item.kind ≡ kind.Named → r < 8 → slice_get seen.held r ≡ Some (Some a)
      → name_at text a ≡ name_at text item.at → Leads text items placed seen (pushed seen (known.Register r))
  name item r a there is lt held same sound env vs x y tied d = (got.0, got.1, says_kind item kind.Named env vs got.0 there is got.2)
    where
      value : env (name_at text item.at) ≡ slice_index x.words r
      value = sym (tied.held r a lt held ∙ ap env same)

      got : (more : List ℕ) × (y.output ≡ x.output ++ more) × Says text (drop (suc seen.item) items) Next env (env (name_at text item.at) ∷ vs) more
      got = sound env (env (name_at text item.at) ∷ vs) x y (tied_pushed text seen env (known.Register r) (env (name_at text item.at)) vs x.words
          (ap (λ (n : ℕ). Some n) value) tied) d

  -- an item that does nothing, after which control continues with another one
  pub passes : (item : Item) (n : ℕ) → slice_get items seen.item ≡ Some item
      → ((env : Env) (vs more : List ℕ) → Says text (drop n items) Next env vs more
      → DoesItem text item item.kind (Says text (drop (suc seen.item) items)) env vs more)
      → Leads text items placed seen (record seen { item = n })
  passes item n there does sound env vs x y tied d = (got.0, got.1, says_item item env vs got.0 there (does env vs got.0 got.2))
    where
      got : (more : List ℕ) × (y.output ≡ x.output ++ more) × Says text (drop n items) Next env vs more
      got = sound env vs x y (record {
        size = tied.size;
        held = tied.held;
        first = tied.first;
        second = tied.second;
        third = tied.third;
        fourth = tied.fourth;
      }) d

  -- a name stands for the last value
  pub sets : (item : Item) (r : ℕ) (held : List (Option ℕ)) → slice_get items seen.item ≡ Some item
      → ((env : Env) (vs more : List ℕ) → Sets (name_at text item.at) (Says text (drop (suc seen.item) items) Next) env vs more
      → DoesItem text item item.kind (Says text (drop (suc seen.item) items)) env vs more)
      → seen.first ≡ known.Register r
      → ((env : Env) (ws : List ℕ) → Agrees text seen.held env ws → Agrees text held (with_name env (name_at text item.at) (slice_index ws r)) ws)
      → Leads text items placed seen (record (popped seen) { item = suc seen.item; held = held })
  sets item r held there does first agrees sound env vs x y tied d =
      (got.0, got.1, says_item item env vs got.0 there (does env vs got.0 (slice_index x.words r, split.0, split.1, got.2)))
    where
      split : (before : List ℕ) × (vs ≡ slice_index x.words r ∷ before)
      split = one_value vs (slice_index x.words r) (register_is seen.first r first x.words (slice_get vs 0) tied.first)

      bare : Tied text (popped seen) env split.0 x.words
      bare = tied_popped text seen env (slice_index x.words r) split.0 x.words (subst (λ (ws : List ℕ). Tied text seen env ws x.words) split.1 tied)

      got : (more : List ℕ) × (y.output ≡ x.output ++ more)
          × Says text (drop (suc seen.item) items) Next (with_name env (name_at text item.at) (slice_index x.words r)) split.0 more
      got = sound (with_name env (name_at text item.at) (slice_index x.words r)) split.0 x y (record {
        size = bare.size;
        held = agrees env x.words bare.held;
        first = bare.first;
        second = bare.second;
        third = bare.third;
        fourth = bare.fourth;
      }) d

  -- the last value is output
  pub puts : (item : Item) (r : ℕ) → slice_get items seen.item ≡ Some item → item.kind ≡ kind.Put → seen.first ≡ known.Register r
      → IsOut placed seen.placed seen.level r → Leads text items placed seen (record (popped seen) { item = suc seen.item; placed = suc seen.placed })
  puts item r there is first (out, at, (does, opcode, reg, (j, e, escapes, over))) sound env vs x y tied d =
      by (at_item placed seen.placed out placed_kind.Do seen.level On x y at does d)
    where
      split : (before : List ℕ) × (vs ≡ slice_index x.words r ∷ before)
      split = one_value vs (slice_index x.words r) (register_is seen.first r first x.words (slice_get vs 0) tied.first)

      bare : Tied text (popped seen) env split.0 x.words
      bare = tied_popped text seen env (slice_index x.words r) split.0 x.words (subst (λ (ws : List ℕ). Tied text seen env ws x.words) split.1 tied)

      by : Goes out placed_kind.Do (Straight (drop (suc seen.placed) placed)) seen.level On x y
          → (more : List ℕ) × (y.output ≡ x.output ++ more) × Says text (drop seen.item items) Next env vs more
      by (m, z, drifts, inr (below, acts, rest)) = (
        [],
        drift_output z y (over_drifts placed j e z y over (escapes z y rest)) ∙ (puts_off out.instr opcode m z acts ∙ (drift_output x m drifts ∙ sym (append-nil x.output))),
        says_kind item kind.Put env vs [] there is (slice_index x.words r, split.0, split.1, inl refl),
      )
      by (m, z, drifts, inl (acts, rest)) = (
        slice_index x.words r ∷ got.0,
        got.1 ∙ (ap (λ (o : List ℕ). o ++ got.0) output ∙ append_assoc x.output (slice_index x.words r ∷ []) got.0),
        says_kind item kind.Put env vs (slice_index x.words r ∷ got.0) there is (slice_index x.words r, split.0, split.1, inr (got.0, refl, got.2)),
      )
        where
          on : (z.words ≡ m.words) × (z.output ≡ m.output ++ (slice_index m.words out.instr.a ∷ []))
          on = puts_on out.instr opcode m z acts

          output : z.output ≡ x.output ++ (slice_index x.words r ∷ [])
          output = on.1 ∙ (ap (λ (o : List ℕ). o ++ (slice_index m.words out.instr.a ∷ [])) (drift_output x m drifts)
              ∙ (ap (λ (ws : List ℕ). x.output ++ (slice_index ws out.instr.a ∷ [])) (drift_words x m drifts)
              ∙ ap (λ (q : ℕ). x.output ++ (slice_index x.words q ∷ [])) reg))

          words : x.words ≡ z.words
          words = sym (on.0 ∙ drift_words x m drifts)

          got : (more : List ℕ) × (y.output ≡ z.output ++ more) × Says text (drop (suc seen.item) items) Next env split.0 more
          got = sound env split.0 z y (subst (λ (ws : List ℕ).
              Tied text (record (popped seen) { item = suc seen.item; placed = suc seen.placed }) env split.0 ws) words (record {
                size = bare.size;
                held = bare.held;
                first = bare.first;
                second = bare.second;
                third = bare.third;
                fourth = bare.fourth;
              })) rest

  -- the routine ends
  pub ends : (item : Item) → slice_get items seen.item ≡ Some item
      → ((env : Env) (vs : List ℕ) → DoesItem text item item.kind (Says text (drop (suc seen.item) items)) env vs [])
      → IsOver placed seen.placed → Sound text items placed seen
  ends item there does over env vs x y tied d = (
    [],
    drift_output x y (over_drifts placed seen.placed seen.level x y over d) ∙ sym (append-nil x.output),
    says_item item env vs [] there (does env vs),
  )

  -- placed items that do nothing
  pub reaches : (k d : ℕ) → Reaches placed seen.placed seen.level k d → Leads text items placed seen (record seen { placed = k; level = d })
  reaches k d reach sound env vs x y tied straight = sound env vs x y (record {
    size = tied.size;
    held = tied.held;
    first = tied.first;
    second = tied.second;
    third = tied.third;
    fourth = tied.fourth;
  }) (reach x y straight)

  -- a test: control continues, or goes to the target
  module _ (item : Item) (i : Instr) (same : Bool) (past k d : ℕ) (there : slice_get items seen.item ≡ Some item) (is : item.kind ≡ kind.Test)
      (range : item.a < 6) (passing : Passes text items (suc seen.item) past) (decided : Decides item.a seen i same) where
    at_way : (b : Bool) (env : Env) (vs more : List ℕ) → Says text (drop (way b (suc seen.item) past) items) Next env vs more
        → Says text (drop (suc seen.item) items) (if b then Next else Past 0) env vs more
    at_way true env vs more h = h
    at_way false env vs more h = passing env vs more h

    -- the values of a test are known
    split : (env : Env) (vs ws : List ℕ) → Tied text seen env vs ws → (before : List ℕ) × (vs ≡ decided.right ws ∷ decided.left ws ∷ before)
    split env vs ws tied = two_values vs (decided.left ws) (decided.right ws) (decided.is_right ws (slice_get vs 0) tied.first)
        (decided.is_left ws (slice_get vs 1) tied.second)

    -- from a branch on
    branch_from : (b : Bool) (p e : ℕ) (env : Env) (vs : List ℕ) (x z y : Scope) → Tied text seen env vs x.words
        → Sound text items placed (after seen (way b (suc seen.item) past) p e) → holds item.a (decided.left x.words) (decided.right x.words) ≡ b
        → z.words ≡ x.words → z.output ≡ x.output → Straight (drop p placed) e On z y
        → (more : List ℕ) × (y.output ≡ x.output ++ more) × Says text (drop seen.item items) Next env vs more
    branch_from b p e env vs x z y tied sound truth words output straight = (
      got.0,
      got.1 ∙ ap (λ (o : List ℕ). o ++ got.0) output,
      says_kind item kind.Test env vs got.0 there is (
        range,
        (
          decided.left x.words,
          decided.right x.words,
          before.0,
          before.1,
          subst (λ (t : Bool). Says text (drop (suc seen.item) items) (if t then Next else Past 0) env before.0 got.0) (sym truth)
              (at_way b env before.0 got.0 got.2),
        ),
      ),
    )
      where
        before : (before : List ℕ) × (vs ≡ decided.right x.words ∷ decided.left x.words ∷ before)
        before = split env vs x.words tied

        bare : Tied text (popped (popped seen)) env before.0 x.words
        bare = tied_popped text (popped seen) env (decided.left x.words) before.0 x.words
            (tied_popped text seen env (decided.right x.words) (decided.left x.words ∷ before.0) x.words
            (subst (λ (ws : List ℕ). Tied text seen env ws x.words) before.1 tied))

        got : (more : List ℕ) × (y.output ≡ z.output ++ more) × Says text (drop (way b (suc seen.item) past) items) Next env before.0 more
        got = sound env before.0 z y (subst (λ (ws : List ℕ). Tied text (after seen (way b (suc seen.item) past) p e) env before.0 ws) (sym words) (record {
          size = bare.size;
          held = bare.held;
          first = bare.first;
          second = bare.second;
          third = bare.third;
          fourth = bare.fourth;
        })) straight

    truth_is : (s b t : Bool) → b ≡ agreed s t → t ≡ agreed s b
    truth_is true b t e = sym e
    truth_is false true true e = absurd (false≢true (sym e))
    truth_is false true false e = refl
    truth_is false false true e = refl
    truth_is false false false e = absurd (false≢true e)

    pub forks : IsFork placed seen.placed seen.level i k d → Sound text items placed (after seen (way (agreed same false) (suc seen.item) past) (suc seen.placed) seen.level)
        → Sound text items placed (after seen (way (agreed same true) (suc seen.item) past) k d) → Sound text items placed seen
    forks (one, at, (does, instr, escapes)) stays leaves env vs x y tied straight =
        by (at_item placed seen.placed one placed_kind.Do seen.level On x y at does straight)
      where
        by : Goes one placed_kind.Do (Straight (drop (suc seen.placed) placed)) seen.level On x y
            → (more : List ℕ) × (y.output ≡ x.output ++ more) × Says text (drop seen.item items) Next env vs more
        by (m, z, drifts, inl (acts, rest)) = branch_from (agreed same false) (suc seen.placed) seen.level env vs x z y tied stays
            (truth_is same false (holds item.a (decided.left x.words) (decided.right x.words)) (sym test.0 ∙ decided.decides x.words)) test.1 test.2 rest
          where
            test : (leaves_if i.opcode i x.words ≡ false) × (z.words ≡ x.words) × (z.output ≡ x.output)
            test = branch_does i decided.branch false x m z drifts (subst (λ (j : Instr). Acts Any j m false z) instr acts)
        by (m, z, drifts, inr (below, acts, rest)) = branch_from (agreed same true) k d env vs x z y tied leaves
            (truth_is same true (holds item.a (decided.left x.words) (decided.right x.words)) (sym test.0 ∙ decided.decides x.words)) test.1 test.2
            (escapes z y rest)
          where
            test : (leaves_if i.opcode i x.words ≡ true) × (z.words ≡ x.words) × (z.output ≡ x.output)
            test = branch_does i decided.branch true x m z drifts (subst (λ (j : Instr). Acts Any j m true z) instr acts)
