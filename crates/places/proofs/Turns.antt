-- One turn of the search: what is found in a block, from what is found in its halves.
-- Assumes nothing.
use mathlib.Core.Path.{◌≡◌, refl, sym, ◌∙◌, ap, ap₂, subst}
use mathlib.Core.Bool.{Bool, true, false, cond, true≢false}
use mathlib.Core.List.{◌∷◌}
use Prim.Native.Nat.{ℕ, zero, suc, ◌+◌, ◌*◌, ◌-◌, ◌%◌, ◌^◌, ◌<◌, ◌≤◌}
use native.Mathlib.Nat.{pow-suc, mul-le-mul_left}
use native.Mathlib.Omega.{arith}
use lib.Pow.{pow_pos}
use lib.Dec.{eqb}
use mir.Syntax.{w32}
use mir.Val.{Fits, bool_byte}
use borrow.Author.Tests.{eqb-true, eq-eqb}
use Rattle.algebra.specs.Matrix.{Bits}
use Rattle.diagrams.specs.Diagram.{levels}
use Rattle.std.specs.Prelude.{Option, Some, None}
use Rattle.std.specs.Option.{option_eq}
use Rattle.stores.specs.declared.Nodes.{Nodes}
use Rattle.places.specs.declared.Block.{Block}
use Rattle.places.specs.declared.Place.{Place}
use Rattle.places.specs.declared.Task.{Task}
use Rattle.cofactors.specs.Slots.{landing}
use Rattle.places.specs.Search.{is_zero, allows, found_at, sought, behind, half, sought_in, row_sought, column_sought, is_settled}
use Rattle.places.specs.Ready.{Used, Room, Ready, RowReady, ColumnReady}
use Rattle.places.proofs.Blocks.{eqb_iff, first_of, Ends, sought_cons, first_nowhere, nowhere_again, zero_nowhere, sought_end}
use Rattle.places.proofs.Slots.{landing_value, used_down}

-- ---- room

module _ {left : ℕ} (x : ℕ) (some : left ≡ 0 → ⊥) (room : Room left x) where
  doubled : 2 ^ left ≡ 2 * 2 ^ (left - 1)
  doubled = ap (λ (k : ℕ). 2 ^ k) one_more ∙ pow-suc 2 (left - 1) ∙ turn (2 ^ (left - 1))
    where
      one_more : left ≡ suc (left - 1)
      one_more = omega arith

      turn : (p : ℕ) → p * 2 ≡ 2 * p
      turn p = omega arith

  room_same : Room (left - 1) x
  room_same = omega (arith, ap (λ (p : ℕ). suc x * p) doubled)

  room_high : Room (left - 1) (2 * x + 1)
  room_high = omega (arith, ap (λ (p : ℕ). suc x * p) doubled)

  room_down : (b : Bool) → Room (left - 1) (cond b (2 * x + 1) (2 * x))
  room_down true = room_high
  room_down false = omega (arith, room_high)

  below : 2 * x + 1 < 4294967296
  below = omega (arith, ap (λ (p : ℕ). suc x * p) doubled, mul-le-mul_left (suc x) (pow_pos (left - 1)))

  pub low_fits : Fits w32 (2 * x)
  low_fits = record { fits = omega (arith, below) }

  pub bit_fits : (b : Bool) → Fits w32 (2 * x + bool_byte b)
  bit_fits true = record { fits = below }
  bit_fits false = record { fits = omega (arith, below) }

-- ---- references that are there

-- one that is found equal to a reference is that one
pub option_is : (o : Option ℕ) (r : ℕ) → option_eq eqb o (Some r) ≡ true → o ≡ Some r
option_is None r e = absurd (true≢false (sym e))
option_is (Some x) r e = ap Some (eqb-true x r e)

-- ---- what is found first

-- what is found low ends the search
found_first : {total low first : Option Place} (high : Option Place) {place : Place}
    → total ≡ first_of low high → first ≡ low → first ≡ Some place → Some place ≡ total
found_first high split is found = sym (split ∙ ap (λ (p : Option Place). first_of p high) (sym is ∙ found))

-- else it goes on high
found_second : {total low high first second : Option Place}
    → total ≡ first_of low high → first ≡ low → first ≡ None → second ≡ high → second ≡ total
found_second {high = high} split is nowhere then = then ∙ sym (split ∙ ap (λ (p : Option Place). first_of p high) (sym is ∙ nowhere))

-- ---- one bit

-- the number of the level after a block's fits a word
pub level_fits : (task : Task) (block : Block) → task.levels ≤ 32 → Fits w32 (task.levels - block.left + 1)
level_fits task block few = record { fits = omega (arith, few) }

module _ {nodes : Nodes} {task : Task} {block : Block} (at : Ready nodes task block) (some : block.left ≡ 0 → ⊥) where
  pub half_ready : (b : Bool) → Ready nodes task (half nodes task block b)
  half_ready b = record {
    held = at.held;
    zero_value = at.zero_value;
    within = omega (arith, at.within);
    used = used_down at.held (task.levels - block.left) b block.root at.used;
    next_room = room_same block.after some at.after_room;
    after_room = room_down block.next some at.next_room b;
  }

  -- the low half's root is one of the used nodes
  pub low_used : Used task.nodes (half nodes task block false).root
  low_used = (half_ready false).used

  -- the measure of the search falls
  pub half_less : (b : Bool) {h : Block} → h ≡ half nodes task block b → h.left < block.left
  half_less b is = omega (arith, ap (λ (h : Block). h.left) is, some)

  behind_down : (b : Bool) → (λ l. behind nodes task block (b ∷ l)) ≡ behind nodes task (half nodes task block b)
  behind_down b =
      ap (λ (level : ℕ). landing nodes.level.now nodes.low.now nodes.high.now level (half nodes task block b).root) next
    where
      next : suc (task.levels - block.left) ≡ task.levels - (block.left - 1)
      next = omega (arith, at.within)

  -- what is found in the low half, or else in the high one
  found_down : (place : ℕ → ℕ → ℕ → Option Place) → Ends place → let swapped : ℕ → ℕ → ℕ → Option Place = λ y x v. place x y v in
      sought_in nodes task place block
      ≡ first_of (sought_in nodes task swapped (half nodes task block false)) (sought_in nodes task swapped (half nodes task block true))
  found_down place ends =
      ap (λ (k : ℕ). sought place task k (behind nodes task block) block.next block.after) one_more
      ∙ sought_cons place (behind nodes task block) block.next block.after task ends (block.left - 1)
      ∙ ap₂ (λ (f g : Bits → ℕ). first_of
      (sought (λ y x v. place x y v) task (block.left - 1) f block.after (2 * block.next))
      (sought (λ y x v. place x y v) task (block.left - 1) g block.after (2 * block.next + 1))) (behind_down false) (behind_down true)
    where
      one_more : block.left ≡ suc (block.left - 1)
      one_more = omega arith

  row_down : row_sought nodes task block
      ≡ first_of (column_sought nodes task (half nodes task block false)) (column_sought nodes task (half nodes task block true))
  row_down = found_down found_at (λ x y v other. refl)

  column_down : column_sought nodes task block
      ≡ first_of (row_sought nodes task (half nodes task block false)) (row_sought nodes task (half nodes task block true))
  column_down = found_down (λ y x v. found_at x y v) (λ x y v other. refl)

-- ---- where the first bit is one of the column

module _ {nodes : Nodes} {task : Task} {block : Block} {clean : Option ℕ} (at : ColumnReady nodes task block clean) where
  pub column_some : block.left ≡ 0 → ⊥
  column_some e = omega (arith, at.a_bit_more)

  pub row_asked : (b : Bool) {h : Block} → h ≡ half nodes task block b → RowReady nodes task h
  row_asked b is = subst (RowReady nodes task) (sym is) (record {
    ready = half_ready at.ready column_some b;
    qubits_left = at.qubits_left;
    whole = omega (arith, at.a_bit_more);
  })

  -- with the halves as the code has them
  module _ {low : Block} {first : Option Place} (low_is : low ≡ half nodes task block false) (is : first ≡ row_sought nodes task low) where
    first_is : first ≡ row_sought nodes task (half nodes task block false)
    first_is = is ∙ ap (row_sought nodes task) low_is

    pub column_first : {place : Place} → first ≡ Some place → Some place ≡ column_sought nodes task block
    column_first found = found_first _ (column_down at.ready column_some) first_is found

    module _ {high : Block} (high_is : high ≡ half nodes task block true) (nowhere : first ≡ None) where
      pub column_clean : option_eq eqb clean (Some high.root) ≡ true → None ≡ column_sought nodes task block
      column_clean same = found_second (column_down at.ready column_some) first_is nowhere
          (sym (at.known (option_is clean _ same ∙ ap (λ (h : Block). Some h.root) high_is)))

      pub column_second : {second : Option Place} → second ≡ row_sought nodes task high → second ≡ column_sought nodes task block
      column_second then =
          found_second (column_down at.ready column_some) first_is nowhere (then ∙ ap (row_sought nodes task) high_is)

-- ---- where the first bit is one of the row

-- a whole number of qubits, of which one bit is asked for
one_fewer : (left q : ℕ) → left ≡ levels q → (left ≡ 0 → ⊥) → (p : ℕ) × (left - 1 ≡ suc (levels p))
one_fewer left zero e some = absurd (some e)
one_fewer left (suc p) e some = (p, omega arith)

module _ {nodes : Nodes} {task : Task} {block : Block} (at : RowReady nodes task block) where
  module _ {t : Bool} (test : t ≡ is_settled task block) where
    pub row_settled : t ≡ true → None ≡ row_sought nodes task block
    row_settled settled = sym (by_diagonal (eqb block.next block.after) refl (sym test ∙ settled))
      where
        found : ℕ → Option Place
        found k = sought found_at task k (behind nodes task block) block.next block.after

        on : (u : Bool) → eqb block.left 0 ≡ u → eqb block.next block.after ≡ true → cond u (eqb block.root task.corner) false ≡ true
            → found block.left ≡ None
        on true none agree e =
            ap found (eqb-true block.left 0 none) ∙ sought_end task (behind nodes task block) block.next block.after
            ∙ ap (λ (u : Bool). cond (allows task u block.root) None (found_at block.next block.after block.root)) agree
            ∙ ap (λ (u : Bool). cond u None (found_at block.next block.after block.root)) e
        on false more agree e = absurd (true≢false (sym e))

        off : eqb block.next block.after ≡ false → is_zero task.zero block.root ≡ true → found block.left ≡ None
        off apart e =
            let is_even : block.root % 2 ≡ 0 = at.ready.zero_value block.root (option_is task.zero block.root e) in
            let value : block.root % 2 ≡ 1 → ⊥ = λ odd. omega arith in
            ap found at.whole ∙ zero_nowhere task at.qubits_left (behind nodes task block) block.next block.after apart
            (λ l. ap (is_zero task.zero)
            (landing_value nodes.level.now nodes.low.now nodes.high.now (task.levels - block.left) block.root l value) ∙ e)

        by_diagonal : (u : Bool) → eqb block.next block.after ≡ u
            → cond u (cond (eqb block.left 0) (eqb block.root task.corner) false) (is_zero task.zero block.root) ≡ true → found block.left ≡ None
        by_diagonal true agree e = on (eqb block.left 0) refl agree e
        by_diagonal false apart e = off apart e

    pub row_ended : t ≡ false → block.left ≡ 0 → found_at block.next block.after block.root ≡ row_sought nodes task block
    row_ended unsettled none = sym
        (ap (λ (k : ℕ). sought found_at task k (behind nodes task block) block.next block.after) none
        ∙ sought_end task (behind nodes task block) block.next block.after
        ∙ ap (λ (u : Bool). cond u None (found_at block.next block.after block.root)) (sym test' ∙ unsettled))
      where
        test' : t ≡ allows task (eqb block.next block.after) block.root
        test' = test ∙ ap (λ (u : Bool). cond (eqb block.next block.after) (cond u (eqb block.root task.corner) false)
            (is_zero task.zero block.root)) (eq-eqb block.left 0 none)

  module _ (some : block.left ≡ 0 → ⊥) where
    half_left : (p : ℕ) × (block.left - 1 ≡ suc (levels p))
    half_left = one_fewer block.left at.qubits_left at.whole some

    column_asked : (b : Bool) (clean : Option ℕ) → let h = half nodes task block b in
        (clean ≡ Some (half nodes task h true).root → row_sought nodes task (half nodes task h true) ≡ None) → ColumnReady nodes task h clean
    column_asked b clean known = record {
      ready = half_ready at.ready some b;
      qubits_left = half_left.0;
      a_bit_more = half_left.1;
      known = known;
    }

    low_asked : ColumnReady nodes task (half nodes task block false) None
    low_asked = column_asked false None (λ e. cc)

    pub low_column_asked : {low : Block} → low ≡ half nodes task block false → ColumnReady nodes task low None
    low_column_asked is = subst (λ (h : Block). ColumnReady nodes task h None) (sym is) low_asked

    -- it has a low half of its own
    pub low_splits : {low : Block} → low ≡ half nodes task block false → Ready nodes task low × 0 < low.left
    low_splits is = let ready = low_column_asked is in (ready.ready, omega (arith, ready.a_bit_more))

    -- nothing is found in the low half, so nothing in the high half of the high half if it is the low half's low one
    module _ (nowhere : column_sought nodes task (half nodes task block false) ≡ None) where
      abbrev corner : Bool → Block
      corner b = half nodes task (half nodes task block b) b

      same_block : (corner false).root ≡ (corner true).root → row_sought nodes task (corner true) ≡ None
      same_block same =
          ap (λ (k : ℕ). sought found_at task k f (corner true).next (corner true).after) whole
          ∙ nowhere_again task half_left.0 f _ _ _ _
          (eqb_iff (2 * block.next) (2 * block.after) (2 * block.next + 1) (2 * block.after + 1) (λ e. omega arith) (λ e. omega arith))
          (ap (λ (k : ℕ). sought found_at task k f (2 * block.next) (2 * block.after)) (sym whole)
          ∙ ap (λ (r : ℕ). row_sought nodes task (record (corner false) { root = r })) (sym same)
          ∙ first_nowhere _ _ (sym (column_down low_asked.ready (column_some low_asked)) ∙ nowhere))
        where
          f : Bits → ℕ
          f = behind nodes task (corner true)

          whole : block.left - 1 - 1 ≡ levels half_left.0
          whole = omega (arith, half_left.1)

    -- with the halves as the code has them
    module _ {low : Block} {first : Option Place} (low_is : low ≡ half nodes task block false) (is : first ≡ column_sought nodes task low) where
      first_was : first ≡ column_sought nodes task (half nodes task block false)
      first_was = is ∙ ap (column_sought nodes task) low_is

      pub row_first : {place : Place} → first ≡ Some place → Some place ≡ row_sought nodes task block
      row_first found = found_first _ (row_down at.ready some) first_was found

      module _ {high : Block} (high_is : high ≡ half nodes task block true) (nowhere : first ≡ None) where
        pub high_column_asked : {inner : Block} → inner ≡ half nodes task low false → ColumnReady nodes task high (Some inner.root)
        high_column_asked {inner} inner_is = subst (λ (h : Block). ColumnReady nodes task h (Some inner.root)) (sym high_is)
            (column_asked true (Some inner.root) (λ e. same_block (sym first_was ∙ nowhere) (sym root_is ∙ same e)))
          where
            root_is : inner.root ≡ (half nodes task (half nodes task block false) false).root
            root_is = ap (λ (h : Block). h.root) (inner_is ∙ ap (λ (h : Block). half nodes task h false) low_is)

            same : {i j : ℕ} → Some i ≡ Some j → i ≡ j
            same e = cc

        pub row_second : {second : Option Place} → second ≡ column_sought nodes task high → second ≡ row_sought nodes task block
        row_second then = found_second (row_down at.ready some) first_was nowhere (then ∙ ap (column_sought nodes task) high_is)
