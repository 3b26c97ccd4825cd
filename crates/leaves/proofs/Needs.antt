-- What the code needs of a state, where the columns hold the source: it follows from the plan's and the state's soundness.
-- Assumes nothing.
use mathlib.Core.Path.{◌≡◌, refl, sym, ◌∙◌, ap, subst}
use mathlib.Core.Bool.{Bool, true, false, true≢false}
use mathlib.Core.List.{List}
use Prim.Native.Nat.{ℕ, ◌/◌, ◌%◌, ◌<◌}
use native.Mathlib.Omega.{arith}
use lib.Dec.{eqb}
use lib.IntN.{ℤ}
use lib.ListN.{length}
use borrow.Author.Tests.{eqb-true, eqb-false}
use Rattle.algebra.specs.declared.Entry.{Entry}
use Rattle.diagrams.specs.Diagram.{value, Store, ref_of}
use Rattle.transitions.specs.declared.Mode.{Mode}
use Rattle.transitions.specs.declared.Mode.TheVariants.{Turning, Adding, Subtracting, Waiting, Swapping, Choosing}
use Rattle.transitions.specs.declared.State.{State}
use Rattle.transitions.specs.Plan.{Plan}
use Rattle.transitions.specs.State.{top}
use Rattle.transitions.specs.Source.{SourceNodes, SourceValues, Refers, Readable, HoldsSlot}
use Rattle.transitions.specs.Next.{is_value, is_leaf_by, is_leaf}
use Rattle.transitions.specs.Valid.{ValidPlan, ValidState, Suits, Usable}
use Rattle.diagrams.proofs.Tests.{both_true}
use Rattle.transitions.proofs.Codes.{ref_of_odd, ref_of_even, staged}

-- ---- nodes

pub readable : (s : Store Entry) (cols : List (List ℕ)) (x : ℕ) → SourceNodes s cols → Refers s (ref_of x) → Readable cols x
readable s cols x held refers odd c below =
    let used = rw (ref_of_odd x odd) at refers in
    let long = held.long c below in
    omega (arith, used, long)

pub usable : (plan : Plan) (s : Store Entry) → ValidPlan plan s → (cols : List (List ℕ)) (σ : State) → SourceNodes s cols → ValidState plan s σ
    → Usable cols σ
usable plan s valid cols σ held ok = record {
  x_readable = readable s cols σ.x held ok.x_refers;
  y_readable = readable s cols σ.y held ok.y_refers;
  staged = staged plan s valid σ ok;
}

-- ---- values

value_half : (x : ℕ) → is_value (ref_of x) ≡ true → ref_of x ≡ value (x / 2)
value_half x is_one = by_test (eqb (x % 2) 1) refl
  where
    by_test : (b : Bool) → eqb (x % 2) 1 ≡ b → ref_of x ≡ value (x / 2)
    by_test true e = absurd (true≢false (sym is_one ∙ ap is_value (ref_of_odd x (eqb-true _ _ e))))
    by_test false e = ref_of_even x (eqb-false _ _ e)

module _ (plan : Plan) (s : Store Entry) (vals : List (List ℤ)) (held : SourceValues s vals) where
  value_slot : (x : ℕ) → Refers s (ref_of x) → is_value (ref_of x) ≡ true → HoldsSlot vals (x / 2)
  value_slot x refers is_one c below =
      let used : x / 2 < length s.values = rw (value_half x is_one) at refers in
      let long = held.long c below in
      omega arith

  leaf_slots_by : (level : ℕ) (m : Mode) (x y : ℕ) → Suits plan level m x y → Refers s (ref_of x) → Refers s (ref_of y)
      → is_leaf_by m (ref_of x) (ref_of y) ≡ true → HoldsSlot vals (x / 2) × HoldsSlot vals (y / 2)
  leaf_slots_by level (Turning e) x y suits x_refers y_refers leaf =
      let slot = value_slot x x_refers leaf in (slot, subst (λ (z : ℕ). HoldsSlot vals (z / 2)) suits.1 slot)
  leaf_slots_by level Adding x y suits x_refers y_refers leaf =
      let both = both_true (is_value (ref_of x)) (is_value (ref_of y)) leaf in (value_slot x x_refers both.0, value_slot y y_refers both.1)
  leaf_slots_by level Subtracting x y suits x_refers y_refers leaf =
      let both = both_true (is_value (ref_of x)) (is_value (ref_of y)) leaf in (value_slot x x_refers both.0, value_slot y y_refers both.1)
  leaf_slots_by level (Waiting k) x y suits x_refers y_refers leaf = absurd (true≢false (sym leaf))
  leaf_slots_by level (Swapping k b) x y suits x_refers y_refers leaf = absurd (true≢false (sym leaf))
  leaf_slots_by level (Choosing k e) x y suits x_refers y_refers leaf = absurd (true≢false (sym leaf))

  -- the slots that `leaf` reads
  pub leaf_slots : (σ : State) → ValidState plan s σ → is_leaf σ ≡ true → HoldsSlot vals (σ.x / 2) × HoldsSlot vals (σ.y / 2)
  unfolding is_leaf
  leaf_slots σ ok leaf = leaf_slots_by (top plan s σ) σ.mode σ.x σ.y ok.suits ok.x_refers ok.y_refers leaf
