-- The store in the first slots of the columns: what the way down in them lands on is what its diagram gives.
-- Assumes nothing.
use mathlib.Core.Path.{◌≡◌, refl, sym, ◌∙◌, ap, subst}
use mathlib.Core.Bool.{Bool, true, false, cond}
use mathlib.Core.List.{List, [], ◌∷◌}
use Prim.Native.Nat.{ℕ, suc, ◌+◌, ◌*◌, ◌/◌, ◌%◌, ◌<◌, ◌≤◌}
use native.Mathlib.Omega.{arith}
use lib.ListN.{length, get_or}
use lib.Dec.{eqb}
use borrow.Author.Tests.{eqb-true, eqb-false, eq-eqb, ne_eqb, lt-ltb, le-ltb}
use Rattle.std.specs.Prelude.{Option, Some, None}
use Rattle.algebra.specs.declared.Entry.{Entry}
use Rattle.algebra.specs.Entry.{𝟘}
use Rattle.algebra.specs.Matrix.{Bits}
use Rattle.diagrams.specs.Diagram.{Ref, value, node, ref_of, Node, Store, unused, node_at, reached, Both, From, Tidy, same_entry}
use Rattle.stores.specs.Columns.{Columns, zero_ref}
use Rattle.uniques.specs.UniqueTable.{node_in}
use Rattle.diagrams.proofs.Tests.{entry_decides, false_apart, apart_false}
use Rattle.diagrams.proofs.Keeping.{Kept, found, fresh, kept}
use Rattle.diagrams.specs.Reference.{Seen, Closed}
use Rattle.uniques.proofs.Chains.{length_listed, get_d_listed}
use Rattle.cofactors.specs.Slots.{store_in, value_at, cofactor, landing}
use Rattle.places.specs.Search.{is_zero}
use Rattle.places.specs.Ready.{Used}
use Rattle.places.proofs.Blocks.{eqb_iff}

-- ---- references

pub ref_node : (r : ℕ) → r % 2 ≡ 1 → ref_of r ≡ node (r / 2)
ref_node r odd = ap (λ (t : Bool). cond t (node (r / 2)) (value (r / 2))) (eq-eqb (r % 2) 1 odd)

pub ref_value : (r : ℕ) → (r % 2 ≡ 1 → ⊥) → ref_of r ≡ value (r / 2)
ref_value r even = ap (λ (t : Bool). cond t (node (r / 2)) (value (r / 2))) (ne_eqb (r % 2) 1 even)

-- a reference to a used slot
module _ (nodes values r : ℕ) (seen : Seen (ref_of r) nodes values) where
  pub node_seen : r % 2 ≡ 1 → r / 2 < nodes
  node_seen odd = subst (λ (x : Ref). Seen x nodes values) (ref_node r odd) seen

  pub value_seen : (r % 2 ≡ 1 → ⊥) → r / 2 < values
  value_seen even = subst (λ (x : Ref). Seen x nodes values) (ref_value r even) seen

-- ---- one step down

-- what the bit b of a level leads to: y gives what x gives by b, is used too, and asks for later levels
record Stepped (s : Store Entry) (nodes values level : ℕ) (b : Bool) (x y : Ref) : Type 0 where
  gives : (l : Bits) → reached 𝟘 s level x (b ∷ l) ≡ reached 𝟘 s (suc level) y l
  seen : Seen y nodes values
  from : From s (suc level) y

module _ (nodes values levels : ℕ) (cols : Columns) (𝓣 : Tidy 𝟘 levels (store_in nodes values cols))
    (closed : Closed (store_in nodes values cols) nodes values) where
  abbrev s : Store Entry
  s = store_in nodes values cols

  used : length s.nodes ≡ nodes
  used = length_listed nodes (node_in cols.level cols.low cols.high)

  node_is : (i : ℕ) → i < nodes → node_at s i ≡ node_in cols.level cols.low cols.high i
  node_is i h = get_d_listed nodes (node_in cols.level cols.low cols.high) unused i h

  value_is : (j : ℕ) → j < values → get_or s.values j 𝟘 ≡ value_at cols j
  value_is j h = get_d_listed values (value_at cols) 𝟘 j h

  stepped_value : (level : ℕ) (b : Bool) (j : ℕ) → j < values → Stepped s nodes values level b (value j) (value j)
  stepped_value level b j h = record { gives = λ l. refl; seen = h; from = tt }

  stepped_past : (level : ℕ) (b : Bool) (i : ℕ) → i < nodes → level ≤ (node_at s i).level → eqb (node_at s i).level level ≡ false
      → Stepped s nodes values level b (node i) (node i)
  stepped_past level b i h from other = record {
    gives = λ l. rw other;
    seen = h;
    from = omega (arith, eqb-false (node_at s i).level level other);
  }

  stepped_down : (level : ℕ) (b : Bool) (i : ℕ) → i < nodes → eqb (node_at s i).level level ≡ true
      → Stepped s nodes values level b (node i) (cond b (node_at s i).high (node_at s i).low)
  stepped_down level b i h asked = record { gives = λ l. rw asked; seen = child_seen b; from = child_from b }
    where
      rises : Both (From s (suc level)) (node_at s i)
      rises = subst (λ (d : ℕ). Both (From s (suc d)) (node_at s i)) (eqb-true (node_at s i).level level asked)
          (𝓣.levels_rise i (omega (arith, used)))

      child_seen : (b : Bool) → Seen (cond b (node_at s i).high (node_at s i).low) nodes values
      child_seen true = (closed i h).1
      child_seen false = (closed i h).0

      child_from : (b : Bool) → From s (suc level) (cond b (node_at s i).high (node_at s i).low)
      child_from true = rises.1
      child_from false = rises.0

  child_is : (b : Bool) (i : ℕ) → i < nodes → cond b (node_at s i).high (node_at s i).low ≡ ref_of (get_or (cond b cols.high cols.low) i 0)
  child_is true i h = ap (λ (n : Node). n.high) (node_is i h)
  child_is false i h = ap (λ (n : Node). n.low) (node_is i h)

  stepped : (level : ℕ) (b : Bool) (r : ℕ) → Seen (ref_of r) nodes values → From s level (ref_of r)
      → Stepped s nodes values level b (ref_of r) (ref_of (cofactor cols.level cols.low cols.high level b r))
  stepped level b r seen from = by_parity (eqb (r % 2) 1) refl
    where
      i : ℕ
      i = r / 2

      by_level : (t : Bool) → eqb (get_or cols.level i 0) level ≡ t → r % 2 ≡ 1 → i < nodes → From s level (node i)
          → Stepped s nodes values level b (node i) (ref_of (cond t (get_or (cond b cols.high cols.low) i 0) r))
      by_level true asked odd h from =
          subst (Stepped s nodes values level b (node i)) (child_is b i h)
          (stepped_down level b i h (ap (λ (n : Node). eqb n.level level) (node_is i h) ∙ asked))
      by_level false other odd h from =
          subst (Stepped s nodes values level b (node i)) (sym (ref_node r odd))
          (stepped_past level b i h from (ap (λ (n : Node). eqb n.level level) (node_is i h) ∙ other))

      by_parity : (t : Bool) → eqb (r % 2) 1 ≡ t
          → Stepped s nodes values level b (ref_of r)
          (ref_of (cond t (cond (eqb (get_or cols.level i 0) level) (get_or (cond b cols.high cols.low) i 0) r) r))
      by_parity true e =
          let odd : r % 2 ≡ 1 = eqb-true (r % 2) 1 e in
          let is : ref_of r ≡ node i = ref_node r odd in
          subst (λ (x : Ref). Stepped s nodes values level b x
          (ref_of (cond (eqb (get_or cols.level i 0) level) (get_or (cond b cols.high cols.low) i 0) r))) (sym is)
          (by_level (eqb (get_or cols.level i 0) level) refl odd (node_seen nodes values r seen odd) (subst (From s level) is from))
      by_parity false e =
          let even : r % 2 ≡ 1 → ⊥ = eqb-false (r % 2) 1 e in
          subst (λ (x : Ref). Stepped s nodes values level b x x) (sym (ref_value r even))
          (stepped_value level b i (value_seen nodes values r seen even))

  -- past the last level there are values only
  value_last : (r : ℕ) → Seen (ref_of r) nodes values → From s levels (ref_of r) → r % 2 ≡ 1 → ⊥
  value_last r seen from odd =
      let is : ref_of r ≡ node (r / 2) = ref_node r odd in
      let h : r / 2 < nodes = node_seen nodes values r seen odd in
      let at_least : levels ≤ (node_at s (r / 2)).level = subst (From s levels) is from in
      omega (arith, 𝓣.levels_below (r / 2) (omega (arith, used)))

  -- a value gives itself, whatever the bits
  value_gives : (level r : ℕ) (l : Bits) → (r % 2 ≡ 1 → ⊥) → r / 2 < values
      → reached 𝟘 s level (ref_of r) l ≡ value_at cols (r / 2)
  value_gives level r l even h = ap (λ (x : Ref). reached 𝟘 s level x l) (ref_value r even) ∙ everywhere l level
    where
      everywhere : (l : Bits) (level : ℕ) → reached 𝟘 s level (value (r / 2)) l ≡ value_at cols (r / 2)
      everywhere [] level = value_is (r / 2) h
      everywhere (b ∷ l) level = everywhere l (suc level)

  -- "no value twice"
  values_apart : (i j : ℕ) → i < values → j < values → value_at cols i ≡ value_at cols j → i ≡ j
  values_apart i j p q e =
      let len = length_listed values (value_at cols) in
      𝓣.no_value_twice i j (omega (arith, len)) (omega (arith, len)) (value_is i p ∙ e ∙ sym (value_is j q))

  -- ---- landings

  -- a reference to a used value that is this entry
  pub record Lands (v : ℕ) (e : Entry) : Type 0 where
    pub even : v % 2 ≡ 1 → ⊥
    pub used : v / 2 < values
    pub entry : value_at cols (v / 2) ≡ e

  pub landed : (l : Bits) (asked r : ℕ) → Seen (ref_of r) nodes values → From s asked (ref_of r) → length l + asked ≡ levels
      → Lands (landing cols.level cols.low cols.high asked r l) (reached 𝟘 s asked (ref_of r) l)
  landed [] asked r seen from e = record { even = even; used = used; entry = sym (value_gives asked r [] even used) }
    where
      last : asked ≡ levels
      last = omega arith

      even : r % 2 ≡ 1 → ⊥
      even = value_last r seen (subst (λ (level : ℕ). From s level (ref_of r)) last from)

      used : r / 2 < values
      used = value_seen nodes values r seen even
  landed (b ∷ l) asked r seen from e =
      let step = stepped asked b r seen from in
      let x = cofactor cols.level cols.low cols.high asked b r in
      subst (Lands (landing cols.level cols.low cols.high (suc asked) x l)) (sym (step.gives l))
      (landed l (suc asked) x step.seen step.from (omega arith))

  -- the children of used nodes are used
  pub children_used : (i : ℕ) → i < nodes → Used nodes (get_or cols.low i 0) × Used nodes (get_or cols.high i 0)
  children_used i h = (
    used_by cols.low (ap (λ (n : Node). n.low) (node_is i h)) (closed i h).0,
    used_by cols.high (ap (λ (n : Node). n.high) (node_is i h)) (closed i h).1,
  )
    where
      used_by : (column : List ℕ) {x : Ref} → x ≡ ref_of (get_or column i 0) → Seen x nodes values → Used nodes (get_or column i 0)
      used_by column is seen = node_seen nodes values (get_or column i 0) (subst (λ (x : Ref). Seen x nodes values) is seen)

  -- ---- the zero terminal

  -- the reference of zero, or none
  data Zero : Option ℕ → Type 0 where
    slot_of : (j : ℕ) → j < values → value_at cols j ≡ 𝟘 → Zero (Some (2 * j))
    nowhere : ((j : ℕ) → j < values → value_at cols j ≡ 𝟘 → ⊥) → Zero None

  zero_found : Zero (zero_ref s.values)
  zero_found = by_kept (kept entry_decides 𝟘 𝟘 s.values)
    where
      len : length s.values ≡ values
      len = length_listed values (value_at cols)

      by_kept : Kept same_entry 𝟘 𝟘 s.values → Zero (zero_ref s.values)
      by_kept (found j h g (p, q)) =
          let below : j < values = omega (arith, len) in
          rw (q, lt-ltb j (length s.values) h) (slot_of j below (sym (value_is j below) ∙ g))
      by_kept (fresh absent (p, q)) =
          rw (q, le-ltb (length s.values) (length s.values) (omega arith))
          (nowhere (λ j h e. absent j (omega (arith, len)) (value_is j h ∙ e)))

  pub zero_value : (z : ℕ) → zero_ref s.values ≡ Some z → z % 2 ≡ 0
  zero_value z = by_zero zero_found
    where
      by_zero : {o : Option ℕ} → Zero o → o ≡ Some z → z % 2 ≡ 0
      by_zero (slot_of j h is) e = let same : 2 * j ≡ z = cc in omega arith
      by_zero (nowhere none) e = cc

  -- ---- entries are told apart by their references

  same_test : (v w : ℕ) (x y : Entry) → (v ≡ w → x ≡ y) → (x ≡ y → v ≡ w) → eqb v w ≡ same_entry x y
  same_test v w x y to from = by_test (same_entry x y) refl
    where
      by_test : (t : Bool) → same_entry x y ≡ t → eqb v w ≡ t
      by_test true e = eq-eqb v w (from (entry_decides.sound x y e))
      by_test false e = ne_eqb v w (λ p. false_apart entry_decides x y e (to p))

  halved : (v w : ℕ) → (v % 2 ≡ 1 → ⊥) → (w % 2 ≡ 1 → ⊥) → v / 2 ≡ w / 2 → v ≡ w
  halved v w p q e = omega arith

  module _ {v : ℕ} {e : Entry} (𝓥 : Lands v e) where
    pub value_test : {w : ℕ} {d : Entry} → Lands w d → eqb v w ≡ same_entry e d
    value_test {w} {d} 𝓦 = same_test v w e d
        (λ p. sym 𝓥.entry ∙ ap (λ (k : ℕ). value_at cols (k / 2)) p ∙ 𝓦.entry)
        (λ p. halved v w 𝓥.even 𝓦.even (values_apart (v / 2) (w / 2) 𝓥.used 𝓦.used (𝓥.entry ∙ p ∙ sym 𝓦.entry)))

    pub zero_test : is_zero (zero_ref s.values) v ≡ same_entry e 𝟘
    zero_test = by_zero zero_found
      where
        by_zero : {o : Option ℕ} → Zero o → is_zero o v ≡ same_entry e 𝟘
        by_zero (slot_of j h is) =
            let half : (2 * j) / 2 ≡ j = omega arith in
            eqb_iff (2 * j) v v (2 * j) sym sym
            ∙ value_test (record { even = λ odd. omega arith; used = omega arith; entry = ap (value_at cols) half ∙ is })
        by_zero (nowhere none) = sym (apart_false entry_decides e 𝟘 (λ p. none (v / 2) 𝓥.used (𝓥.entry ∙ p)))
