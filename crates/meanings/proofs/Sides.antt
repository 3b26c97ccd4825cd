-- Places and sides: a gate on the left acts on the row's bits of a place, on the right on the column's. One argument over the side.
-- Assumes nothing.
use mathlib.Core.Path.{◌≡◌, refl, sym, ◌∙◌, ap, ap₂}
use mathlib.Core.Bool.{Bool, true, false, not, cond, ◌&&◌, ◌||◌}
use mathlib.Core.List.{[], ◌∷◌}
use Prim.Native.Nat.{ℕ, zero, suc}
use native.Mathlib.Omega.{arith}
use lib.ListN.{length, set}
use Rattle.algebra.specs.declared.Entry.{Entry}
use Rattle.algebra.specs.Entry.{◌⊕◌, ◌⊖◌, turned}
use Rattle.algebra.specs.Matrix.{Bits, Matrix}
use Rattle.gates.specs.declared.Phases.{Phases}
use Rattle.gates.specs.declared.Rule.{Rule}
use Rattle.gates.specs.Gate.{Gate, bit, all_set, exchanged, Fits}
use Rattle.gates.specs.Rule.{does_flip, does_mix, does_swap, phase, gate_rule, controls, target, second, mixed, moved, acted}
use Rattle.gates.proofs.LocalRules.{product_left, product_right}
use Rattle.diagrams.specs.Diagram.{levels, rows, columns, entries}
use Rattle.diagrams.proofs.Places.{levels_double, length_halves}
use Rattle.plans.specs.Prepare.{as_number, side_level, product_on}

-- ---- the bits of one side

-- the row's bits of a place, or the column's
abbrev pub half : Bool → Bits → Bits
half false l = rows l
half true l = columns l

-- "Level 2q asks for the row bit of qubit q, level 2q + 1 for its column bit"
abbrev pub level_on : Bool → ℕ → ℕ
level_on false q = levels q
level_on true q = suc (levels q)

pub side_level_is : (right : Bool) (q : ℕ) → side_level (as_number right) q ≡ level_on right q
side_level_is false q = let double = levels_double q in omega arith
side_level_is true q = let double = levels_double q in omega arith

pub bit_half : (right : Bool) (l : Bits) (q : ℕ) → bit (half right l) q ≡ bit l (level_on right q)
bit_half false [] q = refl
bit_half true [] q = refl
bit_half false (x ∷ []) zero = refl
bit_half true (x ∷ []) zero = refl
bit_half false (x ∷ []) (suc q) = refl
bit_half true (x ∷ []) (suc q) = refl
bit_half false (x ∷ (y ∷ l)) zero = refl
bit_half true (x ∷ (y ∷ l)) zero = refl
bit_half false (x ∷ (y ∷ l)) (suc q) = bit_half false l q
bit_half true (x ∷ (y ∷ l)) (suc q) = bit_half true l q

-- to set a bit of one side leaves the other side
pub set_half : (right : Bool) (l : Bits) (q : ℕ) (b : Bool)
    → (half right (set l (level_on right q) b) ≡ set (half right l) q b) × (half (not right) (set l (level_on right q) b) ≡ half (not right) l)
set_half false [] q b = (refl, refl)
set_half true [] q b = (refl, refl)
set_half false (x ∷ []) zero b = (refl, refl)
set_half true (x ∷ []) zero b = (refl, refl)
set_half false (x ∷ []) (suc q) b = (refl, refl)
set_half true (x ∷ []) (suc q) b = (refl, refl)
set_half false (x ∷ (y ∷ l)) zero b = (refl, refl)
set_half true (x ∷ (y ∷ l)) zero b = (refl, refl)
set_half false (x ∷ (y ∷ l)) (suc q) b = let below = set_half false l q b in (ap (λ (m : Bits). x ∷ m) below.0, ap (λ (m : Bits). y ∷ m) below.1)
set_half true (x ∷ (y ∷ l)) (suc q) b = let below = set_half true l q b in (ap (λ (m : Bits). y ∷ m) below.0, ap (λ (m : Bits). x ∷ m) below.1)

-- a set of levels that has the levels of a set of qubits on one side, and none of the other
pub record Spreads (right : Bool) (Q P : ℕ → Bool) : Type 0 where
  pub same_side : (q : ℕ) → P (level_on right q) ≡ Q q
  pub other_side : (q : ℕ) → P (level_on (not right) q) ≡ false

spreads_later : (right : Bool) (Q P : ℕ → Bool) → Spreads right Q P → Spreads right (λ i. Q (suc i)) (λ i. P (suc (suc i)))
spreads_later false Q P spreads = record { same_side = λ q. spreads.same_side (suc q); other_side = λ q. spreads.other_side (suc q) }
spreads_later true Q P spreads = record { same_side = λ q. spreads.same_side (suc q); other_side = λ q. spreads.other_side (suc q) }

pub all_set_half : (right : Bool) (Q P : ℕ → Bool) (n : ℕ) (l : Bits) → Spreads right Q P → length l ≡ levels n
    → all_set P l ≡ all_set Q (half right l)
all_set_half false Q P n [] spreads e = refl
all_set_half true Q P n [] spreads e = refl
all_set_half right Q P zero (x ∷ []) spreads e = absurd (omega arith)
all_set_half right Q P (suc n) (x ∷ []) spreads e = absurd (omega arith)
all_set_half right Q P zero (x ∷ (y ∷ l)) spreads e = absurd (omega arith)
all_set_half false Q P (suc n) (x ∷ (y ∷ l)) spreads e =
    let below = all_set_half false (λ i. Q (suc i)) (λ i. P (suc (suc i))) n l (spreads_later false Q P spreads) (omega arith) in
    ap₂ (λ (own other : Bool). (not own || x) && ((not other || y) && all_set (λ i. P (suc (suc i))) l)) (spreads.same_side 0) (spreads.other_side 0)
    ∙ ap (λ (t : Bool). (not (Q 0) || x) && t) below
all_set_half true Q P (suc n) (x ∷ (y ∷ l)) spreads e =
    let below = all_set_half true (λ i. Q (suc i)) (λ i. P (suc (suc i))) n l (spreads_later true Q P spreads) (omega arith) in
    ap₂ (λ (own other : Bool). (not other || x) && ((not own || y) && all_set (λ i. P (suc (suc i))) l)) (spreads.same_side 0) (spreads.other_side 0)
    ∙ ap (λ (t : Bool). (not (Q 0) || y) && t) below

-- ---- the local rule on places

-- the entries of a row or a column, by the bits of one side
abbrev line : Matrix → Bool → Bits → Bits → Entry
line M false l x = M x (columns l)
line M true l x = M (rows l) x

line_half : (M : Matrix) (right : Bool) (l : Bits) → line M right l (half right l) ≡ entries M l
line_half M false l = refl
line_half M true l = refl

line_set : (M : Matrix) (right : Bool) (l : Bits) (q : ℕ) (b : Bool)
    → line M right l (set (half right l) q b) ≡ entries M (set l (level_on right q) b)
line_set M false l q b = ap₂ M (sym (set_half false l q b).0) (sym (set_half false l q b).1)
line_set M true l q b = ap₂ M (sym (set_half true l q b).1) (sym (set_half true l q b).0)

-- a row's or a column's entries do not look at the bits of its own side
line_other : (M : Matrix) (right : Bool) (l : Bits) (q : ℕ) (b : Bool) (x : Bits) → line M right l x ≡ line M right (set l (level_on right q) b) x
line_other M false l q b x = ap (M x) (sym (set_half false l q b).1)
line_other M true l q b x = ap (λ (r : Bits). M r x) (sym (set_half true l q b).1)

line_exchanged : (M : Matrix) (right : Bool) (l : Bits) (q q' : ℕ)
    → line M right l (exchanged q q' (half right l)) ≡ entries M (exchanged (level_on right q) (level_on right q') l)
line_exchanged M right l q q' =
    ap₂ (λ (a b : Bool). line M right l (set (set (half right l) q a) q' b)) (bit_half right l q') (bit_half right l q)
    ∙ ap (λ (x : Bits). line M right l (set x q' (bit l (level_on right q)))) (sym (set_half right l q (bit l (level_on right q'))).0)
    ∙ line_other M right l q (bit l (level_on right q')) (set (half right once) q' (bit l (level_on right q)))
    ∙ line_set M right once q' (bit l (level_on right q))
  where
    once : Bits
    once = set l (level_on right q) (bit l (level_on right q'))

module _ (rule : Rule) (p : Phases) (M : Matrix) (right : Bool) (Q P : ℕ → Bool) (n q q' : ℕ) (l : Bits) (spreads : Spreads right Q P)
    (size : length l ≡ levels n) where
  abbrev L : Bits → Entry
  L = line M right l

  abbrev h : Bits
  h = half right l

  taken_place : (flips : Bool) → L (cond flips (set h q (not (bit h q))) h)
      ≡ entries M (cond flips (set l (level_on right q) (not (bit l (level_on right q)))) l)
  taken_place true =
      line_set M right l q (not (bit h q)) ∙ ap (λ (b : Bool). entries M (set l (level_on right q) (not b))) (bit_half right l q)
  taken_place false = line_half M right l

  mixed_place : mixed q L h ≡ mixed (level_on right q) (entries M) l
  mixed_place =
      ap (λ (b : Bool). cond b (L (set h q false) ⊖ L (set h q true)) (L (set h q false) ⊕ L (set h q true))) (bit_half right l q)
      ∙ ap₂ (λ (u w : Entry). cond (bit l (level_on right q)) (u ⊖ w) (u ⊕ w)) (line_set M right l q false) (line_set M right l q true)

  moved_place : moved rule p q L h ≡ moved rule p (level_on right q) (entries M) l
  moved_place = ap₂ (λ (b : Bool) (x : Entry). turned (phase p b) x) (bit_half right l q) (taken_place (does_flip rule.act))

  pub acted_place : acted rule p Q q q' (line M right l) (half right l) ≡ acted rule p P (level_on right q) (level_on right q') (entries M) l
  unfolding acted
  acted_place =
      ap (λ (t : Bool). cond t (cond (does_mix rule.act) (mixed q L h) (cond (does_swap rule.act) (L (exchanged q q' h)) (moved rule p q L h))) (L h))
      (sym (all_set_half right Q P n l spreads size))
      ∙ ap₂ (cond (all_set P l)) (by_action (does_mix rule.act) (does_swap rule.act)) (line_half M right l)
    where
      by_action : (mixes swaps : Bool) → cond mixes (mixed q L h) (cond swaps (L (exchanged q q' h)) (moved rule p q L h))
          ≡ cond mixes (mixed (level_on right q) (entries M) l)
          (cond swaps (entries M (exchanged (level_on right q) (level_on right q') l)) (moved rule p (level_on right q) (entries M) l))
      by_action true swaps = mixed_place
      by_action false true = line_exchanged M right l q q'
      by_action false false = moved_place

-- the phases of a side
abbrev pub phases_on : Bool → Rule → Phases
phases_on false rule = rule.left
phases_on true rule = rule.right

-- the product with a gate on either side, by place
pub product_place : (n : ℕ) (right : Bool) (g : Gate) (P : ℕ → Bool) → Fits n g → Spreads right (controls g) P
    → (M : Matrix) (l : Bits) → length l ≡ levels n
    → entries (product_on right n g M) l
    ≡ acted (gate_rule g) (phases_on right (gate_rule g)) P (level_on right (target g)) (level_on right (second g)) (entries M) l
product_place n false g P fits spreads M l size =
    product_left n g fits M (rows l) (columns l) (length_halves n l size).0
    ∙ acted_place (gate_rule g) (gate_rule g).left M false (controls g) P n (target g) (second g) l spreads size
product_place n true g P fits spreads M l size =
    product_right n g fits M (rows l) (columns l) (length_halves n l size).1
    ∙ acted_place (gate_rule g) (gate_rule g).right M true (controls g) P n (target g) (second g) l spreads size
