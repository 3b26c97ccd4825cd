-- The levels of a mask's qubits, one after another: those of the sixteen qubits that it names, each written into the next slot.
-- Assumes nothing.
use mathlib.Core.Bool.{Bool, true, false, cond}
use mathlib.Core.List.{List, [], ◌∷◌, map}
use mathlib.Core.Path.{◌≡◌, refl, sym, ◌∙◌, ap, ap₂}
use Prim.Native.Nat.{ℕ, zero, suc, ◌+◌, ◌*◌, ◌/◌, ◌%◌, ◌^◌, ◌<◌, ◌≤◌}
use native.Mathlib.Nat.{one-mul, mod-eq_of_lt, lt_of_le_of_lt, pow-suc, div-div-eq-div-mul, div-one, zero-add}
use lib.Dec.{lit<}
use lib.Pow.{pow_pos, pow_mono}
use native.Mathlib.Numerals.{add-one}
use native.Mathlib.Omega.{arith}
use lib.Count.{ones-le}
use lib.ListN.{length, get_or, set, take, replicate}
use lib.Seq.{sets}
use Rattle.std.specs.List.{range_with_len, filter, enumerate_from}
use Rattle.std.proofs.lemmas.List.{length-map, get_or-map, take_all}
use Rattle.std.proofs.lemmas.List.FromFn.{get_or-enumerate_from, length-enumerate_from}
use Rattle.gates.specs.Gate.{in_mask}
use Rattle.plans.specs.Prepare.{side_level, levels_from, stage_levels}
use Rattle.plans.proofs.Staging.{length_levels}

-- the qubits from q on that the mask names, of so many
abbrev named_from : ℕ → ℕ → ℕ → List ℕ
named_from named q count = filter (in_mask named) (range_with_len q count)

-- their levels
levels_are : (side named q count : ℕ) → levels_from count (side_level side q) (named / 2 ^ q) ≡ map (side_level side) (named_from named q count)
unfolding levels_from
levels_are side named q zero = refl
levels_are side named q (suc count) =
    ap₂ (λ (level rest : ℕ). cond here (side_level side q ∷ levels_from count level rest) (levels_from count level rest)) next_level next_rest
    ∙ by_bit here _ _ (levels_are side named (q + 1) count)
  where
    here : Bool
    here = in_mask named q

    next_level : side_level side q + 2 ≡ side_level side (q + 1)
    next_level = omega arith

    next_rest : named / 2 ^ q / 2 ≡ named / 2 ^ (q + 1)
    next_rest = div-div-eq-div-mul named (2 ^ q) 2 ∙ ap (λ (d : ℕ). named / d) (sym (rw add-one (pow-suc 2 q)))

    by_bit : (b : Bool) (levels qubits : List ℕ) → levels ≡ map (side_level side) qubits
        → cond b (side_level side q ∷ levels) levels ≡ map (side_level side) (cond b (q ∷ qubits) qubits)
    by_bit true levels qubits e = ap (λ (l : List ℕ). side_level side q ∷ l) e
    by_bit false levels qubits e = e

-- each is one of so many
named_below : (named q count n d : ℕ) → n < length (named_from named q count) → get_or (named_from named q count) n d < q + count
named_below named q zero n d h = absurd (omega arith)
named_below named q (suc count) n d h = by_bit (in_mask named q) n h (λ m k. named_below named (q + 1) count m d k)
  where
    later : List ℕ
    later = named_from named (q + 1) count

    by_bit : (b : Bool) (n : ℕ) → n < length (cond b (q ∷ later) later) → ((m : ℕ) → m < length later → get_or later m d < q + 1 + count)
        → get_or (cond b (q ∷ later) later) n d < q + suc count
    by_bit true zero h below = omega arith
    by_bit true (suc n) h below = omega (arith, below n (omega arith))
    by_bit false n h below = omega (arith, below n h)

-- ---- the next slot

sets_next : (ls slots : List ℕ) (i n : ℕ) → n < length ls → set (sets slots i (take n ls)) (i + n) (get_or ls n 0) ≡ sets slots i (take (suc n) ls)
sets_next [] slots i n h = absurd (omega arith)
sets_next (v ∷ vs) slots i zero h = ap (λ (j : ℕ). set slots j v) (none i)
  where
    none : (i : ℕ) → i + 0 ≡ i
    none i = omega arith
sets_next (v ∷ vs) slots i (suc n) h =
    ap (λ (j : ℕ). set (sets (set slots i v) (suc i) (take n vs)) j (get_or vs n 0)) (shift i n)
    ∙ sets_next vs (set slots i v) (suc i) n (omega arith)
  where
    shift : (i n : ℕ) → i + suc n ≡ suc i + n
    shift i n = omega arith

module _ (side named : ℕ) (small : named < 65536) where
  abbrev levels : List ℕ
  levels = levels_from 16 side named

  -- the qubits that are named, each with the number of its slot
  abbrev pub numbered : List (ℕ × ℕ)
  numbered = enumerate_from 0 (named_from named 0 16)

  all : levels ≡ map (side_level side) (named_from named 0 16)
  all = ap₂ (levels_from 16) (sym (zero-add side)) (sym (div-one named)) ∙ levels_are side named 0 16

  as_many : length levels ≡ length (named_from named 0 16)
  as_many = ap length all ∙ length-map (named_from named 0 16) (side_level side)

  fit : length levels ≤ 16
  fit = omega (arith, length_levels 16 side named small, ones-le 16 named small)

  -- one of them: its slot, and its level
  pub numbered_one : (n k q : ℕ) → n < length numbered → ◌≡◌ {A = ℕ × ℕ} (k, q) (get_or numbered n (k, q))
      → (k ≡ n) × (n < 16) × (q < 16) × (n < length levels) × (get_or levels n 0 ≡ side_level side q)
  numbered_one n k q h is = (slot, omega (arith, inside, fit), omega (arith, below, qubit), inside, level)
    where
      among : n < length (named_from named 0 16)
      among = omega (arith, length-enumerate_from 0 (named_from named 0 16))

      inside : n < length levels
      inside = omega (arith, among, as_many)

      pair : ℕ → ℕ × ℕ
      pair m = (m, get_or (named_from named 0 16) n q)

      both : ◌≡◌ {A = ℕ × ℕ} (k, q) (n, get_or (named_from named 0 16) n q)
      both = is ∙ get_or-enumerate_from 0 (named_from named 0 16) n (k, q) among ∙ ap pair (zero-add n)

      slot : k ≡ n
      slot = ap (λ (p : ℕ × ℕ). p.0) both

      qubit : q ≡ get_or (named_from named 0 16) n q
      qubit = ap (λ (p : ℕ × ℕ). p.1) both

      below : get_or (named_from named 0 16) n q < 0 + 16
      below = named_below named 0 16 n q among

      level : get_or levels n 0 ≡ side_level side q
      level =
          ap (λ (ls : List ℕ). get_or ls n 0) all ∙ get_or-map (side_level side) (named_from named 0 16) n q 0 among
          ∙ ap (side_level side) (sym qubit)

  -- its level goes into the next slot
  pub written : (slots : List ℕ) (n : ℕ) → n < length levels
      → set (sets slots 0 (take n levels)) n (get_or levels n 0) ≡ sets slots 0 (take (suc n) levels)
  written slots n h = ap (λ (j : ℕ). set (sets slots 0 (take n levels)) j (get_or levels n 0)) (sym (zero-add n)) ∙ sets_next levels slots 0 n h

  -- none is left
  pub written_all : (n : ℕ) → n ≡ length numbered → sets (replicate 16 0) 0 (take n levels) ≡ stage_levels side named
  unfolding stage_levels
  written_all n e =
      ap (sets (replicate 16 0) 0) (take_all n levels (omega (arith, as_many, length-enumerate_from 0 (named_from named 0 16))))

-- ---- a power of two as the code makes it

pub shifted : (q : ℕ) → q < 16 → 1 * 2 ^ q % 4294967296 ≡ 2 ^ q
shifted q small = ap (λ (m : ℕ). m % 4294967296) (one-mul (2 ^ q)) ∙ mod-eq_of_lt (lt_of_le_of_lt (pow_mono {i = q} {j = 16} (omega arith)) (lit< tt))

pub shifted_some : (q : ℕ) → q < 16 → 0 < 1 * 2 ^ q % 4294967296
shifted_some q small = let e = shifted q small in let some = pow_pos q in omega (arith, e, some)
