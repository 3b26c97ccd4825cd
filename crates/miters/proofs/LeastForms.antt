-- The least exponent: dividing while it goes keeps the matrix that a table over its exponent means, and comes to one table over one
-- exponent, the least, however often it is done between the steps.
-- Assumes nothing.
use mathlib.Core.Path.{◌≡◌, refl, sym, ◌∙◌, ap, ◌≡⟨◌⟩◌, ◌∎}
use mathlib.Core.Bool.{Bool, true, false, cond, true≢false}
use mathlib.Core.List.{List, [], ◌∷◌}
use mathlib.Core.Logic.{◌⊎◌, inl, inr}
use Prim.Native.Nat.{ℕ, zero, suc, ◌+◌, ◌-◌, ◌≤◌}
use native.Mathlib.Nat.{zero-add, le_of_lt}
use native.Mathlib.Omega.{arith}
use borrow.Author.Tests.{leb-true, leb-false}
use lib.Dec.{leb}
use lib.ListN.{length}
use Rattle.algebra.specs.declared.Entry.{Entry}
use Rattle.algebra.specs.Entry.{◌⊗◌, √2^}
use Rattle.algebra.specs.Matrix.{Bits, Matrix, product}
use Rattle.algebra.specs.Division.{divisible, over_√2}
use Rattle.algebra.proofs.Rings.{one_mul, mul_lcomm}
use Rattle.algebra.proofs.Entries.{entries, times_√2_is, √2^_suc, √2^_add, √2^_split, √2^_cancel}
use Rattle.algebra.proofs.Matrices.{scaled, scaled_product, product_scaled, scaled_scaled}
use Rattle.algebra.proofs.Matrices.{Alike, ◌≈⟨◌⟩◌, ◌■, alike_sym, alike_of, product_alike, scaled_alike}
use Rattle.algebra.proofs.Divisions.{times_over, times_√2_divisible}
use Rattle.gates.specs.Gate.{matrix}
use Rattle.diagrams.proofs.Everywhere.{entries_everywhere}
use Rattle.miters.specs.Miter.{Over, start, Step, right, left, stepped, all_divisible, divided, table, lower, taken, run}
use Rattle.miters.specs.Claims.{SameMatrix}

-- ---- the test looks at every entry

pub divisible_all : (n : ℕ) (M : Matrix) → all_divisible n M ≡ true → (r c : Bits) → length r ≡ n → length c ≡ n → divisible (M r c) ≡ true
divisible_all n M = (entries_everywhere n divisible M).0

all_divisible_by : (n : ℕ) (M : Matrix) → ((r c : Bits) → length r ≡ n → length c ≡ n → divisible (M r c) ≡ true) → all_divisible n M ≡ true
all_divisible_by n M = (entries_everywhere n divisible M).1

-- ---- multiples by powers of √2

-- M is L with its entries and its exponent raised by the same power of √2: the same matrix
pub record Raised (n : ℕ) (L M : Over) : Type 0 where
  pub by : ℕ
  pub power : M.power ≡ by + L.power
  pub entries : Alike n M.entries (scaled (√2^ by) L.entries)

pub raised_refl : (n : ℕ) (M : Over) → Raised n M M
unfolding √2^
raised_refl n M = record { by = 0; power = omega arith; entries = record { at = λ r c p q. sym (one_mul entries (M.entries r c)) } }

raised_trans : {n : ℕ} {K L M : Over} → Raised n K L → Raised n L M → Raised n K M
raised_trans {n} {K} {L} {M} p q = record {
  by = q.by + p.by;
  power = omega (arith, p.power, q.power);
  entries =
      M.entries ≈⟨ q.entries ⟩
      scaled (√2^ q.by) L.entries ≈⟨ scaled_alike (√2^ q.by) p.entries ⟩
      scaled (√2^ q.by) (scaled (√2^ p.by) K.entries) ≈⟨ alike_of (scaled_scaled (√2^ q.by) (√2^ p.by) K.entries) ⟩
      scaled (√2^ q.by ⊗ √2^ p.by) K.entries ≈⟨ alike_of (ap (λ (z : Entry). scaled z K.entries) (√2^_add q.by p.by)) ⟩
      scaled (√2^ (q.by + p.by)) K.entries ■;
}

-- one division is undone by one multiplication
divided_raised : (n k : ℕ) (M : Matrix) → all_divisible n M ≡ true → Raised n (table k (divided M)) (table (suc k) M)
divided_raised n k M e = record {
  by = 1;
  power = omega arith;
  entries = record { at = λ r c p q. sym (sym (times_√2_is (over_√2 (M r c))) ∙ times_over (M r c) (divisible_all n M e r c p q)) };
}

pub lower_raised : (n k : ℕ) (M : Matrix) → Raised n (lower n k M) (table k M)
unfolding lower
lower_raised n zero M = raised_refl n (table 0 M)
lower_raised n (suc k) M = by_test (all_divisible n M) refl (lower_raised n k (divided M))
  where
    by_test : (b : Bool) → all_divisible n M ≡ b → Raised n (lower n k (divided M)) (table k (divided M))
        → Raised n (cond b (lower n k (divided M)) (table (suc k) M)) (table (suc k) M)
    by_test true e onward = raised_trans onward (divided_raised n k M e)
    by_test false e onward = raised_refl n (table (suc k) M)

-- ---- the least exponent

-- it cannot be lowered: the exponent is 0, or an entry is no multiple of √2
abbrev pub LeastForm : ℕ → Over → Type 0
LeastForm n M = (M.power ≡ 0) ⊎ (all_divisible n M.entries ≡ false)

lower_least : (n k : ℕ) (M : Matrix) → LeastForm n (lower n k M)
unfolding lower
lower_least n zero M = inl refl
lower_least n (suc k) M = by_test (all_divisible n M) refl (lower_least n k (divided M))
  where
    by_test : (b : Bool) → all_divisible n M ≡ b → LeastForm n (lower n k (divided M)) → LeastForm n (cond b (lower n k (divided M)) (table (suc k) M))
    by_test true e onward = onward
    by_test false e onward = inr e

-- ---- one least form

-- the same entries on n qubits over the same exponent
pub record SameTable (n : ℕ) (M N : Over) : Type 0 where
  pub power : M.power ≡ N.power
  pub entries : Alike n M.entries N.entries

same_sym : {n : ℕ} {M N : Over} → SameTable n M N → SameTable n N M
same_sym h = record { power = sym h.power; entries = alike_sym h.entries }

-- raised by one power or more, every entry is a multiple
raised_divisible : {n : ℕ} {L M : Over} (h : Raised n L M) (k : ℕ) → h.by ≡ suc k → all_divisible n M.entries ≡ true
raised_divisible {n} {L} {M} h k e = all_divisible_by n M.entries (λ r c p q.
    ap divisible (h.entries.at r c p q ∙ ap (λ (j : ℕ). √2^ j ⊗ L.entries r c) e ∙ √2^_suc k (L.entries r c))
    ∙ times_√2_divisible (√2^ k ⊗ L.entries r c))

-- a least form that is another table raised is that table
raised_least : {n : ℕ} {L M : Over} → Raised n L M → LeastForm n M → SameTable n M L
unfolding √2^
raised_least {n} {L} {M} h least = by h.by refl
  where
    by : (j : ℕ) → h.by ≡ j → SameTable n M L
    by zero e = record {
      power = h.power ∙ ap (λ (j : ℕ). j + L.power) e ∙ zero-add L.power;
      entries = record { at = λ r c p q. h.entries.at r c p q ∙ ap (λ (j : ℕ). √2^ j ⊗ L.entries r c) e ∙ one_mul entries (L.entries r c) };
    }
    by (suc j) e = absurd (not_least least)
      where
        not_least : LeastForm n M → ⊥
        not_least (inl none) = omega (arith, h.power)
        not_least (inr some) = true≢false (sym (raised_divisible h j e) ∙ some)

-- two that are raised to one table mean one matrix
raised_means : {n : ℕ} {K L M : Over} → Raised n K M → Raised n L M → SameMatrix n K L
raised_means {n} {K} {L} {M} p q r c e f = √2^_cancel p.by _ _ (
    √2^ p.by ⊗ (√2^ K.power ⊗ L.entries r c)
    ≡⟨ sym (√2^_split p.by K.power (L.entries r c)) ∙ ap (λ (j : ℕ). √2^ j ⊗ L.entries r c) (sym p.power ∙ q.power) ⟩
    √2^ (q.by + L.power) ⊗ L.entries r c
    ≡⟨ √2^_split q.by L.power (L.entries r c) ∙ mul_lcomm entries (√2^ q.by) (√2^ L.power) (L.entries r c) ⟩
    √2^ L.power ⊗ (√2^ q.by ⊗ L.entries r c)
    ≡⟨ ap (◌⊗◌ (√2^ L.power)) (sym (q.entries.at r c e f) ∙ p.entries.at r c e f) ⟩
    √2^ L.power ⊗ (√2^ p.by ⊗ K.entries r c) ≡⟨ mul_lcomm entries (√2^ L.power) (√2^ p.by) (K.entries r c) ⟩
    √2^ p.by ⊗ (√2^ L.power ⊗ K.entries r c) ∎)

-- of two that mean one matrix, that of the higher exponent is raised over the other
means_raised : {n : ℕ} {K L : Over} → SameMatrix n L K → K.power ≤ L.power → Raised n K L
means_raised {n} {K} {L} means less = record {
  by = more;
  power = omega arith;
  entries = record {
    at = λ r c e f. √2^_cancel K.power (L.entries r c) (√2^ more ⊗ K.entries r c)
        (sym (means r c e f) ∙ ap (λ (j : ℕ). √2^ j ⊗ K.entries r c) split ∙ √2^_split K.power more (K.entries r c));
  };
}
  where
    more : ℕ
    more = L.power - K.power

    split : L.power ≡ K.power + more
    split = omega arith

-- a least form, raised, is any other table that means its matrix
least_raised : {n : ℕ} {M N : Over} → LeastForm n M → SameMatrix n M N → Raised n M N
least_raised {n} {M} {N} least means = by (leb M.power N.power) refl
  where
    by : (b : Bool) → leb M.power N.power ≡ b → Raised n M N
    by true e = means_raised (λ r c p q. sym (means r c p q)) (leb-true M.power N.power e)
    by false e =
        let less = leb-false M.power N.power e in
        let same = raised_least (means_raised means (le_of_lt less)) least in
        absurd (omega (arith, same.power, less))

pub least_unique : {n : ℕ} {K L M : Over} → Raised n K M → Raised n L M → LeastForm n K → LeastForm n L → SameTable n K L
least_unique p q least_k least_l = same_sym (raised_least (least_raised least_k (raised_means p q)) least_l)

-- "The exponent in the report is thereby the least possible": of all that mean the matrix
pub least_power : (n : ℕ) (M N : Over) → LeastForm n M → SameMatrix n M N → M.power ≤ N.power
least_power n M N least means = let raised = least_raised least means in omega (arith, raised.power)

-- ---- steps

stepped_raised : {n : ℕ} {L M : Over} (s : Step) → Raised n L M → Raised n (stepped n s L) (stepped n s M)
unfolding stepped
stepped_raised {n} {L} {M} (right g) h = record {
  by = h.by;
  power = omega (arith, h.power);
  entries =
      product n M.entries (matrix g) ≈⟨ product_alike n h.entries (matrix g ■) ⟩
      product n (scaled (√2^ h.by) L.entries) (matrix g) ≈⟨ alike_of (scaled_product n (√2^ h.by) L.entries (matrix g)) ⟩
      scaled (√2^ h.by) (product n L.entries (matrix g)) ■;
}
stepped_raised {n} {L} {M} (left g) h = record {
  by = h.by;
  power = omega (arith, h.power);
  entries =
      product n (matrix g) M.entries ≈⟨ product_alike n (matrix g ■) h.entries ⟩
      product n (matrix g) (scaled (√2^ h.by) L.entries) ≈⟨ alike_of (product_scaled n (√2^ h.by) (matrix g) L.entries) ⟩
      scaled (√2^ h.by) (product n (matrix g) L.entries) ■;
}

-- the steps without any dividing
abbrev pub multiplied : ℕ → List Step → Over → Over
multiplied n [] M = M
multiplied n (s ∷ ss) M = multiplied n ss (stepped n s M)

pub run_raised : (n : ℕ) (ss : List Step) {L M : Over} → Raised n L M → Raised n (run n ss L) (multiplied n ss M)
run_raised n [] h = h
run_raised n (s ∷ ss) {L} {M} h =
    run_raised n ss (raised_trans (lower_raised n (stepped n s L).power (stepped n s L).entries) (stepped_raised s h))

pub run_least : (n : ℕ) (ss : List Step) (M : Over) → LeastForm n M → LeastForm n (run n ss M)
run_least n [] M h = h
run_least n (s ∷ ss) M h = run_least n ss (taken n s M) (lower_least n (stepped n s M).power (stepped n s M).entries)

pub start_least : (n : ℕ) → LeastForm n start
unfolding start
start_least n = inl refl
