-- The bits of a number, and the way down from the root by those of a row and a column.
-- Assumes nothing.
use mathlib.Core.Path.{◌≡◌, refl, sym, ◌∙◌, ap, ap₂, subst, ◌≡⟨◌⟩◌, ◌∎}
use mathlib.Core.Bool.{Bool, false, cond}
use mathlib.Core.List.{◌∷◌}
use Prim.Native.Nat.{ℕ, zero, suc, ◌+◌, ◌*◌, ◌-◌, ◌/◌, ◌%◌, ◌^◌, ◌<◌}
use native.Mathlib.Nat.{mod-lt, mod-eq_of_lt, zero-div}
use native.Mathlib.Omega.{arith}
use lib.Pow.{mod-pow-add}
use lib.ListN.{length, replicate}
use lib.Dec.{eqb}
use Rattle.algebra.specs.Matrix.{Bits}
use Rattle.diagrams.specs.Diagram.{place}
use Rattle.stores.specs.declared.Nodes.{Nodes}
use Rattle.miters.specs.Report.{number}
use Rattle.cofactors.specs.Slots.{cofactor, landing, bits}
use Rattle.places.specs.Ready.{Used, UsedNodes}
use Rattle.searches.specs.Ready.{reference_at}
use Rattle.places.proofs.Slots.{used_down}

-- ---- bits

pub length_bits : (k x : ℕ) → length (bits k x) ≡ k
length_bits zero x = refl
length_bits (suc k) x = ap suc (length_bits k x)

-- the number of the low bits
number_low : (k x : ℕ) → number (bits k x) ≡ x % 2 ^ k
number_low zero x = omega arith
number_low (suc k) x =
    cond (eqb b 1) (2 ^ length (bits k x)) 0 + number (bits k x)
    ≡⟨ ap₂ (λ (j m : ℕ). cond (eqb b 1) (2 ^ j) 0 + m) (length_bits k x) (number_low k x) ⟩
    cond (eqb b 1) (2 ^ k) 0 + x % 2 ^ k ≡⟨ ap (λ (w : ℕ). w + x % 2 ^ k) (weight b (mod-lt (x / 2 ^ k) (omega arith))) ⟩
    b * 2 ^ k + x % 2 ^ k ≡⟨ sym (mod-pow-add x 1 k) ⟩
    x % 2 ^ (1 + k) ≡⟨ ap (λ (j : ℕ). x % 2 ^ j) (omega arith) ⟩
    x % 2 ^ suc k ∎
  where
    b : ℕ
    b = x / 2 ^ k % 2

    weight : (b : ℕ) → b < 2 → cond (eqb b 1) (2 ^ k) 0 ≡ b * 2 ^ k
    weight zero h = omega arith
    weight (suc zero) h = omega arith
    weight (suc (suc b)) h = absurd (omega arith)

-- a number's bits give it back, if it has no more
pub number_bits : (n x : ℕ) → x < 2 ^ n → number (bits n x) ≡ x
number_bits n x h = number_low n x ∙ mod-eq_of_lt h

-- all bits of 0 are 0
pub bits_zero : (k : ℕ) → bits k 0 ≡ replicate k false
bits_zero zero = refl
bits_zero (suc k) = ap₂ (λ (x : ℕ) (l : Bits). eqb (x % 2) 1 ∷ l) (zero-div (2 ^ k)) (bits_zero k)

-- ---- the way down

-- from r on, the bits of the qubits from q on lead to where all the bits lead from the root
pub record Descended (nodes : Nodes) (used n row column r q : ℕ) : Type 0 where
  pub there : Used used r
  pub same : landing nodes.level.now nodes.low.now nodes.high.now (2 * q) r (place (bits (n - q) row) (bits (n - q) column))
      ≡ reference_at nodes used n row column

-- the bit of a number that is asked for at qubit q
abbrev next_bit : ℕ → ℕ → ℕ → Bool
next_bit n q x = eqb (x / 2 ^ (n - q - 1) % 2) 1

-- the reference below
abbrev down : Nodes → ℕ → Bool → ℕ → ℕ
down nodes = cofactor nodes.level.now nodes.low.now nodes.high.now

-- one qubit more
module _ {nodes : Nodes} {used n row column q r x y : ℕ} (held : UsedNodes nodes used) (at : Descended nodes used n row column r q) where
  pub way_again : q < n → x ≡ down nodes (2 * q) (next_bit n q row) r → y ≡ down nodes (2 * q + 1) (next_bit n q column) x
      → Descended nodes used n row column y (q + 1)
  way_again more x_is y_is = record {
    there = subst (Used used) (sym y_is) (used_down held (2 * q + 1) (next_bit n q column) x
        (subst (Used used) (sym x_is) (used_down held (2 * q) (next_bit n q row) r at.there)));
    same = (λ i. along (sym next i) (y_by i) (sym fewer i)) ∙ ap (along (2 * q) r) (sym one_more) ∙ at.same;
  }
    where
      along : ℕ → ℕ → ℕ → ℕ
      along level r k = landing nodes.level.now nodes.low.now nodes.high.now level r (place (bits k row) (bits k column))

      one_more : n - q ≡ suc (n - q - 1)
      one_more = omega arith

      fewer : n - q - 1 ≡ n - (q + 1)
      fewer = omega arith

      next : suc (suc (2 * q)) ≡ 2 * (q + 1)
      next = omega arith

      next_level : 2 * q + 1 ≡ suc (2 * q)
      next_level = omega arith

      y_by : y ≡ down nodes (suc (2 * q)) (next_bit n q column) (down nodes (2 * q) (next_bit n q row) r)
      y_by = y_is ∙ (λ i. down nodes (next_level i) (next_bit n q column) (x_is i))
