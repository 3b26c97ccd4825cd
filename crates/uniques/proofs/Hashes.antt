-- Hashes: no sum of them wraps, and a part of a size stays below it.
-- Assumes nothing.
use mathlib.Core.Path.{◌≡◌, refl, ◌∙◌, ap}
use mathlib.Core.Bool.{Bool, cond}
use Prim.Native.Nat.{ℕ, suc, ◌*◌, ◌-◌, ◌%◌, ◌^◌, ◌<◌, ◌≤◌}
use native.Mathlib.Nat.{div-lt_iff_lt-mul, mul-le-mul_right}
use native.Mathlib.Omega.{arith}
use borrow.Author.Tests.{le-ltb}
use lib.IntN.{ℤ, pos, negsuc, ◌+ℤ◌}
use lib.Signed.{mag}
use mir.Facts.{to_z-of_z}
use mir.Syntax.{w32}
use mir.Val.{to_z, of_z}
use Rattle.algebra.specs.declared.Entry.{Entry}
use Rattle.diagrams.specs.Diagram.{Node}
use Rattle.uniques.specs.UniqueTable.{part_of, spread, node_hash, lifted, value_hash}

-- ---- parts of a size

scaled_bound : (x size : ℕ) → x % 65536 * size ≤ 65535 * size
scaled_bound x size = mul-le-mul_right size (omega arith)

part_below : (x size : ℕ) → 0 < size → part_of x size < size
part_below x size some = (div-lt_iff_lt-mul {k = 65536} (omega arith)).1 (omega (arith, scaled_bound x size))

pub spread_below : (x y z size : ℕ) → 0 < size → spread x y z size < size
unfolding spread
spread_below x y z size some = part_below _ size some

pub node_hash_below : (heads : ℕ) (n : Node) → 0 < heads → node_hash heads n < heads
unfolding node_hash
node_hash_below heads n some = spread_below _ _ _ heads some

pub value_hash_below : (heads : ℕ) (e : Entry) → 0 < heads → value_hash heads e < heads
unfolding value_hash
value_hash_below heads e some = part_below _ heads some

-- ---- numbers lifted by 2^31

pub lifted_sum : (z : ℤ) → mag z < 2 ^ 31 → z +ℤ pos 2147483648 ≡ pos (lifted z)
unfolding lifted
lifted_sum (pos n) h = refl
lifted_sum (negsuc n) h =
    ap (λ (t : Bool). cond t (negsuc (suc n - suc 2147483648)) (pos (2147483648 - suc n))) (le-ltb 2147483648 (suc n) (omega arith))
    ∙ ap pos (omega arith)

pub lifted_below : (z : ℤ) → mag z < 2 ^ 31 → lifted z < 2 ^ 32
unfolding lifted
lifted_below (pos n) h = omega arith
lifted_below (negsuc n) h = omega arith

-- a local's number, lifted
pub lifted_local : (z : ℤ) {r : ℕ} → mag z < 2 ^ 31 → r ≡ lifted (to_z w32 (of_z w32 z)) → r ≡ lifted z
lifted_local z h e = e ∙ ap lifted (to_z-of_z {w = w32} (record { sfits = h }))
