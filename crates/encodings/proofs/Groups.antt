-- The group count of a number, which comes from its significant bits, is the length of its shortest form.
-- Assumes nothing.
use mathlib.Core.Path.{◌≡◌, refl, sym, ◌∙◌, ap}
use mathlib.Core.List.{List, [], ◌∷◌}
use Prim.Native.Nat.{ℕ, suc, ◌+◌, ◌-◌, ◌*◌, ◌/◌, ◌%◌, ◌^◌, ◌<◌, ◌≤◌, min, max}
use native.Mathlib.Nat.{pow-suc, not-le_of_lt, le_trans, lt_of_not-le}
use native.Mathlib.Decide.{dec_lt, dec_le}
use native.Mathlib.Omega.{arith}
use borrow.Author.Tests.{ne_eqb}
use lib.Count.{count_leading_zeros, leading_length}
use lib.ListN.{length}
use lib.Pow.{pow_mono}
use Rattle.encodings.specs.Encoding.{groups, number_bytes}
use Rattle.encodings.proofs.Numbers.{one_byte, two_bytes, three_bytes, one, two, three, sized}

-- ---- the significant bits of a number, which is not 0

module _ (v low high : ℕ) (from : 2 ^ low ≤ v) (below : v < 2 ^ high) (word : v < 2 ^ 32) where
  over_low : (m : ℕ) → v < 2 ^ m → low < m
  over_low m less = lt_of_not-le (λ (h : m ≤ low). not-le_of_lt less (le_trans (pow_mono h) from))

  within_high : (m : ℕ) → 2 ^ m ≤ 2 * v + 1 → m ≤ high
  within_high m short = elim (dec_le m high) [
    | yes h ↦ h
    | no h ↦ let longer : 2 ^ suc high ≤ 2 ^ m = pow_mono (omega arith) in absurd (omega (arith, longer, pow-suc 2 high))
  ]

  significant : (low < 32 - count_leading_zeros 32 v) × (32 - count_leading_zeros 32 v ≤ high)
  significant =
      let s = leading_length 32 v word in
      let is : 32 - count_leading_zeros 32 v ≡ s.0 = omega (arith, s.1) in
      (omega (arith, is, over_low s.0 s.2), omega (arith, is, within_high s.0 s.3))

-- ---- the group count

groups_zero : groups 0 ≡ 1
unfolding groups
groups_zero = refl

module _ (v : ℕ) where
  groups_of : 0 < v → groups v ≡ (32 - count_leading_zeros 32 v + 6) / 7
  unfolding groups
  groups_of more = rw (ne_eqb v 0 (omega arith))

  -- the significant bits, seven to a group: none for 0, and otherwise some
  pub groups_rounded : v < 2 ^ 32 → let bits = 32 - count_leading_zeros 32 v in max (bits / 7 + min 1 (bits % 7)) 1 ≡ groups v
  unfolding count_leading_zeros
  groups_rounded word = elim (dec_lt 0 v) [
    | yes more ↦ let bits = significant v 0 32 more word word in omega (arith, groups_of more, bits.0, bits.1)
    | no none ↦
        let is : v ≡ 0 = omega arith in
        let all : count_leading_zeros 32 0 ≡ 32 = refl in
        omega (arith, ap groups is, groups_zero, ap (count_leading_zeros 32) is, all)
  ]

  one_group : v < 128 → groups v ≡ 1
  one_group small = elim (dec_lt 0 v) [
    | yes more ↦ let bits = significant v 0 7 (omega arith) small (omega arith) in omega (arith, groups_of more, bits.0, bits.1)
    | no none ↦ let is : v ≡ 0 = omega arith in ap groups is ∙ groups_zero
  ]

  two_groups : 128 ≤ v → v < 16384 → groups v ≡ 2
  two_groups large small =
      let bits = significant v 7 14 large small (omega arith) in
      omega (arith, groups_of (omega arith), bits.0, bits.1)

  three_groups : 16384 ≤ v → v < 2097152 → groups v ≡ 3
  three_groups large small =
      let bits = significant v 14 21 large small (omega arith) in
      omega (arith, groups_of (omega arith), bits.0, bits.1)

-- ---- the shortest form

pub groups_length : (v : ℕ) → v < 2097152 → groups v ≡ length (number_bytes v)
groups_length v small = elim (sized v small) [
  | one h ↦ one_group v h ∙ sym (ap length (one_byte v h))
  | two l h ↦ two_groups v l h ∙ sym (ap length (two_bytes v l h))
  | three l h ↦ three_groups v l h ∙ sym (ap length (three_bytes v l))
]

-- a number of more than one group: the lowest, with the top bit set, and then the groups of the rest
module _ (v : ℕ) (large : 128 ≤ v) (small : v < 2097152) where
  pub number_more : number_bytes v ≡ (v % 128 + 128) ∷ number_bytes (v / 128)
  number_more = elim (sized v small) [
    | one h ↦ absurd (omega arith)
    | two l h ↦ two_bytes v l h ∙ ap (λ (bytes : List ℕ). (v % 128 + 128) ∷ bytes) (sym (one_byte (v / 128) (omega arith)))
    | three l h ↦
        let last : v / 16384 ≡ v / 128 / 128 = omega arith in
        three_bytes v l
        ∙ ap (λ (z : ℕ). (v % 128 + 128) ∷ (v / 128 % 128 + 128) ∷ z ∷ []) last
        ∙ ap (λ (bytes : List ℕ). (v % 128 + 128) ∷ bytes) (sym (two_bytes (v / 128) (omega arith) (omega arith)))
  ]

  pub groups_more : groups v ≡ suc (groups (v / 128))
  groups_more = groups_length v small ∙ ap length number_more ∙ ap suc (sym (groups_length (v / 128) (omega arith)))

module _ (v : ℕ) (small : v < 2097152) where
  pub some_group : 0 < groups v
  some_group = elim (sized v small) [
    | one h ↦ omega (arith, one_group v h)
    | two l h ↦ omega (arith, two_groups v l h)
    | three l h ↦ omega (arith, three_groups v l h)
  ]

  -- what the count says of the number
  pub last_group : groups v ≤ 1 → v < 128
  last_group few = elim (sized v small) [
    | one h ↦ h
    | two l h ↦ absurd (omega (arith, two_groups v l h))
    | three l h ↦ absurd (omega (arith, three_groups v l h))
  ]

  pub further_group : 1 < groups v → 128 ≤ v
  further_group many = elim (dec_lt v 128) [
    | yes h ↦ absurd (omega (arith, one_group v h))
    | no h ↦ omega arith
  ]
