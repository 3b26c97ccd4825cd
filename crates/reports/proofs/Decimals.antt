-- Decimal numbers: the digits of a number are bytes of digits, read back they are the number, the first is not 0 unless it is
-- alone, there are no more of them than the number needs, and they are what the library prints. Assumes nothing.
use mathlib.Core.Path.{◌≡◌, refl, sym, ap, ◌∙◌}
use mathlib.Core.Bool.{Bool, cond}
use mathlib.Core.List.{List, [], ◌∷◌, ◌++◌}
use Prim.Native.Nat.{ℕ, zero, suc, ◌+◌, ◌*◌, ◌-◌, ◌/◌, ◌%◌, ◌^◌, ◌≤◌, ◌<◌}
use native.Mathlib.Decide.{dec_lt}
use native.Mathlib.Omega.{arith}
use borrow.Author.Tests.{lt-ltb, le-ltb}
use lib.ListN.{length, get_or, length-append}
use Rattle.std.specs.Fmt.{decimal}
use Rattle.std.proofs.lemmas.Fmt.{decimal_digit, decimal_step}
use Rattle.reports.specs.Line.{digit, digits_in, digits}

-- ---- a number below ten, and a number from ten on

abbrev by_test : ℕ → ℕ → Bool → List ℕ
by_test left n below = cond below (digit n ∷ []) (digits_in left (n / 10) ++ (digit (n % 10) ∷ []))

digits_in_short : (left n : ℕ) → n < 10 → digits_in left n ≡ digit n ∷ []
unfolding digits_in
digits_in_short zero n h = refl
digits_in_short (suc left) n h = ap (by_test left n) (lt-ltb n 10 h)

digits_in_long : (left n : ℕ) → 10 ≤ n → digits_in (suc left) n ≡ digits_in left (n / 10) ++ (digit (n % 10) ∷ [])
unfolding digits_in
digits_in_long left n h = ap (by_test left n) (le-ltb n 10 h)

digits_in_step : (left more n : ℕ) → Dec (n < 10) → digits_in left (n / 10) ≡ digits_in more (n / 10) →
    digits_in (suc left) n ≡ digits_in (suc more) n
digits_in_step left more n (yes h) front = digits_in_short (suc left) n h ∙ sym (digits_in_short (suc more) n h)
digits_in_step left more n (no h) front =
    digits_in_long left n (omega arith) ∙ ap (λ (s : List ℕ). s ++ (digit (n % 10) ∷ [])) front ∙ sym (digits_in_long more n (omega arith))

-- n steps are enough
digits_in_enough : (left more n : ℕ) → n ≤ left → n ≤ more → digits_in left n ≡ digits_in more n
digits_in_enough zero more n p q = digits_in_short zero n (omega arith) ∙ sym (digits_in_short more n (omega arith))
digits_in_enough (suc left) zero n p q = digits_in_short (suc left) n (omega arith) ∙ sym (digits_in_short zero n (omega arith))
digits_in_enough (suc left) (suc more) n p q =
    digits_in_step left more n (dec_lt n 10) (digits_in_enough left more (n / 10) (omega arith) (omega arith))

pub digits_short : (n : ℕ) → n < 10 → digits n ≡ digit n ∷ []
unfolding digits
digits_short n h = digits_in_short n n h

pub digits_long : (n : ℕ) → 10 ≤ n → digits n ≡ digits (n / 10) ++ (digit (n % 10) ∷ [])
unfolding digits
digits_long zero h = absurd (omega arith)
digits_long (suc n) h =
    digits_in_long n (suc n) h
    ∙ ap (λ (s : List ℕ). s ++ (digit (suc n % 10) ∷ [])) (digits_in_enough n (suc n / 10) (suc n / 10) (omega arith) (omega arith))

pub length_digits_long : (n : ℕ) → 10 ≤ n → length (digits n) ≡ length (digits (n / 10)) + 1
length_digits_long n h = ap length (digits_long n h) ∙ length-append (digits (n / 10)) (digit (n % 10) ∷ [])

-- what holds of one digit, and of a number if it holds of its tenth, holds of the digits of every number
module _ (P : ℕ → List ℕ → Type 0) (short : (n : ℕ) → n < 10 → P n (digit n ∷ []))
    (long : (n : ℕ) (front : List ℕ) → 10 ≤ n → P (n / 10) front → P n (front ++ (digit (n % 10) ∷ []))) where
  induction_step : (n : ℕ) → Dec (n < 10) → P (n / 10) (digits (n / 10)) → P n (digits n)
  induction_step n (yes h) front = rw (digits_short n h) (short n h)
  induction_step n (no h) front = rw (digits_long n (omega arith)) (long n (digits (n / 10)) (omega arith) front)

  induction_below : (left n : ℕ) → n ≤ left → P n (digits n)
  induction_below zero n h = rw (digits_short n (omega arith)) (short n (omega arith))
  induction_below (suc left) n h = induction_step n (dec_lt n 10) (induction_below left (n / 10) (omega arith))

  pub digits_induction : (n : ℕ) → P n (digits n)
  digits_induction n = induction_below n n (omega arith)

-- ---- the digits are bytes of digits

pub data Decimal : List ℕ → Type 0 where
  none : Decimal []
  more : {d : ℕ} {s : List ℕ} → 48 ≤ d → d ≤ 57 → Decimal s → Decimal (d ∷ s)

decimal_append : {s t : List ℕ} → Decimal s → Decimal t → Decimal (s ++ t)
decimal_append none q = q
decimal_append (more low high p) q = more low high (decimal_append p q)

one_decimal : (d : ℕ) → d < 10 → Decimal (digit d ∷ [])
one_decimal d h = more {d = digit d} (omega arith) (omega arith) none

pub digits_decimal : (n : ℕ) → Decimal (digits n)
digits_decimal =
    digits_induction (λ n s. Decimal s) one_decimal (λ n front h p. decimal_append p (one_decimal (n % 10) (omega arith)))

-- ---- the digits are the number's

-- the number that digits say, after one that is read already
abbrev pub read_on : ℕ → List ℕ → ℕ
read_on before [] = before
read_on before (d ∷ s) = read_on (before * 10 + (d - 48)) s

abbrev pub value : List ℕ → ℕ
value s = read_on 0 s

read_on_last : (before : ℕ) (s : List ℕ) (d : ℕ) → read_on before (s ++ (d ∷ [])) ≡ read_on before s * 10 + (d - 48)
read_on_last before [] d = refl
read_on_last before (e ∷ s) d = read_on_last (before * 10 + (e - 48)) s d

pub value_digits : (n : ℕ) → value (digits n) ≡ n
value_digits = digits_induction (λ n s. value s ≡ n) (λ n h. omega arith) (λ n front h p. rw (read_on_last 0 front, p) (omega arith))

-- ---- no leading zero

first_append : (s t : List ℕ) → 48 < get_or s 0 0 → 48 < get_or (s ++ t) 0 0
first_append [] t h = absurd (omega arith)
first_append (d ∷ s) t h = h

pub digits_leading : (n : ℕ) → 0 < n → 48 < get_or (digits n) 0 0
digits_leading =
    digits_induction (λ n s. 0 < n → 48 < get_or s 0 0) (λ n h positive. omega arith)
    (λ n front h p positive. first_append front _ (p (omega arith)))

-- ---- how many digits there are

pub length_digits : (n k : ℕ) → n < 10 ^ suc k → length (digits n) ≤ suc k
length_digits n =
    digits_induction (λ n s. (k : ℕ) → n < 10 ^ suc k → length s ≤ suc k) (λ n h k below. omega arith) long n
  where
    long : (n : ℕ) (front : List ℕ) → 10 ≤ n → ((k : ℕ) → n / 10 < 10 ^ suc k → length front ≤ suc k) →
        (k : ℕ) → n < 10 ^ suc k → length (front ++ (digit (n % 10) ∷ [])) ≤ suc k
    long n front h p zero below = absurd (omega arith)
    long n front h p (suc k) below = rw length-append (omega (arith, p k (omega arith)))

-- a number of 32 bits, and one of 64
pub length_digits_32 : (n : ℕ) → n < 2 ^ 32 → length (digits n) ≤ 10
length_digits_32 n h = length_digits n 9 (omega arith)

pub length_digits_64 : (n : ℕ) → n < 2 ^ 64 → length (digits n) ≤ 20
length_digits_64 n h = length_digits n 19 (omega arith)

-- ---- they are what the library prints

pub digits_printed : (n : ℕ) → n < 2 ^ 64 → digits n ≡ decimal n
digits_printed =
    digits_induction (λ n s. n < 2 ^ 64 → s ≡ decimal n) (λ n h below. sym (decimal_digit n h))
    (λ n front h p below. ap (λ (s : List ℕ). s ++ (digit (n % 10) ∷ [])) (p (omega arith)) ∙ sym (decimal_step n h below))
