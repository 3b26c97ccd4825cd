-- The data of specs/Rule.antt are those of the published matrices and inverses.
-- Assumes nothing.
use mathlib.Core.Path.{◌≡◌, refl, sym, ◌∙◌, ap, subst⁻¹}
use mathlib.Core.Bool.{Bool, true, false}
use Prim.Native.Nat.{ℕ, ◌≤◌}
use lib.ListN.{get_or-eq_default}
use Rattle.std.specs.Prelude.{Option, Some}
use Rattle.algebra.specs.Entry.{𝟙, neg, turned, times_w8}
use Rattle.gates.specs.Gate.{Kind, Z, S, S†, T, T†, X, Y, H, Pair, CZ, CNOT, Meant, one, two, mask_one, mask_two, unknown, codes, meant}
use Rattle.gates.specs.Gate.{small, small_pair, inverse_kind}
use Rattle.gates.specs.Code.{code_number}
use Rattle.gates.specs.declared.Code.{Code}
use Rattle.gates.specs.declared.Rule.{Rule}
use Rattle.gates.specs.Rule.{kind_rule, pair_rule, toffoli_rule, code_rule, right_matrix, left_matrix, controlled}
use Rattle.gates.specs.Rule.{rule_of, decision, Published, Decided}

-- what holds at each of the four pairs of bits holds at every pair
pub four : (P : Bool → Bool → Type 0) → P false false → P false true → P true false → P true true → (x y : Bool) → P x y
four P p q r s false false = p
four P p q r s false true = q
four P p q r s true false = r
four P p q r s true true = s

-- ---- one qubit

abbrev KindData : Kind → Bool → Bool → Type 0
KindData k x y = (right_matrix (kind_rule k) x y ≡ small k x y) × (left_matrix (kind_rule k) x y ≡ small k x y)

kind_data : (k : Kind) (x y : Bool) → KindData k x y
unfolding turned times_w8 neg 𝟙
kind_data Z = four _ (refl, refl) (refl, refl) (refl, refl) (refl, refl)
kind_data S = four _ (refl, refl) (refl, refl) (refl, refl) (refl, refl)
kind_data S† = four _ (refl, refl) (refl, refl) (refl, refl) (refl, refl)
kind_data T = four _ (refl, refl) (refl, refl) (refl, refl) (refl, refl)
kind_data T† = four _ (refl, refl) (refl, refl) (refl, refl) (refl, refl)
kind_data X = four _ (refl, refl) (refl, refl) (refl, refl) (refl, refl)
kind_data Y = four _ (refl, refl) (refl, refl) (refl, refl) (refl, refl)
kind_data H = four _ (refl, refl) (refl, refl) (refl, refl) (refl, refl)

pub kind_right : (k : Kind) (x y : Bool) → right_matrix (kind_rule k) x y ≡ small k x y
kind_right k x y = (kind_data k x y).0

pub kind_left : (k : Kind) (x y : Bool) → left_matrix (kind_rule k) x y ≡ small k x y
kind_left k x y = (kind_data k x y).1

pub kind_inverse : (k : Kind) → meant (code_number (kind_rule k).inverse) ≡ one (inverse_kind k)
unfolding meant
kind_inverse Z = refl
kind_inverse S = refl
kind_inverse S† = refl
kind_inverse T = refl
kind_inverse T† = refl
kind_inverse X = refl
kind_inverse Y = refl
kind_inverse H = refl

-- ---- a control and a target

abbrev PairData : Pair → Bool → Bool → Bool → Bool → Type 0
PairData k c t c' t' =
    (controlled (right_matrix (pair_rule k)) c t c' t' ≡ small_pair k c t c' t')
    × (controlled (left_matrix (pair_rule k)) c t c' t' ≡ small_pair k c t c' t')

pair_data : (k : Pair) (c t c' t' : Bool) → PairData k c t c' t'
unfolding turned times_w8 neg 𝟙
pair_data CZ false t false t' = (refl, refl)
pair_data CZ false t true t' = (refl, refl)
pair_data CZ true t false t' = (refl, refl)
pair_data CZ true t true t' = four (λ x y. PairData CZ true x true y) (refl, refl) (refl, refl) (refl, refl) (refl, refl) t t'
pair_data CNOT false t false t' = (refl, refl)
pair_data CNOT false t true t' = (refl, refl)
pair_data CNOT true t false t' = (refl, refl)
pair_data CNOT true t true t' = four (λ x y. PairData CNOT true x true y) (refl, refl) (refl, refl) (refl, refl) (refl, refl) t t'

pub pair_right : (k : Pair) (c t c' t' : Bool) → controlled (right_matrix (pair_rule k)) c t c' t' ≡ small_pair k c t c' t'
pair_right k c t c' t' = (pair_data k c t c' t').0

pub pair_left : (k : Pair) (c t c' t' : Bool) → controlled (left_matrix (pair_rule k)) c t c' t' ≡ small_pair k c t c' t'
pair_left k c t c' t' = (pair_data k c t c' t').1

pub pair_inverse : (k : Pair) → meant (code_number (pair_rule k).inverse) ≡ two k
unfolding meant
pair_inverse CZ = refl
pair_inverse CNOT = refl

-- ---- a mask and a target: where the controls are 1, X

pub toffoli_data : (x y : Bool) → (right_matrix toffoli_rule x y ≡ small X x y) × (left_matrix toffoli_rule x y ≡ small X x y)
unfolding turned times_w8 neg 𝟙
toffoli_data = four _ (refl, refl) (refl, refl) (refl, refl) (refl, refl)

-- ---- the decision

published : (m : Meant) → Published m (rule_of m)
unfolding meant
published (one k) = (kind_right k, kind_left k, kind_inverse k)
published (two k) = (pair_right k, pair_left k, pair_inverse k)
published mask_one = ((λ x y. (toffoli_data x y).0), (λ x y. (toffoli_data x y).1), refl)
published mask_two = (refl, refl, refl, refl)
published unknown = tt

pub decided : (code : ℕ) {r : Option Rule} → r ≡ decision code → Decided code r
unfolding decision
decided code e = record { is = e; published = subst⁻¹ (Published (meant code)) e (published (meant code)) }

-- the data of a code are those of its number
number_decided : (c : Code) → decision (code_number c) ≡ Some (code_rule c)
unfolding decision meant
number_decided Code.X = refl
number_decided Code.Y = refl
number_decided Code.Z = refl
number_decided Code.H = refl
number_decided Code.S = refl
number_decided Code.SDagger = refl
number_decided Code.T = refl
number_decided Code.TDagger = refl
number_decided Code.Cnot = refl
number_decided Code.Cz = refl
number_decided Code.Toffoli = refl
number_decided Code.Fredkin = refl

pub code_decided : (c : Code) {code : Code} {rule : Rule} → code ≡ c → rule ≡ code_rule c → Decided (code_number code) (Some rule)
code_decided c {code} at is = decided (code_number code) (ap Some (is ∙ sym (ap code_rule at)) ∙ sym (number_decided code))

-- a number from 12 on is no gate's code
pub past_codes : (number : ℕ) → 12 ≤ number → meant number ≡ unknown
unfolding meant
past_codes number past = get_or-eq_default codes unknown past
