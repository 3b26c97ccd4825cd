-- What the store rules say of columns.
-- Assumes nothing.
use mathlib.Core.Path.{◌≡◌, refl, sym, ◌∙◌}
use mathlib.Core.Bool.{Bool, true, false}
use Prim.Native.Nat.{ℕ, ◌≤◌}
use lib.ListN.{length}
use borrow.Author.Tests.{leb-true, eqb-true}
use Rattle.stores.specs.Columns.{Columns}
use Rattle.diagrams.proofs.Tests.{both_true}
use Rattle.steps.specs.Stepping.{Long}
use Rattle.checks.specs.declared.Lengths.{Lengths}
use Rattle.checks.specs.Checks.{lengths, store_rules, both_rules}

pub record Ruled (l : Lengths) : Type 0 where
  pub few_nodes : l.level ≤ 65536
  pub low : l.low ≡ l.level
  pub high : l.high ≡ l.level
  pub some_value : 1 ≤ l.a
  pub few_values : l.a ≤ 65536
  pub b : l.b ≡ l.a
  pub c : l.c ≡ l.a
  pub d : l.d ≡ l.a

rules_hold : (l : Lengths) → store_rules l ≡ true → Ruled l
unfolding store_rules
rules_hold l e =
    let (level, e) = both_true _ _ e in
    let (low, e) = both_true _ _ e in
    let (high, e) = both_true _ _ e in
    let (some, e) = both_true _ _ e in
    let (few, e) = both_true _ _ e in
    let (b, e) = both_true _ _ e in
    let (c, d) = both_true _ _ e in
    record {
      few_nodes = leb-true _ _ level;
      low = eqb-true _ _ low;
      high = eqb-true _ _ high;
      some_value = leb-true _ _ some;
      few_values = leb-true _ _ few;
      b = eqb-true _ _ b;
      c = eqb-true _ _ c;
      d = eqb-true _ _ d;
    }

-- a rule that is broken fails the test
pub broken : (l : Lengths) → (Ruled l → ⊥) → false ≡ store_rules l
broken l unruled = by_test (store_rules l) refl
  where
    by_test : (b : Bool) → store_rules l ≡ b → false ≡ b
    by_test true e = absurd (unruled (rules_hold l e))
    by_test false e = refl

pub record BothRuled (first second : Lengths) : Type 0 where
  pub of_first : Ruled first
  pub of_second : Ruled second
  pub nodes : first.level ≡ second.level
  pub values : first.a ≡ second.a

pub both_hold : (first second : Lengths) → both_rules first second ≡ true → BothRuled first second
unfolding both_rules
both_hold first second e =
    let (p, e) = both_true _ _ e in
    let (q, e) = both_true _ _ e in
    let (nodes, values) = both_true _ _ e in
    record { of_first = rules_hold first p; of_second = rules_hold second q; nodes = eqb-true _ _ nodes; values = eqb-true _ _ values }

-- columns of these lengths
ruled_long : (C : Columns) {N L : ℕ} → Ruled (lengths C) → length C.level ≡ N → length C.a ≡ L → Long N L C
ruled_long C ruled nodes values = record {
  of_level = nodes;
  of_low = ruled.low ∙ nodes;
  of_high = ruled.high ∙ nodes;
  of_a = values;
  of_b = ruled.b ∙ values;
  of_c = ruled.c ∙ values;
  of_d = ruled.d ∙ values;
}

module _ (first second : Columns) (both : both_rules (lengths first) (lengths second) ≡ true) where
  abbrev ruled : BothRuled (lengths first) (lengths second)
  ruled = both_hold (lengths first) (lengths second) both

  pub first_long : Long (length first.level) (length first.a) first
  first_long = ruled_long first ruled.of_first refl refl

  pub second_long : Long (length first.level) (length first.a) second
  second_long = ruled_long second ruled.of_second (sym ruled.nodes) (sym ruled.values)
