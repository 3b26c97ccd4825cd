-- Unique tables of terminals: what lent slots hold as a terminal is found or appended.
-- Assumes nothing.
use mathlib.Core.Path.{◌≡◌, sym, ◌∙◌, ap}
use mathlib.Core.Bool.{Bool}
use mathlib.Core.List.{List, [], ◌∷◌, ◌++◌}
use Prim.Native.Nat.{ℕ, suc, ◌+◌, ◌*◌, ◌<◌, ◌≤◌}
use native.Mathlib.Numerals.{add-one}
use native.Mathlib.Omega.{arith}
use Rattle.std.proofs.Common.{Option, Some, None}
use lib.ListN.{length, get_or, set, drop, length-set, length-append}
use lib.Seq.{get_or-set_same, get_or-set_other, drop-set-lt}
use Rattle.algebra.specs.declared.Entry.{Entry}
use Rattle.algebra.specs.Entry.{𝟘}
use Rattle.diagrams.specs.Diagram.{same_entry}
use Rattle.uniques.specs.declared.ValueTable.{ValueTable}
use Rattle.uniques.specs.UniqueTable.{Falls, Met, found, Put, value_in, values_in, value_hash, value_chain}
use Rattle.uniques.specs.UniqueTable.{ValuesHeld, table_values, ValueTableHeld, ValuesUnchanged, ValuesMade, ValueMade}
use Rattle.diagrams.proofs.Tests.{entry_decides}
use Rattle.diagrams.proofs.Keeping.{Absent}
use Rattle.uniques.proofs.Hashes.{value_hash_below}
use Rattle.uniques.proofs.Chains.{length_listed, listed_snoc, chain_within, chain_falls, met_found, put_there, put_next, put_full, indexed_snoc}

-- a terminal's slots are there
pub record InSlots (vals : List Entry) (index : List ℕ) (j : ℕ) : Type 0 where
  pub small : j < 65536
  pub in_vals : j < length vals
  pub in_index : j < length index

pub in_slots : {L heads : ℕ} {vs : List Entry} {vals : List Entry} {index : List ℕ} → ValuesHeld L heads vs vals index
    → (j : ℕ) → j < L → InSlots vals index j
in_slots held j h = record {
  small = omega (arith, held.indexed.limit);
  in_vals = omega (arith, held.vals_long);
  in_index = omega (arith, held.indexed.long);
}

-- along the chain of a terminal
module _ (t : ValueTable) (held : ValueTableHeld t) (x : Entry) {first : ℕ} (starts : first ≡ value_chain t x) where
  small : value_hash t.heads x < t.heads
  small = value_hash_below t.heads x held.indexed.some_head

  pub falls : Falls t.index.now first
  falls = chain_falls _ _ held.indexed x small first starts

  pub chain_in : (j : ℕ) → j < first → InSlots t.terminals.now t.index.now j
  chain_in j below =
      let w = chain_within _ _ held.indexed x small first starts in
      in_slots held j (omega (arith, w.0, w.1))

  pub finds : {says : ℕ → Bool → Type 0} {r : Option ℕ} → ((j : ℕ) (b : Bool) → says j b → b ≡ same_entry (value_in t.terminals.now j) x)
      → Met says t.index.now first r → r ≡ found same_entry x (table_values t)
  finds test met = met_found _ _ held.indexed x small first starts entry_decides (λ j b _ is. test j b is) met

-- ---- a terminal made

-- as many terminals as slots used
pub used_is : (t : ValueTable) → t.used ≡ length (table_values t)
used_is t = sym (length_listed t.used (value_in t.terminals.now))

module _ (t : ValueTable) (held : ValueTableHeld t) (e : Entry) where
  abbrev L : ℕ
  L = length t.terminals.now

  -- the slots with one terminal more
  next_held : (first : ℕ) → t.used < L → first ≡ get_or t.index.now (L + value_hash t.heads e) 0 → Absent 𝟘 e (table_values t)
      → ValuesHeld L t.heads (table_values t ++ (e ∷ [])) (set t.terminals.now t.used e)
      (set (set t.index.now t.used first) (L + value_hash t.heads e) (t.used + 1))
  next_held first below at_head absent = record {
    vals_long = length-set t.terminals.now t.used e;
    values =
        ap (λ (k : ℕ). values_in k (set t.terminals.now t.used e))
        (length-append (table_values t) (e ∷ []) ∙ add-one (length (table_values t)) ∙ ap suc (sym (used_is t)))
        ∙ listed_snoc t.used (value_in t.terminals.now) (value_in (set t.terminals.now t.used e)) e
        (λ i less. get_or-set_other t.terminals.now t.used i e 𝟘 (omega arith)) (get_or-set_same t.terminals.now t.used e 𝟘 below);
    indexed = indexed_snoc held.indexed e (omega (arith, used_is t)) (value_hash_below t.heads e held.indexed.some_head)
        t.used first (used_is t) at_head absent;
  }

  pub made_next : (hash first : ℕ) {terminals' : List Entry} {index' : List ℕ} {used' : ℕ}
      → hash ≡ value_hash t.heads e → None ≡ found same_entry e (table_values t) → t.used < L → first ≡ get_or t.index.now (L + hash) 0
      → terminals' ≡ set t.terminals.now t.used e → index' ≡ set (set t.index.now t.used first) (L + hash) (t.used + 1) → used' ≡ t.used + 1
      → Put same_entry (λ j. 2 * j) L e (table_values t) (Some (2 * t.used))
      (λ vs'. ValuesHeld L t.heads vs' terminals' index' × (drop (length vs') terminals' ≡ drop (length vs') t.terminals.now) × (used' ≡ length vs'))
      ((terminals' ≡ t.terminals.now) × (index' ≡ t.index.now) × (used' ≡ t.used))
  made_next hash first h is below at_head terminals index one_more =
      put_next entry_decides 𝟘 e (table_values t) _ L _ _ t.used is (used_is t) below
      (λ absent. (
        rw (terminals, index, h) (next_held first below (rw h at at_head) absent),
        ap (drop more) terminals ∙ drop-set-lt more t.terminals.now t.used e (omega (arith, used_is t, length-append (table_values t) (e ∷ []))),
        omega (arith, used_is t, length-append (table_values t) (e ∷ [])),
      ))
    where
      more : ℕ
      more = length (table_values t ++ (e ∷ []))

  module _ (t' : ValueTable) where
    pub made_found : (j : ℕ) → Some j ≡ found same_entry e (table_values t) → ValuesUnchanged t t' → ValueMade t t' e (Some (2 * j))
    made_found j is same =
        put_there entry_decides 𝟘 e (table_values t) _ L (ValuesMade t t') (ValuesUnchanged t t') j is held.indexed.room (
          rw (same.0, same.1) held,
          ap (drop (length (table_values t))) same.0,
          same.2 ∙ used_is t,
        )

    pub made_full : None ≡ found same_entry e (table_values t) → L ≤ t.used → ValuesUnchanged t t' → ValueMade t t' e None
    made_full is all same =
        put_full entry_decides 𝟘 e (table_values t) _ L (ValuesMade t t') (ValuesUnchanged t t') is (omega (arith, used_is t)) same
