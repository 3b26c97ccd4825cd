-- Columns: their used slots, and those of an empty store; which columns are lent.
-- Assumes nothing.
use mathlib.Core.Path.{◌≡◌, refl, ◌∙◌}
use mathlib.Core.List.{List}
use Prim.Native.Nat.{ℕ, ◌-◌}
use native.Mathlib.Nat.{sub-zero}
use lib.ListN.{length, take, replicate}
use lib.Seq.{take-append_seam}
use Rattle.diagrams.specs.Diagram.{empty}
use Rattle.stores.specs.Columns.{column, held, cleared, SameColumns}
use Rattle.stores.specs.declared.Store.{Store as LentStore}

pub take_column : {A : Type 0} (nought : A) (N : ℕ) (l : List A) → take (length l) (column nought N l) ≡ l
take_column nought N l = take-append_seam l (replicate (N - length l) nought)

pub held_empty : (N L : ℕ) → held N L empty ≡ cleared N L
unfolding held cleared
held_empty N L = simp sub-zero

-- ---- the columns lent

pub same_none : (s : LentStore) → SameColumns s s
same_none s = record {
  level = refl;
  low = refl;
  high = refl;
  a = refl;
  b = refl;
  c = refl;
  d = refl;
  level_long = refl;
  low_long = refl;
  high_long = refl;
  a_long = refl;
  b_long = refl;
  c_long = refl;
  d_long = refl;
}

pub same_then : {s s' s'' : LentStore} → SameColumns s s' → SameColumns s' s'' → SameColumns s s''
same_then h k = record {
  level = k.level ∙ h.level;
  low = k.low ∙ h.low;
  high = k.high ∙ h.high;
  a = k.a ∙ h.a;
  b = k.b ∙ h.b;
  c = k.c ∙ h.c;
  d = k.d ∙ h.d;
  level_long = k.level_long ∙ h.level_long;
  low_long = k.low_long ∙ h.low_long;
  high_long = k.high_long ∙ h.high_long;
  a_long = k.a_long ∙ h.a_long;
  b_long = k.b_long ∙ h.b_long;
  c_long = k.c_long ∙ h.c_long;
  d_long = k.d_long ∙ h.d_long;
}
