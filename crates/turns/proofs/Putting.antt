-- An element found or put in a unique table, by what is answered: its reference, or that there was no slot. Assumes nothing.
use mathlib.Core.Path.{◌≡◌, ap, ◌∙◌}
use mathlib.Core.Bool.{Bool, true, false}
use mathlib.Core.List.{List, [], ◌∷◌}
use Prim.Native.Nat.{ℕ, ◌<◌, ◌≤◌}
use native.Mathlib.Decide.{dec_le}
use native.Mathlib.Omega.{arith}
use lib.ListN.{length, length-append}
use Rattle.std.specs.Prelude.{Option, is_none}
use Rattle.diagrams.specs.Diagram.{slot, keep}
use Rattle.uniques.specs.UniqueTable.{Put}
use Rattle.diagrams.proofs.Tests.{Decides}
use Rattle.diagrams.proofs.Keeping.{Kept, found, fresh, kept}
use Rattle.turns.specs.Progress.{FULL, reference_limit}
use Rattle.turns.specs.Turn.{answered}

module _ {A : Type 0} {same : A → A → Bool} (𝓓 : Decides same) (blank x : A) (l : List A) (answer : ℕ → ℕ) (N : ℕ) where
  -- it is held and counted, and the walk goes on; or it has no slot, which ends the building, and the count of used slots stays
  pub data Counted (Held : List A → Type 0) (used used' r : ℕ) (full : Bool) : Type 0 where
    fits : length (keep same x l) ≤ N → r ≡ answer (slot same x l) → r < reference_limit → Held (keep same x l) → used' ≡ length (keep same x l)
        → full ≡ false → Counted Held used used' r full
    over : N < length (keep same x l) → r ≡ FULL → used' ≡ used → full ≡ true → Counted Held used used' r full

  slot_kept : slot same x l < length (keep same x l)
  slot_kept = by_kept (kept 𝓓 blank x l)
    where
      by_kept : Kept same blank x l → slot same x l < length (keep same x l)
      by_kept (found j h g is) = omega (arith, is.1, ap length is.0)
      by_kept (fresh absent is) = omega (arith, is.1, ap length is.0, length-append l (x ∷ []))

  pub put_counted : {Held : List A → Type 0} {Unchanged : Type 0} {used used' : ℕ} {o : Option ℕ} {r : ℕ} {full : Bool}
      → ((i : ℕ) → i < N → answer i < reference_limit) → ((l' : List A) → Held l' → used' ≡ length l') → (Unchanged → used' ≡ used)
      → r ≡ answered o → full ≡ is_none o → Put same answer N x l o Held Unchanged → Counted Held used used' r full
  put_counted {Held} {Unchanged} {used} {used'} {o} {r} {full} small counts stays is now put = by_room (dec_le (length (keep same x l)) N)
    where
      by_room : Dec (length (keep same x l) ≤ N) → Counted Held used used' r full
      by_room (no less) =
          let (none, unchanged) = put.missing (omega arith) in
          over (omega arith) (is ∙ ap answered none) (stays unchanged) (now ∙ ap is_none none)
      by_room (yes room) =
          let (some, held) = put.kept room in
          let here : r ≡ answer (slot same x l) = is ∙ ap answered some in
          fits room here (rw here (small (slot same x l) (omega (arith, slot_kept)))) held (counts (keep same x l) held) (now ∙ ap is_none some)
