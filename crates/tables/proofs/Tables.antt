-- The computed table: what noting an answer changes, and that every answer recalled is one that was noted.
-- Assumes nothing.
use mathlib.Core.Path.{◌≡◌, refl, sym, ◌∙◌, ap, ◌≡⟨◌⟩◌, ◌∎}
use mathlib.Core.Bool.{Bool, true, false, cond, ◌&&◌}
use mathlib.Core.List.{List}
use Rattle.std.specs.Prelude.{Some, None}
use mathlib.Core.Logic.{◌≢◌, ◌⊎◌, inl, inr}
use Prim.Native.Nat.{ℕ, ◌+◌, ◌*◌, ◌<◌, ◌≤◌}
use native.Mathlib.Omega.{arith}
use lib.Dec.{eqb, ltb, lit<}
use lib.ListN.{length, get_or, set, drop, replicate, length-append, length-replicate, length-drop, length-set, get_or-replicate, get_or-append}
use lib.Seq.{get_or-set_same, get_or-set_other, lt-length-set}
use borrow.Author.Tests.{ltb-true, ltb-false, eqb-true, eqb-false, lt-ltb, le-ltb, eq-eqb, ne_eqb}
use Rattle.transitions.specs.declared.State.{State}
use Rattle.transitions.specs.Plan.{Plan}
use Rattle.transitions.specs.Next.{mode_code}
use Rattle.transitions.proofs.Codes.{mode_code_once}
use Rattle.tables.specs.Table.{slot_of, table_end, unkept, told, kept_as, entered, recalled, noted, cleared}
use Rattle.tables.specs.Table.{TableSizes, TableFits, InTable, AllRight}
use Rattle.tables.proofs.Slots.{alone_same, entry_slot, entry_room, same_state}

-- ---- clearing

pub length_cleared : (to : ℕ) (memo : List ℕ) → to ≤ length memo → length (cleared to memo) ≡ length memo
length_cleared to memo fits = simp (length-append, length-replicate, length-drop) (omega arith)

pub cleared_zero : (to : ℕ) (memo : List ℕ) (i : ℕ) → i < to → get_or (cleared to memo) i 0 ≡ 0
cleared_zero to memo i lt = get_or-append (replicate to 0) (drop to memo) 0 i (rw length-replicate lt) ∙ get_or-replicate to i 0 0 lt

-- ---- recalling

-- a number of a region, or an entry
side_of : (plan : Plan) (σ : State) → (slot_of plan σ < 3 * plan.span) ⊎ (3 * plan.span ≤ slot_of plan σ)
side_of plan σ = by_test (ltb (slot_of plan σ) (3 * plan.span)) refl
  where
    by_test : (b : Bool) → ltb (slot_of plan σ) (3 * plan.span) ≡ b → (slot_of plan σ < 3 * plan.span) ⊎ (3 * plan.span ≤ slot_of plan σ)
    by_test true e = inl (ltb-true _ _ e)
    by_test false e = inr (ltb-false _ _ e)

recalled_number : (plan : Plan) (memo : List ℕ) (σ : State) → slot_of plan σ < 3 * plan.span →
    recalled plan memo σ ≡ told (get_or memo (slot_of plan σ) 0)
unfolding recalled
recalled_number plan memo σ below = rw (lt-ltb _ _ below)

recalled_entry : (plan : Plan) (memo : List ℕ) (σ : State) → 3 * plan.span ≤ slot_of plan σ →
    recalled plan memo σ ≡ told (cond (entered memo (slot_of plan σ) σ) (get_or memo (slot_of plan σ + 3) 0) 0)
unfolding recalled
recalled_entry plan memo σ past = rw (le-ltb _ _ past)

-- in a table of zeros nothing is known
pub recalled_zeros : (plan : Plan) (memo : List ℕ) (σ : State) → TableSizes plan → InTable plan σ →
    ((i : ℕ) → i < table_end plan → get_or memo i 0 ≡ 0) → recalled plan memo σ ≡ None
recalled_zeros plan memo σ sizes place zeros = by_side (side_of plan σ)
  where
    by_side : (slot_of plan σ < 3 * plan.span) ⊎ (3 * plan.span ≤ slot_of plan σ) → recalled plan memo σ ≡ None
    by_side (inl below) = recalled_number plan memo σ below ∙ ap told (zeros (slot_of plan σ) (omega arith))
    by_side (inr past) =
        let no_mode : eqb 0 (mode_code σ.mode + 1) ≡ false = ne_eqb 0 (mode_code σ.mode + 1) (omega arith) in
        recalled_entry plan memo σ past ∙ rw (zeros (slot_of plan σ + 2) (omega (arith, entry_room plan σ sizes place past)), no_mode)

-- ---- a state's own numbers

data Owns (plan : Plan) (σ : State) (i : ℕ) : Type 0 where
  number : slot_of plan σ < 3 * plan.span → i ≡ slot_of plan σ → Owns plan σ i
  word : 3 * plan.span ≤ slot_of plan σ → slot_of plan σ ≤ i → i < slot_of plan σ + 4 → Owns plan σ i

-- two slots have no number in common
owns_apart : (plan : Plan) (σ τ : State) (i : ℕ) → InTable plan σ → InTable plan τ → slot_of plan τ ≢ slot_of plan σ →
    Owns plan σ i → Owns plan τ i → ⊥
owns_apart plan σ τ i in_σ in_τ apart (number below is) (number below_τ is_τ) = omega arith
owns_apart plan σ τ i in_σ in_τ apart (number below is) (word past from to) = omega arith
owns_apart plan σ τ i in_σ in_τ apart (word past from to) (number below is) = omega arith
owns_apart plan σ τ i in_σ in_τ apart (word past from to) (word past_τ from_τ to_τ) =
    omega (arith, entry_slot plan σ in_σ past, entry_slot plan τ in_τ past_τ)

-- what is recalled rests on them alone
recalled_by_own : (plan : Plan) (memo memo' : List ℕ) (τ : State) → ((i : ℕ) → Owns plan τ i → get_or memo i 0 ≡ get_or memo' i 0) →
    recalled plan memo τ ≡ recalled plan memo' τ
recalled_by_own plan memo memo' τ agree = by_side (side_of plan τ)
  where
    by_side : (slot_of plan τ < 3 * plan.span) ⊎ (3 * plan.span ≤ slot_of plan τ) → recalled plan memo τ ≡ recalled plan memo' τ
    by_side (inl below) = recalled_number plan memo τ below ∙ ap told (agree _ (number below refl)) ∙ sym (recalled_number plan memo' τ below)
    by_side (inr past) =
        let at = slot_of plan τ in
        let x = agree at (word past (omega arith) (omega arith)) in
        let y = agree (at + 1) (word past (omega arith) (omega arith)) in
        let mode = agree (at + 2) (word past (omega arith) (omega arith)) in
        let answer = agree (at + 3) (word past (omega arith) (omega arith)) in
        recalled_entry plan memo τ past ∙ rw (x, y, mode, answer) (sym (recalled_entry plan memo' τ past))

-- ---- noting

-- x, y, the mode and one more, and what is kept of an answer, written at a place
abbrev written : List ℕ → ℕ → State → ℕ → List ℕ
written memo at σ held = set (set (set (set memo at σ.x) (at + 1) σ.y) (at + 2) (mode_code σ.mode + 1)) (at + 3) held

-- the two ways of noting
data Noting (plan : Plan) (memo : List ℕ) (σ : State) (answer : ℕ) : Type 0 where
  in_number : slot_of plan σ < 3 * plan.span → noted plan memo σ answer ≡ set memo (slot_of plan σ) (kept_as answer) → Noting plan memo σ answer
  in_entry : 3 * plan.span ≤ slot_of plan σ → noted plan memo σ answer ≡ written memo (slot_of plan σ) σ (kept_as answer) → Noting plan memo σ answer

noted_by : (plan : Plan) (memo : List ℕ) (σ : State) (answer : ℕ) → Noting plan memo σ answer
unfolding noted
noted_by plan memo σ answer = by_test (ltb (slot_of plan σ) (3 * plan.span)) refl
  where
    by_test : (p : Bool) → ltb (slot_of plan σ) (3 * plan.span) ≡ p → Noting plan memo σ answer
    by_test true e = in_number (ltb-true _ _ e) (rw e)
    by_test false e = in_entry (ltb-false _ _ e) (rw e)

pub length_noted : (plan : Plan) (memo : List ℕ) (σ : State) (answer : ℕ) → length (noted plan memo σ answer) ≡ length memo
length_noted plan memo σ answer = by_way (noted_by plan memo σ answer)
  where
    by_way : Noting plan memo σ answer → length (noted plan memo σ answer) ≡ length memo
    by_way (in_number below is) = ap length is ∙ simp length-set
    by_way (in_entry past is) = ap length is ∙ simp length-set

-- only the state's own numbers change
noted_other : (plan : Plan) (memo : List ℕ) (σ : State) (answer i : ℕ) → (Owns plan σ i → ⊥) → get_or (noted plan memo σ answer) i 0 ≡ get_or memo i 0
noted_other plan memo σ answer i strange = by_way (noted_by plan memo σ answer)
  where
    by_way : Noting plan memo σ answer → get_or (noted plan memo σ answer) i 0 ≡ get_or memo i 0
    by_way (in_number below is) =
        ap (λ (l : List ℕ). get_or l i 0) is ∙ get_or-set_other memo (slot_of plan σ) i (kept_as answer) 0 (λ at. strange (number below at))
    by_way (in_entry past is) =
        let off : (k : ℕ) → k < 4 → i ≢ slot_of plan σ + k = λ k lt at. strange (word past (omega arith) (omega arith)) in
        let p : i ≢ slot_of plan σ = λ at. strange (word past (omega arith) (omega arith)) in
        let q = off 1 (lit< tt) in
        let r = off 2 (lit< tt) in
        let s = off 3 (lit< tt) in
        ap (λ (l : List ℕ). get_or l i 0) is ∙ simp get_or-set_other

module _ (memo : List ℕ) (at : ℕ) (σ : State) (held : ℕ) (room : at + 4 ≤ length memo) where
  written_x : get_or (written memo at σ held) at 0 ≡ σ.x
  written_x =
      let p : at ≢ at + 1 = omega arith in
      let q : at ≢ at + 2 = omega arith in
      let r : at ≢ at + 3 = omega arith in
      let inside : at < length memo = omega arith in
      simp (get_or-set_other, get_or-set_same)

  written_y : get_or (written memo at σ held) (at + 1) 0 ≡ σ.y
  written_y =
      let q : at + 1 ≢ at + 2 = omega arith in
      let r : at + 1 ≢ at + 3 = omega arith in
      let inside : at + 1 < length memo = omega arith in
      simp (get_or-set_other, get_or-set_same, lt-length-set)

  written_mode : get_or (written memo at σ held) (at + 2) 0 ≡ mode_code σ.mode + 1
  written_mode =
      let r : at + 2 ≢ at + 3 = omega arith in
      let inside : at + 2 < length memo = omega arith in
      simp (get_or-set_other, get_or-set_same, lt-length-set)

  written_held : get_or (written memo at σ held) (at + 3) 0 ≡ held
  written_held = let inside : at + 3 < length memo = omega arith in simp (get_or-set_same, lt-length-set)

-- ---- recalling after noting

-- what is recalled of τ after an answer was noted for σ: nothing, what was recalled before, or that answer if τ is σ
pub data AfterNoting (plan : Plan) (memo : List ℕ) (σ : State) (answer : ℕ) (τ : State) : Type 0 where
  lost : recalled plan (noted plan memo σ answer) τ ≡ None → AfterNoting plan memo σ answer τ
  kept : recalled plan (noted plan memo σ answer) τ ≡ recalled plan memo τ → AfterNoting plan memo σ answer τ
  fresh : τ ≡ σ → recalled plan (noted plan memo σ answer) τ ≡ Some answer → AfterNoting plan memo σ answer τ

-- what a region tells of an answer kept there: that answer, if it says that anything is known
told_known : (answer : ℕ) → answer < unkept → told (kept_as answer) ≡ Some answer
told_known answer known = rw (lt-ltb answer unkept known, ne_eqb (answer + 1) 0 (omega arith)) (ap Some (omega arith))

told_kept : (answer : ℕ) → (told (kept_as answer) ≡ None) ⊎ (told (kept_as answer) ≡ Some answer)
told_kept answer = by_test (ltb answer unkept) refl
  where
    by_test : (b : Bool) → ltb answer unkept ≡ b → (told (kept_as answer) ≡ None) ⊎ (told (kept_as answer) ≡ Some answer)
    by_test true e = inr (told_known answer (ltb-true _ _ e))
    by_test false e = inl (rw e)

module _ (plan : Plan) (memo : List ℕ) (σ τ : State) (answer : ℕ) (fits : TableFits plan memo) (in_σ : InTable plan σ) (in_τ : InTable plan τ) where
  recalled_apart : slot_of plan τ ≢ slot_of plan σ → recalled plan (noted plan memo σ answer) τ ≡ recalled plan memo τ
  recalled_apart apart =
      recalled_by_own plan (noted plan memo σ answer) memo τ
      (λ i own. noted_other plan memo σ answer i (λ own_σ. owns_apart plan σ τ i in_σ in_τ apart own_σ own))

  number_recalled : slot_of plan τ ≡ slot_of plan σ → slot_of plan σ < 3 * plan.span →
      recalled plan (set memo (slot_of plan σ) (kept_as answer)) τ ≡ told (kept_as answer)
  number_recalled same below =
      let after = set memo (slot_of plan σ) (kept_as answer) in
      recalled plan after τ
      ≡⟨ recalled_number plan after τ (rw same below) ⟩
      told (get_or after (slot_of plan τ) 0)
      ≡⟨ ap (λ (i : ℕ). told (get_or after i 0)) same ⟩
      told (get_or after (slot_of plan σ) 0)
      ≡⟨ ap told (get_or-set_same memo (slot_of plan σ) (kept_as answer) 0 (omega (arith, fits.room))) ⟩
      told (kept_as answer) ∎

  entry_recalled : slot_of plan τ ≡ slot_of plan σ → 3 * plan.span ≤ slot_of plan σ →
      recalled plan (written memo (slot_of plan σ) σ (kept_as answer)) τ ≡
      told (cond (eqb (mode_code σ.mode + 1) (mode_code τ.mode + 1) && (eqb σ.x τ.x && eqb σ.y τ.y)) (kept_as answer) 0)
  entry_recalled same past =
      let at = slot_of plan σ in
      let held = kept_as answer in
      let room : at + 4 ≤ length memo = omega (arith, fits.room, entry_room plan σ fits.sizes in_σ past) in
      recalled_entry plan (written memo at σ held) τ (rw same past) ∙
      rw (same, written_x memo at σ held room, written_y memo at σ held room, written_mode memo at σ held room, written_held memo at σ held room)

  -- where the slot has what was kept for σ, and that is τ
  by_told : τ ≡ σ → recalled plan (noted plan memo σ answer) τ ≡ told (kept_as answer) → AfterNoting plan memo σ answer τ
  by_told alone is = by_case (told_kept answer)
    where
      by_case : (told (kept_as answer) ≡ None) ⊎ (told (kept_as answer) ≡ Some answer) → AfterNoting plan memo σ answer τ
      by_case (inl none) = lost (is ∙ none)
      by_case (inr some) = fresh alone (is ∙ some)

  recalled_same : slot_of plan τ ≡ slot_of plan σ → Noting plan memo σ answer → AfterNoting plan memo σ answer τ
  recalled_same same (in_number below is) =
      by_told (alone_same plan σ τ fits.sizes in_σ in_τ below same) (ap (λ (l : List ℕ). recalled plan l τ) is ∙ number_recalled same below)
  recalled_same same (in_entry past is) = by_tests (eqb (mode_code σ.mode + 1) (mode_code τ.mode + 1)) (eqb σ.x τ.x) (eqb σ.y τ.y) refl refl refl
    where
      now_is : recalled plan (noted plan memo σ answer) τ
          ≡ told (cond (eqb (mode_code σ.mode + 1) (mode_code τ.mode + 1) && (eqb σ.x τ.x && eqb σ.y τ.y)) (kept_as answer) 0)
      now_is = ap (λ (l : List ℕ). recalled plan l τ) is ∙ entry_recalled same past

      by_tests : (p q r : Bool) → eqb (mode_code σ.mode + 1) (mode_code τ.mode + 1) ≡ p → eqb σ.x τ.x ≡ q → eqb σ.y τ.y ≡ r
          → AfterNoting plan memo σ answer τ
      by_tests false q r e f g = lost (now_is ∙ rw e)
      by_tests true false r e f g = lost (now_is ∙ rw (e, f))
      by_tests true true false e f g = lost (now_is ∙ rw (e, f, g))
      by_tests true true true e f g =
          let numbers : mode_code σ.mode + 1 ≡ mode_code τ.mode + 1 = eqb-true _ _ e in
          let modes : τ.mode ≡ σ.mode = mode_code_once τ.mode σ.mode in_τ.coded in_σ.coded (omega arith) in
          by_told (same_state (sym (eqb-true _ _ f)) (sym (eqb-true _ _ g)) modes) (now_is ∙ rw (e, f, g))

  pub recalled_noted : AfterNoting plan memo σ answer τ
  recalled_noted = by_test (eqb (slot_of plan τ) (slot_of plan σ)) refl
    where
      by_test : (b : Bool) → eqb (slot_of plan τ) (slot_of plan σ) ≡ b → AfterNoting plan memo σ answer τ
      by_test true e = recalled_same (eqb-true _ _ e) (noted_by plan memo σ answer)
      by_test false e = kept (recalled_apart (eqb-false _ _ e))

-- every outcome but the last number is kept, want of room like any reference: what was noted last of a state is recalled
pub noted_recalled : (plan : Plan) (memo : List ℕ) (σ : State) (answer : ℕ) → TableFits plan memo → InTable plan σ → answer < unkept →
    recalled plan (noted plan memo σ answer) σ ≡ Some answer
noted_recalled plan memo σ answer fits in_σ known = by_way (noted_by plan memo σ answer)
  where
    by_way : Noting plan memo σ answer → recalled plan (noted plan memo σ answer) σ ≡ Some answer
    by_way (in_number below is) =
        ap (λ (l : List ℕ). recalled plan l σ) is ∙ number_recalled plan memo σ σ answer fits in_σ in_σ refl below ∙ told_known answer known
    by_way (in_entry past is) =
        ap (λ (l : List ℕ). recalled plan l σ) is ∙ entry_recalled plan memo σ σ answer fits in_σ in_σ refl past ∙
        rw (eq-eqb (mode_code σ.mode + 1) (mode_code σ.mode + 1) refl, eq-eqb σ.x σ.x refl, eq-eqb σ.y σ.y refl) (told_known answer known)

-- ---- every answer that is recalled is right

none_some : {a : ℕ} → None ≡ Some a → ⊥
none_some e = cc

pub all_right_noted : (Right : State → ℕ → Type 0) (plan : Plan) (memo : List ℕ) (σ : State) (answer : ℕ) → TableFits plan memo → InTable plan σ →
    AllRight Right plan memo → Right σ answer → AllRight Right plan (noted plan memo σ answer)
all_right_noted Right plan memo σ answer fits in_σ known found = record {
  right = λ τ in_τ a told. by_case τ in_τ a told (recalled_noted plan memo σ τ answer fits in_σ in_τ);
}
  where
    by_case : (τ : State) → InTable plan τ → (a : ℕ) → recalled plan (noted plan memo σ answer) τ ≡ Some a → AfterNoting plan memo σ answer τ →
        Right τ a
    by_case τ in_τ a told (lost is) = absurd (none_some (sym is ∙ told))
    by_case τ in_τ a told (kept is) = known.right τ in_τ a (sym is ∙ told)
    by_case τ in_τ a told (fresh same is) = let one : answer ≡ a = cc in rw (same, ← one) found

pub all_right_weaken : (Right Right' : State → ℕ → Type 0) (plan : Plan) (memo : List ℕ)
    → ((σ : State) (answer : ℕ) → Right σ answer → Right' σ answer) → AllRight Right plan memo → AllRight Right' plan memo
all_right_weaken Right Right' plan memo weaken known = record { right = λ σ in_σ a told. weaken σ a (known.right σ in_σ a told) }

-- ---- the table goes on fitting

pub fits_length : {plan : Plan} {memo memo' : List ℕ} → length memo' ≡ length memo → TableFits plan memo → TableFits plan memo'
fits_length same fits = record { sizes = fits.sizes; room = rw same fits.room }

pub fits_noted : {plan : Plan} {memo : List ℕ} (σ : State) (answer : ℕ) → TableFits plan memo → TableFits plan (noted plan memo σ answer)
fits_noted {plan} {memo} σ answer fits = fits_length (length_noted plan memo σ answer) fits
