-- The walk over the states: each bit leads to a valid state that asks later, a state that asks no more is a terminal, any other
-- is a node over its two next states; what it makes only grows a store, and is found there again.
-- Assumes nothing.
use mathlib.Core.Path.{◌≡◌, refl, sym, ◌∙◌, ap, ap₂}
use mathlib.Core.Bool.{Bool, true, false, ◌&&◌, true≢false, and_self}
use mathlib.Core.List.{[], ◌∷◌}
use Prim.Native.Nat.{ℕ, zero, suc, ◌+◌, ◌-◌, ◌<◌, ◌≤◌}
use native.Mathlib.Omega.{arith}
use lib.ListN.{length}
use Rattle.algebra.specs.declared.Entry.{Entry}
use Rattle.algebra.specs.Entry.{◌⊕◌, ◌⊖◌, turned}
use Rattle.algebra.specs.Matrix.{Bits, everywhere}
use Rattle.algebra.specs.Width.{entry_in_width}
use Rattle.diagrams.specs.Diagram.{Ref, value, node, branch, Store, rooted, same_entry, put_value, make_node, reduce, ref_of}
use Rattle.diagrams.proofs.Tests.{entry_decides}
use Rattle.diagrams.proofs.Everywhere.{everywhere_ext}
use Rattle.diagrams.proofs.Again.{Extends, reduce_step, reduce_ext, reduce_extends, reduce_again, reduce_skip}
use Rattle.transitions.specs.declared.Mode.{Mode}
use Rattle.transitions.specs.declared.Mode.TheVariants.{Turning, Adding, Subtracting, Waiting, Swapping, Choosing}
use Rattle.transitions.specs.declared.State.{State}
use Rattle.transitions.specs.Plan.{Plan}
use Rattle.transitions.specs.State.{level_of, meant_by, meaning, top_by, top, made, inside}
use Rattle.transitions.specs.Source.{Refers}
use Rattle.transitions.specs.Next.{is_value, is_leaf_by, is_leaf, leaf_by, leaf_entry, next_state}
use Rattle.transitions.specs.Valid.{ValidPlan, ValidState, Suits}
use Rattle.meanings.proofs.Cofactors.{reached_nil}
use Rattle.meanings.proofs.Sound.{SoundAt, sound_top, sound_valid, valid_sound, sound_later, top_most, next_sound}
use Rattle.meanings.proofs.Meanings.{meaning_passed, meaning_next}

module _ (plan : Plan) (s : Store Entry) (valid : ValidPlan plan s) where
  valid_at_top : (σ : State) → ValidState plan s σ → SoundAt plan s (top plan s σ) σ
  valid_at_top σ ok = valid_sound plan s (top plan s σ) σ ok (omega arith) ok.suits

  -- ---- a bit

  module _ (b : Bool) (σ : State) (ok : ValidState plan s σ) (asks : top plan s σ < plan.levels) where
    next_sound_after : SoundAt plan s (suc (top plan s σ)) (next_state plan s (top plan s σ) b σ)
    next_sound_after = next_sound plan s valid (top plan s σ) asks b σ (valid_at_top σ ok)

    pub next_valid : ValidState plan s (next_state plan s (top plan s σ) b σ)
    next_valid = sound_valid plan s (suc (top plan s σ)) (next_state plan s (top plan s σ) b σ) next_sound_after

    -- the levels left fall
    pub next_later : top plan s σ < top plan s (next_state plan s (top plan s σ) b σ)
    next_later = sound_top plan s (suc (top plan s σ)) (next_state plan s (top plan s σ) b σ) next_sound_after

  -- ---- what is made of a state's entries, from any level on from which it is sound

  -- an operation on the entries by level that passes over a bit that does not count
  abbrev Skips : {R : Type 0} → (ℕ → ℕ → (Bits → Entry) → R) → Type 0
  Skips Φ = (left level : ℕ) (f g : Bits → Entry) → ((b : Bool) (l : Bits) → length l ≡ left → f (b ∷ l) ≡ g l)
      → Φ (suc left) level f ≡ Φ left (suc level) g

  module _ {R : Type 0} (Φ : ℕ → ℕ → (Bits → Entry) → R) (skips : Skips Φ) (σ : State) where
    abbrev over : ℕ → R
    over level = Φ (plan.levels - level) level (meaning plan s level σ)

    climb : (steps level : ℕ) → level + steps ≡ top plan s σ → SoundAt plan s level σ → over level ≡ over (top plan s σ)
    climb zero level reached sound = ap over (omega arith)
    climb (suc steps) level reached sound =
        let most = top_most plan s valid σ (sound_valid plan s level σ sound) in
        let one_more : plan.levels - level ≡ suc (plan.levels - suc level) = omega arith in
        ap (λ (left : ℕ). Φ left level (meaning plan s level σ)) one_more
        ∙ skips (plan.levels - suc level) level (meaning plan s level σ) (meaning plan s (suc level) σ)
        (λ b l e. meaning_passed plan s valid level b l σ sound (omega arith))
        ∙ climb steps (suc level) (omega arith) (sound_later plan s level (suc level) σ sound (omega arith) (omega arith))

    pub over_top : (level : ℕ) → SoundAt plan s level σ → over level ≡ over (top plan s σ)
    over_top level sound =
        let up_to_lem = sound_top plan s level σ sound in
        climb (top plan s σ - level) level (omega arith) sound

  reduce_skips : (t : Store Entry) → Skips (λ left level f. reduce same_entry left level f t)
  reduce_skips t left level f g same =
      reduce_skip entry_decides left level f t (λ l e. same false l e ∙ sym (same true l e))
      ∙ reduce_ext same_entry left (suc level) (λ l. f (false ∷ l)) g t (same false)

  abbrev width_test : (Bits → Entry) → Bits → Bool
  width_test f l = entry_in_width plan.width (f l)

  everywhere_skips : Skips (λ left level f. everywhere left (width_test f))
  everywhere_skips left level f g same =
      ap₂ ◌&&◌
      (everywhere_ext left (λ l. width_test f (false ∷ l)) (width_test g) (λ l e. ap (entry_in_width plan.width) (same false l e)))
      (everywhere_ext left (λ l. width_test f (true ∷ l)) (width_test g) (λ l e. ap (entry_in_width plan.width) (same true l e)))
      ∙ and_self (everywhere left (width_test g))

  -- the diagram and the test of a state that is sound from a level on
  pub made_from : (level : ℕ) (σ : State) (t : Store Entry) → SoundAt plan s level σ
      → reduce same_entry (plan.levels - level) level (meaning plan s level σ) t ≡ made plan s σ t
  unfolding made
  made_from level σ t sound = over_top (λ left lv f. reduce same_entry left lv f t) (reduce_skips t) σ level sound

  pub inside_from : (level : ℕ) (σ : State) → SoundAt plan s level σ
      → everywhere (plan.levels - level) (width_test (meaning plan s level σ)) ≡ inside plan s σ
  unfolding inside
  inside_from level σ sound = over_top (λ left lv f. everywhere left (width_test f)) everywhere_skips σ level sound

  -- ---- a node over the two next states

  module _ (σ : State) (ok : ValidState plan s σ) (asks : top plan s σ < plan.levels) where
    abbrev then : Bool → State
    then b = next_state plan s (top plan s σ) b σ

    one_more : plan.levels - top plan s σ ≡ suc (plan.levels - suc (top plan s σ))
    one_more = omega arith

    half_means : (b : Bool) (l : Bits) → meaning plan s (top plan s σ) σ (b ∷ l) ≡ meaning plan s (suc (top plan s σ)) (then b) l
    half_means b l = meaning_next plan s valid (top plan s σ) asks b l σ (valid_at_top σ ok)

    half_made : (b : Bool) (t : Store Entry)
        → reduce same_entry (plan.levels - suc (top plan s σ)) (suc (top plan s σ)) (λ l. meaning plan s (top plan s σ) σ (b ∷ l)) t
        ≡ made plan s (then b) t
    half_made b t =
        reduce_ext same_entry (plan.levels - suc (top plan s σ)) (suc (top plan s σ)) (λ l. meaning plan s (top plan s σ) σ (b ∷ l))
        (meaning plan s (suc (top plan s σ)) (then b)) t (λ l e. half_means b l)
        ∙ made_from (suc (top plan s σ)) (then b) t (next_sound_after b σ ok asks)

    pub made_branch : (t : Store Entry)
        → let low = made plan s (then false) t in let high = made plan s (then true) low.store in
        made plan s σ t ≡ make_node (branch (top plan s σ) low.root high.root) high.store
    unfolding made
    made_branch t =
        let low = made plan s (then false) t in
        let high = made plan s (then true) low.store in
        ap (λ (left : ℕ). reduce same_entry left (top plan s σ) (meaning plan s (top plan s σ) σ) t) one_more
        ∙ reduce_step same_entry (plan.levels - suc (top plan s σ)) (top plan s σ) (meaning plan s (top plan s σ) σ) t low.store high.store
        low.root high.root (half_made false t) (half_made true low.store)

    half_inside : (b : Bool)
        → everywhere (plan.levels - suc (top plan s σ)) (λ l. width_test (meaning plan s (top plan s σ) σ) (b ∷ l)) ≡ inside plan s (then b)
    half_inside b =
        everywhere_ext (plan.levels - suc (top plan s σ)) (λ l. width_test (meaning plan s (top plan s σ) σ) (b ∷ l))
        (width_test (meaning plan s (suc (top plan s σ)) (then b))) (λ l e. ap (entry_in_width plan.width) (half_means b l))
        ∙ inside_from (suc (top plan s σ)) (then b) (next_sound_after b σ ok asks)

    pub inside_branch : inside plan s σ ≡ (inside plan s (then false) && inside plan s (then true))
    unfolding inside
    inside_branch =
        ap (λ (left : ℕ). everywhere left (width_test (meaning plan s (top plan s σ) σ))) one_more
        ∙ ap₂ ◌&&◌ (half_inside false) (half_inside true)

  -- ---- a state that asks no more

  leaf_top_by : (m : Mode) (x y : Ref) → is_leaf_by m x y ≡ true → top_by plan s m x y ≡ plan.levels
  leaf_top_by (Turning e) (value j) y leaf = refl
  leaf_top_by (Turning e) (node i) y leaf = absurd (true≢false (sym leaf))
  leaf_top_by Adding (value j) (value k) leaf = omega arith
  leaf_top_by Adding (value j) (node i) leaf = absurd (true≢false (sym leaf))
  leaf_top_by Adding (node i) y leaf = absurd (true≢false (sym leaf))
  leaf_top_by Subtracting (value j) (value k) leaf = omega arith
  leaf_top_by Subtracting (value j) (node i) leaf = absurd (true≢false (sym leaf))
  leaf_top_by Subtracting (node i) y leaf = absurd (true≢false (sym leaf))
  leaf_top_by (Waiting k) x y leaf = absurd (true≢false (sym leaf))
  leaf_top_by (Swapping k b) x y leaf = absurd (true≢false (sym leaf))
  leaf_top_by (Choosing k e) x y leaf = absurd (true≢false (sym leaf))

  pub leaf_top : (σ : State) → is_leaf σ ≡ true → top plan s σ ≡ plan.levels
  unfolding is_leaf top
  leaf_top σ leaf = leaf_top_by σ.mode (ref_of σ.x) (ref_of σ.y) leaf

  value_level : (r : Ref) → Refers s r → plan.levels ≤ level_of plan s r → is_value r ≡ true
  value_level (value j) refers past = refl
  value_level (node i) refers past = let below = valid.levels_below i refers in absurd (omega arith)

  both_values : {p q : Bool} → p ≡ true → q ≡ true → (p && q) ≡ true
  both_values e f = ap₂ ◌&&◌ e f

  top_leaf_by : (level : ℕ) (m : Mode) (x y : Ref) (u w : ℕ) → Refers s x → Refers s y → Suits plan level m u w → plan.levels ≤ top_by plan s m x y
      → is_leaf_by m x y ≡ true
  top_leaf_by level (Turning e) x y u w p q suits past = value_level x p past
  top_leaf_by level Adding x y u w p q suits past = both_values (value_level x p (omega arith)) (value_level y q (omega arith))
  top_leaf_by level Subtracting x y u w p q suits past = both_values (value_level x p (omega arith)) (value_level y q (omega arith))
  top_leaf_by level (Waiting k) x y u w p q suits past =
      let up_to_lem = suits.0 in
      let target_below = valid.has_target in
      let below = valid.stages_below k (omega arith) in
      absurd (omega arith)
  top_leaf_by level (Swapping k b) x y u w p q suits past =
      let up_to_lem = suits.1 in
      let last = valid.has_second in
      let below = valid.stages_below k (omega arith) in
      absurd (omega arith)
  top_leaf_by level (Choosing k e) x y u w p q suits past = let below = valid.stages_below k suits.1 in absurd (omega arith)

  pub top_leaf : (σ : State) → ValidState plan s σ → top plan s σ ≡ plan.levels → is_leaf σ ≡ true
  unfolding is_leaf top
  top_leaf σ ok past =
      top_leaf_by (top plan s σ) σ.mode (ref_of σ.x) (ref_of σ.y) σ.x σ.y ok.x_refers ok.y_refers ok.suits (omega arith)

  leaf_means_by : (level : ℕ) (m : Mode) (x y : Ref) → is_leaf_by m x y ≡ true → meant_by plan s level m x y [] ≡ leaf_by s m x y
  leaf_means_by level (Turning e) x y leaf = ap (turned e) (reached_nil s level 0 x)
  leaf_means_by level Adding x y leaf = ap₂ ◌⊕◌ (reached_nil s level 0 x) (reached_nil s level 0 y)
  leaf_means_by level Subtracting x y leaf = ap₂ ◌⊖◌ (reached_nil s level 0 x) (reached_nil s level 0 y)
  leaf_means_by level (Waiting k) x y leaf = absurd (true≢false (sym leaf))
  leaf_means_by level (Swapping k b) x y leaf = absurd (true≢false (sym leaf))
  leaf_means_by level (Choosing k e) x y leaf = absurd (true≢false (sym leaf))

  module _ (σ : State) (leaf : is_leaf σ ≡ true) where
    none_left : plan.levels - top plan s σ ≡ 0
    none_left = let past = leaf_top σ leaf in omega arith

    leaf_means : meaning plan s (top plan s σ) σ [] ≡ leaf_entry s σ
    unfolding is_leaf meaning leaf_entry
    leaf_means = leaf_means_by (top plan s σ) σ.mode (ref_of σ.x) (ref_of σ.y) leaf

    pub made_leaf : (t : Store Entry) → made plan s σ t ≡ put_value same_entry (leaf_entry s σ) t
    unfolding made reduce
    made_leaf t =
        ap (λ (left : ℕ). reduce same_entry left (top plan s σ) (meaning plan s (top plan s σ) σ) t) none_left
        ∙ ap (λ (x : Entry). put_value same_entry x t) leaf_means

    pub inside_leaf : inside plan s σ ≡ entry_in_width plan.width (leaf_entry s σ)
    unfolding inside
    inside_leaf =
        ap (λ (left : ℕ). everywhere left (width_test (meaning plan s (top plan s σ) σ))) none_left
        ∙ ap (entry_in_width plan.width) leaf_means

-- ---- what is made only grows a store, and is found there again

module _ (plan : Plan) (s : Store Entry) (σ : State) where
  pub made_extends : (t : Store Entry) → Extends t (made plan s σ t).store
  unfolding made
  made_extends t = reduce_extends entry_decides (plan.levels - top plan s σ) (top plan s σ) (meaning plan s (top plan s σ) σ) t

  pub made_again : (t u : Store Entry) → Extends (made plan s σ t).store u → made plan s σ u ≡ rooted u (made plan s σ t).root
  unfolding made
  made_again t u more = reduce_again entry_decides (plan.levels - top plan s σ) (top plan s σ) (meaning plan s (top plan s σ) σ) t u more
