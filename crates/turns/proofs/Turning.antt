-- A turn of the walk, whole: what its calls ask for, and what it leaves. Assumes nothing.
use mathlib.Core.Path.{◌≡◌, sym, ◌∙◌, subst}
use mathlib.Core.Bool.{Bool, true, false, ◌&&◌, true≢false}
use Prim.Native.Nat.{ℕ, ◌+◌, ◌*◌, ◌-◌, ◌<◌, ◌≤◌}
use native.Mathlib.Omega.{arith}
use lib.ListN.{length}
use Rattle.std.specs.Prelude.{Option, Some, None, Result, Ok, Err, IsErr}
use Rattle.algebra.specs.declared.Entry.{Entry}
use Rattle.algebra.specs.Width.{bounded}
use Rattle.diagrams.specs.Diagram.{Ref, value, node, code, ref_of, branch, Store, make_node}
use Rattle.diagrams.proofs.References.{code_ref_of}
use Rattle.transitions.specs.declared.State.{State}
use Rattle.transitions.specs.Plan.{Plan, plan_of}
use Rattle.transitions.specs.Source.{Refers}
use Rattle.transitions.specs.State.{top, made, inside}
use Rattle.transitions.specs.Next.{next_state, is_leaf, leaf_entry}
use Rattle.transitions.specs.Valid.{ValidPlan, ValidState}
use Rattle.transitions.proofs.Codes.{coded, once}
use Rattle.meanings.proofs.Sound.{top_most}
use Rattle.meanings.proofs.Walks.{next_valid, next_later, top_leaf, made_branch, inside_branch}
use Rattle.tables.specs.declared.Placed.{Placed}
use Rattle.tables.specs.Table.{slot_of, recalled, noted, InTable, AtSlot}
use Rattle.tables.proofs.Tables.{all_right_noted, all_right_weaken, fits_noted}
use Rattle.turns.specs.declared.OutsideWidth.{OutsideWidth}
use Rattle.turns.specs.declared.Planned.{Planned}
use Rattle.turns.specs.declared.Work.{Work}
use Rattle.turns.specs.Progress.{Progress, out, Walks, Finish}
use Rattle.turns.specs.Work.{source_in, node_room, value_room, store_in, progress_by, progress_of, progress_after, Right, Filled, Working, SameWork}
use Rattle.turns.specs.Turn.{Finished, SettledBy, Settled, Ready, Asking, Walked}
use Rattle.turns.proofs.Progress.{turn_walks, low_leaves, high_leaves}
use Rattle.turns.proofs.Works.{Roomy, right_walks, walks_carry, finish_carries, walks_right, built_answered}
use Rattle.turns.proofs.Ends.{held_roomy, Ended, ended}
use Rattle.turns.proofs.Settling.{Settles, settles}

-- ---- a state's place in the computed table

module _ (plan : Plan) (s : Store Entry) (valid : ValidPlan plan s) (node_span : 2 * length s.nodes ≤ plan.span)
    (value_span : 2 * length s.values ≤ plan.span) where
  code_within : (r : Ref) → Refers s r → code r < plan.span
  code_within (value j) h = omega arith
  code_within (node i) h = omega arith

  within : (x : ℕ) → Refers s (ref_of x) → x < plan.span
  within x h = subst (λ (c : ℕ). c < plan.span) (code_ref_of x) (code_within (ref_of x) h)

  pub in_table : (σ : State) → ValidState plan s σ → InTable plan σ
  in_table σ ok = record {
    first = within σ.x ok.x_refers;
    second = within σ.y ok.y_refers;
    coded = coded plan s valid σ ok;
    once = once plan s σ ok;
  }

module _ (step : Planned) where
  abbrev P : Plan
  P = plan_of step.plan.now

  abbrev source : Store Entry
  source = source_in step

  pub ready_place : {w : Work} {p : Placed} → Ready step w p → InTable P p.state
  ready_place {p = p} ready = in_table P source ready.valid_plan ready.node_span ready.value_span p.state ready.valid_state

  pub ready_slot : {w : Work} {p : Placed} → Ready step w p → AtSlot P w.memo.now p
  ready_slot ready = record { table = ready.work.table; place = ready_place ready; slot = ready.slot }

  -- a state with a question left
  pub asking_by : {w : Work} {p : Placed} (lv : ℕ) → Ready step w p → lv ≡ top P source p.state → is_leaf p.state ≡ false → Asking step w p lv
  asking_by {p = p} lv ready asks no_leaf = record { ready = ready; asks = asks; below = rw asks below }
    where
      most : top P source p.state ≤ P.levels
      most = top_most P source ready.valid_plan p.state ready.valid_state

      not_last : top P source p.state ≡ P.levels → ⊥
      not_last e = true≢false (sym (top_leaf P source ready.valid_plan p.state ready.valid_state e) ∙ no_leaf)

      below : top P source p.state < P.levels
      below = omega (arith, most, not_last)

  -- ---- the levels left fall

  abbrev pub levels_left : State → ℕ
  levels_left σ = P.levels - top P source σ

  pub next_falls : {w : Work} {p : Placed} {lv : ℕ} (b : Bool) (τ : State) → Asking step w p lv → τ ≡ next_state P source lv b p.state
      → 2 * levels_left τ + 1 < 2 * (P.levels - lv)
  next_falls {p = p} {lv = lv} b τ asking is =
      let below : top P source p.state < P.levels = rw (← asking.asks) asking.below in
      let later : top P source p.state < top P source τ
      = rw (is, asking.asks) (next_later P source asking.ready.valid_plan b p.state asking.ready.valid_state below) in
      omega (arith, asking.asks, asking.below)

  -- ---- what the calls of a turn ask for

  -- after the bit of its level, at any later work
  pub next_ready : {w : Work} {p : Placed} {lv : ℕ} (w' : Work) (b : Bool) (q : Placed) → Asking step w p lv → Working step (progress_of w') w'
      → q.state ≡ next_state P source lv b p.state → q.at ≡ slot_of P q.state → Ready step w' q
  next_ready {p = p} w' b q asking work is slot = record {
    valid_plan = asking.ready.valid_plan;
    fit = asking.ready.fit;
    valid_state = rw (is, asking.asks)
        (next_valid P source asking.ready.valid_plan b p.state asking.ready.valid_state (rw (← asking.asks) asking.below));
    source = asking.ready.source;
    node_span = asking.ready.node_span;
    value_span = asking.ready.value_span;
    slot = slot;
    work = work;
  }

  -- ---- the computed table after it

  -- a work whose number left the width keeps its table alone
  left_works : {w : Work} {p : Progress} → Working step p w → Working step out w
  left_works work = record { table = work.table; filled = tt; right = record { right = λ τ place a is. tt } }

  -- with the answer kept for the state
  kept_works : (w w' : Work) (p p' : Progress) (σ : State) (r : ℕ) → Working step p w → InTable P σ
      → ((τ : State) (a : ℕ) → Right P source p τ a → Right P source p' τ a) → Right P source p' σ r
      → Filled w' p' → w'.memo.now ≡ noted P w.memo.now σ r → Working step p' w'
  kept_works w w' p p' σ r work place carry own filled e = record {
    table = rw e (fits_noted σ r work.table);
    filled = filled;
    right = rw e (all_right_noted (Right P source p') P w.memo.now σ r work.table place
        (all_right_weaken (Right P source p) (Right P source p') P w.memo.now carry work.right) own);
  }

  -- ---- nothing to do

  working_roomy : (w : Work) → Filled w (progress_of w) → Roomy (node_room w) (value_room w) (progress_of w)
  working_roomy w = by_full w.full
    where
      by_full : (b : Bool) → Filled w (progress_by b (store_in w)) → Roomy (node_room w) (value_room w) (progress_by b (store_in w))
      by_full false f = held_roomy f.0 f.1
      by_full true f = tt

  -- an answer that is recalled is the walk's
  pub recalled_walked : {w : Work} {p : Placed} (a : ℕ) → Ready step w p → recalled P w.memo.now p.state ≡ Some a → Walked step w p.state (Ok a) w
  recalled_walked {w} {p} a ready is = record {
    work = ready.work;
    walks = right_walks P source p.state (progress_of w) (working_roomy w ready.work.filled)
        (ready.work.right.right p.state (ready_place ready) a is);
  }

  -- ---- a state settled

  module _ (w w' : Work) (p : Placed) where
    pub settled_walked : (r : Result ℕ OutsideWidth) → Ready step w p → is_leaf p.state ≡ true → SameWork w w' → Settled w w' step p.state r
        → Walked step w p.state r w'
    settled_walked r ready leaf same settled = by_answer r (bounded P.width (leaf_entry source p.state)) by after.walks after.filled
      where
        by : SettledBy w w' P p.state r (bounded P.width (leaf_entry source p.state))
        by = settled source ready.source.values ready.valid_state.x_refers ready.valid_state.y_refers leaf

        after : Settles step p.state w w' r
        after = settles step w w' p.state ready.valid_plan ready.fit leaf ready.work same r by

        by_answer : (r : Result ℕ OutsideWidth) (b : Option Entry) → SettledBy w w' P p.state r b
            → Walks (node_room w) (value_room w) P source p.state (progress_of w) (progress_after w' r) r → Filled w' (progress_after w' r)
            → Walked step w p.state r w'
        by_answer (Ok a) (Some e) by walks filled = record {
          work = kept_works w w' (progress_of w) (progress_of w') p.state a ready.work (ready_place ready)
              (λ τ b. walks_carry P source p.state τ b walks) (walks_right P source p.state walks) filled by.1;
          walks = walks;
        }
        by_answer (Err o) None by walks filled = record { work = rw by (left_works ready.work); walks = walks }
        by_answer (Ok a) None by walks filled = absurd by
        by_answer (Err o) (Some e) by walks filled = absurd by

  -- ---- a turn that ends

  module _ {w : Work} {p : Placed} {lv : ℕ} (low high : State) (asking : Asking step w p lv) (low_is : low ≡ next_state P source lv false p.state)
      (high_is : high ≡ next_state P source lv true p.state) where
    ok : ValidState P source p.state
    ok = asking.ready.valid_state

    made_is : (t : Store Entry) → let lo = made P source low t in let hi = made P source high lo.store in
        made P source p.state t ≡ make_node (branch lv lo.root hi.root) hi.store
    made_is t = rw (low_is, high_is, asking.asks) (made_branch P source asking.ready.valid_plan p.state ok (rw (← asking.asks) asking.below) t)

    inside_is : inside P source p.state ≡ (inside P source low && inside P source high)
    inside_is = rw (low_is, high_is, asking.asks) (inside_branch P source asking.ready.valid_plan p.state ok (rw (← asking.asks) asking.below))

    -- at its first walk, out of the width
    pub low_left : {w₁ : Work} {o : OutsideWidth} (r : Result ℕ OutsideWidth) → IsErr r → Walked step w low (Err o) w₁ → Walked step w p.state r w₁
    low_left (Ok a) error first = cc
    low_left (Err e) error first = record {
      work = first.work;
      walks = low_leaves (node_room w) (value_room w) P source p.state low high lv made_is inside_is first.walks;
    }

    module _ (w₁ : Work) (l : ℕ) (same₁ : SameWork w w₁) (first : Walked step w low (Ok l) w₁) where
      second_walks : {w₂ : Work} {r : Result ℕ OutsideWidth} → Walked step w₁ high r w₂
          → Walks (node_room w) (value_room w) P source high (progress_of w₁) (progress_after w₂ r) r
      second_walks second = rw (same₁.nodes.level_long, same₁.values.terminals_long) at second.walks

      -- at its second
      pub high_left : {w₂ : Work} {o : OutsideWidth} (r : Result ℕ OutsideWidth) → IsErr r → Walked step w₁ high (Err o) w₂
          → Walked step w p.state r w₂
      high_left (Ok a) error second = cc
      high_left (Err e) error second = record {
        work = second.work;
        walks = high_leaves (node_room w) (value_room w) P source p.state low high lv made_is inside_is first.walks (second_walks second);
      }

      -- with the node over both answers
      pub turned : (w₂ w' : Work) (h r : ℕ) → SameWork w₁ w₂ → Walked step w₁ high (Ok h) w₂
          → SameWork w₂ w' → Finished w₂ w' P lv l h p.state r → Walked step w p.state (Ok r) w'
      turned w₂ w' h r same₂ second same' ends = record {
        work = kept_works w₂ w' (progress_of w₂) (progress_of w') p.state r second.work (ready_place asking.ready)
            (λ τ a. finish_carries P source τ a after.finish) (walks_right P source p.state walks) after.filled ends.1;
        walks = walks;
      }
        where
          after : Ended w₂ w' lv l h r
          after = ended step w₂ w' lv l h r second.work same'
              (λ t e. built_answered first.walks (rw e at (second_walks second))) ends.0

          finish : Finish (node_room w) (value_room w) lv l h (progress_of w₂) (progress_of w') r
          finish = rw (same₂.nodes.level_long, same₂.values.terminals_long, same₁.nodes.level_long, same₁.values.terminals_long) at after.finish

          walks : Walks (node_room w) (value_room w) P source p.state (progress_of w) (progress_of w') (Ok r)
          walks = turn_walks (node_room w) (value_room w) P source p.state low high lv made_is inside_is first.walks (second_walks second) finish
