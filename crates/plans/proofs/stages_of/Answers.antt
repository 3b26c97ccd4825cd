-- `plans::stages_of` meets its contract: the slots so far have the first levels. Assumes nothing.
use Rattle.std.proofs.Common.{rules, ◌≡◌, refl, sym, ◌∙◌, ap, ap₂, ℕ, suc, ◌<◌, ◌+◌, ◌*◌, List, [], ◌∷◌, ◌++◌, length, length-append, tests, arith}
use lib.ListN.{set, take, replicate, get_or}
use lib.Seq.{sets}
use denote.Enum.Declared.{tag_of}
use Rattle.std.proofs.iter.Serving.{serving}
use Rattle.std.proofs.lemmas.Iterator.{YieldsList-from_range}
use Rattle.std.proofs.lemmas.Iterator.Consumers.{YieldsList-at, YieldsList-from_filter, YieldsList-from_enumerate, YieldsList-turn, YieldsList-end}
use Rattle.gates.specs.Gate.{in_mask}
use Rattle.plans.specs.contracts.Side.{the_type}
use Rattle.plans.specs.declared.Side.{Side}
use Rattle.plans.specs.declared.Side.TheVariants.{Left, Right}
use Rattle.plans.specs.Prepare.{side_number, side_level, levels_from}
use Rattle.plans.proofs.Levels.{numbered_one, written, written_all}
use Rattle.plans.proofs.stages_of.Goals as goal

-- the number of a side, as the code casts it
cast_is : (side : Side) → tag_of the_type side ≡ side_number side
cast_is Left = refl
cast_is Right = refl

side_small : (side : Side) → side_number side < 2
side_small Left = omega arith
side_small Right = omega arith

-- this turn's qubit, with the number of its slot
turn : (c : goal.In-Some) → (c.in-Some.k ≡ length c.loop-k.yielded) × (length c.loop-k.yielded < 16) × (c.in-Some.q < 16)
    × (length c.loop-k.yielded < length (levels_from 16 (side_number c.args.side) c.args.named))
    × (get_or (levels_from 16 (side_number c.args.side) c.args.named) (length c.loop-k.yielded) 0 ≡ side_level (side_number c.args.side) c.in-Some.q)
turn c =
    let one = YieldsList-turn (YieldsList-at c.into_iter-k-iterator.ensures.into_iter_gives
    (YieldsList-from_enumerate (YieldsList-at c.enumerate-k-items.ensures.source
    (YieldsList-from_filter _ (in_mask c.args.named) (YieldsList-from_range 0 16 16 (cc) refl) c.filter.ensures.closure
    (λ x b q k. search (rules, tests)))) c.enumerate-k-items.ensures.count))
    c.loop-k.yielded c.loop-k.k-iterator c.loop-k.yielded_by c.next.result c.next.new.self
    (c.in-Some.k, c.in-Some.q) c.in-Some.is c.next.ensures.steps in
    numbered_one (side_number c.args.side) c.args.named c.requires (length c.loop-k.yielded) c.in-Some.k c.in-Some.q one.0 one.1

pub overflow_mul-stages : goal.overflow_mul-stages
overflow_mul-stages c = omega (arith, (turn c).2)

pub overflow_add-stages : goal.overflow_add-stages
overflow_add-stages c = omega (arith, (turn c).2, cast_is c.args.side, side_small c.args.side)

pub offset_bounds-stages-k : goal.offset_bounds-stages-k
offset_bounds-stages-k c = omega (arith, (turn c).0, (turn c).1)

pub bounds-stages-k : goal.bounds-stages-k
bounds-stages-k c = omega (arith, (turn c).0, (turn c).1)

pub loop-k-preserved : goal.loop-k-preserved
loop-k-preserved c =
    let ls = levels_from 16 (side_number c.args.side) c.args.named in
    let n = length c.loop-k.yielded in
    let more : suc n ≡ length (c.loop-k.yielded ++ (c.in-Some.k, c.in-Some.q) ∷ []) =
    omega (arith, length-append c.loop-k.yielded ((c.in-Some.k, c.in-Some.q) ∷ [])) in (
      grind serving,
      grind serving,
      ap₂ (set c.loop-k.stages) (turn c).0 (ap (λ (s : ℕ). 2 * c.in-Some.q + s) (cast_is c.args.side) ∙ sym (turn c).4)
          ∙ ap (λ (l : List ℕ). set l n (get_or ls n 0)) c.loop-k.invariant.2
          ∙ written (side_number c.args.side) c.args.named c.requires (replicate 16 0) n (turn c).3
          ∙ ap (λ (m : ℕ). sets (replicate 16 0) 0 (take m ls)) more,
    )

pub returns : goal.returns
returns c =
    let all = YieldsList-end (YieldsList-at c.into_iter-k-iterator.ensures.into_iter_gives
    (YieldsList-from_enumerate (YieldsList-at c.enumerate-k-items.ensures.source
    (YieldsList-from_filter _ (in_mask c.args.named) (YieldsList-from_range 0 16 16 (cc) refl) c.filter.ensures.closure
    (λ x b q k. search (rules, tests)))) c.enumerate-k-items.ensures.count))
    c.loop-k.yielded c.loop-k.k-iterator c.loop-k.yielded_by c.next.result c.next.new.self c.in-None.is c.next.ensures.steps in
    c.loop-k.invariant.2 ∙ written_all (side_number c.args.side) c.args.named c.requires (length c.loop-k.yielded) all.1
