-- The diagram of a table of entries that is lowered: the same nodes, and the values lowered; so it has room exactly if it had before.
-- Assumes nothing.
use mathlib.Core.Path.{◌≡◌, refl, sym, ◌∙◌, ap, subst, ◌≡⟨◌⟩◌, ◌∎}
use mathlib.Core.Bool.{Bool, true, false, cond, ◌&&◌}
use mathlib.Core.List.{List, map}
use Prim.Native.Nat.{ℕ, zero, suc}
use lib.ListN.{length, length-map}
use lib.Dec.{leb}
use Rattle.algebra.specs.declared.Entry.{Entry}
use Rattle.algebra.specs.Entry.{times_√2}
use Rattle.algebra.specs.Matrix.{Matrix}
use Rattle.algebra.specs.Division.{divisible, over_√2}
use Rattle.algebra.specs.Lowering.{every, ValuesOver, lower_values}
use Rattle.algebra.proofs.Divisions.{times_over, times_√2_injective, map_over_times}
use Rattle.diagrams.specs.Diagram.{Diagram, holding, rooted, levels, entries, same_entry, empty, diagram}
use Rattle.diagrams.proofs.Tests.{entry_decides, apart_false, false_apart}
use Rattle.diagrams.proofs.Diagrams.{diagram_ext}
use Rattle.diagrams.proofs.Mapped.{diagram_mapped, reduce_map, reduce_every}
use Rattle.miters.specs.Miter.{Over, all_divisible, divided, table, lower, lowered}
use Rattle.miters.specs.Run.{Lent, has_room}
use Rattle.miters.proofs.LeastForms.{divisible_all}

-- ---- dividing is one-to-one, and so is its undoing

-- the test of all entries is the test of the diagram's values
values_divisible : (n : ℕ) (M : Matrix) → every divisible (diagram n M).store.values ≡ all_divisible n M
values_divisible n M = reduce_every entry_decides divisible (levels n) 0 (entries M) empty

-- a product with √2 tells entries apart as they are told apart
times_√2_same : (x y : Entry) → same_entry (times_√2 x) (times_√2 y) ≡ same_entry x y
times_√2_same x y = by (same_entry x y) refl
  where
    by : (b : Bool) → same_entry x y ≡ b → same_entry (times_√2 x) (times_√2 y) ≡ b
    by true e = ap (same_entry (times_√2 x)) (ap times_√2 (sym (entry_decides.sound x y e))) ∙ entry_decides.reflexive (times_√2 x)
    by false e = apart_false entry_decides (times_√2 x) (times_√2 y) (λ h. false_apart entry_decides x y e (times_√2_injective x y h))

-- "divide all entries by √2": the nodes stay, and each value is divided
diagram_divided : (n : ℕ) (M : Matrix) → all_divisible n M ≡ true → diagram n (divided M) ≡ diagram_mapped over_√2 (diagram n M)
diagram_divided n M e =
    diagram n (divided M) ≡⟨ (λ i. rooted (holding D.store.nodes (sym (map_over_times D.store.values) i)) D.root) ⟩
    diagram_mapped over_√2 (diagram_mapped times_√2 D)
    ≡⟨ ap (diagram_mapped over_√2) (sym (reduce_map same_entry times_√2 times_√2_same (levels n) 0 (entries (divided M)) empty)) ⟩
    diagram_mapped over_√2 (diagram n (λ r c. times_√2 (over_√2 (M r c))))
    ≡⟨ ap (diagram_mapped over_√2) (diagram_ext n _ M (λ r c p q. times_over (M r c) (divisible_all n M e r c p q))) ⟩
    diagram_mapped over_√2 (diagram n M) ∎
  where
    D : Diagram Entry
    D = diagram n (divided M)

-- ---- lowering

-- the diagram with other values in the place of its own
abbrev pub with_values : Diagram Entry → List Entry → Diagram Entry
with_values D vs = rooted (holding D.store.nodes vs) D.root

-- a table whose diagram is D with these values, over their exponent
abbrev Drawn : ℕ → Diagram Entry → ValuesOver → Over → Type 0
Drawn n D low M = (diagram n M.entries ≡ with_values D low.values) × (M.power ≡ low.power)

pub diagram_lowered : (n k : ℕ) (M : Matrix) → Drawn n (diagram n M) (lower_values k (diagram n M).store.values) (lower n k M)
unfolding lower
diagram_lowered n zero M = (refl, refl)
diagram_lowered n (suc k) M = by (all_divisible n M) refl (diagram_lowered n k (divided M))
  where
    vs : List Entry
    vs = (diagram n M).store.values

    Claim : Bool → Bool → Type 0
    Claim b b' = Drawn n (diagram n M) (cond b' (lower_values k (map over_√2 vs)) (record { values = vs; power = suc k }))
        (cond b (lower n k (divided M)) (table (suc k) M))

    by : (b : Bool) → all_divisible n M ≡ b
        → Drawn n (diagram n (divided M)) (lower_values k (diagram n (divided M)).store.values) (lower n k (divided M)) → Claim b (every divisible vs)
    by false e h = subst (Claim false) (sym (values_divisible n M ∙ e)) (refl, refl)
    by true e h = subst (Claim true) (sym (values_divisible n M ∙ e))
        (subst (λ (D : Diagram Entry). Drawn n D (lower_values k D.store.values) (lower n k (divided M))) (diagram_divided n M e) h)

-- as many values as before
pub lower_length : (k : ℕ) (vs : List Entry) → length (lower_values k vs).values ≡ length vs
lower_length zero vs = refl
lower_length (suc k) vs = by (every divisible vs) (lower_length k (map over_√2 vs))
  where
    by : (b : Bool) → length (lower_values k (map over_√2 vs)).values ≡ length (map over_√2 vs)
        → length (cond b (lower_values k (map over_√2 vs)) (record { values = vs; power = suc k })).values ≡ length vs
    by true h = h ∙ length-map vs over_√2
    by false h = refl

-- so 14 before the dividing is 14 after it
pub room_lowered : (lent : Lent) (n : ℕ) (M : Over) → has_room lent n (lowered n M).entries ≡ has_room lent n M.entries
room_lowered lent n M = ap (λ (D : Diagram Entry). leb (length D.store.nodes) lent.nodes && leb (length D.store.values) lent.values)
    (diagram_lowered n M.power M.entries).0
    ∙ ap (λ (v : ℕ). leb (length (diagram n M.entries).store.nodes) lent.nodes && leb v lent.values)
    (lower_length M.power (diagram n M.entries).store.values)
