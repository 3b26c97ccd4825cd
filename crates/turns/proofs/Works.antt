-- What is kept of a walk's work from turn to turn: answers of the computed table stay right, and each new one is.
-- Assumes nothing.
use mathlib.Core.Path.{◌≡◌, refl, sym, ap, ◌∙◌, subst}
use mathlib.Core.Bool.{true}
use Prim.Native.Nat.{ℕ, ◌<◌}
use Rattle.std.specs.Prelude.{Result, Ok}
use Rattle.algebra.specs.declared.Entry.{Entry}
use Rattle.diagrams.specs.Diagram.{branch, ref_of, Store, Diagram, rooted}
use Rattle.diagrams.proofs.Again.{Extends, extends_refl, make_node_extends}
use Rattle.diagrams.proofs.References.{code_ref_of, ref_of_code}
use Rattle.transitions.specs.declared.State.{State}
use Rattle.transitions.specs.Plan.{Plan}
use Rattle.transitions.specs.State.{made}
use Rattle.meanings.proofs.Walks.{made_extends, made_again}
use Rattle.turns.specs.declared.OutsideWidth.{OutsideWidth}
use Rattle.turns.specs.Progress.{reference_limit, Progress, building, full, out, roomy, Walks, built, filled, left, still_full, left_full}
use Rattle.turns.specs.Progress.{Finish, no_more, joined, overflows}
use Rattle.turns.specs.Work.{Right}
use Rattle.turns.proofs.Progress.{made_walks}

-- there is room for what is built so far, and nothing has left the width
abbrev pub Roomy : ℕ → ℕ → Progress → Type 0
Roomy N L (building t) = roomy N L t ≡ true
Roomy N L full = Unit {0}
Roomy N L out = ⊥

-- ---- a right answer is a walk that changes nothing

pub right_walks : {N L : ℕ} (plan : Plan) (s : Store Entry) (σ : State) (p : Progress) {a : ℕ} → Roomy N L p → Right plan s p σ a
    → Walks N L plan s σ p p (Ok a)
right_walks {N} {L} plan s σ (building t) {a} room r =
    subst (λ (b : ℕ). Walks N L plan s σ (building t) (building t) (Ok b)) (code_ref_of a)
    (made_walks {D = rooted t (ref_of a)} (sym r.1) r.0 room (subst (λ (b : ℕ). b < reference_limit) (sym (code_ref_of a)) r.2))
right_walks plan s σ full room r = still_full r
right_walks plan s σ out room r = absurd room

-- ---- a walk leaves right answers right

-- what is in a store is in every store that holds more
right_extends : (plan : Plan) (s : Store Entry) (τ : State) (a : ℕ) {t u : Store Entry} → Extends t u
    → Right plan s (building t) τ a → Right plan s (building u) τ a
right_extends plan s τ a {t} {u} grown right =
    let same = right.1 in
    let held : Extends (made plan s τ t).store u = subst (λ (D : Diagram Entry). Extends D.store u) (sym same) grown in
    (right.0, made_again plan s τ t u held ∙ ap (λ (D : Diagram Entry). rooted u D.root) same, right.2)

pub walks_carry : {N L : ℕ} (plan : Plan) (s : Store Entry) (σ τ : State) (a : ℕ) {p p' : Progress} {r : Result ℕ OutsideWidth}
    → Walks N L plan s σ p p' r → Right plan s p τ a → Right plan s p' τ a
walks_carry plan s σ τ a (built {t = t} i c x) right = right_extends plan s τ a (made_extends plan s σ t) right
walks_carry plan s σ τ a (filled i c) right = right.0
walks_carry plan s σ τ a (left i) right = tt
walks_carry plan s σ τ a (still_full i) right = right
walks_carry plan s σ τ a (left_full i) right = tt

-- so does the end of a turn
pub finish_carries : {N L level l h : ℕ} (plan : Plan) (s : Store Entry) (τ : State) (a : ℕ) {p p' : Progress} {r : ℕ} → Finish N L level l h p p' r
    → Right plan s p τ a → Right plan s p' τ a
finish_carries plan s τ a no_more right = right
finish_carries {level = level} {l = l} {h = h} plan s τ a (joined {t = t} c x) right =
    right_extends plan s τ a (make_node_extends (branch level (ref_of l) (ref_of h)) t) right
finish_carries plan s τ a (overflows c) right = right.0

-- ---- and its own is right

pub walks_right : {N L : ℕ} (plan : Plan) (s : Store Entry) (σ : State) {p p' : Progress} {r : ℕ} → Walks N L plan s σ p p' (Ok r)
    → Right plan s p' σ r
walks_right plan s σ (built {t = t} i c x) =
    let u = (made plan s σ t).store in
    (i, made_again plan s σ t u (extends_refl u) ∙ ap (rooted u) (sym (ref_of_code (made plan s σ t).root)), x)
walks_right plan s σ (filled i c) = i
walks_right plan s σ (still_full i) = i

-- ---- how the calls of a turn can have ended

-- a walk that is building at its end was building before, and answers with a reference
built_only : {N L : ℕ} {plan : Plan} {s t : Store Entry} {σ : State} {p p' : Progress} {r : ℕ}
    → Walks N L plan s σ p p' (Ok r) → p' ≡ building t → (r < reference_limit) × ((u : Store Entry) × (p ≡ building u))
built_only (built {t = u} i c x) e = (x, (u, refl))
built_only (filled i c) e = cc
built_only (still_full i) e = cc

-- building only with references
pub built_answered : {N L : ℕ} {plan : Plan} {s t : Store Entry} {low high : State} {p p₁ : Progress} {l h : ℕ}
    → Walks N L plan s low p p₁ (Ok l) → Walks N L plan s high p₁ (building t) (Ok h) → (l < reference_limit) × (h < reference_limit)
built_answered first second =
    let after = built_only second refl in
    let before = built_only first after.1.1 in
    (before.0, after.0)
