-- The starred circuits of the paper, one list, against the definitions by one claim.
-- Assumes nothing.
use mathlib.Core.Path.{◌≡◌, refl}
use mathlib.Core.List.{List, [], ◌∷◌, ◌++◌, map}
use Prim.Native.Nat.{ℕ}
use lib.ListN.{length, replicate}
use lib.IntN.{ℤ, pos, negsuc}
use Rattle.algebra.specs.declared.Entry.{Entry}
use Rattle.algebra.specs.Entry.{entry, 𝟘, 𝟙, neg, ◌⊕◌, ◌⊗◌, times_w8, turned}
use Rattle.algebra.specs.Matrix.{total, product, identity}
use Rattle.algebra.specs.Width.{number_in_width}
use Rattle.algebra.specs.Division.{even, half, over_√2}
use Rattle.gates.specs.Gate.{Kind, X, Y, Z, H, S, T, CNOT, CZ, Gate, on, pair, matrix}
use Rattle.diagrams.specs.Diagram.{reduce}
use Rattle.stores.specs.Columns.{Columns, held, cleared}
use Rattle.miters.specs.declared.StepFault.{StepFault}
use Rattle.miters.specs.declared.StepFault.TheVariants.{OutsideWidth}
use Rattle.miters.specs.declared.Refusal.TheVariants.{Step}
use Rattle.miters.specs.declared.Verdict.{Verdict}
use Rattle.miters.specs.declared.Verdict.TheVariants.{Equal, Different, Refused}
use Rattle.miters.specs.declared.Report.{Report}
use Rattle.miters.specs.Miter.{start, stepped, lower}
use Rattle.miters.specs.Report.{verdict, finished, refused}
use Rattle.miters.specs.Run.{Lent, Outcome, ended, judged, used}

pub record Circuit : Type 0 where
  pub width : ℕ
  pub qubits : ℕ
  pub u : List Gate
  pub v : List Gate

-- what is asked of a circuit's run: its report, or the used part of its first store
pub data Question : Type 0 where
  report_of store_of : Circuit → Question

pub data Answer : Type 0 where
  reports : Report → Answer
  holds : Columns → Answer

-- all of U, then all of V, in stores that are ample
abbrev run_of : Circuit → Outcome
run_of c =
    let lent : Lent = record { width = c.width; nodes = 4096; values = 1024 } in
    let schedule : List ℕ = replicate (length c.u) 0 ++ replicate (length c.v) 1 in
    judged lent c.qubits schedule c.u c.v (cleared 4096 1024) (cleared 4096 1024)

abbrev answer : Question → Answer
answer (report_of c) = reports (run_of c).report
answer (store_of c) = holds (used (run_of c))

-- "One qubit, width 32 .. unless said."
abbrev alone : ℕ → List Kind → List Kind → Circuit
alone width u v = record { width = width; qubits = 1; u = map (λ k. on k 0) u; v = map (λ k. on k 0) v }

abbrev two : List Gate → List Gate → Circuit
two u v = record { width = 32; qubits = 2; u = u; v = v }

-- ---- the list

abbrev finishes : Verdict → ℕ → ℕ → ℕ → ℕ → Answer
finishes verdict exponent steps nodes values =
    reports (record { verdict = verdict; exponent = exponent; steps = steps; nodes = nodes; values = values })

abbrev stops : StepFault → ℕ → Answer
stops fault steps = reports (record { verdict = Refused (Step fault steps); exponent = 0; steps = 0; nodes = 0; values = 0 })

abbrev differs : ℕ → ℕ → Entry → Entry → Verdict
differs row column entry corner = Different (record { row = row; column = column; entry = entry; corner = corner })

abbrev plain : ℤ → Entry
plain d = entry (pos 0) (pos 0) (pos 0) d

-- each circuit of the paper, by its number, with what the paper says of it
abbrev circuits : List (Question × Answer)
circuits =
    -- 1, and its store: values (0,0,0,1), (0,0,0,0), nodes (1,0,2), (1,2,0), (0,1,3)
    (report_of (alone 32 [] []), finishes (Equal (plain (pos 1))) 0 0 3 2)
    ∷ (
      store_of (alone 32 [] []),
      holds (record {
        level = 1 ∷ 1 ∷ 0 ∷ [];
        low = 0 ∷ 2 ∷ 1 ∷ [];
        high = 2 ∷ 0 ∷ 3 ∷ [];
        a = pos 0 ∷ pos 0 ∷ [];
        b = pos 0 ∷ pos 0 ∷ [];
        c = pos 0 ∷ pos 0 ∷ [];
        d = pos 1 ∷ pos 0 ∷ [];
      }),
    )
    -- 2
    ∷ (report_of (alone 32 (H ∷ H ∷ []) []), finishes (Equal (plain (pos 1))) 0 2 3 2)
    -- 3
    ∷ (report_of (alone 32 (X ∷ []) []), finishes (differs 0 1 (plain (pos 1)) (plain (pos 0))) 0 1 3 2)
    -- 4
    ∷ (report_of (alone 32 (T ∷ []) (S ∷ [])), finishes (differs 1 1 (entry (negsuc 0) (pos 0) (pos 0) (pos 0)) (plain (pos 1))) 0 2 3 3)
    -- 5
    ∷ (report_of (alone 32 (X ∷ Z ∷ []) (Z ∷ X ∷ [])), finishes (Equal (plain (negsuc 0))) 0 4 3 2)
    -- 6
    ∷ (report_of (alone 32 (Y ∷ []) (Z ∷ X ∷ [])), finishes (Equal (entry (pos 0) (pos 1) (pos 0) (pos 0))) 0 3 3 2)
    ∷ (report_of (alone 32 (Z ∷ X ∷ []) (Y ∷ [])), finishes (Equal (entry (pos 0) (negsuc 0) (pos 0) (pos 0))) 0 3 3 2)
    -- 7
    ∷ (report_of (two (pair CNOT 0 1 ∷ []) (on H 1 ∷ pair CZ 0 1 ∷ on H 1 ∷ [])), finishes (Equal (plain (pos 1))) 0 4 6 2)
    -- 8
    ∷ (report_of (two (pair CNOT 0 1 ∷ []) (pair CNOT 1 0 ∷ [])), finishes (differs 1 1 (plain (pos 0)) (plain (pos 1))) 0 2 9 2)
    -- 9
    ∷ (report_of (alone 2 (H ∷ H ∷ []) []), stops OutsideWidth 1)
    ∷ (report_of (alone 3 (H ∷ H ∷ []) []), finishes (Equal (plain (pos 1))) 0 2 3 2)
    -- 10
    ∷ (report_of (alone 2 (X ∷ Z ∷ X ∷ Z ∷ H ∷ H ∷ []) []), finishes (Equal (plain (negsuc 0))) 0 6 3 2)
    ∷ (report_of (alone 2 (X ∷ Z ∷ X ∷ Z ∷ H ∷ H ∷ Z ∷ []) []), finishes (differs 1 1 (plain (pos 1)) (plain (negsuc 0))) 0 7 3 3)
    ∷ []

pub starred : map (λ row. answer row.0) circuits ≡ map (λ row. row.1) circuits
unfolding lower even half over_√2 judged ended finished refused verdict used held cleared reduce start stepped product total identity matrix number_in_width
    𝟘 𝟙 neg ◌⊕◌ ◌⊗◌ times_w8 turned
starred = refl
