-- A list of bytes that stands at an offset: none, joined from two, and split in two.
-- Assumes nothing.
use mathlib.Core.Path.{◌≡◌, refl, sym, ◌∙◌, ap}
use mathlib.Core.List.{List, [], ◌∷◌, ◌++◌, append_assoc, append-nil}
use Prim.Native.Nat.{ℕ, zero, suc, ◌+◌}
use native.Mathlib.Nat.{add-zero}
use native.Mathlib.Omega.{arith}
use lib.ListN.{length, drop, length-append}
use lib.Seq.{drop-drop, drop-append_seam, drop-length}
use Rattle.encodings.specs.Encoding.{Bytes}

-- at the offset the bytes are xs, and then those from `next` on
pub record Spelled (s : List ℕ) (at : ℕ) (xs : List ℕ) (next : ℕ) : Type 0 where
  pub after : next ≡ at + length xs
  pub here : drop at s ≡ xs ++ drop next s

drop_spelled : (s : List ℕ) (at : ℕ) (xs rest : List ℕ) → drop at s ≡ xs ++ rest → drop (at + length xs) s ≡ rest
drop_spelled s at xs rest e = sym (drop-drop (length xs) at s) ∙ (ap (drop (length xs)) e ∙ drop-append_seam xs rest)

pub spelled : (s : List ℕ) (at : ℕ) (xs rest : List ℕ) → drop at s ≡ xs ++ rest → Spelled s at xs (at + length xs)
spelled s at xs rest e = record { after = refl; here = e ∙ ap (λ (r : List ℕ). xs ++ r) (sym (drop_spelled s at xs rest e)) }

pub spelled_none : (s : List ℕ) (at : ℕ) → Spelled s at [] at
spelled_none s at = record { after = sym (add-zero at); here = refl }

module _ {s : List ℕ} {at : ℕ} where
  pub join : {xs ys : List ℕ} {mid next : ℕ} → Spelled s at xs mid → Spelled s mid ys next → Spelled s at (xs ++ ys) next
  join {xs} {ys} {mid} {next} p q =
      record {
        after = omega (arith, p.after, q.after, length-append xs ys);
        here = p.here ∙ (ap (λ (r : List ℕ). xs ++ r) q.here ∙ sym (append_assoc xs ys (drop next s)));
      }

  pub split : (xs ys : List ℕ) {next : ℕ} → Spelled s at (xs ++ ys) next
      → Spelled s at xs (at + length xs) × Spelled s (at + length xs) ys next
  split xs ys {next} p =
      let e = p.here ∙ append_assoc xs ys (drop next s) in
      let second = drop_spelled s at xs (ys ++ drop next s) e in
      (spelled s at xs (ys ++ drop next s) e, record { after = omega (arith, p.after, length-append xs ys); here = second })

-- ---- all the bytes

pub whole : (s : List ℕ) → Spelled s 0 s (length s)
whole s = record { after = omega arith; here = sym (ap (λ (r : List ℕ). s ++ r) (drop-length s) ∙ append-nil s) }

pub whole_is : {s xs : List ℕ} → Spelled s 0 xs (length s) → s ≡ xs
whole_is {s} {xs} e = e.here ∙ (ap (λ (r : List ℕ). xs ++ r) (drop-length s) ∙ append-nil xs)

-- ---- bytes

pub drop_bytes : (n : ℕ) (s : List ℕ) → Bytes s → Bytes (drop n s)
drop_bytes zero s b = b
drop_bytes (suc n) [] b = b
drop_bytes (suc n) (x ∷ s) b = drop_bytes n s b.1
