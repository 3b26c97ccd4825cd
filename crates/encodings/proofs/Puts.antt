-- Bytes written into a buffer: one run of them after another or before another is the two joined; from the front on; a number, group by
-- group.
-- Assumes nothing.
use mathlib.Core.Path.{◌≡◌, refl, sym, ap, ap₂, subst, ◌∙◌, ◌≡⟨◌⟩◌, ◌∎}
use mathlib.Core.List.{List, [], ◌∷◌, ◌++◌, append_assoc}
use Prim.Native.Nat.{ℕ, suc, ◌+◌, ◌/◌, ◌%◌, ◌≤◌, ◌<◌}
use native.Mathlib.Nat.{add-zero, zero-add}
use native.Mathlib.Omega.{arith}
use lib.ListN.{length, set, drop, length-append}
use lib.Seq.{sets, sets-eq, set_comm, length-sets}
use Rattle.encodings.specs.Encoding.{groups, number_bytes}
use Rattle.encodings.specs.declared.Writer.{Writer}
use Rattle.encodings.specs.Writing.{Put, Wrote}
use Rattle.encodings.proofs.Numbers.{one_byte}
use Rattle.encodings.proofs.Groups.{groups_length, number_more, groups_more, some_group, last_group, further_group}

-- ---- one run after another

pub sets_append : (l : List ℕ) (at : ℕ) (s t : List ℕ) → sets l at (s ++ t) ≡ sets (sets l at s) (at + length s) t
sets_append l at [] t = rw add-zero
sets_append l at (a ∷ s) t =
    let shift : suc at + length s ≡ at + suc (length s) = omega arith in
    sets_append (set l at a) (suc at) s t ∙ ap (λ (k : ℕ). sets (sets (set l at a) (suc at) s) k t) shift

pub put_then : {s t before between after : List ℕ} {at next last : ℕ} →
    Put s at before between next → Put t next between after last → Put (s ++ t) at before after last
put_then {s} {t} {before} {between} {after} {at} {next} {last} p q = record {
  place = rw length-append (omega (arith, p.place, q.place));
  stored =
      after ≡⟨ q.stored ⟩
      sets between next t ≡⟨ ap₂ (λ (l : List ℕ) (k : ℕ). sets l k t) p.stored p.place ⟩
      sets (sets before at s) (at + length s) t ≡⟨ sym (sets_append before at s t) ⟩
      sets before at (s ++ t) ∎;
}

pub put_length : {s before after : List ℕ} {at next : ℕ} → Put s at before after next → length after ≡ length before
put_length {s} {before} {after} {at} p = ap length p.stored ∙ length-sets before at s

-- where there is room for both, there is room for the second
pub put_room : {s before between : List ℕ} {at next : ℕ} (t : List ℕ) → Put s at before between next → at + length (s ++ t) ≤ length before
    → next + length t ≤ length between
put_room {s} t p room = omega (arith, put_length p, p.place, length-append s t)

pub wrote_then : {s t : List ℕ} {first between last : Writer} → Wrote s first between → Wrote t between last → Wrote (s ++ t) first last
wrote_then v w = record { put = put_then v.put w.put; same_buffer = w.same_buffer ∙ v.same_buffer }

-- ---- one run before another

set_sets : (l : List ℕ) (i j : ℕ) (a : ℕ) (t : List ℕ) → i < j → set (sets l j t) i a ≡ sets (set l i a) j t
set_sets l i j a [] h = refl
set_sets l i j a (b ∷ t) h =
    set_sets (set l j b) i (suc j) a t (omega arith)
    ∙ ap (λ (k : List ℕ). sets k (suc j) t) (set_comm l j i b a (λ e. omega (arith, e)))

-- the later bytes stand already
pub sets_before : (l : List ℕ) (at : ℕ) (s t : List ℕ) → sets (sets l (at + length s) t) at s ≡ sets l at (s ++ t)
sets_before l at [] t = rw add-zero
sets_before l at (a ∷ s) t =
    let shift : at + suc (length s) ≡ suc at + length s = omega arith in
    sets (set (sets l (at + suc (length s)) t) at a) (suc at) s
    ≡⟨ ap (λ (k : List ℕ). sets k (suc at) s) (set_sets l at (at + suc (length s)) a t (omega arith)) ⟩
    sets (sets (set l at a) (at + suc (length s)) t) (suc at) s
    ≡⟨ ap (λ (k : ℕ). sets (sets (set l at a) k t) (suc at) s) shift ⟩
    sets (sets (set l at a) (suc at + length s) t) (suc at) s ≡⟨ sets_before (set l at a) (suc at) s t ⟩
    sets (set l at a) (suc at) (s ++ t) ∎

-- ---- from the front on

-- a buffer that has room holds the bytes, and then what it held
pub sets_over : (s l : List ℕ) → length s ≤ length l → sets l 0 s ≡ s ++ drop (length s) l
sets_over s l room = sets-eq s l 0 (omega arith) ∙ ap (λ (k : ℕ). s ++ drop k l) (zero-add (length s))

-- ---- a number, group by group

-- the lowest groups of v are written, and those of `rest` are left; `group` counts from 1 on
pub record Writing (v : ℕ) (old now : Writer) (rest group : ℕ) : Type 0 where
  pub done : List ℕ
  pub wrote : Wrote done old now
  pub all : done ++ number_bytes rest ≡ number_bytes v
  pub small : rest < 2097152
  pub counted : groups rest + group ≡ groups v + 1

pub writing_none : (v : ℕ) (w : Writer) → v < 2097152 → Writing v w w v 1
writing_none v w small = record {
  done = [];
  wrote = record { put = record { place = omega arith; stored = refl }; same_buffer = refl };
  all = refl;
  small = small;
  counted = refl;
}

module _ {v : ℕ} {old now : Writer} {rest group : ℕ} (w : Writing v old now rest group) where
  -- there is room for the next group
  pub writing_room : old.at + length (number_bytes v) ≤ length old.buffer.now → now.at < length now.buffer.now
  writing_room room =
      let left = length-append w.done (number_bytes rest) in
      omega (arith, put_length w.wrote.put, w.wrote.put.place, ap length w.all, left, some_group rest w.small, groups_length rest w.small)

  module _ (next : Writer) where
    pub writing_more : group < groups v → Wrote ((rest % 128 + 128) ∷ []) now next → Writing v old next (rest / 128) (group + 1)
    writing_more more wrote =
        let large = further_group rest w.small (omega (arith, w.counted)) in
        let byte = rest % 128 + 128 in
        record {
          done = w.done ++ (byte ∷ []);
          wrote = wrote_then w.wrote wrote;
          all =
              append_assoc w.done (byte ∷ []) (number_bytes (rest / 128))
              ∙ ap (λ (l : List ℕ). w.done ++ l) (sym (number_more rest large w.small)) ∙ w.all;
          small = omega (arith, w.small);
          counted = omega (arith, w.counted, groups_more rest large w.small);
        }

  module _ (last : groups v ≤ group) where
    pub writing_last : rest < 128
    writing_last = last_group rest w.small (omega (arith, w.counted))

    pub writing_all : (next : Writer) → Wrote (rest ∷ []) now next → Wrote (number_bytes v) old next
    writing_all next wrote =
        let last : w.done ++ (rest ∷ []) ≡ number_bytes v = ap (λ (l : List ℕ). w.done ++ l) (sym (one_byte rest writing_last)) ∙ w.all in
        subst (λ (l : List ℕ). Wrote l old next) last (wrote_then w.wrote wrote)
