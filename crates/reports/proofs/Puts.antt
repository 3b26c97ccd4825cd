-- Texts written into a line: words copied to its end; one text after another is the two joined; what is written from the front on.
-- Assumes nothing.
use mathlib.Core.Path.{◌≡◌, refl, sym, ap, subst, ◌∙◌}
use mathlib.Core.List.{List, [], ◌∷◌, ◌++◌}
use Prim.Native.Nat.{ℕ, suc, ◌+◌, ◌≤◌}
use native.Mathlib.Nat.{add-zero, zero-add, le_trans, le_refl}
use native.Mathlib.Omega.{arith}
use lib.ListN.{length, take, drop, set, length-append}
use lib.Seq.{sets, sets-eq, take_all}
use Rattle.std.proofs.lemmas.Slice.{put_mid-paste}
use borrow.Rule.Slice.PartMut.{put_mid}
use Rattle.encodings.specs.Writing.{Put as Wrote}
use Rattle.encodings.proofs.Puts.{put_then as Wrote_then, sets_over}
use Rattle.reports.specs.declared.Line.{Line}
use Rattle.reports.specs.Line.{over_front}
use Rattle.reports.specs.Writing.{Put}

-- ---- words copied to a place

pub copied : (words before now : List ℕ) (at k : ℕ) → at + length words ≤ length before → now ≡ words → k ≡ length words →
    put_mid at k before now ≡ sets before at words
copied words before now at k room is all =
    put_mid-paste at k before now words (length words) is (sym all) refl
    ∙ ap (λ (l : List ℕ). take at before ++ l ++ drop (at + length words) before) (take_all (length words) words (le_refl (length words)))
    ∙ sym (sets-eq words before at room)

-- ---- one text after another

pub put_then : {s t : List ℕ} {a b c : Line} {m n : ℕ} → Put s m a b → Put t n b c → Put (s ++ t) (m + n) a c
put_then {s} {t} p q = record {
  wrote = Wrote_then p.wrote q.wrote;
  short = rw length-append (omega (arith, p.short, q.short));
  same = q.same ∙ p.same;
}

-- no text at all
pub put_none : {a : Line} → Put [] 0 a a
put_none = record { wrote = record { place = sym (add-zero _); stored = refl }; short = le_refl 0; same = refl }

-- a greater limit
pub put_within : {text : List ℕ} {a b : Line} {m n : ℕ} → m ≤ n → Put text m a b → Put text n a b
put_within h p = record { wrote = p.wrote; short = le_trans p.short h; same = p.same }

-- the text as it is called elsewhere
pub put_text : {s t : List ℕ} {a b : Line} {m n : ℕ} → s ≡ t → length s ≤ n → Put s m a b → Put t n a b
put_text {n = n} is short p =
    record { wrote = rw (sym is) p.wrote; short = subst (λ (text : List ℕ). length text ≤ n) is short; same = p.same }

-- ---- a text at the front

sets_none : (at : ℕ) (text : List ℕ) → ◌≡◌ {A = List ℕ} (sets [] at text) []
sets_none at [] = refl
sets_none at (x ∷ text) = sets_none (suc at) text

sets_behind : (y : ℕ) (l : List ℕ) (at : ℕ) (text : List ℕ) → sets (y ∷ l) (suc at) text ≡ y ∷ sets l at text
sets_behind y l at [] = refl
sets_behind y l at (x ∷ text) = sets_behind y (set l at x) (suc at) text

sets_front : (text l : List ℕ) → sets l 0 text ≡ over_front text l
unfolding over_front
sets_front [] l = refl
sets_front (x ∷ text) [] = sets_none 1 text
sets_front (x ∷ text) (y ∷ l) = sets_behind x l 0 text ∙ ap (λ (r : List ℕ). x ∷ r) (sets_front text l)

pub put_first : {text before after : List ℕ} {next : ℕ} → Wrote text 0 before after next →
    (next ≡ length text) × (after ≡ over_front text before)
put_first {text} {before} p = (p.place ∙ zero-add (length text), p.stored ∙ sets_front text before)

-- a buffer that has room holds the text, and then what it held
pub over_front_is : (text buffer : List ℕ) → length text ≤ length buffer → over_front text buffer ≡ text ++ drop (length text) buffer
over_front_is text buffer h = sym (sets_front text buffer) ∙ sets_over text buffer h
