-- The report as its line of text. Definitions only; their laws are in proofs/Decimals.antt and proofs/Signs.antt, and the lines
-- that the paper prints are in proofs/Examples.antt.
use Rattle.std.specs.Prelude.{cond, List, [], ◌∷◌, ◌++◌, ℕ, zero, suc, ◌+◌, ◌/◌, ◌%◌, ltb, ℤ, pos, negsuc}
use Prim.Native.Char.{code}
use Prim.Native.String.{String}
use Rattle.algebra.specs.declared.Entry.{Entry}
use Rattle.miters.specs.declared.Difference.{Difference}
use Rattle.miters.specs.declared.Part.{Part}
use Rattle.miters.specs.declared.Refusal.{Refusal}
use Rattle.miters.specs.declared.Refusal.TheVariants.{Call, Byte, Step}
use Rattle.miters.specs.declared.Verdict.{Verdict}
use Rattle.miters.specs.declared.Verdict.TheVariants.{Equal, Different, Refused}
use Rattle.miters.specs.declared.Report.{Report}
use Rattle.miters.specs.Report.{part_number, number_of}

-- ---- text and numbers

-- the bytes of a text
abbrev pub bytes : String → List ℕ
bytes String.[] = []
bytes (String.◌∷◌ c s) = code c ∷ bytes s

-- the byte of a digit: 48 is that of 0
abbrev pub digit : ℕ → ℕ
digit d = 48 + d

-- the decimal digits of n, most significant first, where n / 10 is taken at most `left` times
unfoldable pub digits_in : ℕ → ℕ → List ℕ
digits_in zero n = digit n ∷ []
digits_in (suc left) n = let front = digits_in left (n / 10) in cond (ltb n 10) (digit n ∷ []) (front ++ (digit (n % 10) ∷ []))

-- "Numbers are decimal unless marked hex."
unfoldable pub digits : ℕ → List ℕ
digits n = digits_in n n

-- a whole number, with a minus sign if it is below zero
unfoldable pub whole : ℤ → List ℕ
whole (pos n) = digits n
whole (negsuc n) = bytes "-" ++ digits (suc n)

-- ---- the parts of a line

-- some words and a number
abbrev pub named : String → ℕ → List ℕ
named words n = bytes words ++ digits n

-- a whole number after a space
abbrev pub after_space : ℤ → List ℕ
after_space z = bytes " " ++ whole z

-- the four numbers of an entry
unfoldable pub numbers : Entry → List ℕ
numbers x = after_space x.a ++ after_space x.b ++ after_space x.c ++ after_space x.d

-- some words and an entry
abbrev pub named_entry : String → Entry → List ℕ
named_entry words x = bytes words ++ numbers x

-- what is returned of a byte: "list, offset"
unfoldable pub place : Part → ℕ → List ℕ
place list offset = named " list " (part_number list) ++ named " byte " offset

-- what is returned beside the number
abbrev pub beside : Refusal → List ℕ
beside (Call fault) = []
beside (Byte list why) = place list why.offset
beside (Step fault steps) = named " steps " steps

-- "`refused 3 list 0 byte 0`, or `refused 13 steps 61`, or `refused 11`"
unfoldable pub refusal : Refusal → List ℕ
refusal why = named "refused " (number_of why) ++ beside why

-- the part that a finished run adds: "exponent 0 steps 0 nodes 3 values 2"
unfoldable pub counts : Report → List ℕ
counts r = named " exponent " r.exponent ++ named " steps " r.steps ++ named " nodes " r.nodes ++ named " values " r.values

-- "different row 0 column 1 entry 0 0 0 1 corner 0 0 0 0"
unfoldable pub difference : Difference → List ℕ
difference d =
    named "different row " d.row ++ named " column " d.column ++ named_entry " entry" d.entry ++ named_entry " corner" d.corner

-- "equal factor 0 0 0 1", or one of the two above; the counts follow unless it is a refusal
abbrev pub answer : Verdict → Report → List ℕ
answer (Equal factor) r = named_entry "equal factor" factor ++ counts r
answer (Different d) r = difference d ++ counts r
answer (Refused why) r = refusal why

-- "Output is one line, ended by a line feed"
unfoldable pub line : Report → List ℕ
line r = answer r.verdict r ++ bytes "\n"

-- ---- the buffer

-- a text in the first bytes of a buffer, which keeps the rest
unfoldable pub over_front : List ℕ → List ℕ → List ℕ
over_front [] buffer = buffer
over_front (x ∷ text) [] = []
over_front (x ∷ text) (y ∷ buffer) = x ∷ over_front text buffer
