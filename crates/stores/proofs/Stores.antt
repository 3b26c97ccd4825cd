-- Stores in their columns: what is written and published there, what wiping leaves, and when a store is held.
-- Assumes nothing.
use mathlib.Core.Path.{◌≡◌, refl, sym, ◌∙◌, ap, ap₂, ◌≡⟨◌⟩◌, ◌∎}
use mathlib.Core.List.{List, map, ◌++◌}
use Prim.Native.Nat.{ℕ, ◌+◌, ◌-◌, ◌<◌, ◌≤◌}
use native.Mathlib.Nat.{le_refl}
use native.Mathlib.Omega.{arith}
use lib.IntN.{ℤ, pos}
use lib.ListN.{length, length-set, get_or, set, take, drop, replicate, length-append, length-drop, length-map}
use lib.ListN.{take-append-drop, get_or-append, get_or-map}
use lib.Seq.{take_at, take-length, ext_get_or}
use borrow.Rule.Slice.PartMut.{put_mid}
use Rattle.algebra.specs.declared.Entry.{Entry}
use Rattle.algebra.specs.Entry.{entry, 𝟘}
use Rattle.diagrams.specs.Diagram.{Node, branch, unused, code, ref_of, Store, holding}
use Rattle.stores.specs.Columns.{Columns, columns, column, held, over, written, Begins, Holds, wiped}
use Rattle.stores.specs.Columns.{zeroed, SameNodes, NodeColumns, NodesWritten, entry_of, entries_of, ValueColumns, Published}
use Rattle.uniques.specs.UniqueTable.{listed, node_in, nodes_in, value_in, values_in}
use Rattle.uniques.proofs.Chains.{length_listed, get_d_listed, listed_agree}
use Rattle.stores.proofs.Filling.{filled, filled_none, filled_more, filled_over, map_listed, listed_take, part_zeroed, zeroed_column}
use Rattle.diagrams.proofs.References.{code_ref_of, ref_of_code}

-- ---- published

-- the first j terminals' numbers stand in the value columns with ', and past them what stood in the others, as do the nodes
pub record Publishing (vals : List Entry) (C C' : Columns) (j : ℕ) : Type 0 where
  pub of_a : C'.a ≡ filled (λ i. (value_in vals i).a) C.a j
  pub of_b : C'.b ≡ filled (λ i. (value_in vals i).b) C.b j
  pub of_c : C'.c ≡ filled (λ i. (value_in vals i).c) C.c j
  pub of_d : C'.d ≡ filled (λ i. (value_in vals i).d) C.d j
  -- the check finds by itself that the other three columns keep their lengths
  pub long_d : length C'.d ≡ length C.d
  pub nodes : SameNodes C C'

module _ (vals : List Entry) (C : Columns) where
  pub publishing_none : Publishing vals C C 0
  publishing_none = record {
    of_a = filled_none _ C.a;
    of_b = filled_none _ C.b;
    of_c = filled_none _ C.c;
    of_d = filled_none _ C.d;
    long_d = refl;
    nodes = record { same_level = refl; same_low = refl; same_high = refl };
  }

  module _ {C' : Columns} {j : ℕ} (h : Publishing vals C C' j) where
    pub publishing_next : {x y z w : ℤ} → ValueColumns C (j + 1)
        → x ≡ (value_in vals j).a → y ≡ (value_in vals j).b → z ≡ (value_in vals j).c → w ≡ (value_in vals j).d
        → Publishing vals C (columns C'.level C'.low C'.high (set C'.a j x) (set C'.b j y) (set C'.c j z) (set C'.d j w)) (j + 1)
    publishing_next {w = w} fits p q r s = record {
      of_a = ap₂ (λ (l : List ℤ) (n : ℤ). set l j n) h.of_a p ∙ filled_more (λ i. (value_in vals i).a) C.a j (omega (arith, fits.in_a));
      of_b = ap₂ (λ (l : List ℤ) (n : ℤ). set l j n) h.of_b q ∙ filled_more (λ i. (value_in vals i).b) C.b j (omega (arith, fits.in_b));
      of_c = ap₂ (λ (l : List ℤ) (n : ℤ). set l j n) h.of_c r ∙ filled_more (λ i. (value_in vals i).c) C.c j (omega (arith, fits.in_c));
      of_d = ap₂ (λ (l : List ℤ) (n : ℤ). set l j n) h.of_d s ∙ filled_more (λ i. (value_in vals i).d) C.d j (omega (arith, fits.in_d));
      long_d = length-set C'.d j w ∙ h.long_d;
      nodes = record { same_level = h.nodes.same_level; same_low = h.nodes.same_low; same_high = h.nodes.same_high };
    }

    pub publishing_all : j ≡ length vals → Published vals C C'
    publishing_all all = record {
      of_a = h.of_a ∙ numbers (λ x. x.a) C.a;
      of_b = h.of_b ∙ numbers (λ x. x.b) C.b;
      of_c = h.of_c ∙ numbers (λ x. x.c) C.c;
      of_d = h.of_d ∙ numbers (λ x. x.d) C.d;
      nodes = h.nodes;
    }
      where
        values_are : values_in j vals ≡ vals
        values_are = rw all (listed_take vals 𝟘 (length vals) (le_refl (length vals)) ∙ take-length vals)

        numbers : (f : Entry → ℤ) (l : List ℤ) → filled (λ i. f (value_in vals i)) l j ≡ over (map f vals) l
        numbers f l =
            filled_over (λ i. f (value_in vals i)) l j
            ∙ ap (λ (m : List ℤ). over m l) (sym (map_listed f j (value_in vals)) ∙ ap (map f) values_are)

-- values and then nodes written are a store written
pub store_written : {ns : List Node} {vs : List Entry} {C C₁ C' : Columns} → Published vs C C₁ → NodesWritten ns C₁ C'
    → C' ≡ written (holding ns vs) C
unfolding written
store_written {ns} v n i = columns
    (over_same (map (λ (m : Node). m.level) ns) n.of_level v.nodes.same_level i)
    (over_same (map (λ (m : Node). code m.low) ns) n.of_low v.nodes.same_low i)
    (over_same (map (λ (m : Node). code m.high) ns) n.of_high v.nodes.same_high i)
    ((n.values.same_a ∙ v.of_a) i)
    ((n.values.same_b ∙ v.of_b) i)
    ((n.values.same_c ∙ v.of_c) i)
    ((n.values.same_d ∙ v.of_d) i)
  where
    over_same : (m : List ℕ) {l l' l'' : List ℕ} → l'' ≡ over m l' → l' ≡ l → l'' ≡ over m l
    over_same m is same = is ∙ ap (over m) same

-- ---- wiped

-- a column whose part from a slot on was filled with 0
pub part_wiped : {A : Type 0} (nought : A) (l : List A) (from : ℕ) {part : List A} → from ≤ length l
    → part ≡ replicate (length (take (length l - from) (drop from l))) nought
    → put_mid from (length l - from) l part ≡ column nought (length l) (take from l)
part_wiped nought l from fits is = part_zeroed nought l from (length l) fits (le_refl (length l)) is ∙ zeroed_column nought l from fits

-- seven columns whose slots past the used ones are 0 are the wiped columns
pub wipes : {nodes values : ℕ} {C C' : Columns} → NodeColumns C nodes → ValueColumns C values
    → C'.level ≡ zeroed 0 nodes (length C.level) C.level → C'.low ≡ zeroed 0 nodes (length C.low) C.low
    → C'.high ≡ zeroed 0 nodes (length C.high) C.high
    → C'.a ≡ zeroed (pos 0) values (length C.a) C.a → C'.b ≡ zeroed (pos 0) values (length C.b) C.b
    → C'.c ≡ zeroed (pos 0) values (length C.c) C.c → C'.d ≡ zeroed (pos 0) values (length C.d) C.d
    → C' ≡ wiped nodes values C
unfolding wiped
wipes {nodes} {values} {C} ns vs p q r s t u v i = record {
  level = (p ∙ zeroed_column 0 C.level nodes ns.in_level) i;
  low = (q ∙ zeroed_column 0 C.low nodes ns.in_low) i;
  high = (r ∙ zeroed_column 0 C.high nodes ns.in_high) i;
  a = (s ∙ zeroed_column (pos 0) C.a values vs.in_a) i;
  b = (t ∙ zeroed_column (pos 0) C.b values vs.in_b) i;
  c = (u ∙ zeroed_column (pos 0) C.c values vs.in_c) i;
  d = (v ∙ zeroed_column (pos 0) C.d values vs.in_d) i;
}

-- ---- a store held

-- a column with numbers over it begins with them
begins_over : {A B : Type 0} (f : A → B) {N : ℕ} (xs : List A) (l : List B) → length l ≡ N → length xs ≤ N → Begins f N xs (over (map f xs) l)
begins_over f xs l long room = record {
  long = simp (length-append, length-drop, length-map) (omega arith);
  room = room;
  first = take_at (map f xs) (drop (length (map f xs)) l) (length xs) (length-map xs f);
}

begins_by : {A B : Type 0} (f : A → B) {N : ℕ} (xs : List A) (l : List B) {l' : List B}
    → length l ≡ N → length xs ≤ N → l' ≡ over (map f xs) l → Begins f N xs l'
begins_by f xs l long room e = rw e (begins_over f xs l long room)

-- a node column begins with the numbers of the nodes that stand in the columns
module _ {N : ℕ} (ns : List Node) (level low high : List ℕ) (nodes : nodes_in (length ns) level low high ≡ ns) (room : length ns ≤ N) where
  begins_nodes : (f : Node → ℕ) (l : List ℕ) → length l ≡ N → ((i : ℕ) → get_or l i 0 ≡ f (node_in level low high i)) → Begins f N ns l
  begins_nodes f l long numbers = record {
    long = long;
    room = room;
    first =
        take (length ns) l ≡⟨ sym (listed_take l 0 (length ns) (omega arith)) ⟩
        listed (length ns) (λ i. get_or l i 0) ≡⟨ listed_agree (length ns) _ _ (λ i _. numbers i) ⟩
        listed (length ns) (λ i. f (node_in level low high i)) ≡⟨ sym (map_listed f (length ns) (node_in level low high)) ⟩
        map f (nodes_in (length ns) level low high) ≡⟨ ap (map f) nodes ⟩
        map f ns ∎;
  }

-- three columns have this length
abbrev NodesLong : ℕ → List ℕ → List ℕ → List ℕ → Type 0
NodesLong N level low high = (length level ≡ N) × (length low ≡ N) × (length high ≡ N)

-- four columns have this length
abbrev ValuesLong : ℕ → List ℤ → List ℤ → List ℤ → List ℤ → Type 0
ValuesLong L a b c d = (length a ≡ L) × (length b ≡ L) × (length c ≡ L) × (length d ≡ L)

-- the nodes that stand in the columns and the terminals published are a store held
pub table_holds : {N L : ℕ} (s : Store Entry) {C C' : Columns} → NodesLong N C.level C.low C.high
    → nodes_in (length s.nodes) C.level C.low C.high ≡ s.nodes → length s.nodes ≤ N
    → ValuesLong L C.a C.b C.c C.d → length s.values ≤ L → Published s.values C C' → Holds N L s C'
table_holds {N} s {C} {C'} (e, f, g) nodes few (p, q, r, t) room published =
    let begins = begins_nodes s.nodes C.level C.low C.high nodes few in
    let kept = published.nodes in
    record {
      of_level = stays (λ n. n.level) kept.same_level (begins (λ n. n.level) C.level e (λ i. refl));
      of_low = stays (λ n. code n.low) kept.same_low (begins (λ n. code n.low) C.low f (λ i. sym (code_ref_of (get_or C.low i 0))));
      of_high = stays (λ n. code n.high) kept.same_high (begins (λ n. code n.high) C.high g (λ i. sym (code_ref_of (get_or C.high i 0))));
      of_a = begins_by (λ x. x.a) s.values C.a p room published.of_a;
      of_b = begins_by (λ x. x.b) s.values C.b q room published.of_b;
      of_c = begins_by (λ x. x.c) s.values C.c r room published.of_c;
      of_d = begins_by (λ x. x.d) s.values C.d t room published.of_d;
    }
  where
    stays : (f : Node → ℕ) {l l' : List ℕ} → l' ≡ l → Begins f N s.nodes l → Begins f N s.nodes l'
    stays f same begins = rw same begins

-- so is a store written
pub written_holds : {N L : ℕ} (s : Store Entry) (C : Columns) → NodesLong N C.level C.low C.high
    → ValuesLong L C.a C.b C.c C.d → length s.nodes ≤ N → length s.values ≤ L → Holds N L s (written s C)
unfolding written
written_holds s C (p, q, r) (t, u, v, w) nodes values = record {
  of_level = begins_over (λ n. n.level) s.nodes C.level p nodes;
  of_low = begins_over (λ n. code n.low) s.nodes C.low q nodes;
  of_high = begins_over (λ n. code n.high) s.nodes C.high r nodes;
  of_a = begins_over (λ x. x.a) s.values C.a t values;
  of_b = begins_over (λ x. x.b) s.values C.b u values;
  of_c = begins_over (λ x. x.c) s.values C.c v values;
  of_d = begins_over (λ x. x.d) s.values C.d w values;
}

wiped_begins : {A B : Type 0} {f : A → B} {N : ℕ} {xs : List A} {l : List B} (nought : B) → Begins f N xs l
    → column nought (length l) (take (length xs) l) ≡ column nought N (map f xs)
wiped_begins {N = N} nought begins = ap₂ (column nought) begins.long begins.first

-- wiped past it, it is in its columns
pub wiped_held : {N L : ℕ} {s : Store Entry} {C : Columns} → Holds N L s C → wiped (length s.nodes) (length s.values) C ≡ held N L s
unfolding wiped held
wiped_held holds i = record {
  level = wiped_begins 0 holds.of_level i;
  low = wiped_begins 0 holds.of_low i;
  high = wiped_begins 0 holds.of_high i;
  a = wiped_begins (pos 0) holds.of_a i;
  b = wiped_begins (pos 0) holds.of_b i;
  c = wiped_begins (pos 0) holds.of_c i;
  d = wiped_begins (pos 0) holds.of_d i;
}

-- ---- what held columns give back

-- a slot has the number of its element
begins_at : {A B : Type 0} (f : A → B) {N : ℕ} (xs : List A) (l : List B) (blank : A) → Begins f N xs l → (i : ℕ) → i < length xs
    → get_or l i (f blank) ≡ f (get_or xs i blank)
begins_at {B = B} f xs l blank begins i h =
    get_or l i (f blank) ≡⟨ ap (λ (m : List B). get_or m i (f blank)) (sym (take-append-drop (length xs) l)) ⟩
    get_or (take (length xs) l ++ drop (length xs) l) i (f blank)
    ≡⟨ ap (λ (m : List B). get_or (m ++ drop (length xs) l) i (f blank)) begins.first ⟩
    get_or (map f xs ++ drop (length xs) l) i (f blank)
    ≡⟨ get_or-append (map f xs) (drop (length xs) l) (f blank) i (omega (arith, length-map xs f)) ⟩
    get_or (map f xs) i (f blank) ≡⟨ get_or-map f xs i blank ⟩
    f (get_or xs i blank) ∎

-- a list that agrees with another everywhere is that one
pub listed_all : {A : Type 0} (blank : A) (l : List A) (f : ℕ → A) → ((i : ℕ) → i < length l → f i ≡ get_or l i blank) → listed (length l) f ≡ l
listed_all blank l f is = ext_get_or blank (listed (length l) f) l (length_listed (length l) f)
    (λ i h. let below : i < length l = omega (arith, length_listed (length l) f) in get_d_listed (length l) f blank i below ∙ is i below)

module _ {N L : ℕ} (s : Store Entry) (C : Columns) (holds : Holds N L s C) where
  module _ (i : ℕ) (h : i < length s.nodes) where
    pub level_held : get_or C.level i 0 ≡ (get_or s.nodes i unused).level
    level_held = begins_at (λ (n : Node). n.level) s.nodes C.level unused holds.of_level i h

    pub low_held : get_or C.low i 0 ≡ code (get_or s.nodes i unused).low
    low_held = begins_at (λ (n : Node). code n.low) s.nodes C.low unused holds.of_low i h

    pub high_held : get_or C.high i 0 ≡ code (get_or s.nodes i unused).high
    high_held = begins_at (λ (n : Node). code n.high) s.nodes C.high unused holds.of_high i h

    node_held : node_in C.level C.low C.high i ≡ get_or s.nodes i unused
    node_held = λ t. branch
        (level_held t)
        ((ap ref_of low_held ∙ ref_of_code (get_or s.nodes i unused).low) t)
        ((ap ref_of high_held ∙ ref_of_code (get_or s.nodes i unused).high) t)

  pub entry_held : (j : ℕ) → j < length s.values → entry_of C j ≡ get_or s.values j 𝟘
  unfolding 𝟘
  entry_held j h = λ t. entry
      (begins_at (λ (x : Entry). x.a) s.values C.a 𝟘 holds.of_a j h t)
      (begins_at (λ (x : Entry). x.b) s.values C.b 𝟘 holds.of_b j h t)
      (begins_at (λ (x : Entry). x.c) s.values C.c 𝟘 holds.of_c j h t)
      (begins_at (λ (x : Entry). x.d) s.values C.d 𝟘 holds.of_d j h t)

  pub nodes_held : nodes_in (length s.nodes) C.level C.low C.high ≡ s.nodes
  nodes_held = listed_all unused s.nodes (node_in C.level C.low C.high) node_held

  pub entries_held : entries_of C (length s.values) ≡ s.values
  entries_held = listed_all 𝟘 s.values (entry_of C) entry_held
