-- Existence: what `reduce` makes of a function is a reduced diagram, numbered as the walk finishes it, that gives the function.
-- Assumes nothing.
use mathlib.Core.Path.{◌≡◌, refl, sym, ◌∙◌, ap, ap₂, subst, subst⁻¹, ◌≡⟨◌⟩◌, ◌∎}
use mathlib.Core.Bool.{Bool, true, false, cond}
use mathlib.Core.List.{List, [], ◌∷◌, ◌++◌, append-nil}
use Prim.Native.Nat.{ℕ, zero, suc, ◌+◌, ◌<◌, ◌≤◌}
use native.Mathlib.Omega.{arith}
use native.Mathlib.Decide.{dec_lt}
use lib.ListN.{length, get_or, length-append, get_or-append}
use lib.Seq.{get_or_at}
use lib.Dec.{eqb}
use borrow.Author.Tests.{eq-eqb, ne_eqb}
use Rattle.algebra.specs.Matrix.{Bits}
use Rattle.diagrams.specs.Diagram.{Ref, value, node, Node, branch, Store, holding, Diagram, rooted, unused, node_at, reached, empty}
use Rattle.diagrams.specs.Diagram.{Both, From, Tidy, Reaches, here, by_low, by_high, Walk, old_value, new_value, old_node, new_node, ReducedOf}
use Rattle.diagrams.specs.Diagram.{same_ref, same_node, put_value, put_node, make_node, reduce}
use Rattle.diagrams.proofs.Tests.{Decides, false_apart, ref_decides, node_decides}
use Rattle.diagrams.proofs.Keeping.{Absent, all_snoc, distinct_snoc, Kept, found, fresh, kept}
use Rattle.diagrams.proofs.Again.{Extends, extends_refl, extends_trans, make_node_alike, make_node_apart, reduce_ext}
use Rattle.diagrams.specs.Reference.{Seen, Closed}
use Rattle.diagrams.proofs.Unique.{seen_more, both_map, closed_more, old_walk, prefix_all, rebuilds}

abbrev nodes_used : {X : Type 0} → Store X → ℕ
nodes_used s = length s.nodes

abbrev values_used : {X : Type 0} → Store X → ℕ
values_used s = length s.values

between : (i n : ℕ) → n ≤ i → i < n → ⊥
between i n p q = omega arith

-- ---- what a walk numbers, its reference reaches

module _ {X : Type 0} (s : Store X) where
  -- the nodes from i up to i' and the values from j up to j'
  abbrev Reached : Ref → ℕ → ℕ → ℕ → ℕ → Type 0
  Reached r i j i' j' = ((n : ℕ) → i ≤ n → n < i' → Reaches s r (node n)) × ((v : ℕ) → j ≤ v → v < j' → Reaches s r (value v))

  walk_reaches : {r : Ref} {i j i' j' : ℕ} → Walk s r i j i' j' → Reached r i j i' j'
  walk_reaches (old_value {i = i} {j = j} h) = ((λ n p q. absurd (between n i p q)), (λ v p q. absurd (between v j p q)))
  walk_reaches (new_value {i = i} {j = j}) =
      ((λ n p q. absurd (between n i p q)), (λ v p q. subst (λ (w : ℕ). Reaches s (value j) (value w)) (only v p q) here))
    where
      only : (v : ℕ) → j ≤ v → v < suc j → j ≡ v
      only v p q = omega arith
  walk_reaches (old_node {i = i} {j = j} h) = ((λ n p q. absurd (between n i p q)), (λ v p q. absurd (between v j p q)))
  walk_reaches (new_node {i = i} {j = j} {i₁ = i₁} {j₁ = j₁} {n = n} {j' = j'} low high) = by_children (walk_reaches low) (walk_reaches high)
    where
      by_children : Reached (node_at s n).low i j i₁ j₁ → Reached (node_at s n).high i₁ j₁ n j' → Reached (node n) i j (suc n) j'
      by_children l h = ((λ m p q. node_by m p q (dec_lt m i₁) (dec_lt m n)), (λ v p q. value_by v p q (dec_lt v j₁)))
        where
          node_by : (m : ℕ) → i ≤ m → m < suc n → Dec (m < i₁) → Dec (m < n) → Reaches s (node n) (node m)
          node_by m p q (yes u) w = by_low (l.0 m p u)
          node_by m p q (no u) (yes w) = by_high (h.0 m (omega arith) w)
          node_by m p q (no u) (no w) = let e : n ≡ m = omega arith in subst (λ (x : ℕ). Reaches s (node n) (node x)) e here

          value_by : (v : ℕ) → j ≤ v → v < j' → Dec (v < j₁) → Reaches s (node n) (value v)
          value_by v p q (yes u) = by_low (l.1 v p u)
          value_by v p q (no u) = by_high (h.1 v (omega arith) q)

-- ---- what an extended store keeps

-- what node n gives where it stands in slot i, by the bit of its level or of one before it
abbrev asked : {X : Type 0} → X → Store X → ℕ → ℕ → Bool → Bits → Node → X
asked blank s level i b l n =
    cond (eqb n.level level) (reached blank s (suc level) (cond b n.high n.low) l) (reached blank s (suc level) (node i) l)

module _ {X : Type 0} {s t : Store X} (g : Extends s t) where
  nodes_grow : nodes_used s ≤ nodes_used t
  nodes_grow = omega (arith, ap length g.nodes_are ∙ length-append s.nodes g.more_nodes)

  values_grow : values_used s ≤ values_used t
  values_grow = omega (arith, ap length g.values_are ∙ length-append s.values g.more_values)

  node_kept : (i : ℕ) → i < nodes_used s → node_at t i ≡ node_at s i
  node_kept i h = ap (λ (l : List Node). get_or l i unused) g.nodes_are ∙ get_or-append s.nodes g.more_nodes unused i h

  value_kept : (blank : X) (j : ℕ) → j < values_used s → get_or t.values j blank ≡ get_or s.values j blank
  value_kept blank j h = ap (λ (l : List X). get_or l j blank) g.values_are ∙ get_or-append s.values g.more_values blank j h

  seen_kept : (r : Ref) → Seen r (nodes_used s) (values_used s) → Seen r (nodes_used t) (values_used t)
  seen_kept r h = seen_more (nodes_used s) (values_used s) (nodes_used t) (values_used t) nodes_grow values_grow r h

  from_kept : (level : ℕ) (r : Ref) → Seen r (nodes_used s) (values_used s) → From s level r → From t level r
  from_kept level (value v) h from = tt
  from_kept level (node i) h from = subst (λ (n : Node). level ≤ n.level) (sym (node_kept i h)) from

  children_from : (level : ℕ) (n : Node) → Both (λ r. Seen r (nodes_used s) (values_used s)) n → Both (From s level) n → Both (From t level) n
  children_from level n seen from = (from_kept level n.low seen.0 from.0, from_kept level n.high seen.1 from.1)

  reached_kept : (blank : X) → Closed s (nodes_used s) (values_used s) → (l : Bits) (level : ℕ) (r : Ref) → Seen r (nodes_used s) (values_used s)
      → reached blank t level r l ≡ reached blank s level r l
  reached_kept blank closed [] level (value j) h = value_kept blank j h
  reached_kept blank closed [] level (node i) h = refl
  reached_kept blank closed (b ∷ l) level (value j) h = reached_kept blank closed l (suc level) (value j) h
  reached_kept blank closed (b ∷ l) level (node i) h =
      ap (asked blank t level i b l) (node_kept i h)
      ∙ ap₂ (λ (x y : X). cond (eqb (node_at s i).level level) x y)
      (reached_kept blank closed l (suc level) (cond b (node_at s i).high (node_at s i).low) (child b))
      (reached_kept blank closed l (suc level) (node i) h)
    where
      child : (b : Bool) → Seen (cond b (node_at s i).high (node_at s i).low) (nodes_used s) (values_used s)
      child true = (closed i h).1
      child false = (closed i h).0

-- ---- one level of what a diagram gives

-- a level that the reference does not ask for
reached_past : {X : Type 0} (blank : X) (s : Store X) (level : ℕ) (r : Ref) (b : Bool) (l : Bits) → From s (suc level) r
    → reached blank s level r (b ∷ l) ≡ reached blank s (suc level) r l
reached_past blank s level (value v) b l from = refl
reached_past blank s level (node i) b l from = rw (ne_eqb (node_at s i).level level (later (node_at s i).level level from))
  where
    later : (m n : ℕ) → n < m → m ≡ n → ⊥
    later m n h e = omega arith

reached_down : {X : Type 0} (blank : X) (s : Store X) (level i : ℕ) (low high : Ref) (b : Bool) (l : Bits) → node_at s i ≡ branch level low high
    → reached blank s level (node i) (b ∷ l) ≡ reached blank s (suc level) (cond b high low) l
reached_down blank s level i low high b l e =
    ap (asked blank s level i b l) e
    ∙ ap (λ (t : Bool). cond t (reached blank s (suc level) (cond b high low) l) (reached blank s (suc level) (node i) l)) (eq-eqb level level refl)

-- ---- stores that hold diagrams

value_more : {X : Type 0} (x : X) (s : Store X) → Extends s (holding s.nodes (s.values ++ (x ∷ [])))
value_more x s = record { more_nodes = []; more_values = x ∷ []; nodes_are = sym (append-nil s.nodes); values_are = refl }

node_more : {X : Type 0} (n : Node) (s : Store X) → Extends s (holding (s.nodes ++ (n ∷ [])) s.values)
node_more n s = record { more_nodes = n ∷ []; more_values = []; nodes_are = refl; values_are = sym (append-nil s.values) }

module _ {X : Type 0} (blank : X) (levels : ℕ) where
  record Valid (s : Store X) : Type 0 where
    tidy : Tidy blank levels s
    closed : Closed s (nodes_used s) (values_used s)

  no_index : (i : ℕ) → i < 0 → ⊥
  no_index i h = omega arith

  empty_valid : Valid empty
  empty_valid = record {
    tidy = record {
      children_differ = λ i h. absurd (no_index i h);
      no_two_nodes = λ i j h. absurd (no_index i h);
      no_value_twice = λ i j h. absurd (no_index i h);
      levels_below = λ i h. absurd (no_index i h);
      levels_rise = λ i h. absurd (no_index i h);
    };
    closed = λ i h. absurd (no_index i h);
  }

  valid_value : (x : X) (s : Store X) → Valid s → Absent blank x s.values → Valid (holding s.nodes (s.values ++ (x ∷ [])))
  valid_value x s valid absent = record {
    tidy = record {
      children_differ = valid.tidy.children_differ;
      no_two_nodes = valid.tidy.no_two_nodes;
      no_value_twice = distinct_snoc blank x s.values valid.tidy.no_value_twice absent;
      levels_below = valid.tidy.levels_below;
      levels_rise = λ i h. children_from more (suc (node_at s i).level) (node_at s i) (valid.closed i h) (valid.tidy.levels_rise i h);
    };
    closed = closed_more s (nodes_used s) (values_used s) (length (s.values ++ (x ∷ []))) (values_grow more) valid.closed;
  }
    where
      more : Extends s (holding s.nodes (s.values ++ (x ∷ [])))
      more = value_more x s

  valid_node : (n : Node) (s : Store X) → Valid s → Absent unused n s.nodes → (n.low ≡ n.high → ⊥) → n.level < levels
      → Both (λ r. Seen r (nodes_used s) (values_used s)) n → Both (From s (suc n.level)) n → Valid (holding (s.nodes ++ (n ∷ [])) s.values)
  valid_node n s valid absent differ below seen from = record {
    tidy = record {
      children_differ = all_snoc (λ (m : Node). m.low ≡ m.high → ⊥) unused n s.nodes valid.tidy.children_differ differ;
      no_two_nodes = distinct_snoc unused n s.nodes valid.tidy.no_two_nodes absent;
      no_value_twice = valid.tidy.no_value_twice;
      levels_below = all_snoc (λ (m : Node). m.level < levels) unused n s.nodes valid.tidy.levels_below below;
      levels_rise = all_snoc (λ (m : Node). Both (From t (suc m.level)) m) unused n s.nodes
          (λ i h. children_from more (suc (node_at s i).level) (node_at s i) (valid.closed i h) (valid.tidy.levels_rise i h))
          (children_from more (suc n.level) n seen from);
    };
    closed = all_snoc (Both (λ r. Seen r (nodes_used t) (values_used t))) unused n s.nodes
        (λ i h. both_map (node_at s i) (seen_kept more) (valid.closed i h)) (both_map n (seen_kept more) seen);
  }
    where
      t : Store X
      t = holding (s.nodes ++ (n ∷ [])) s.values

      more : Extends s t
      more = node_more n s

-- ---- what a reduction leaves

module _ {X : Type 0} {same : X → X → Bool} (𝓓 : Decides same) (blank : X) (levels : ℕ) where
  record Made (left level : ℕ) (f : Bits → X) (s : Store X) (D : Diagram X) : Type 0 where
    extends : Extends s D.store
    valid : Valid blank levels D.store
    seen : Seen D.root (nodes_used D.store) (values_used D.store)
    from : From D.store level D.root
    gives : (l : Bits) → length l ≡ left → reached blank D.store level D.root l ≡ f l
    new_levels : (i : ℕ) → nodes_used s ≤ i → i < nodes_used D.store → level ≤ (node_at D.store i).level
    walk : (t : Store X) → Extends D.store t → Walk t D.root (nodes_used s) (values_used s) (nodes_used D.store) (values_used D.store)

  -- what a store gives already is found in it
  known_given : (left level : ℕ) (f : Bits → X) (s : Store X) (r : Ref) → left + level ≡ levels → Valid blank levels s
      → Seen r (nodes_used s) (values_used s) → From s level r → ((l : Bits) → length l ≡ left → reached blank s level r l ≡ f l)
      → reduce same left level f s ≡ rooted s r
  known_given left level f s r sum valid seen from gives =
      reduce same left level f s ≡⟨ sym (reduce_ext same left level (reached blank s level r) f s gives) ⟩
      reduce same left level (reached blank s level r) s ≡⟨ rebuilt ⟩
      rooted s r ∎
    where
      rebuilt : reduce same left level (reached blank s level r) s ≡ rooted s r
      rebuilt = subst (λ (t : Store X). reduce same left level (reached blank s level r) t ≡ rooted t r) (prefix_all s)
          (rebuilds s 𝓓 blank levels valid.tidy left level sum r (nodes_used s) (values_used s) (nodes_used s) (values_used s)
          from (old_walk s r (nodes_used s) (values_used s) seen) valid.closed (omega arith) (omega arith))

  at_nil : (P : Bits → Type 0) → P [] → (l : Bits) → length l ≡ 0 → P l
  at_nil P h [] e = h
  at_nil P h (b ∷ l) e = absurd (omega arith)

  at_cons : (P : Bits → Type 0) (left : ℕ) → ((b : Bool) (l : Bits) → length l ≡ left → P (b ∷ l)) → (l : Bits) → length l ≡ suc left → P l
  at_cons P left h [] e = absurd (omega arith)
  at_cons P left h (b ∷ l) e = h b l (omega arith)

  made_value : (level : ℕ) (f : Bits → X) (s : Store X) → Valid blank levels s → Kept same blank (f []) s.values
      → Made 0 level f s (put_value same (f []) s)
  made_value level f s valid (found j h g (p, q)) = subst (Made 0 level f s) (λ i. rooted (holding s.nodes (sym p i)) (value (sym q i))) (record {
    extends = extends_refl s;
    valid = valid;
    seen = h;
    from = tt;
    gives = at_nil (λ (l : Bits). reached blank s level (value j) l ≡ f l) g;
    new_levels = λ i a b. absurd (between i (nodes_used s) a b);
    walk = λ t g. old_value h;
  })
  made_value level f s valid (fresh absent (p, q)) = subst (Made 0 level f s) (λ i. rooted (holding s.nodes (sym p i)) (value (sym q i))) (record {
    extends = value_more (f []) s;
    valid = valid_value blank levels (f []) s valid absent;
    seen = omega (arith, len);
    from = tt;
    gives = at_nil (λ (l : Bits). reached blank (holding s.nodes (s.values ++ (f [] ∷ []))) level (value (values_used s)) l ≡ f l)
        (get_or_at s.values (f []) [] blank (values_used s) refl);
    new_levels = λ i a b. absurd (between i (nodes_used s) a b);
    walk = λ t g. subst (λ (j : ℕ). Walk t (value (values_used s)) (nodes_used s) (values_used s) (nodes_used s) j) len new_value;
  })
    where
      len : suc (values_used s) ≡ length (s.values ++ (f [] ∷ []))
      len = omega (arith, length-append s.values (f [] ∷ []))

  -- the halves, put together
  module _ (left level : ℕ) (f : Bits → X) (s s₁ s₂ : Store X) (low high : Ref) (sum : suc left + level ≡ levels) (valid : Valid blank levels s)
      (𝓛 : Made left (suc level) (λ l. f (false ∷ l)) s (rooted s₁ low)) (𝓗 : Made left (suc level) (λ l. f (true ∷ l)) s₁ (rooted s₂ high))
      (low_is : reduce same left (suc level) (λ l. f (false ∷ l)) s ≡ rooted s₁ low)
      (high_is : reduce same left (suc level) (λ l. f (true ∷ l)) s₁ ≡ rooted s₂ high) where
    both_more : Extends s s₂
    both_more = extends_trans 𝓛.extends 𝓗.extends

    -- both halves come to one reference: the second adds nothing
    made_alike : low ≡ high → Made (suc left) level f s (rooted s₂ low)
    made_alike alike = subst (λ (t : Store X). Made (suc left) level f s (rooted t low)) stays (record {
      extends = 𝓛.extends;
      valid = 𝓛.valid;
      seen = 𝓛.seen;
      from = earlier low 𝓛.from;
      gives = at_cons (λ (l : Bits). reached blank s₁ level low l ≡ f l) left halves;
      new_levels = λ i a b. below (node_at s₁ i).level (𝓛.new_levels i a b);
      walk = 𝓛.walk;
    })
      where
        below : (m : ℕ) → suc level ≤ m → level ≤ m
        below m h = omega arith

        earlier : (r : Ref) → From s₁ (suc level) r → From s₁ level r
        earlier (value v) h = tt
        earlier (node i) h = below (node_at s₁ i).level h

        high_gives : (l : Bits) → length l ≡ left → reached blank s₁ (suc level) low l ≡ f (true ∷ l)
        high_gives l e = sym (reached_kept 𝓗.extends blank 𝓛.valid.closed l (suc level) low 𝓛.seen)
            ∙ ap (λ (r : Ref). reached blank s₂ (suc level) r l) alike ∙ 𝓗.gives l e

        halves : (b : Bool) (l : Bits) → length l ≡ left → reached blank s₁ level low (b ∷ l) ≡ f (b ∷ l)
        halves true l e = reached_past blank s₁ level low true l 𝓛.from ∙ high_gives l e
        halves false l e = reached_past blank s₁ level low false l 𝓛.from ∙ 𝓛.gives l e

        stays : s₁ ≡ s₂
        stays = ap (λ (D : Diagram X). D.store)
            (sym (known_given left (suc level) (λ l. f (true ∷ l)) s₁ low (omega arith) 𝓛.valid 𝓛.seen 𝓛.from high_gives) ∙ high_is)

    abbrev n : Node
    n = branch level low high

    -- the node was there before the halves, so its children were, and the halves add nothing
    made_found : (j : ℕ) → j < nodes_used s₂ → node_at s₂ j ≡ n → Made (suc left) level f s (rooted s₂ (node j))
    made_found j h is = subst (λ (t : Store X). Made (suc left) level f s (rooted t (node j))) stays (record {
      extends = extends_refl s;
      valid = valid;
      seen = before;
      from = omega (arith, ap (λ (m : Node). m.level) is_before);
      gives = at_cons (λ (l : Bits). reached blank s level (node j) l ≡ f l) left halves;
      new_levels = λ i a b. absurd (between i (nodes_used s) a b);
      walk = λ t g. old_node before;
    })
      where
        level_is : (node_at s₂ j).level ≡ level
        level_is = ap (λ (m : Node). m.level) is

        before_high : j < nodes_used s₁
        before_high = by_order (dec_lt j (nodes_used s₁))
          where
            by_order : Dec (j < nodes_used s₁) → j < nodes_used s₁
            by_order (yes a) = a
            by_order (no a) = absurd (omega (arith, level_is, 𝓗.new_levels j (omega arith) h))

        before : j < nodes_used s
        before = by_order (dec_lt j (nodes_used s))
          where
            by_order : Dec (j < nodes_used s) → j < nodes_used s
            by_order (yes a) = a
            by_order (no a) =
                let level_was = ap (λ (m : Node). m.level) (node_kept 𝓗.extends j before_high) in
                absurd (omega (arith, level_is, 𝓛.new_levels j (omega arith) before_high))

        is_before : node_at s j ≡ n
        is_before = sym (node_kept both_more j before) ∙ is

        seen : Both (λ r. Seen r (nodes_used s) (values_used s)) n
        seen = subst (Both (λ r. Seen r (nodes_used s) (values_used s))) is_before (valid.closed j before)

        from : Both (From s (suc level)) n
        from = subst (λ (m : Node). Both (From s (suc m.level)) m) is_before (valid.tidy.levels_rise j before)

        low_gives : (l : Bits) → length l ≡ left → reached blank s (suc level) low l ≡ f (false ∷ l)
        low_gives l e = sym (reached_kept 𝓛.extends blank valid.closed l (suc level) low seen.0) ∙ 𝓛.gives l e

        high_gives : (l : Bits) → length l ≡ left → reached blank s (suc level) high l ≡ f (true ∷ l)
        high_gives l e = sym (reached_kept both_more blank valid.closed l (suc level) high seen.1) ∙ 𝓗.gives l e

        halves : (b : Bool) (l : Bits) → length l ≡ left → reached blank s level (node j) (b ∷ l) ≡ f (b ∷ l)
        halves true l e = reached_down blank s level j low high true l is_before ∙ high_gives l e
        halves false l e = reached_down blank s level j low high false l is_before ∙ low_gives l e

        low_stays : s ≡ s₁
        low_stays = ap (λ (D : Diagram X). D.store)
            (sym (known_given left (suc level) (λ l. f (false ∷ l)) s low (omega arith) valid seen.0 from.0 low_gives) ∙ low_is)

        stays : s ≡ s₂
        stays = ap (λ (D : Diagram X). D.store)
            (sym (known_given left (suc level) (λ l. f (true ∷ l)) s high (omega arith) valid seen.1 from.1 high_gives)
            ∙ ap (λ (t : Store X). reduce same left (suc level) (λ l. f (true ∷ l)) t) low_stays ∙ high_is)

    abbrev s₃ : Store X
    s₃ = holding (s₂.nodes ++ (n ∷ [])) s₂.values

    made_fresh : (low ≡ high → ⊥) → Absent unused n s₂.nodes → Made (suc left) level f s (rooted s₃ (node (nodes_used s₂)))
    made_fresh apart absent = record {
      extends = extends_trans both_more node_added;
      valid = valid_node blank levels n s₂ 𝓗.valid absent apart (omega arith)
          (seen_kept 𝓗.extends low 𝓛.seen, 𝓗.seen) (from_kept 𝓗.extends (suc level) low 𝓛.seen 𝓛.from, 𝓗.from);
      seen = omega (arith, len);
      from = omega (arith, ap (λ (m : Node). m.level) new_is);
      gives = at_cons (λ (l : Bits). reached blank s₃ level (node (nodes_used s₂)) l ≡ f l) left halves;
      new_levels = λ i a b. levels_of i a b (dec_lt i (nodes_used s₁)) (dec_lt i (nodes_used s₂));
      walk = λ t g. subst (λ (i : ℕ). Walk t (node (nodes_used s₂)) (nodes_used s) (values_used s) i (values_used s₂)) len
          (new_node
          (subst (λ (m : Node). Walk t m.low (nodes_used s) (values_used s) (nodes_used s₁) (values_used s₁)) (sym (new_in t g))
          (𝓛.walk t (extends_trans high_added g)))
          (subst (λ (m : Node). Walk t m.high (nodes_used s₁) (values_used s₁) (nodes_used s₂) (values_used s₂)) (sym (new_in t g))
          (𝓗.walk t (extends_trans node_added g))));
    }
      where
        node_added : Extends s₂ s₃
        node_added = node_more n s₂

        high_added : Extends s₁ s₃
        high_added = extends_trans 𝓗.extends node_added

        len : suc (nodes_used s₂) ≡ length (s₂.nodes ++ (n ∷ []))
        len = omega (arith, length-append s₂.nodes (n ∷ []))

        new_is : node_at s₃ (nodes_used s₂) ≡ n
        new_is = get_or_at s₂.nodes n [] unused (nodes_used s₂) refl

        new_in : (t : Store X) → Extends s₃ t → node_at t (nodes_used s₂) ≡ n
        new_in t g = node_kept g (nodes_used s₂) (omega (arith, len)) ∙ new_is

        halves : (b : Bool) (l : Bits) → length l ≡ left → reached blank s₃ level (node (nodes_used s₂)) (b ∷ l) ≡ f (b ∷ l)
        halves true l e = reached_down blank s₃ level (nodes_used s₂) low high true l new_is
            ∙ reached_kept node_added blank 𝓗.valid.closed l (suc level) high 𝓗.seen ∙ 𝓗.gives l e
        halves false l e = reached_down blank s₃ level (nodes_used s₂) low high false l new_is
            ∙ reached_kept high_added blank 𝓛.valid.closed l (suc level) low 𝓛.seen ∙ 𝓛.gives l e

        levels_of : (i : ℕ) → nodes_used s ≤ i → i < nodes_used s₃ → Dec (i < nodes_used s₁) → Dec (i < nodes_used s₂) → level ≤ (node_at s₃ i).level
        levels_of i a b (yes p) q = omega (arith, ap (λ (m : Node). m.level) (node_kept high_added i p), 𝓛.new_levels i a p)
        levels_of i a b (no p) (yes q) = omega (arith, ap (λ (m : Node). m.level) (node_kept node_added i q), 𝓗.new_levels i (omega arith) q)
        levels_of i a b (no p) (no q) =
            let e : i ≡ nodes_used s₂ = omega (arith, len) in
            subst⁻¹ (λ (m : ℕ). level ≤ (node_at s₃ m).level) e (omega (arith, ap (λ (m : Node). m.level) new_is))

    made_node : Made (suc left) level f s (make_node n s₂)
    made_node = by_test (same_ref low high) refl
      where
        by_kept : (low ≡ high → ⊥) → Kept same_node unused n s₂.nodes → Made (suc left) level f s (put_node n s₂)
        by_kept apart (found j h g (p, q)) =
            subst (Made (suc left) level f s) (λ i. rooted (holding (sym p i) s₂.values) (node (sym q i))) (made_found j h g)
        by_kept apart (fresh absent (p, q)) =
            subst (Made (suc left) level f s) (λ i. rooted (holding (sym p i) s₂.values) (node (sym q i))) (made_fresh apart absent)

        by_test : (b : Bool) → same_ref low high ≡ b → Made (suc left) level f s (make_node n s₂)
        by_test true e = subst (Made (suc left) level f s) (sym (make_node_alike n s₂ e)) (made_alike (ref_decides.sound low high e))
        by_test false e = subst (Made (suc left) level f s) (sym (make_node_apart n s₂ e))
            (by_kept (false_apart ref_decides low high e) (kept node_decides unused n s₂.nodes))

  made : (left level : ℕ) (f : Bits → X) (s : Store X) → left + level ≡ levels → Valid blank levels s
      → Made left level f s (reduce same left level f s)
  unfolding reduce
  made zero level f s sum valid = made_value level f s valid (kept 𝓓 blank (f []) s.values)
  made (suc left) level f s sum valid =
      let low : Diagram X = reduce same left (suc level) (λ l. f (false ∷ l)) s in
      let high : Diagram X = reduce same left (suc level) (λ l. f (true ∷ l)) low.store in
      let 𝓛 = made left (suc level) (λ l. f (false ∷ l)) s (omega arith) valid in
      let 𝓗 = made left (suc level) (λ l. f (true ∷ l)) low.store (omega arith) 𝓛.valid in
      made_node left level f s low.store high.store low.root high.root sum valid 𝓛 𝓗 refl refl

  -- ---- the reduced diagram of a function

  pub reduce_reduced : (f : Bits → X) → ReducedOf blank levels f (reduce same levels 0 f empty)
  reduce_reduced f = record {
    reduced = record {
      tidy = 𝓜.valid.tidy;
      nodes_reached = λ i h. (walk_reaches D numbered).0 i (omega arith) h;
      values_reached = λ j h. (walk_reaches D numbered).1 j (omega arith) h;
    };
    numbered = numbered;
    gives = 𝓜.gives;
  }
    where
      D : Store X
      D = (reduce same levels 0 f empty).store

      𝓜 : Made levels 0 f empty (reduce same levels 0 f empty)
      𝓜 = made levels 0 f empty (omega arith) (empty_valid blank levels)

      numbered : Walk D (reduce same levels 0 f empty).root 0 0 (nodes_used D) (values_used D)
      numbered = 𝓜.walk D (extends_refl D)
