-- `algebra::narrowed` meets its contract: each number is tested, and cast only where all passed. Assumes nothing.
use Rattle.std.proofs.Common.{◌≡◌, true, Some, sym, ap, ◌∙◌}
use Rattle.algebra.specs.declared.Entry.{Entry}
use Rattle.algebra.specs.Numbers.{entry_of}
use Rattle.algebra.specs.Width.{fit_width, entry_in_width}
use Rattle.algebra.proofs.Entries.{by_parts}
use Rattle.algebra.proofs.Widths.{fits_width, width_small, within_width, no_width, outside_width, Narrows, all_narrow}
use Rattle.algebra.proofs.narrowed.Goals.{After-contains, else-contains-via-then-contains+else-all_within, else-contains-via-else-contains}
use Rattle.algebra.proofs.narrowed.Goals as goal

fits : (c : After-contains) → c.contains.result ≡ fit_width c.args.w
fits c = c.contains.ensures.value ∙ simp (c.new.ensures.start, c.new.ensures.end, c.new.ensures.exhausted) (fits_width c.args.w)

narrow : (c : After-contains) (x : Entry) → c.contains.result ≡ true → true ≡ entry_in_width c.args.w x
    → Narrows x.a × Narrows x.b × Narrows x.c × Narrows x.d
narrow c x tested inside = all_narrow c.args.w x (width_small c.args.w (sym (fits c) ∙ tested)) (sym inside)

pub overflow_cast-result : goal.overflow_cast-result
overflow_cast-result c =
    (narrow ((goal.at.overflow_cast-result c).After-contains) (entry_of c.args.x) c.if-contains.true c.if-all_within.ensures).0.fits

pub overflow_cast-result-then-all_within : goal.overflow_cast-result-then-all_within
overflow_cast-result-then-all_within c =
    (narrow ((goal.at.overflow_cast-result-then-all_within c).After-contains) (entry_of c.args.x) c.if-contains.true c.if-all_within.ensures).1.fits

pub overflow_cast-result-then-all_within-2 : goal.overflow_cast-result-then-all_within-2
overflow_cast-result-then-all_within-2 c =
    (narrow ((goal.at.overflow_cast-result-then-all_within-2 c).After-contains) (entry_of c.args.x) c.if-contains.true c.if-all_within.ensures).2.fits

pub overflow_cast-result-then-all_within-3 : goal.overflow_cast-result-then-all_within-3
overflow_cast-result-then-all_within-3 c =
    (narrow ((goal.at.overflow_cast-result-then-all_within-3 c).After-contains) (entry_of c.args.x) c.if-contains.true c.if-all_within.ensures).3.fits

pub returns-then-all_within : goal.returns-then-all_within
returns-then-all_within c =
    let after = (goal.at.returns-then-all_within c).After-contains in
    let (a, b, r, d) = narrow after (entry_of c.args.x) c.if-contains.true c.if-all_within.ensures in
    ap Some (by_parts (a.same, b.same, r.same, d.same))
    ∙ within_width c.args.w (entry_of c.args.x) (sym (fits after) ∙ c.if-contains.true) (sym c.if-all_within.ensures)

pub returns-else-contains : goal.returns-else-contains
returns-else-contains c =
    let fit = sym (fits ((goal.at.returns-else-contains c).After-contains)) in
    elim c.else-contains.branch [
      | else-contains-via-then-contains+else-all_within w ↦
          outside_width c.args.w _ (fit ∙ w.if-contains.true) (sym w.all_within.ensures ∙ w.if-all_within.false)
      | else-contains-via-else-contains w ↦ no_width c.args.w _ (fit ∙ w.if-contains.false)
    ]
