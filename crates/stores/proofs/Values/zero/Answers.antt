-- `stores::Values::zero` meets its contract: none of the entries before the one that is found is zero. Assumes nothing.
use Rattle.std.proofs.Common.{◌≡◌, ◌∙◌, sym, true, false, rules}
use Rattle.std.proofs.lemmas.Iterator.{first_from_Range}
use Rattle.algebra.specs.Entry.{𝟘}
use Rattle.diagrams.specs.Diagram.{same_entry}
use Rattle.diagrams.proofs.EntryTests.{entry_is}
use Rattle.stores.specs.Columns.{value_columns, entry_of}
use Rattle.stores.proofs.Zeros.{zero_found}
use Rattle.stores.proofs.Values.zero.Goals as goal

pub returns : goal.returns
unfolding 𝟘
returns c =
    let at = entry_of (value_columns c.args.self.now) in
    zero_found c.args.used at c.find.result c.map.result
    (first_from_Range _ _ _ _ (λ j. same_entry (at j) 𝟘 ≡ true) (λ j. same_entry (at j) 𝟘 ≡ false) c.find.ensures.ran
    (λ j q met. sym (entry_is (at j) 𝟘) ∙ search rules) (λ j q met. (search rules, sym (entry_is (at j) 𝟘) ∙ search rules)))
    c.map.ensures.cases (λ j x is. search rules)
