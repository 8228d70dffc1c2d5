-- A limit over a store that obeys the laws obeys them too.
use Rattle.std.proofs.Common.{ℕ, eqb, List, map, ap, ◌∙◌}
use lib.ListN.{length-map}
use Rattle.runs.specs.Refusals.{Grant}
use Rattle.runs.specs.Runs.{Model, Lawful, total}
use Rattle.quota_model.specs.Quotas.{passed, capped}
use Rattle.quota_model.proofs.Grants.{listed, length_listed, grows_below, insert_below, remove_below}
use Rattle.quota_model.proofs.Totals.{counted}

module _ {E S : Type 0} {m : Model E S} {longest : ℕ} {Valid : S → Type 0} (law : Lawful m longest Valid) where
  pub lawful : Lawful (capped m) longest (λ s. Valid s.below)
  unfolding listed
  lawful = record {
    low = λ s i v. law.low s.below i v;
    short = λ s i v. law.short s.below i v;
    grow_list = λ s v. length_listed (eqb (total (m.live s.below)) s.limit) (m.grow s.below) ∙ law.grow_list s.below v;
    shrink_list = λ s v. length-map (m.shrink s.below) passed ∙ law.shrink_list s.below v;
    exchanging = λ s i k e v y.
        let o = law.exchanging s.below i k e v y in (
          o.0,
          o.1,
          ap (λ (n : ℕ). listed (eqb n s.limit) (m.grow (m.exchanged s.below i k e))) ((counted law).exchanging s.below i k e v y)
              ∙ ap (λ (xs : List Grant). listed (eqb (total (m.live s.below)) s.limit) xs) o.2,
          ap (map passed) o.3,
        );
    opening = λ s e v y. law.opening s.below e v (grows_below m s 0 y);
    inserting = λ s i k e v y. law.inserting s.below i k e v (insert_below m s i k y);
    removing = λ s i k v y. law.removing s.below i k v (remove_below m s i k y);
  }
