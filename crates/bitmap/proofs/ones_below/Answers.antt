use Rattle.std.proofs.Common.{◌≡◌, ℕ, ◌-◌, ◌^◌, ◌<◌, true, sym, ap, ◌∙◌, arith}
use lib.Bits.{bit_and}
use lib.Count.{ones}
use Rattle.std.proofs.lemmas.Nat.{one_shl}
use Rattle.bitmap.specs.Ranks.{is_set, rank}
use Rattle.bitmap.proofs.Ones.{ones_all, ones_mask}
use Rattle.bitmap.proofs.Ranks.{rank_beyond, rank_strict, set_bit, set_within}
use Rattle.bitmap.proofs.ones_below.Goals as goal

-- a number that is the rank of n has what is promised of it
record Ranked (m n r : ℕ) : Type 0 where
  is : r ≡ rank m n
  within : is_set m n ≡ true → r < rank m 32
  rises : (b : ℕ) → is_set m n ≡ true → n < b → r < rank m b

ranked : (m n r : ℕ) → m < 2 ^ 32 → r ≡ rank m n → Ranked m n r
ranked m n r h e = record {
  is = e;
  within = λ t. omega (arith, e, rank_strict m n 32 (set_bit m n t) (set_within m n 32 h (set_bit m n t)));
  rises = λ b t l. omega (arith, e, rank_strict m n b (set_bit m n t) l);
}

pub returns-then-n-ge32 : goal.returns-then-n-ge32
returns-then-n-ge32 c =
    let m = c.args.bitmap in
    let h : m < 2 ^ 32 = omega arith in
    let a = ranked m c.args.n (ones m) h (ones_all m 32 h ∙ sym (rank_beyond m 32 c.args.n h (omega arith))) in
    record { rank = a.is; within = a.within; rises = a.rises }

pub returns : goal.returns
returns c =
    let m = c.args.bitmap in
    let e = ap (λ (x : ℕ). ones (bit_and m (x - 1))) (one_shl c.args.n 32 (omega arith)) ∙ ones_mask m c.args.n in
    let a = ranked m c.args.n _ (omega arith) e in
    record { rank = a.is; within = a.within; rises = a.rises }
