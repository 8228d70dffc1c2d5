use Rattle.std.proofs.Common.{◌≡◌, ◌*◌, ◌%◌, ◌^◌, sym, ap, ◌∙◌}
use lib.Bits.{bit_or}
use Rattle.std.proofs.lemmas.Nat.{one_shl}
use Rattle.bitmap.proofs.Ranks.{with_bit_is, or_added, gained, clear_bit}
use Rattle.bitmap.proofs.turned_on.Goals as goal

pub returns : goal.returns
returns c =
    let m = c.args.bitmap in
    let n = c.args.n in
    let e : 1 * 2 ^ n % 2 ^ 32 ≡ 2 ^ n = one_shl n 32 c.requires in
    record {
      value = ap (bit_or m) e ∙ sym (with_bit_is m n c.requires);
      gains = λ t. rw e (gained m (bit_or m (2 ^ n)) n (or_added m n (clear_bit m n t)));
    }
