use Rattle.std.proofs.Common.{◌≡◌, ◌*◌, ◌%◌, ◌^◌, sym, ap, ◌∙◌, arith}
use lib.Bits.{bit_xor}
use Rattle.std.proofs.lemmas.Nat.{one_shl}
use Rattle.bitmap.proofs.Ranks.{without_bit_is, xor_taken, gained, set_bit, set_within}
use Rattle.bitmap.proofs.turned_off.Goals as goal

pub overflow_shl-result : goal.overflow_shl-result
overflow_shl-result c = set_within c.args.bitmap c.args.n 32 (omega arith) (set_bit c.args.bitmap c.args.n c.requires)

pub returns : goal.returns
returns c =
    let m = c.args.bitmap in
    let n = c.args.n in
    let o = set_bit m n c.requires in
    let e : 1 * 2 ^ n % 2 ^ 32 ≡ 2 ^ n = one_shl n 32 (set_within m n 32 (omega arith) o) in
    record {
      value = ap (bit_xor m) e ∙ sym (without_bit_is m n o);
      loses = rw e (gained (bit_xor m (2 ^ n)) m n (xor_taken m n o));
    }
