use Rattle.std.proofs.Common.{◌/◌, ◌^◌, sym, arith}
use lib.Bits.{and_mask}
use Rattle.bitmap.specs.Ranks.{bit}
use Rattle.bitmap.proofs.Ranks.{bit_beyond}
use Rattle.bitmap.proofs.digit.Goals as goal

pub returns-then-n-ge32 : goal.returns-then-n-ge32
returns-then-n-ge32 c = sym (bit_beyond c.args.bitmap 32 c.args.n (omega arith) (omega arith))

pub returns : goal.returns
unfolding bit
returns c = and_mask (c.args.bitmap / 2 ^ c.args.n) 1
