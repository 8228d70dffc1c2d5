use Rattle.std.proofs.Common.{refl}
use Rattle.bitmap.specs.Ranks.{bit, rank}
use Rattle.table_model.specs.Tree.{rising, falling, walk}
use Rattle.table_model.specs.Table.{entry, find}
use Rattle.table_model.specs.States.{descend}
use Rattle.table_model.specs.Refusals.{bad_byte, passing}
use Rattle.history_model.proofs.figures_stand.Goals as goal

pub returns : goal.returns
unfolding bit rank rising falling walk entry find descend bad_byte passing
returns c = record {
  rank_of_five = refl;
  ranks_in_all_ones = refl;
  sizes = refl;
  size_of_nodes = refl;
  values_stand_by_bit = refl;
  five_lie_at = refl;
  five_claim = refl;
  fourteen_are_too_few = refl;
  four_lie_at = refl;
  four_claim = refl;
  three_are_too_few = refl;
  four_suffice = refl;
  walked = refl;
  bits_are_checked = refl;
}
