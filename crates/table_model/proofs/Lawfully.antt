-- Every call over two lawful stores.
use Rattle.std.proofs.Common.{ℕ}
use Rattle.runs.specs.Runs.{Model, Lawful}
use Rattle.runs.specs.declared.entry.NodeRow.{NodeRow}
use Rattle.table_model.specs.Stands.{Calls}
use Rattle.table_model.proofs.Whole.{start_law}
use Rattle.table_model.proofs.States.{put_states, take_states, swap_states, add_states, plant_states, drop_states}

module _ {V N S : Type 0} (mn : Model NodeRow N) (mv : Model V S) (kn kv : ℕ) (VN : N → Type 0) (VS : S → Type 0) (ln : Lawful mn kn VN) (lv : Lawful mv kv VS) where
  pub calls : Calls mn mv VN VS
  calls = record {
    start = λ n s vn vs zn zs. let o = start_law (mn.live n) (mv.live s) zn zs in record { sound = record { nodes_valid = vn; vals_valid = vs; agrees = o.0 }; tree = o.1 };
    put = λ t p pl r b v a l z y. let o = put_states mn mv kn kv VN VS ln lv t a.sound p pl r a.way b v l z y in record { sound = o.0; tree = o.1 };
    take = λ t p pl r b a l z y. let o = take_states mn mv kn kv VN VS ln lv t a.sound p pl r a.way b l z y in record { sound = o.0; tree = o.1 };
    swap = λ t p pl r b v a z. let o = swap_states mn mv kn kv VN VS ln lv t a.sound p pl r a.way b v z in record { sound = o.0; tree = o.1 };
    add = λ t p pl r b a d l z y. let o = add_states mn mv kn kv VN VS ln lv t a.sound p pl r a.way b d l z y in record { sound = o.0; tree = o.1 };
    plant = λ t p pl r b v a d l z y x. let o = plant_states mn mv kn kv VN VS ln lv t a.sound p pl r a.way b v d l z y x in record { sound = o.0; tree = o.1 };
    drop = λ t p pl r b s a k z y x. let o = drop_states mn mv kn kv VN VS ln lv t a.sound p pl r a.way b s k z y x in record { sound = o.0; tree = o.1 };
  }
