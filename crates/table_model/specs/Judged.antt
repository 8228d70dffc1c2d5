-- What a call knows once it has been judged, before anything is written: the node's place and record, and that its stores have said yes.
-- Only the steps inside a table lean on these; no call's contract does.
use Rattle.std.specs.Prelude.{◌≡◌, ℕ, ◌<◌, true, false, cond, length, Some, None, ◌==◌}
use Rattle.bitmap.specs.Ranks.{is_set, rank}
use Rattle.runs.specs.Refusals.{Grant}
use Rattle.runs.specs.Runs.{Model, grows, shrinks, no_insert, no_entry}
use Rattle.runs.specs.declared.entry.NodeRow.{NodeRow}
use Rattle.table_model.specs.Tree.{Path}
use Rattle.table_model.specs.Table.{bare_row, child}
use Rattle.table_model.specs.Refusals.{no_place}
use Rattle.table_model.specs.States.{Place, top, slot, Table, tree_in}
use Rattle.table_model.specs.Calls.{way, get_no, put_no, take_no, add_no, plant_no, drop_no}

-- what a store says to one entry more in a node's run
abbrev pub no_growth : {E S : Type 0} → Model E S → S → ℕ → ℕ → ℕ → Grant
no_growth m s bitmap i k = cond (bitmap == 0) (grows m s 0) (no_insert m s i k)

-- and to a record written back at its place
abbrev pub no_write : {N : Type 0} → Model NodeRow N → N → Place → Grant
no_write m n top = None
no_write m n (slot i k) = no_entry m n i k

module _ {V N S : Type 0} (mn : Model NodeRow N) (mv : Model V S) where
  -- the record at the path p, and a bit below w
  pub record Reached (t : Table N S) (p : Path) (b w : ℕ) (pl : Place) (r : NodeRow) : Type 0 where
    pub passed : no_place (tree_in mn mv t) p b w ≡ None
    pub small : b < w
    pub way : way mn mv t p ≡ Some (pl, r)

  -- a set data bit
  pub record MayGet (t : Table N S) (p : Path) (b : ℕ) (pl : Place) (r : NodeRow) : Type 0 where
    pub passed : get_no mn mv t p b ≡ None
    pub at : Reached t p b 31 pl r
    pub here : is_set r.data_bitmap b ≡ true

  -- a clear data bit, and room in the value store
  pub record MayPut (t : Table N S) (p : Path) (b : ℕ) (pl : Place) (r : NodeRow) : Type 0 where
    pub passed : put_no mn mv t p b ≡ None
    pub at : Reached t p b 31 pl r
    pub clear : is_set r.data_bitmap b ≡ false
    pub granted : grows mv t.vals (rank r.data_bitmap 31) ≡ None

  -- a set data bit, and the value store lets it go
  pub record MayTake (t : Table N S) (p : Path) (b : ℕ) (pl : Place) (r : NodeRow) : Type 0 where
    pub passed : take_no mn mv t p b ≡ None
    pub at : Reached t p b 31 pl r
    pub here : is_set r.data_bitmap b ≡ true
    pub granted : shrinks mv t.vals (rank r.data_bitmap 31) ≡ None

  -- a clear child bit, not too deep, and room in the node store
  pub record MayAdd (t : Table N S) (p : Path) (b : ℕ) (pl : Place) (r : NodeRow) : Type 0 where
    pub passed : add_no mn mv t p b ≡ None
    pub at : Reached t p b 32 pl r
    pub short : length p < 25
    pub clear : is_set r.child_bitmap b ≡ false
    pub granted : grows mn t.nodes (rank r.child_bitmap 32) ≡ None

  -- the same, and room in the value store for a first value
  pub record MayPlant (t : Table N S) (p : Path) (b : ℕ) (pl : Place) (r : NodeRow) : Type 0 where
    pub passed : plant_no mn mv t p b ≡ None
    pub add : MayAdd t p b pl r
    pub granted : grows mv t.vals 0 ≡ None

  -- a bare child, and the node store lets it go
  pub record MayDrop (t : Table N S) (p : Path) (b : ℕ) (pl : Place) (r : NodeRow) : Type 0 where
    pub passed : drop_no mn mv t p b ≡ None
    pub at : Reached t p b 32 pl r
    pub stood : child (mn.live t.nodes) r b ≡ Some bare_row
    pub granted : shrinks mn t.nodes (rank r.child_bitmap 32) ≡ None
