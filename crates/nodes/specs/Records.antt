-- A node record as the row that cells hold.
use Rattle.runs.specs.declared.entry.NodeRow.{NodeRow}
use Rattle.nodes.specs.declared.record.NodeRecord.{NodeRecord}

abbrev pub row_of : NodeRecord → NodeRow
row_of r = record {
  data_bitmap = r.data_bitmap;
  child_bitmap = r.child_bitmap;
  data_index = r.data_index.number;
  children_index = r.children_index.number;
}
