use Rattle.bep_explain.proofs.RowLists.{same_rows}
use Rattle.bep_explain.proofs.rows.sorted_by_name.Goals as goal

pub returns : goal.returns
returns c = record {
  same = same_rows c.args.rows.now c.in_ok-sorted.sorted.items c.sort.new.self.items c.in_ok-sorted.ensures c.sort.ensures.permutation;
  in_order = c.in_ok-sort.ensures.sorted;
}
