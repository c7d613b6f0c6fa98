-- `row::add::replace` meets its contract.
use Rattle.row.proofs.Sums.{replace_addable}
use Rattle.row.proofs.add.replace.Goals as goal

pub add_rows-requires : goal.add_rows-requires
add_rows-requires c = rw c.constants.ensures (replace_addable c.requires)
