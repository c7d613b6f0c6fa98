-- `sheet::ask::Worked::put_in` meets its contract. An accepted sheet's table is within the limit.
use Rattle.std.proofs.Common.{arith}
use Rattle.sheet_rules.proofs.WorkKept.{solved_kept}
use Rattle.sheet.proofs.ask.Worked.put_in.Goals as goal

pub replace-requires : goal.replace-requires
replace-requires c =
    let w = c.args.self.now in
    let k = (solved_kept _ _ w.sheet.formed (rw c.in_ok-done.was at w.solved)).kept in
    let l = w.sheet.formed.laid in
    let r = c.requires.rows in
    record {
      table = k.limit;
      equation = c.requires.limit;
      unknowns = omega (arith, l);
      columns = omega (arith, l, r);
      few = omega (arith, l);
      rows = rw r.0 k.long;
      sums_long = omega (arith, r);
      out_long = omega (arith, r);
    }
