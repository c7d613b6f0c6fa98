use Rattle.std.proofs.Common.{◌≡◌}
use Rattle.sheet.specs.Rooms.{SameWork}
use Rattle.sheet.specs.Sheets.{shape_in, bytes_in}
use Rattle.sheet.proofs.Courses.{Lining}
use Rattle.sheet.proofs.room.Work.solve.Given as goal

abbrev pub invariant-loop-k : goal.invariant-loop-k
invariant-loop-k l =
    let sheet = l.fn.self.units.sheet in
    SameWork l.fn.self l.self × (l.self.units.done ≡ l.k-counter) × Lining (shape_in sheet) (bytes_in sheet) l.k-counter l.done l.self.elimination.table.now
