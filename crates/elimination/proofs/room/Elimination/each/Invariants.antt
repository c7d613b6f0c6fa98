use Rattle.std.proofs.Common.{◌*◌, length}
use Rattle.elimination.specs.Room.{SameRoom}
use Rattle.elimination.proofs.Courses.{Lining}
use Rattle.elimination.proofs.room.Elimination.each.Given as goal

abbrev pub invariant-loop-i : goal.invariant-loop-i
invariant-loop-i l =
    let s = l.fn.self in
    SameRoom s l.self
    × Lining s.unknown_columns s.unknowns (length s.equation.now) l.count l.es l.self.table.now l.done.rounds l.done.free (l.i-counter * length s.equation.now) l.i-counter
