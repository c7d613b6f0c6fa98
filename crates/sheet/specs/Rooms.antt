-- What the methods of the work on a sheet keep.
use Rattle.std.specs.Prelude.{◌≡◌, length}
use Rattle.elimination.specs.Room.{SameRoom}
use Rattle.sheet.specs.declared.room.Work.{Work}

-- The same sheet, in the same slices.
pub record SameWork (w x : Work) : Type 0 where
  pub sheet : x.units.sheet ≡ w.units.sheet
  pub store_room : length x.units.store.now ≡ length w.units.store.now
  pub store : x.units.store.ghost_name ≡ w.units.store.ghost_name
  pub elimination : SameRoom w.elimination x.elimination
  pub row : x.row.ghost_name ≡ w.row.ghost_name
  pub other : x.other.ghost_name ≡ w.other.ghost_name
