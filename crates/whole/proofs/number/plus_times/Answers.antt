-- The product and the sum fit, so each reads back.
use mir.Facts.{to_z-of_z}
use Rattle.whole.proofs.Signed.{wider, product_fits, plus_fits}
use Rattle.whole.proofs.number.plus_times.Goals as goal

pub overflow_add-result : goal.overflow_add-result
overflow_add-result c =
    let s = c.ranges in
    simp (c.from.ensures, c.from-2.ensures, to_z-of_z, s.x, s.f, s.y, wider s.f, wider s.y, product_fits s.f s.y) (plus_fits c.requires s.f s.y)

pub returns : goal.returns
returns c =
    let s = c.ranges in
    simp (c.from.ensures, c.from-2.ensures, to_z-of_z, s.x, s.f, s.y, wider s.f, wider s.y, product_fits s.f s.y, plus_fits c.requires s.f s.y)
