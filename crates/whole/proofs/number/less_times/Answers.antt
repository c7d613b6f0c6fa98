-- The product and the difference fit, so each reads back.
use mir.Facts.{to_z-of_z}
use Rattle.whole.proofs.Signed.{wider, product_fits, less_fits}
use Rattle.whole.proofs.number.less_times.Goals as goal

pub overflow_sub-result : goal.overflow_sub-result
overflow_sub-result c =
    let s = c.ranges in
    simp (c.from.ensures, c.from-2.ensures, c.from-3.ensures, to_z-of_z, s.x, s.f, s.y, wider s.x, wider s.f, wider s.y, product_fits s.f s.y) (less_fits s.x s.f s.y)

pub returns : goal.returns
returns c =
    let s = c.ranges in
    simp (c.from.ensures, c.from-2.ensures, c.from-3.ensures, to_z-of_z, s.x, s.f, s.y, wider s.x, wider s.f, wider s.y, product_fits s.f s.y, less_fits s.x s.f s.y)
