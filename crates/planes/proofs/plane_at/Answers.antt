use Rattle.std.proofs.Common.{◌≤◌, ◌+◌, ◌*◌, length}
use Rattle.planes.specs.Planes.{sets_at}
use Rattle.planes.proofs.Tables.{placed_one}
use Rattle.planes.proofs.plane_at.Goals as goal

pub returns : goal.returns
returns c =
    let a = c.args in
    let room : a.n * (a.j + sets_at a.table.now a.at) ≤ length a.planes.now = rw (← c.sets_at.ensures) c.if-planes-n.false in
    placed_one a.first a.second a.n a.table.now a.at a.j a.planes.now c.plane.new.stack room c.plane.auto.stack c.plane.ensures
