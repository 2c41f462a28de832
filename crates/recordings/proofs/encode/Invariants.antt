-- the rows before this one stand behind the frame
use Rattle.std.proofs.Common.{◌≡◌, ◌++◌}
use Rattle.model.specs.Bytes.{joined}
use Rattle.model.specs.Frame.{rows_frame}
use Rattle.model.specs.Recording.{recorded_bytes}
use Rattle.model.specs.Room.{over}
use Rattle.model.specs.declared.Edition.TheVariants.{One}
use Rattle.recordings.proofs.encode.Given as goal

abbrev pub invariant-loop-i : goal.invariant-loop-i
invariant-loop-i l = l.out ≡ over (rows_frame One 3 l.r.count ++ joined (recorded_bytes l.r.times l.r.kinds) l.i) l.fn.out
