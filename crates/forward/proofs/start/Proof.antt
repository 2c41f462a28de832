-- `forward::start` meets its contract: two laws.
use borrow.Author.Rules.{rules}
use Rattle.forward.proofs.ForwardPass.{first-filled, first_loaded}
use Rattle.forward.proofs.start.Statement.{statement}
use Rattle.forward.proofs.start.Tie as tie

put-requires : tie.Need-put-requires
put-requires c κs = search rules

sub-load : tie.Need-slice_bounds-load-count
sub-load c = search rules

part-load-start : tie.Need-slice_bounds-load-start
part-load-start c = search rules

part-load-end : tie.Need-slice_bounds-load-end
part-load-end c = search rules

load-requires : tie.Need-load-requires
load-requires c κs = search rules

same_length : tie.Need-shape_of-scratch
same_length c = search rules

same-length-2 : tie.Need-shape_of-cur
same-length-2 c = search rules

returns : tie.Need-returns
returns c =
    let load = c.before.before in
    let into = load.before.before.before.before.before.put.ensures in
    (into.size, load.load.ensures.size, λ table offsets recording given long. (first-filled given into, first_loaded given into long load.load.ensures))

pub start_spec : {M : Type 1} → statement M
start_spec =
    tie.close
    (tie.spec
    put-requires
    sub-load
    part-load-start
    part-load-end
    load-requires
    same_length
    same-length-2
    returns)
