use Rattle.tables.proofs.Encoded.{encoded}
use Rattle.tables.proofs.encode.Goals as goal

pub returns : goal.returns
returns c =
    let e = c.encode_transitions-end in
    let all = encoded c.args.t c.args.out.now _ _ _ _ e.result c.requires.2 c.encode_kinds.ensures e.ensures.0 e.ensures.1 c.head_bytes-head.ensures c.place.ensures in
    (all.0, all.1, e.ensures.1)
