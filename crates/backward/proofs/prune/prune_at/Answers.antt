use Rattle.std.proofs.Common.{◌∙◌}
use Rattle.images.specs.Buffers.{Sized}
use Rattle.backward.proofs.PruneLaws.{within, turned}
use Rattle.backward.proofs.prune.prune_at.Goals as goal

pub returns : goal.returns
returns c set given to =
    let a = c.args in
    let (roomy, more) = c.requires in
    let (row_kept, sets_kept, one_kept, two_kept, _, promise) = c.retreat.ensures in
    let now = within a.table.now a.offsets.now a.recording.now a.g set given.ready.sourced given.ready.wide more roomy.long to c.load.ensures in
    let sized : Sized a.g.words c.retreat.new.sets c.retreat.new.one c.retreat.new.two =
    record { few = to.sized.few; four = sets_kept ∙ to.sized.four; first = one_kept ∙ to.sized.first; second = two_kept ∙ to.sized.second } in
    turned a.table.now a.offsets.now a.recording.now a.g set given.ready.sourced given.ready.wide more roomy.long to c.load.ensures
    c.back-before.ensures c.heard_at-heard.ensures row_kept sized (promise _ _ given now to.words to.sized to.known) c.store.ensures c.copy.ensures
