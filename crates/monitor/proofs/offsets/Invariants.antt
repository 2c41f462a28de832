use Rattle.std.proofs.Common.{◌≡◌, ◌≤◌, ◌+◌, ◌*◌}
use Rattle.model.specs.Bytes.{tab, padded}
use Rattle.model.specs.Limits.{transition_limit}
use Rattle.model.specs.Table.{transition_at}
use Rattle.monitor.proofs.offsets.Given as goal

abbrev pub invariant-loop-j : goal.invariant-loop-j
invariant-loop-j l =
    record {
      offset : l.at ≡ transition_at l.table l.j;
      short : l.at ≤ 773 + 262 * l.j;
      found : l.found ≡ padded transition_limit (tab (transition_at l.table) l.j);
    }
