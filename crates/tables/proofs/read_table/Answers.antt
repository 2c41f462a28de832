use Rattle.std.proofs.Common.{arith}
use Rattle.std.proofs.lemmas.Grind.{common_steps}
use Rattle.tables.proofs.Tables.{scan_same, read_by, read_judged}
use Rattle.tables.proofs.read_table.Goals as goal

pub returns-in_err-scan_with-clause-value : goal.returns-in_err-scan_with-clause-value
returns-in_err-scan_with-clause-value c = grind (arith, common_steps, scan_same, read_by)

pub returns-in_err-scan_with-clause-reads : goal.returns-in_err-scan_with-clause-reads
returns-in_err-scan_with-clause-reads c = read_judged c.args.b.now _ (grind (arith, common_steps, scan_same, read_by))

pub returns-in_err-whole_answer-clause-value : goal.returns-in_err-whole_answer-clause-value
returns-in_err-whole_answer-clause-value c = grind (arith, common_steps, scan_same, read_by)

pub returns-in_err-whole_answer-clause-reads : goal.returns-in_err-whole_answer-clause-reads
returns-in_err-whole_answer-clause-reads c = read_judged c.args.b.now _ (grind (arith, common_steps, scan_same, read_by))

pub returns-clause-value : goal.returns-clause-value
returns-clause-value c = grind (arith, common_steps, scan_same, read_by)

pub returns-clause-reads : goal.returns-clause-reads
returns-clause-reads c = read_judged c.args.b.now _ (grind (arith, common_steps, scan_same, read_by))
