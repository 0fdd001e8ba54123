-- A report's text is printed JSON with no number, which nests once.
use Rattle.std.proofs.Common.{arith}
use Rattle.json.proofs.Printed.Trees.{document-print}
use Rattle.csp_desk.specs.Report.{report_bytes, report_value}
use Rattle.csp_desk.proofs.report_laws.a_report_reads_back.Goals as goal

pub returns : goal.returns
unfolding report_bytes
returns c = λ v. document-print (report_value v) (tt, (tt, (tt, (tt, (tt, (tt, tt)))))) (omega arith)
