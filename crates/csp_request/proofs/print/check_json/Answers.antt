use Rattle.serde_json.specs.View.{view}
use Rattle.csp_request.proofs.FileBack.{file_back}
use Rattle.csp_request.proofs.PrintedText.{text_of_printed}
use Rattle.csp_request.proofs.TextBack.{text_back}
use Rattle.csp_request.proofs.print.check_json.Goals as goal

pub returns-clause-reads_back : goal.returns-clause-reads_back
returns-clause-reads_back c valid =
    let written = c.in_ok-to_vec.ensures in
    let asked = c.args.check.now in
    let text = c.in_ok-to_vec.field-0.items in
    let same = text_of_printed asked (view c.in_ok-value.value) text c.in_ok-value.ensures written.text in
    rw c.from_vec.ensures (text_back asked text same written.utf8 valid)

pub returns-clause-in_file : goal.returns-clause-in_file
returns-clause-in_file c valid =
    let written = c.in_ok-to_vec.ensures in
    let asked = c.args.check.now in
    let text = c.in_ok-to_vec.field-0.items in
    let same = text_of_printed asked (view c.in_ok-value.value) text c.in_ok-value.ensures written.text in
    rw c.from_vec.ensures (file_back asked text same written.utf8 valid)
