use Rattle.csp_json.specs.Arrays.{items_left}
use Rattle.csp_json.proofs.Fits.{is_passed}
use Rattle.csp_json.proofs.array.ArrayReader.pass.Goals as goal

pub returns-clause-passed : goal.returns-clause-passed
returns-clause-passed c =
    is_passed _ (items_left c.args.self.now) (items_left c.next.new.self) c.in_ok-item.item c.is_some.result
    c.is_some.ensures c.in_ok-item.ensures.item
