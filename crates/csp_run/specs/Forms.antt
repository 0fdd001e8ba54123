-- The commands.
use Rattle.std.specs.Prelude.{ℕ}
use Rattle.csp_model.specs.declared.url.Origin.{Origin}
use Rattle.csp_run.specs.declared.plan.Compared.{Compared}
use Rattle.csp_run.specs.declared.plan.Compared.TheVariants as compared
use Rattle.csp_run.specs.declared.plan.Judged.{Judged}
use Rattle.csp_run.specs.declared.plan.Judged.TheVariants as judged

-- what a command does
pub data Form : Type 0 where
  -- what is said of the requests of a request file by a policy file
  OnRequests : Judged → Form
  -- how two policy files differ
  OnTwo : Compared → Form
  -- whether a proof is accepted that the second of two policy files allows all that the first allows
  Check : Form
  -- the comparison of two lists that are made for it, with so many pairs of sources
  Drill : ℕ → Form
  -- what becomes of a response of which this embedder requires a policy
  Embed : Origin → Form
  -- a list that allows what a policy file allows, without the tokens that change nothing
  Tidy : Form
  -- the policy that the fetches of a request file need
  Learn : Form
  -- which of 2 to 16 policy files allow all that which others allow
  Order : Form
  -- how a policy file is read, piece by piece
  Read : Form

abbrev pub Judge : Form
Judge = OnRequests judged.Judge

abbrev pub Report : Form
Report = OnRequests judged.Report

abbrev pub Why : Form
Why = OnRequests judged.Why

abbrev pub Compare : Form
Compare = OnTwo compared.Compare

abbrev pub Differ : Form
Differ = OnTwo compared.Differ
