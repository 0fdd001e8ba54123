-- The members so far are written.
use Rattle.std.proofs.Common.{◌≡◌, ◌++◌, take}
use Rattle.std.specs.List.{flat_map}
use Rattle.csp_desk.specs.Report.{member_tokens}
use Rattle.csp_desk.proofs.report.write_members.Given as goal

abbrev pub invariant-loop-name : goal.invariant-loop-name
invariant-loop-name l = record {
  tokens : l.out.tokens
      ≡ l.fn.out.tokens ++ flat_map (λ m. member_tokens m.0.now m.1.now) (take l.name-index l.members);
  before : l.out.before ≡ l.fn.out.before;
}
