use Rattle.std.proofs.Common.{◌≡◌, map, take}
use Rattle.csp_desk.specs.Desk.{IsKept, desk}
use Rattle.csp_desk.specs.Growth.{all_grown}
use Rattle.csp_output.specs.Reports.{all_violations}
use Rattle.csp_output.proofs.report_output.hand_out_each.Given as goal

-- every reporter took the violations of the requests so far
abbrev pub invariant-loop-request : goal.invariant-loop-request
invariant-loop-request g l = record {
  took : map (λ b. (goal.Reporter-dyn g (b.vtable, b.value)).held b.value) l.desk.items
      ≡ all_grown (all_violations l.list (take l.request-index l.requests))
      (map (λ b. (goal.Reporter-dyn g (b.vtable, b.value)).held b.value) l.fn.desk.items);
  no_fault : map (λ b. (goal.Reporter-dyn g (b.vtable, b.value)).faults b.value) l.desk.items
      ≡ map (λ b. (goal.Reporter-dyn g (b.vtable, b.value)).faults b.value) l.fn.desk.items;
  kept : IsKept (desk (λ b. (goal.Reporter-dyn g (b.vtable, b.value)).kind b.value)
      (λ b. (goal.Reporter-dyn g (b.vtable, b.value)).may_refuse b.value)
      (λ b. (goal.Reporter-dyn g (b.vtable, b.value)).held b.value)
      (λ b. (goal.Reporter-dyn g (b.vtable, b.value)).faults b.value) l.fn.desk.items l.desk.items);
}
