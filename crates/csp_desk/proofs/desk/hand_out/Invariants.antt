use Rattle.std.proofs.Common.{◌≡◌, map, take}
use Rattle.csp_desk.specs.Growth.{NoneFell, all_grown}
use Rattle.csp_desk.proofs.desk.hand_out.Given as goal

-- every reporter took the violations so far
abbrev pub invariant-loop-violation : goal.invariant-loop-violation
invariant-loop-violation g l = record {
  same_kinds : map (λ b. (goal.Reporter-dyn g (b.vtable, b.value)).kind b.value) l.desk.items
      ≡ map (λ b. (goal.Reporter-dyn g (b.vtable, b.value)).kind b.value) l.fn.desk.items;
  same_may_refuse : map (λ b. (goal.Reporter-dyn g (b.vtable, b.value)).may_refuse b.value) l.desk.items
      ≡ map (λ b. (goal.Reporter-dyn g (b.vtable, b.value)).may_refuse b.value) l.fn.desk.items;
  later : NoneFell (map (λ b. (goal.Reporter-dyn g (b.vtable, b.value)).faults b.value) l.fn.desk.items)
      (map (λ b. (goal.Reporter-dyn g (b.vtable, b.value)).faults b.value) l.desk.items);
  no_fault : map (λ b. (goal.Reporter-dyn g (b.vtable, b.value)).faults b.value) l.desk.items
      ≡ map (λ b. (goal.Reporter-dyn g (b.vtable, b.value)).faults b.value) l.fn.desk.items;
  took : map (λ b. (goal.Reporter-dyn g (b.vtable, b.value)).held b.value) l.desk.items
      ≡ all_grown (take l.violation-index l.violation-items) (map (λ b. (goal.Reporter-dyn g (b.vtable, b.value)).held b.value) l.fn.desk.items);
}
