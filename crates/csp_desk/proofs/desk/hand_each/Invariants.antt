use Rattle.std.proofs.Common.{◌≡◌, ◌++◌, ◌∷◌, [], map, take, drop}
use Rattle.csp_desk.specs.Growth.{NoneFell, all_grown}
use Rattle.csp_desk.proofs.desk.hand_each.Given as goal

-- the reporters before the place took the violation
abbrev pub invariant-loop-place : goal.invariant-loop-place
invariant-loop-place g l = record {
  same_kinds : map (λ b. (goal.Reporter-dyn g (b.vtable, b.value)).kind b.value) l.desk
      ≡ map (λ b. (goal.Reporter-dyn g (b.vtable, b.value)).kind b.value) l.fn.desk;
  same_may_refuse : map (λ b. (goal.Reporter-dyn g (b.vtable, b.value)).may_refuse b.value) l.desk
      ≡ map (λ b. (goal.Reporter-dyn g (b.vtable, b.value)).may_refuse b.value) l.fn.desk;
  later : NoneFell (map (λ b. (goal.Reporter-dyn g (b.vtable, b.value)).faults b.value) l.fn.desk)
      (map (λ b. (goal.Reporter-dyn g (b.vtable, b.value)).faults b.value) l.desk);
  no_fault : map (λ b. (goal.Reporter-dyn g (b.vtable, b.value)).faults b.value) l.desk
      ≡ map (λ b. (goal.Reporter-dyn g (b.vtable, b.value)).faults b.value) l.fn.desk;
  took : map (λ b. (goal.Reporter-dyn g (b.vtable, b.value)).held b.value) l.desk
      ≡ all_grown (l.violation ∷ []) (take l.place (map (λ b. (goal.Reporter-dyn g (b.vtable, b.value)).held b.value) l.fn.desk))
      ++ drop l.place (map (λ b. (goal.Reporter-dyn g (b.vtable, b.value)).held b.value) l.fn.desk);
}
