use Rattle.std.proofs.Common.{sym, subst}
use Rattle.csp_compare.specs.Comparisons.{IsReady}
use Rattle.csp_compare.proofs.Posed.{enforces, differs}
use Rattle.csp_compare.proofs.comparison.Comparison.probe_shape.Goals as goal

pub probe-requires-clause-posed : goal.probe-requires-clause-posed
probe-requires-clause-posed c = record {
  lists = (subst (IsReady c.args.self.now) (sym c.loop-policy.invariant) c.requires.ready).lists;
  listed = c.requires.listed;
  enforced = enforces c.args.self.now c.args.walker.now c.requires.ready c.deref-policy-items.result.now c.deref-policy-items.ensures.value c.loop-policy.policy-index c.loop-policy-test.true;
}

pub returns-in-Some-clause-found : goal.returns-in-Some-clause-found
returns-in-Some-clause-found c =
    differs c.args.self.now c.args.walker.now c.requires.ready c.deref-policy-items.result.now c.deref-policy-items.ensures.value c.loop-policy.policy-index c.loop-policy-test.true c.args.shape c.in-Some.check (rw c.in-Some.is at c.in_ok-check.ensures.found)
