use Rattle.std.proofs.Common.{◌≡◌, subst, take, arith}
use Rattle.std.proofs.lemmas.List.{take_more_same}
use Rattle.csp_match.proofs.fronts.shared_length.Goals as goal

pub loop-at-preserved : goal.loop-at-preserved
loop-at-preserved c =
    take_more_same c.args.one.now c.args.other.now c.loop-at.at 0 (omega arith) (omega arith) c.loop-at.invariant c.if-one-at.false

pub returns-then-one-at : goal.returns-then-one-at
returns-then-one-at c = record {
  within = omega arith;
  inside = omega arith;
  same = c.loop-at.invariant;
  apart = λ low high. c.if-one-at.true;
}

pub returns : goal.returns
returns c = record {
  within = omega arith;
  inside = omega arith;
  same = subst (λ n. take n c.args.one.now ≡ take n c.args.other.now) (omega arith) c.loop-at.invariant;
  apart = λ low high. absurd (omega arith);
}
