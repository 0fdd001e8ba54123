use Rattle.csp_desk.proofs.Weaving.{front_and_ending}
use Rattle.csp_desk.proofs.weave.push_parts.Goals as goal

pub returns-clause-line : goal.returns-clause-line
returns-clause-line c =
    front_and_ending _ _ _ _ _ c.in_ok-push_front.ensures.ok c.as_str-2.ensures.text c.in_ok-place.ensures.place.1
