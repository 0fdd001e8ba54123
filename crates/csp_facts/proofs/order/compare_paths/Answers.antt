use Rattle.std.proofs.Common.{◌∙◌, ap₂}
use Rattle.csp_facts.specs.Kinds.{text_cmp}
use Rattle.csp_facts.proofs.PathOrder.{paths_by_text}
use Rattle.csp_facts.proofs.order.compare_paths.Goals as goal

pub returns-clause-text : goal.returns-clause-text
returns-clause-text c = c.cmp.ensures ∙ ap₂ text_cmp c.as_front.ensures.text c.as_front-2.ensures.text

pub returns-clause-value : goal.returns-clause-value
returns-clause-value c =
    returns-clause-text c
    ∙ paths_by_text c.args.one.now c.args.other.now (rw c.as_front.ensures.text at c.as_front.ensures.pieces)
    (rw c.as_front-2.ensures.text at c.as_front-2.ensures.pieces)
