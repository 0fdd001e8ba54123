use Rattle.std.proofs.Common.{rules, ◌∙◌, ap}
use Rattle.std.specs.Prelude.{◌==◌}
use Rattle.std.specs.List.{list_any}
use Rattle.std.proofs.lemmas.Iterator.Search.{any_from_yields_List}
use Rattle.std.proofs.lemmas.Iterator.Splits.{YieldsList-from_slice_split}
use Rattle.csp_model.specs.Ascii.{split_at}
use Rattle.csp_model.specs.Paths.{is_dot_segment}
use Rattle.csp_model.proofs.PathFronts.{is_read}
use Rattle.csp_model.proofs.PathSegments.{dots_in_text, pieces_turned}
use Rattle.csp_model.proofs.path.Path.has_dot_segment.Goals as goal

pub returns-clause-value : goal.returns-clause-value
returns-clause-value c =
    let found = any_from_yields_List is_dot_segment _ _ c.any.result c.any.ensures.ran
    (YieldsList-from_slice_split _ (λ b. b == 47) c.as_bytes.result.now c.split.ensures.rest c.split.ensures.done c.split.ensures.closure (λ x b q k. search rules))
    (λ x b q k. search rules) in
    rw (← c.self.view_is)
    (found ∙ ap (λ text. list_any is_dot_segment (split_at 47 text)) (c.as_bytes.ensures.value ∙ c.self.invariant)
    ∙ dots_in_text _ (is_read _ c.self.invariant))

pub returns-clause-pieces : goal.returns-clause-pieces
returns-clause-pieces c =
    rw (returns-clause-value c, ← c.self.view_is) (pieces_turned _ (is_read _ c.self.invariant))
