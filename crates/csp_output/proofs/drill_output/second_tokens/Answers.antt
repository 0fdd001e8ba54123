use Rattle.std.proofs.Common.{◌+◌, ◌∷◌, ◌++◌, [], ℕ, List, sym, ap, ◌∙◌, arith}
use Rattle.std.proofs.lemmas.List.FromFn.{map-range_with_len_more}
use Rattle.csp_output.specs.Drills.{second_token, tokens_up_to}
use Rattle.csp_output.proofs.drill_output.second_tokens.Goals as goal

pub loop-place-preserved : goal.loop-place-preserved
loop-place-preserved c =
    let place : ℕ = c.loop-place.place in
    c.in_ok-push.ensures.ok
    ∙ ap (λ (ts : List (List ℕ)). ts ++ c.in_ok-second_token.field-0 ∷ []) c.loop-place.invariant
    ∙ ap (λ (t : List ℕ). tokens_up_to second_token place ++ t ∷ []) c.in_ok-second_token.ensures
    ∙ sym (map-range_with_len_more second_token 1 place (c.from.result + 1) (omega arith))
