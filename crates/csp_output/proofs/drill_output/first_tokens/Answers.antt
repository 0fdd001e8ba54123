use Rattle.std.proofs.Common.{◌+◌, ◌∷◌, ◌++◌, [], ℕ, List, sym, ap, ◌∙◌, arith}
use Rattle.std.proofs.lemmas.List.FromFn.{map-range_with_len_more}
use Rattle.csp_output.specs.Drills.{first_token, tokens_up_to}
use Rattle.csp_output.proofs.drill_output.first_tokens.Goals as goal

pub loop-place-preserved : goal.loop-place-preserved
loop-place-preserved c =
    let place : ℕ = c.loop-place.place in
    c.in_ok-push.ensures.ok
    ∙ ap (λ (ts : List (List ℕ)). ts ++ c.in_ok-first_token.field-0 ∷ []) c.loop-place.invariant
    ∙ ap (λ (t : List ℕ). tokens_up_to first_token place ++ t ∷ []) c.in_ok-first_token.ensures
    ∙ sym (map-range_with_len_more first_token 1 place (c.from.result + 1) (omega arith))
