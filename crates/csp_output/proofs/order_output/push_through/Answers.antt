use Rattle.std.proofs.Common.{◌++◌, ◌∷◌, [], ◌∙◌, ℕ, List, codes, ap, append_assoc}
use Rattle.csp_output.specs.Orders.{numbers_text}
use Rattle.csp_output.proofs.order_output.push_through.Goals as goal

pub returns : goal.returns
returns c =
    let old : List ℕ = c.args.text.now.items in
    let numbers : List ℕ = numbers_text c.args.lists.now in
    c.in_ok-push.ensures.items
    ∙ ap (λ (l : List ℕ). l ++ 10 ∷ [])
    (c.in_ok-push_numbers.ensures ∙ ap (λ (l : List ℕ). l ++ numbers) c.in_ok-extend_from_slice.ensures.items)
    ∙ append_assoc (old ++ codes " yes through") numbers (10 ∷ [])
    ∙ append_assoc old (codes " yes through") (numbers ++ 10 ∷ [])
