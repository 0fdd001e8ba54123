use Rattle.std.proofs.Common.{◌∙◌, ◌∷◌, ◌++◌, sym, ap, ℕ, List, string_bytes, append_assoc}
use Rattle.std.specs.List.{flat_map}
use Rattle.csp_policy.proofs.Joined.{joined}
use Rattle.csp_policy.proofs.print.push_directive.Goals as goal

pub loop-token-init : goal.loop-token-init
loop-token-init c =
    let name = c.in_ok-push_str.ensures.bytes ∙ ap (λ t. string_bytes c.args.text.now ++ t) c.as_str.ensures.text in
    ap (λ t. t ++ flat_map (λ (token : List ℕ). 32 ∷ token) c.as_slice-token-items.result.now) name
    ∙ ap (λ ts. (string_bytes c.args.text.now ++ c.args.directive.now.name) ++ flat_map (λ (token : List ℕ). 32 ∷ token) ts) c.as_slice-token-items.ensures
    ∙ append_assoc (string_bytes c.args.text.now) c.args.directive.now.name (flat_map (λ (token : List ℕ). 32 ∷ token) c.args.directive.now.tokens)
    ∙ ap (λ t. string_bytes c.args.text.now ++ t) (sym (joined 32 c.args.directive.now.name c.args.directive.now.tokens))
