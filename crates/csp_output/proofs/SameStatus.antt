-- Where `judge` finds a blocked request, so does `why`.
use Rattle.std.proofs.Common.{◌≡◌, ◌||◌, Bool, refl, ap, List, [], ◌∷◌, map}
use Rattle.std.specs.List.{list_any}
use Rattle.csp_model.specs.Verdict.{verdict_of}
use Rattle.csp_model.specs.declared.policy.PolicyList.{PolicyList}
use Rattle.csp_model.specs.declared.verdict.Described.{Described}
use Rattle.csp_model.specs.declared.verdict.Verdict.{Verdict}
use Rattle.csp_output.specs.Lines.{judgment}
use Rattle.csp_output.specs.Explanations.{blocked_status, explanation, is_blocked}

any_blocked : (list : PolicyList) (requests : List Described)
    → list_any (is_blocked list) requests
    ≡ list_any (λ (v : Verdict). v.blocked) (map (verdict_of list) (map (λ (d : Described). d.checks) requests))
any_blocked list [] = refl
any_blocked list (d ∷ ds) = ap (λ (b : Bool). (verdict_of list d.checks).blocked || b) (any_blocked list ds)

pub same_status : (list : PolicyList) (requests : List Described)
    → (explanation list requests).status ≡ (judgment list (map (λ (d : Described). d.checks) requests)).status
same_status list requests = ap blocked_status (any_blocked list requests)
