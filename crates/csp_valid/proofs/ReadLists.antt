-- Lists that are read are readable.
use Rattle.std.proofs.Common.{◌≡◌, ◌∙◌, ap, refl, sym, ℕ, List, Option, Some, None, Ok}
use Rattle.csp_model.specs.Policies.{IsReadable, first_bad, policies}
use Rattle.csp_model.specs.Validity.{IsValidOrigin}
use Rattle.csp_model.specs.declared.policy.Policy.{Policy}
use Rattle.csp_model.specs.declared.policy.PolicyList.{PolicyList}
use Rattle.csp_model.specs.declared.url.Origin.{Origin}
use Rattle.csp_policy.specs.Refusal.{excess, list_of, refusal_at, unless_refused}
use Rattle.csp_policy.specs.declared.error.BlockError.{BlockError}
use Rattle.csp_policy.proofs.Readable.{list_readable}

-- where nothing is refused, the list has these policies, and none is too many
read_with : (bad : Option ℕ) (ps : List Policy) (list : PolicyList)
    → unless_refused (refusal_at bad ps) ps ≡ Ok list → (list.policies ≡ ps) × (excess ps ≡ None)
read_with (Some line) ps list read = absurd (cc read)
read_with None ps list read = by (excess ps) refl read where
  by : (refused : Option BlockError) → excess ps ≡ refused → unless_refused refused ps ≡ Ok list
      → (list.policies ≡ ps) × (excess ps ≡ None)
  by None none is =
      let same : ◌≡◌ {A = PolicyList} (record { policies = ps }) list = cc is in
      (ap (λ (l : PolicyList). l.policies) (sym same), none)
  by (Some error) some is = absurd (cc is)

pub read_readable : (bytes : List ℕ) (origin : Origin) (list : PolicyList) → IsValidOrigin origin
    → list_of bytes origin ≡ Ok list → IsReadable list
read_readable bytes origin list valid read =
    let is = read_with (first_bad bytes) (policies bytes origin) list read in
    list_readable bytes origin list is.0 (ap excess is.0 ∙ is.1) valid
