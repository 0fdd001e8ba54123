-- The algorithms that the hash-sources of a list's policies name.
use Rattle.std.specs.Prelude.{◌≡◌, ℕ, Bool, IsTrue, List, [], ◌∷◌}
use Rattle.std.specs.List.{list_any}
use Rattle.csp_model.specs.Tokens.{digest_by}
use Rattle.csp_model.specs.declared.check.Check.TheVariants.{Inline}
use Rattle.csp_model.specs.declared.check.Digests.{Digests}
use Rattle.csp_model.specs.declared.check.InlineKind.{InlineKind}
use Rattle.csp_model.specs.declared.policy.Directive.{Directive}
use Rattle.csp_model.specs.declared.policy.Policy.{Policy}
use Rattle.csp_model.specs.declared.policy.PolicyList.{PolicyList}
use Rattle.csp_model.specs.declared.source.Algorithm.{Algorithm}
use Rattle.csp_model.specs.declared.source.Algorithm.TheVariants.{Sha256, Sha384, Sha512}
use Rattle.csp_model.specs.declared.verdict.Described.{Described}
use Rattle.csp_token.specs.Algorithms.{names}
use Rattle.csp_token.specs.declared.digest.Algorithms.{Algorithms}

-- some hash-source of the policy has this algorithm
abbrev pub policy_names : Algorithm → Policy → Bool
policy_names algorithm policy = list_any (λ (d : Directive). names algorithm d.sources) policy.directives

-- some hash-source of some policy of the list has it
abbrev pub list_names : Algorithm → PolicyList → Bool
list_names algorithm list = list_any (policy_names algorithm) list.policies

abbrev pub algorithms_of : PolicyList → Algorithms
algorithms_of list = record {
  sha256 = list_names Sha256 list;
  sha384 = list_names Sha384 list;
  sha512 = list_names Sha512 list;
}

-- the digests are the same for each algorithm that the list names
abbrev pub AgreeWhereNamed : PolicyList → Digests → Digests → Type 0
AgreeWhereNamed list first second =
    (algorithm : Algorithm) → IsTrue (list_names algorithm list)
    → digest_by algorithm first ≡ digest_by algorithm second

-- a request of inline code or style with these digests, and what a report about it says
abbrev pub inline_request : InlineKind → List ℕ → Digests → List ℕ → List ℕ → Described
inline_request kind nonce digests blocked_uri sample =
    record { checks = Inline kind nonce digests ∷ []; blocked_uri = blocked_uri; sample = sample }
