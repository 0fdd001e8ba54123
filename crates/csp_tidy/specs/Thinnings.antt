-- What a list of policies may become where tokens are taken away.
use Rattle.std.specs.Prelude.{◌≡◌, ℕ, Bool, true, not, ◌&&◌, List, [], ◌∷◌, map, ◌⊎◌}
use Rattle.std.specs.List.{AllZip}
use Rattle.csp_model.specs.Inclusion.{Subsumes}
use Rattle.csp_model.specs.Reading.{source_of}
use Rattle.csp_model.specs.Verdict.{is_enforce}
use Rattle.csp_model.specs.declared.policy.Directive.{Directive}
use Rattle.csp_model.specs.declared.policy.Policy.{Policy}
use Rattle.csp_model.specs.declared.policy.PolicyList.{PolicyList}
use Rattle.csp_tidy.specs.Candidates.{has_source_name, is_report_sample}

-- each item stays, or goes where it may
abbrev pub Thins : (List ℕ → Bool) → List (List ℕ) → List (List ℕ) → Type 0
Thins may_go [] new = new ≡ []
Thins may_go (token ∷ old) new =
    ((rest : List (List ℕ)) × (new ≡ token ∷ rest) × Thins may_go old rest)
    ⊎ ((may_go token ≡ true) × Thins may_go old new)

-- a token of the directive is a candidate
abbrev pub is_candidate : Policy → Directive → List ℕ → Bool
is_candidate p d token =
    is_enforce p.disposition && (has_source_name d && not (is_report_sample (source_of token)))

pub record IsThinnedDirective (p : Policy) (old new : Directive) : Type 0 where
  pub name : new.name ≡ old.name
  pub tokens : Thins (is_candidate p old) old.tokens new.tokens
  pub sources : new.sources ≡ map source_of new.tokens

pub record IsThinnedPolicy (old new : Policy) : Type 0 where
  pub disposition : new.disposition ≡ old.disposition
  pub meta : new.meta ≡ old.meta
  pub origin : new.origin ≡ old.origin
  pub directives : AllZip (IsThinnedDirective old) old.directives new.directives

-- the same policies with the same directives, in order, without some of the candidates. A directive that
-- loses all its tokens stays.
abbrev pub IsThinning : PolicyList → PolicyList → Type 0
IsThinning old new = AllZip IsThinnedPolicy old.policies new.policies

-- each of two lists subsumes the other
abbrev pub AreEquivalent : PolicyList → PolicyList → Type 0
AreEquivalent one other = Subsumes one other × Subsumes other one
