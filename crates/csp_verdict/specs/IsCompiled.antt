-- What a compiled policy keeps is what the policy says.
use Rattle.std.specs.Prelude.{◌≡◌, IfSome, map}
use Rattle.csp_model.specs.DecideNavigation.{capability_allows, worker_start_allows}
use Rattle.csp_model.specs.Names.{capabilities, names}
use Rattle.csp_model.specs.Policies.{policy_text}
use Rattle.csp_verdict.specs.Entries.{entry_of}
use Rattle.csp_verdict.specs.declared.compiled_policy.CompiledPolicy.TheInside.{Inside}

pub record IsCompiled (a : Inside) : Type 0 where
  pub entries : a.entries.items ≡ map (entry_of a.policy.now) names
  pub capabilities : a.capabilities.items ≡ map (capability_allows a.policy.now) capabilities
  pub worker_start : a.worker_start ≡ worker_start_allows a.policy.now
  pub printed : IfSome a.printed (λ text. text ≡ policy_text a.policy.now)
