-- What governs is a directive of the policy.
use Rattle.std.proofs.Common.{Bool, true, false, List, [], ◌∷◌, map, Option, Some, None, All, IfSome, cond}
use Rattle.std.specs.List.{find}
use Rattle.std.specs.Option.{option_map}
use Rattle.std.proofs.lemmas.List.Elements.{All-head, All-tail}
use Rattle.csp_model.specs.Governing.{Governor, governor, governor_named, is_named, fallbacks}
use Rattle.csp_model.specs.Reading.{first_of}
use Rattle.csp_model.specs.declared.name.Name.{Name}
use Rattle.csp_model.specs.declared.policy.Directive.{Directive}
use Rattle.csp_model.specs.declared.policy.Policy.{Policy}

module _ (P : Directive → Type 0) where
  found_by : (b : Bool) (d : Directive) (rest : Option Directive) → P d → IfSome rest P → IfSome (cond b (Some d) rest) P
  found_by true d rest here later = here
  found_by false d rest here later = later

  found : (test : Directive → Bool) (ds : List Directive) → All P ds → IfSome (find test ds) P
  found test [] all = tt
  found test (d ∷ ds) all = found_by (test d) d (find test ds) (All-head P d ds all) (found test ds (All-tail P d ds all))

  abbrev OfGovernor : Option Governor → Type 0
  OfGovernor o = IfSome o (λ g. P g.directive)

  with_name : (name : Name) (o : Option Directive) → IfSome o P → OfGovernor (option_map (λ d. record { name = name; directive = d }) o)
  with_name name None h = tt
  with_name name (Some d) h = h

  named : (ds : List Directive) → All P ds → (name : Name) → OfGovernor (governor_named ds name)
  unfolding governor_named
  named ds all name = with_name name (find (is_named name) ds) (found (is_named name) ds all)

  first : (o : Option Governor) (rest : List (Option Governor)) → OfGovernor o → OfGovernor (first_of rest) → OfGovernor (first_of (o ∷ rest))
  first None rest one more = more
  first (Some g) rest one more = one

  first_named : (ds : List Directive) → All P ds → (names : List Name) → OfGovernor (first_of (map (governor_named ds) names))
  first_named ds all [] = tt
  first_named ds all (name ∷ names) = first (governor_named ds name) (map (governor_named ds) names) (named ds all name) (first_named ds all names)

  pub governs : (policy : Policy) → All P policy.directives → (effective : Name) → IfSome (governor policy effective) (λ g. P g.directive)
  governs policy all effective = first_named policy.directives all (fallbacks effective)
