-- The policies of a list name no more ports of a shape than they have tokens.
use Rattle.std.proofs.Common.{◌≡◌, ◌∙◌, ap, subst, sym, ℕ, ◌+◌, ◌≤◌, List, [], ◌∷◌, map, filter, length, Option, Some, None, All, IfSome, arith, get_or}
use Rattle.std.proofs.lemmas.List.{length-map}
use Rattle.std.specs.List.{flat_map, sum_by}
use Rattle.std.proofs.lemmas.List.Elements.{All-head, All-tail}
use Rattle.std.proofs.lemmas.List.Sums.{get_or-le-sum_by, sum_by-cons}
use Rattle.csp_model.specs.Fetch.{fetch_rule}
use Rattle.csp_model.specs.Governing.{Governor, governor}
use Rattle.csp_model.specs.Names.{group_directive, inline_directive}
use Rattle.csp_model.specs.Policies.{IsReadable, IsReadablePolicy, token_count, token_limit}
use Rattle.csp_model.specs.Reading.{source_of}
use Rattle.csp_model.specs.declared.name.Name.{Name}
use Rattle.csp_model.specs.declared.name.Name.TheVariants.{BaseUri, FormAction, FrameAncestors}
use Rattle.csp_model.specs.declared.policy.Directive.{Directive}
use Rattle.csp_model.specs.declared.policy.Policy.{Policy}
use Rattle.csp_model.specs.declared.policy.PolicyList.{PolicyList}
use Rattle.csp_model.specs.declared.source.Hash.{Hash}
use Rattle.csp_facts.specs.declared.shape.Shape.{Shape}
use Rattle.csp_facts.specs.declared.shape.Shape.TheVariants as shape
use Rattle.csp_formula.specs.Compiled.{fetch_sentence, inline_sentence, said_by, listed_sentence, policy_sentence}
use Rattle.csp_formula.specs.Sentences.{Sentence}
use Rattle.csp_formula.specs.Sources.{list_sentence}
use Rattle.csp_formula.specs.Values.{atoms_in}
use Rattle.csp_formula.proofs.Governs.{governs}
use Rattle.csp_search.specs.Questions.{atoms_of}
use Rattle.csp_search.proofs.PortsSaid.{names_port, ports, counted, length_both, said, list_few, fetch_few, inline_none}

abbrev tokens_of : Directive → ℕ
tokens_of d = length d.tokens

abbrev tokens_in : Policy → ℕ
tokens_in p = sum_by tokens_of p.directives

weaker : {A : Type 0} (P Q : A → Type 0) → ((a : A) → P a → Q a) → (o : Option A) → IfSome o P → IfSome o Q
weaker P Q each None h = tt
weaker P Q each (Some a) h = each a h

module _ (policy : Policy) (readable : IsReadablePolicy policy) where
  abbrev IsShort : Directive → Type 0
  IsShort d = length d.sources ≤ tokens_in policy

  -- each directive has as many sources as tokens, which are some of the policy's
  short : All IsShort policy.directives
  short k d inside =
      let here = get_or policy.directives k d in
      let read : length here.sources ≡ length here.tokens = ap length (readable.read k d inside) ∙ length-map here.tokens source_of in
      let some : tokens_of here ≤ tokens_in policy = get_or-le-sum_by tokens_of policy.directives k d inside in
      omega arith

  governed : (effective : Name) (says : Governor → Sentence) → ((g : Governor) → IsShort g.directive → ports (says g) ≤ tokens_in policy)
      → ports (said_by (governor policy effective) says) ≤ tokens_in policy
  governed effective says each =
      said (tokens_in policy) (governor policy effective) says
      (weaker (λ (g : Governor). IsShort g.directive) (λ g. ports (says g) ≤ tokens_in policy) each (governor policy effective) (governs IsShort policy short effective))

  listed : (effective : Name) (kind : Shape) → ports (listed_sentence policy effective kind) ≤ tokens_in policy
  listed effective kind = governed effective (λ g. list_sentence policy.origin kind g.directive.sources) (λ g is_short.
      let few = list_few policy.origin kind g.directive.sources in omega arith)

  policy_few : (kind : Shape) (hashes : List Hash) → ports (policy_sentence policy kind hashes) ≤ tokens_in policy
  policy_few (shape.Fetch group scheme redirected parser) hashes =
      let kind = shape.Fetch group scheme redirected parser in
      governed (group_directive group)
      (λ g. fetch_sentence (fetch_rule group g.name) hashes g.directive.sources parser (list_sentence policy.origin kind g.directive.sources))
      (λ g is_short.
      let few : ports (list_sentence policy.origin kind g.directive.sources) ≤ length g.directive.sources = list_few policy.origin kind g.directive.sources in
      fetch_few (tokens_in policy) (fetch_rule group g.name) hashes g.directive.sources parser (list_sentence policy.origin kind g.directive.sources) (omega arith))
  policy_few (shape.Form scheme redirected) hashes = listed FormAction (shape.Form scheme redirected)
  policy_few (shape.Base scheme) hashes = listed BaseUri (shape.Base scheme)
  policy_few (shape.Ancestor scheme) hashes = listed FrameAncestors (shape.Ancestor scheme)
  policy_few (shape.Inline which) hashes =
      governed (inline_directive which) (λ g. inline_sentence which g.directive.sources) (λ g is_short.
      let none = inline_none which g.directive.sources in omega arith)
  policy_few shape.OpaqueAncestor hashes = omega arith
  policy_few shape.Eval hashes = omega arith
  policy_few shape.Wasm hashes = omega arith
  policy_few (shape.Capability capability) hashes = omega arith
  policy_few shape.WorkerStart hashes = omega arith

policies_few : (policies : List Policy) → All IsReadablePolicy policies → (kind : Shape) (hashes : List Hash)
    → length (filter names_port (flat_map atoms_in (map (λ (p : Policy). policy_sentence p kind hashes) policies))) ≤ sum_by tokens_in policies
policies_few [] readable kind hashes = omega arith
policies_few (p ∷ policies) readable kind hashes =
    let said_here = policy_sentence p kind hashes in
    let behind = flat_map atoms_in (map (λ (p : Policy). policy_sentence p kind hashes) policies) in
    let both : length (filter names_port (flat_map atoms_in (map (λ (p : Policy). policy_sentence p kind hashes) (p ∷ policies))))
    ≡ length (filter names_port (atoms_in said_here)) + length (filter names_port behind) = length_both (atoms_in said_here) behind in
    let here : length (filter names_port (atoms_in said_here)) ≤ tokens_in p =
    subst (λ (n : ℕ). n ≤ tokens_in p) (sym (counted said_here)) (policy_few p (All-head IsReadablePolicy p policies readable) kind hashes) in
    let others : length (filter names_port behind) ≤ sum_by tokens_in policies = policies_few policies (All-tail IsReadablePolicy p policies readable) kind hashes in
    let sum : sum_by tokens_in (p ∷ policies) ≡ tokens_in p + sum_by tokens_in policies = sum_by-cons tokens_in p policies in
    omega arith

pub few_ports : (list : PolicyList) → IsReadable list → (kind : Shape) (hashes : List Hash) → length (filter names_port (atoms_of hashes kind list)) ≤ token_limit
few_ports list readable kind hashes =
    let few = policies_few list.policies readable.each kind hashes in
    let tokens : token_count list.policies ≤ token_limit = readable.tokens in
    omega arith
