-- The vocabulary of lists that were read has base64-values.
use Rattle.std.proofs.Common.{sym, subst, ℕ, List, [], ◌∷◌, ◌++◌, get_or, map, All, Contains, IfSome, IsTrue}
use Rattle.std.specs.Prelude.{Option, Some, None}
use Rattle.std.specs.List.{cons_option, flat_map, filter_map}
use Rattle.std.proofs.lemmas.List.Elements.{All-nil, All-cons, All-append, All-contains, All-contains_itself, All-weaker}
use Rattle.csp_model.specs.Grammar.{IsSource, is_base64_value}
use Rattle.csp_model.specs.Policies.{IsReadable, IsReadablePolicy}
use Rattle.csp_model.specs.Reading.{source_of}
use Rattle.csp_model.specs.declared.policy.Directive.{Directive}
use Rattle.csp_model.specs.declared.policy.Policy.{Policy}
use Rattle.csp_model.specs.declared.policy.PolicyList.{PolicyList}
use Rattle.csp_model.specs.declared.source.Hash.{Hash}
use Rattle.csp_model.specs.declared.source.Source.{Source}
use Rattle.csp_model.specs.declared.source.Source.TheVariants as source
use Rattle.csp_facts.specs.Vocabulary.{hash_of_source, hashes_of, vocabulary_hashes}
use Rattle.csp_facts.proofs.VocabularyDistinct.{Contains-distinct}
use Rattle.csp_formula.specs.Belonging.{HasBase64Values}
use Rattle.csp_answer.proofs.Pieces.{of_flat_map}

-- the hash-sources of a directive, and those of all directives of a policy
abbrev hashes_in_directive : Directive → List Hash
hashes_in_directive d = filter_map hash_of_source d.sources

abbrev hashes_in_policy : Policy → List Hash
hashes_in_policy p = flat_map hashes_in_directive p.directives

abbrev IsBase64 : Hash → Type 0
IsBase64 h = IsTrue (is_base64_value h.value)

with_option : (o : Option Hash) (hashes : List Hash) → IfSome o IsBase64 → All IsBase64 hashes → All IsBase64 (cons_option o hashes)
with_option None hashes here all = all
with_option (Some h) hashes here all = All-cons IsBase64 h hashes here all

of_source : (token : List ℕ) (s : Source) → IsSource token s → IfSome (hash_of_source s) IsBase64
of_source token (source.Digest hash) is = is.3
of_source token other is = tt

-- by what the grammar says of each token
module _ (read : (token : List ℕ) → IsSource token (source_of token)) where
  of_tokens : (tokens : List (List ℕ)) → All IsBase64 (filter_map hash_of_source (map source_of tokens))
  of_tokens [] = All-nil IsBase64
  of_tokens (token ∷ tokens) =
      with_option (hash_of_source (source_of token)) (filter_map hash_of_source (map source_of tokens)) (of_source token (source_of token) (read token)) (of_tokens tokens)

  of_policy : (p : Policy) → IsReadablePolicy p → All IsBase64 (hashes_in_policy p)
  of_policy p readable =
      of_flat_map IsBase64 hashes_in_directive p.directives
      (λ k d within. subst (λ (sources : List Source). All IsBase64 (filter_map hash_of_source sources)) (sym (readable.read k d within)) (of_tokens (get_or p.directives k d).tokens))

  of_list : (list : PolicyList) → IsReadable list → All IsBase64 (hashes_of list)
  of_list list readable = of_flat_map IsBase64 hashes_in_policy list.policies (λ k d within. of_policy (get_or list.policies k d) (readable.each k d within))

  pub vocabulary_base64 : (first second : PolicyList) → IsReadable first → IsReadable second → HasBase64Values (vocabulary_hashes first second)
  vocabulary_base64 first second one two =
      let joined = hashes_of first ++ hashes_of second in
      let all = All-append IsBase64 (hashes_of first) (hashes_of second) (of_list first one) (of_list second two) in
      All-weaker (Contains (vocabulary_hashes first second)) IsBase64 (λ h has. All-contains IsBase64 joined h all ((Contains-distinct joined h).0 has))
      (vocabulary_hashes first second) (All-contains_itself (vocabulary_hashes first second))
