-- The hashes of sources, one source after the other.
use Rattle.std.proofs.Common.{◌≡◌, ◌≢◌, ◌∙◌, ap, refl, List, [], ◌∷◌, ◌++◌, append-nil, Bor, map, None}
use Rattle.std.specs.List.{filter_map, cons_option, flat_map}
use Rattle.std.proofs.lemmas.List.{map_push}
use Rattle.std.proofs.lemmas.List.Concat.{flat_map-append}
use Rattle.std.proofs.lemmas.List.Elements.{filter_map-append}
use Rattle.csp_model.specs.declared.policy.Directive.{Directive}
use Rattle.csp_model.specs.declared.policy.Policy.{Policy}
use Rattle.csp_model.specs.declared.policy.PolicyList.{PolicyList}
use Rattle.csp_model.specs.declared.source.Hash.{Hash}
use Rattle.csp_model.specs.declared.source.Source.{Source}
use Rattle.csp_model.specs.declared.source.Source.TheVariants.{Digest}
use Rattle.csp_facts.specs.Vocabulary.{hash_of_source, hashes_of}

-- the hashes of these sources
abbrev pub found : List (Bor Source) → List Hash
found sources = filter_map hash_of_source (map (λ source. source.now) sources)

found_more : (sources : List (Bor Source)) (source : Bor Source) → found (sources ++ source ∷ []) ≡ found sources ++ cons_option (hash_of_source source.now) []
found_more sources source = ap (filter_map hash_of_source) (map_push (λ (s : Bor Source). s.now) sources source)
    ∙ filter_map-append hash_of_source (map (λ (s : Bor Source). s.now) sources) (source.now ∷ [])

-- a source of another kind
other_source : (source : Source) → ((hash : Hash) → source ≢ Digest hash) → hash_of_source source ≡ None
other_source (Digest hash) other = absurd (other hash refl)
other_source source other = refl

pub found_none : (sources : List (Bor Source)) (source : Bor Source) → ((hash : Hash) → source.now ≢ Digest hash) → found (sources ++ source ∷ []) ≡ found sources
found_none sources source other = found_more sources source ∙ ap (λ o. found sources ++ cons_option o []) (other_source source.now other) ∙ append-nil (found sources)

pub found_some : (sources : List (Bor Source)) (source : Bor Source) (hash : Hash) → source.now ≡ Digest hash
    → found (sources ++ source ∷ []) ≡ found sources ++ hash ∷ []
found_some sources source hash is = found_more sources source ∙ ap (λ s. found sources ++ cons_option (hash_of_source s) []) is

abbrev directives_in : List Policy → List Directive
directives_in policies = flat_map (λ (p : Policy). p.directives) policies

abbrev sources_in : List Directive → List Source
sources_in directives = flat_map (λ (d : Directive). d.sources) directives

-- of a policy's directives, and of all
in_directives : (ds : List Directive) → filter_map hash_of_source (sources_in ds) ≡ flat_map (λ (d : Directive). filter_map hash_of_source d.sources) ds
in_directives [] = refl
in_directives (d ∷ ds) = filter_map-append hash_of_source d.sources (sources_in ds) ∙ ap (λ hashes. filter_map hash_of_source d.sources ++ hashes) (in_directives ds)

in_policies : (ps : List Policy) → filter_map hash_of_source (sources_in (directives_in ps)) ≡ hashes_of (record { policies = ps })
in_policies [] = refl
in_policies (p ∷ ps) =
    ap (filter_map hash_of_source) (flat_map-append (λ (d : Directive). d.sources) p.directives (directives_in ps))
    ∙ filter_map-append hash_of_source (sources_in p.directives) (sources_in (directives_in ps))
    ∙ ap (λ hashes. hashes ++ filter_map hash_of_source (sources_in (directives_in ps))) (in_directives p.directives)
    ∙ ap (λ hashes. flat_map (λ (d : Directive). filter_map hash_of_source d.sources) p.directives ++ hashes) (in_policies ps)

-- of two lists, one behind the other
pub in_both : (first second : PolicyList) → filter_map hash_of_source (sources_in (directives_in (first.policies ++ second.policies))) ≡ hashes_of first ++ hashes_of second
in_both first second =
    in_policies (first.policies ++ second.policies)
    ∙ flat_map-append (λ (p : Policy). flat_map (λ (d : Directive). filter_map hash_of_source d.sources) p.directives) first.policies second.policies
