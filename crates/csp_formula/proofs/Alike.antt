-- Lists whose sources say the same one by one, and lists at two shapes with the same URLs.
use Rattle.std.proofs.Common.{◌≡◌, ◌∙◌, sym, ap, ap₂, refl, ℕ, ◌+◌, ◌<◌, Bool, List, [], ◌∷◌, ◌++◌, Option, Some, None, map, take, get_or, length}
use Rattle.std.proofs.lemmas.List.{map_more}
use Rattle.csp_model.specs.Fetch.{fetch_rule}
use Rattle.csp_model.specs.Governing.{Governor, governor}
use Rattle.csp_model.specs.Names.{group_directive}
use Rattle.csp_model.specs.declared.check.Group.{Group}
use Rattle.csp_model.specs.declared.policy.Policy.{Policy}
use Rattle.csp_model.specs.declared.source.Hash.{Hash}
use Rattle.csp_model.specs.declared.source.PathPart.{PathPart}
use Rattle.csp_model.specs.declared.source.PathPart.TheVariants as path_part
use Rattle.csp_model.specs.declared.source.Source.{Source}
use Rattle.csp_model.specs.declared.source.Source.TheVariants as source
use Rattle.csp_model.specs.declared.url.Origin.{Origin}
use Rattle.csp_model.specs.declared.url.Scheme.{Scheme}
use Rattle.csp_facts.specs.declared.shape.Shape.{Shape}
use Rattle.csp_formula.specs.Compiled.{fetch_sentence, group_sentence, said_by}
use Rattle.csp_formula.specs.Sentences.{Sentence, Either}
use Rattle.csp_formula.specs.Sources.{path_sentence, source_sentence, list_sentence, shape_scheme, after_redirect, is_ancestor}

-- one more source of each list
pub alike_more : (f g : Source → Sentence) (xs ys : List Source) (i : ℕ) (x y : Source) → i < length xs → i < length ys
    → x ≡ get_or xs i x → y ≡ get_or ys i y → f x ≡ g y → map f (take i xs) ≡ map g (take i ys) → map f (take (i + 1) xs) ≡ map g (take (i + 1) ys)
alike_more f g xs ys i x y m n at there says before =
    let here : f (get_or xs i x) ≡ g (get_or ys i y) = ap f (sym at) ∙ says ∙ ap g there in
    map_more f xs i x m ∙ ap₂ (λ (front : List Sentence) (last : Sentence). front ++ last ∷ []) before here ∙ sym (map_more g ys i y n)

-- URLs of one scheme, after redirects or not, of ancestors or not
module _ (self : Origin) (one other : Shape) (moved : after_redirect one ≡ after_redirect other) (of : is_ancestor one ≡ is_ancestor other) where
  path_alike : (path : PathPart) → path_sentence path one ≡ path_sentence path other
  path_alike path_part.Absent = refl
  path_alike (path_part.Exact pieces) = rw (moved, of) refl
  path_alike (path_part.Prefix pieces) = rw (moved, of) refl

  source_alike : (scheme : Option Scheme) → shape_scheme one ≡ scheme → shape_scheme other ≡ scheme
      → (s : Source) → source_sentence self one s ≡ source_sentence self other s
  source_alike scheme e f source.Star = rw (e, f) refl
  source_alike scheme e f (source.SchemeOnly part) = rw (e, f) refl
  source_alike None e f (source.Hosted part host port path) = rw (e, f) refl
  source_alike (Some scheme) e f (source.Hosted part host port path) = rw (e, f, path_alike path) refl
  source_alike scheme e f (source.Word word) = rw (e, f) refl
  source_alike scheme e f (source.Nonce value) = refl
  source_alike scheme e f (source.Digest hash) = refl
  source_alike scheme e f (source.Other token) = refl

  pub list_alike : shape_scheme one ≡ shape_scheme other → (sources : List Source) → list_sentence self one sources ≡ list_sentence self other sources
  list_alike e [] = refl
  list_alike e (s ∷ sources) = ap₂ Either (source_alike (shape_scheme one) refl (sym e) s) (list_alike e sources)

-- what governs fetches of a group says the same at both
module _ (policy : Policy) (group : Group) (one other : Shape) (parser : Bool) (hashes : List Hash) where
  abbrev said_at : Shape → Governor → Sentence
  said_at kind g = fetch_sentence (fetch_rule group g.name) hashes g.directive.sources parser (list_sentence policy.origin kind g.directive.sources)

  governed_alike : ((sources : List Source) → list_sentence policy.origin one sources ≡ list_sentence policy.origin other sources)
      → (o : Option Governor) → said_by o (said_at one) ≡ said_by o (said_at other)
  governed_alike says None = refl
  governed_alike says (Some g) = ap (fetch_sentence (fetch_rule group g.name) hashes g.directive.sources parser) (says g.directive.sources)

  pub group_alike : shape_scheme one ≡ shape_scheme other → after_redirect one ≡ after_redirect other → is_ancestor one ≡ is_ancestor other
      → group_sentence policy group one parser hashes ≡ group_sentence policy group other parser hashes
  group_alike scheme moved of =
      governed_alike (list_alike policy.origin one other moved of scheme) (governor policy (group_directive group))
