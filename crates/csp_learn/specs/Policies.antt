-- The policy that is learnt from a log.
use Rattle.std.specs.Prelude.{ℕ, Bool, false, List, [], ◌∷◌, map, filter, Option, Some, None, codes}
use Rattle.std.specs.List.{filter_map}
use Rattle.std.specs.Str.{bytes_eq}
use Rattle.csp_model.specs.Names.{name_text}
use Rattle.csp_model.specs.Reading.{source_of}
use Rattle.csp_model.specs.declared.name.Name.{Name}
use Rattle.csp_model.specs.declared.name.Name.TheVariants.{ConnectSrc, FontSrc, FrameSrc, ImgSrc, ManifestSrc, MediaSrc, ObjectSrc, StyleSrcElem, ScriptSrcElem, WorkerSrc}
use Rattle.csp_model.specs.declared.policy.Directive.{Directive}
use Rattle.csp_model.specs.declared.policy.Disposition.TheVariants.{Enforce}
use Rattle.csp_model.specs.declared.policy.Policy.{Policy}
use Rattle.csp_model.specs.declared.url.Origin.{Origin}
use Rattle.csp_learn.specs.declared.need.Need.{Need}

-- the effective directives of fetches, in the order of their bytes
abbrev pub fetch_directives : List Name
fetch_directives =
    ConnectSrc ∷ FontSrc ∷ FrameSrc ∷ ImgSrc ∷ ManifestSrc ∷ MediaSrc ∷ ObjectSrc ∷ ScriptSrcElem
    ∷ StyleSrcElem ∷ WorkerSrc ∷ []

-- the directive of these tokens
abbrev pub directive_of : List ℕ → List (List ℕ) → Directive
directive_of name tokens = record { name = name; tokens = tokens; sources = map source_of tokens }

-- the need is of this directive
abbrev pub is_for : List ℕ → Need → Bool
is_for name need = bytes_eq need.directive name

-- the tokens that are needed of a directive
abbrev pub tokens_for : List ℕ → List Need → List (List ℕ)
tokens_for name needs = map (λ (need : Need). need.token) (filter (is_for name) needs)

-- the directive of this name, where a token is needed of it
abbrev pub where_needed : List ℕ → List (List ℕ) → Option Directive
where_needed name [] = None
where_needed name (token ∷ tokens) = Some (directive_of name (token ∷ tokens))

abbrev pub directive_for : List Need → Name → Option Directive
directive_for needs name = where_needed (name_text name) (tokens_for (name_text name) needs)

-- nothing is allowed but by a directive that stands behind it
abbrev pub default_none : Directive
default_none = directive_of (codes "default-src") (codes "'none'" ∷ [])

-- the policy that is learnt from these needs
abbrev pub policy_for : Origin → List Need → Policy
policy_for origin needs = record {
  disposition = Enforce;
  meta = false;
  origin = origin;
  directives = default_none ∷ filter_map (directive_for needs) fetch_directives;
}
