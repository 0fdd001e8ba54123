-- Which responses leave it to their embedder what is required of them (Content Security Policy: Embedded
-- Enforcement, "Does response allow blanket enforcement of policy from request?").
use Rattle.std.specs.Prelude.{◌≡◌, ◌⊎◌, ℕ, List, [], ◌∷◌, Option, Some, codes, unwrap_or}
use Rattle.std.specs.Str.{IsUtf8}
use Rattle.csp_model.specs.Schemes.{default_port}
use Rattle.csp_model.specs.declared.url.Origin.{Origin}
use Rattle.csp_model.specs.declared.url.Origin.TheVariants as origin
use Rattle.csp_model.specs.declared.url.Scheme.{Scheme}
use Rattle.csp_policy.specs.Fields.{values_named}
use Rattle.csp_url.specs.Origins.{origin_of}

-- the values of the fields by which a response allows it
abbrev pub allow_from_values : List ℕ → List (List ℕ)
allow_from_values block = values_named (codes "Allow-CSP-From") block

-- the port that is meant: the scheme's default, where none is named
abbrev pub effective_port : Scheme → Option ℕ → ℕ
effective_port scheme port = unwrap_or port (default_port scheme)

-- The same scheme, host and port (HTML Standard, section 7.1.1). What is opaque is the same as nothing that a
-- text names.
abbrev pub AreSameOrigin : Origin → Origin → Type 0
AreSameOrigin (origin.Tuple scheme host port) (origin.Tuple other_scheme other_host other_port) =
    (scheme ≡ other_scheme) × (host ≡ other_host)
    × (effective_port scheme port ≡ effective_port other_scheme other_port)
AreSameOrigin one other = ⊥

-- the value is a text that reads as the embedder's origin
pub record Names (value : List ℕ) (embedder : Origin) : Type 0 where
  pub utf8 : IsUtf8 value
  pub named : Origin
  pub read : origin_of value ≡ Some named
  pub same : AreSameOrigin named embedder

-- the value stands for every embedder, or for this one
abbrev pub StandsFor : List ℕ → Origin → Type 0
StandsFor value embedder = (value ≡ codes "*") ⊎ Names value embedder

-- there is one value, which stands for the embedder
abbrev pub OnlyOneStandsFor : List (List ℕ) → Origin → Type 0
OnlyOneStandsFor (value ∷ []) embedder = StandsFor value embedder
OnlyOneStandsFor values embedder = ⊥

-- The response of this header block allows it. Several such fields, whatever they say, are none.
abbrev pub AllowsBlanketEnforcement : List ℕ → Origin → Type 0
AllowsBlanketEnforcement block embedder = OnlyOneStandsFor (allow_from_values block) embedder
