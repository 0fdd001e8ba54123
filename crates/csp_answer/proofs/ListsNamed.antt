-- The names of the sources of a directive, from those of its policy.
use Rattle.std.proofs.Common.{◌≡◌, refl, subst, ℕ, List, Option, Some, None}
use Rattle.std.specs.Prelude.{IsSomeAnd, MatchOption}
use Rattle.std.specs.List.{AllZip, slice_get}
use Rattle.std.specs.Option.{option_map}
use Rattle.std.proofs.lemmas.Slice.Zip.{AllZip-left}
use Rattle.csp_model.specs.declared.policy.Directive.{Directive}
use Rattle.csp_model.specs.declared.source.Source.{Source}
use Rattle.csp_facts.specs.declared.atom.Atom.{Atom}
use Rattle.csp_answer.specs.Naming.{IsDirectiveNamed, IsNamed, IsSourceNamed}
use Rattle.csp_answer.specs.declared.naming.NamedPolicy.{NamedPolicy}
use Rattle.csp_answer.specs.declared.naming.SourceNames.{SourceNames}
use Rattle.csp_answer.proofs.ListedSoFar.{zipped_at}

module _ (atoms : List Atom) (named : NamedPolicy) (place : ℕ) (is : IsNamed atoms named) where
  abbrev directives : List Directive
  directives = named.policy.now.directives

  abbrev HasNames : Option (List SourceNames) → Option Directive → Type 0
  HasNames names found = MatchOption found (Unit {0}) (λ d. IsSomeAnd names (IsDirectiveNamed atoms named.policy.now.origin d))

  nothing_by : (found : Option Directive) → HasNames None found → found ≡ None
  nothing_by None has = refl
  nothing_by (Some d) has = absurd has

  pub no_names : slice_get named.directives place ≡ None → slice_get directives place ≡ None
  no_names none =
      nothing_by (slice_get directives place) (subst (λ names. HasNames names (slice_get directives place)) none
      (AllZip-left (IsDirectiveNamed atoms named.policy.now.origin) directives named.directives is.sources place))

  directive_at : (found : Option Directive) (sources : List Source) → option_map (λ (d : Directive). d.sources) found ≡ Some sources → (d : Directive) × (found ≡ Some d) × (d.sources ≡ sources)
  directive_at None sources at = absurd cc
  directive_at (Some d) sources at = (d, refl, cc)

  pub list_named : (sources : List Source) (names : List SourceNames) → option_map (λ (d : Directive). d.sources) (slice_get directives place) ≡ Some sources
      → slice_get named.directives place ≡ Some names → AllZip (IsSourceNamed atoms named.policy.now.origin) sources names
  list_named sources names at names_at =
      let (d, found, own) = directive_at (slice_get directives place) sources at in
      subst (λ ss. AllZip (IsSourceNamed atoms named.policy.now.origin) ss names) own
      (zipped_at (IsDirectiveNamed atoms named.policy.now.origin) directives named.directives place d names is.sources found names_at)
