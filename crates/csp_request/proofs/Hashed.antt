-- What is found of a description rests on how sources are hashed only where it is inline code or style with a
-- source.
use Rattle.std.proofs.Common.{◌≡◌, ℕ, List, [], ◌∷◌, codes, Option, Some, None, Result, Ok, Err, refl}
use Rattle.std.specs.Bool.{⊤}
use Rattle.serde_json.specs.Data.{Data}
use Rattle.csp_model.specs.declared.check.Check.TheVariants as check
use Rattle.csp_model.specs.declared.check.Digests.{Digests}
use Rattle.csp_model.specs.declared.check.InlineKind.{InlineKind}
use Rattle.csp_model.specs.declared.verdict.Described.{Described}
use Rattle.csp_request.specs.Described.{described_with, described_by, described_as, inline, source_beside, inline_source, nonce_of, sample_of, source_of}
use Rattle.csp_request.specs.Kinds.{kind_named, inline_named}
use Rattle.csp_request.specs.Members.{◌>>=◌, demand, optional, required, named, text, is_absent}
use Rattle.csp_request.specs.declared.error.DescriptionError.{DescriptionError}
use Rattle.csp_request.specs.declared.field.Field.TheVariants as field
use Rattle.csp_request.specs.declared.inline.InlineSource.{InlineSource}
use Rattle.csp_request.specs.declared.kind.DescriptionKind.{DescriptionKind}
use Rattle.csp_request.specs.declared.kind.DescriptionKind.TheVariants as kind
use Rattle.csp_request.specs.declared.texts.ReportTexts.TheVariants.{Made}

abbrev pub Outcome : Type 0
Outcome = Result Described DescriptionError

-- the same step, with what follows it the same
pub then_same : {A B X : Type 0} (f : Result B DescriptionError → X) (step : Result A DescriptionError)
    (one other : A → Result B DescriptionError) → ((x : A) → f (one x) ≡ f (other x)) → f (step >>= one) ≡ f (step >>= other)
then_same f (Ok x) one other same = same x
then_same f (Err e) one other same = refl

-- a source that stands alone or not
alone_same : {X : Type 0} (f : Outcome → X) (alone : Result ⊤ DescriptionError) (one other : InlineSource)
    (next : InlineSource → Outcome) → f (next one) ≡ f (next other)
    → f ((alone >>= λ _. Ok one) >>= next) ≡ f ((alone >>= λ _. Ok other) >>= next)
alone_same f (Ok x) one other next same = same
alone_same f (Err e) one other next same = refl

beside_same : {X : Type 0} (f : Outcome → X) (one other : List ℕ → Digests) (value : Data)
    (source : Result (Option (List ℕ)) DescriptionError) (next : InlineSource → Outcome)
    → ((s : List ℕ) → f (next (inline_source (one s) (sample_of s)))
    ≡ f (next (inline_source (other s) (sample_of s))))
    → f ((source >>= λ s. source_beside Made one s value) >>= next)
    ≡ f ((source >>= λ s. source_beside Made other s value) >>= next)
beside_same f one other value (Ok None) next same = refl
beside_same f one other value (Ok (Some s)) next same =
    alone_same f (demand field.Digests (is_absent field.Digests value)) (inline_source (one s) (sample_of s))
    (inline_source (other s) (sample_of s)) next (same s)
beside_same f one other value (Err e) next same = refl

abbrev pub with_nonce : InlineKind → Data → InlineSource → Outcome
with_nonce which value source = nonce_of value >>= λ nonce.
    Ok (described_as (check.Inline which nonce source.digests ∷ []) (codes "inline") source.sample)

-- of inline code and style with these digests the same is found
abbrev pub AreAlike : {X : Type 0} → (Outcome → X) → (List ℕ → Digests) → (List ℕ → Digests) → Type 0
AreAlike f one other = (which : InlineKind) (nonce source : List ℕ)
    → f (Ok (described_as (check.Inline which nonce (one source) ∷ []) (codes "inline") (sample_of source)))
    ≡ f (Ok (described_as (check.Inline which nonce (other source) ∷ []) (codes "inline") (sample_of source)))

inline_same : {X : Type 0} (f : Outcome → X) (one other : List ℕ → Digests) (value : Data)
    → AreAlike f one other → f (inline Made one value) ≡ f (inline Made other value)
inline_same f one other value alike =
    then_same f (required (named inline_named) field.InlineType value)
    (λ which. source_of Made one value >>= with_nonce which value)
    (λ which. source_of Made other value >>= with_nonce which value)
    (λ which. beside_same f one other value (optional text field.Source value) (with_nonce which value)
    (λ s. then_same f (nonce_of value) _ _ (λ nonce. alike which nonce s)))

by_kind : {X : Type 0} (f : Outcome → X) (one other : List ℕ → Digests) (value : Data)
    → AreAlike f one other → (which : DescriptionKind) → f (described_by Made one which value) ≡ f (described_by Made other which value)
by_kind f one other value alike kind.Fetch = refl
by_kind f one other value alike kind.Inline = inline_same f one other value alike
by_kind f one other value alike kind.Eval = refl
by_kind f one other value alike kind.Wasm = refl
by_kind f one other value alike kind.Base = refl
by_kind f one other value alike kind.Form = refl
by_kind f one other value alike kind.Ancestors = refl
by_kind f one other value alike kind.Capability = refl
by_kind f one other value alike kind.WorkerStart = refl

pub described_same : {X : Type 0} (f : Outcome → X) (one other : List ℕ → Digests) (value : Data)
    → AreAlike f one other → f (described_with one value) ≡ f (described_with other value)
described_same f one other value alike =
    then_same f _ _ _ (λ object. then_same f (required (named kind_named) field.Kind value) _ _
    (by_kind f one other value alike))
