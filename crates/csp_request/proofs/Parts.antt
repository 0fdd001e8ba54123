-- A request that is described in part, beside the whole of it.
use Rattle.std.proofs.Common.{◌≡◌, ◌∙◌, ℕ, List, [], ◌∷◌, codes, Option, Some, None, Result, Ok, Err, refl, ap, sym}
use Rattle.serde_json.specs.Data.{Data}
use Rattle.csp_model.specs.declared.check.Check.{Check}
use Rattle.csp_model.specs.declared.check.Check.TheVariants as check
use Rattle.csp_model.specs.declared.check.Digests.{Digests}
use Rattle.csp_model.specs.declared.check.InlineKind.{InlineKind}
use Rattle.csp_model.specs.declared.verdict.Described.{Described}
use Rattle.csp_token.specs.Digests.{digests_for, digests_of}
use Rattle.csp_token.specs.declared.digest.Algorithms.{Algorithms}
use Rattle.csp_request.specs.Described.{described, described_as, described_for, described_with, sample_of}
use Rattle.csp_request.specs.Members.{found_map}
use Rattle.csp_request.specs.Wanted.{IsPartOf, all_wanted}
use Rattle.csp_request.specs.declared.error.DescriptionError.{DescriptionError}
use Rattle.csp_request.specs.declared.texts.ReportTexts.{ReportTexts}
use Rattle.csp_request.specs.declared.texts.ReportTexts.TheVariants.{Made}
use Rattle.csp_request.specs.declared.wanted.Wanted.{Wanted}
use Rattle.csp_request.proofs.Hashed.{Outcome, described_same}
use Rattle.csp_request.proofs.Untold.{checks_in, checks_same}

-- A description is refused in part where it is refused as a whole

abbrev refusal : Outcome → Option DescriptionError
refusal (Ok found) = None
refusal (Err e) = Some e

abbrev refusal_by : Result (List Check) DescriptionError → Option DescriptionError
refusal_by (Ok checks) = None
refusal_by (Err e) = Some e

by_checks : (found : Outcome) → refusal found ≡ refusal_by (checks_in found)
by_checks (Ok found) = refl
by_checks (Err e) = refl

same_refusal : (texts : ReportTexts) (hashed : List ℕ → Digests) (value : Data)
    → refusal (described_for texts hashed value) ≡ refusal (described value)
same_refusal texts hashed value =
    by_checks (described_for texts hashed value)
    ∙ ap refusal_by (checks_same texts hashed value)
    ∙ sym (by_checks (described_with hashed value))
    ∙ described_same refusal hashed digests_of value (λ which nonce source. refl)

found_whole : (found : Outcome) → None ≡ refusal found → (whole : Described) × (found ≡ Ok whole)
found_whole (Ok whole) none = (whole, refl)
found_whole (Err e) none = absurd (cc none)

-- there is a whole of each part
pub whole_of : (texts : ReportTexts) (hashed : List ℕ → Digests) (value : Data) (part : Described)
    → described_for texts hashed value ≡ Ok part → (whole : Described) × (described value ≡ Ok whole)
whole_of texts hashed value part is =
    found_whole (described value) (sym (ap refusal is) ∙ same_refusal texts hashed value)

found_refused : (found : Outcome) (e : DescriptionError) → Some e ≡ refusal found → found ≡ Err e
found_refused (Ok whole) e some = absurd (cc some)
found_refused (Err f) e some = cc some

-- what is refused in part is refused for the same
pub whole_refused : (texts : ReportTexts) (hashed : List ℕ → Digests) (value : Data) (e : DescriptionError)
    → described_for texts hashed value ≡ Err e → described value ≡ Err e
whole_refused texts hashed value e is =
    found_refused (described value) e (sym (ap refusal is) ∙ same_refusal texts hashed value)

-- What is the same for both

ok_same : {A : Type 0} (one other : A) → ◌≡◌ {A = Result A DescriptionError} (Ok one) (Ok other) → one ≡ other
ok_same one other same = cc same

-- what doesn't tell digests of inline code and style apart doesn't tell the checks of a part from those of the whole
pub same_of_checks : {X : Type 0} (f : List Check → X) (wanted : Wanted) (part whole : Described)
    → IsPartOf wanted part whole
    → ((which : InlineKind) (nonce source : List ℕ)
    → f (check.Inline which nonce (digests_for source wanted.digests) ∷ [])
    ≡ f (check.Inline which nonce (digests_of source) ∷ []))
    → f part.checks ≡ f whole.checks
same_of_checks f wanted part whole is alike =
    let hashed : List ℕ → Digests = λ source. digests_for source wanted.digests in
    let seen : Outcome → Result _ DescriptionError = λ found. found_map f (checks_in found) in
    ok_same (f part.checks) (f whole.checks)
    (sym (ap seen is.of_part)
    ∙ ap (found_map f) (checks_same wanted.texts hashed is.value)
    ∙ described_same seen hashed digests_of is.value (λ which nonce source. ap Ok (alike which nonce source))
    ∙ ap seen is.of_whole)

-- the same of all that a part tells, where it has the texts
pub same_of_told : {X : Type 0} (f : Described → X) (wanted : Algorithms) (part whole : Described)
    → IsPartOf (record { digests = wanted; texts = Made }) part whole
    → ((which : InlineKind) (nonce source : List ℕ)
    → f (described_as (check.Inline which nonce (digests_for source wanted) ∷ []) (codes "inline") (sample_of source))
    ≡ f (described_as (check.Inline which nonce (digests_of source) ∷ []) (codes "inline") (sample_of source)))
    → f part ≡ f whole
same_of_told f wanted part whole is alike =
    let hashed : List ℕ → Digests = λ source. digests_for source wanted in
    let seen : Outcome → Result _ DescriptionError = λ found. found_map f found in
    ok_same (f part) (f whole)
    (sym (ap seen is.of_part)
    ∙ described_same seen hashed digests_of is.value (λ which nonce source. ap Ok (alike which nonce source))
    ∙ ap seen is.of_whole)

-- where all is wanted, the part is the whole
pub all_of_it : (part whole : Described) → IsPartOf all_wanted part whole → part ≡ whole
all_of_it part whole is = ok_same part whole (sym is.of_part ∙ is.of_whole)
