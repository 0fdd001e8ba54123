-- A thinning without one candidate more is a thinning.
use Rattle.std.proofs.Common.{◌≡◌, ◌∙◌, sym, ap, refl, subst, ℕ, zero, suc, Bool, true, false, not, List, [], ◌∷◌, map, Option, Some, None, All, inl, inr}
use Rattle.std.specs.Prelude.{slice_get, MatchOption}
use Rattle.std.specs.List.{AllZip, remove}
use Rattle.std.proofs.lemmas.Bool.{and_from}
use Rattle.std.proofs.lemmas.List.Elements.{All-head, All-tail}
use Rattle.csp_model.specs.Policies.{IsReadable, IsReadablePolicy}
use Rattle.csp_model.specs.Reading.{source_of}
use Rattle.csp_model.specs.Verdict.{is_enforce}
use Rattle.csp_model.specs.declared.policy.Directive.{Directive}
use Rattle.csp_model.specs.declared.policy.Policy.{Policy}
use Rattle.csp_model.specs.declared.policy.PolicyList.{PolicyList}
use Rattle.csp_model.specs.declared.source.Source.{Source}
use Rattle.csp_match.specs.Candidates.{can_govern}
use Rattle.csp_tidy.specs.Candidates.{has_source_name, is_report_sample, IsCandidateIn, IsCandidateOf, IsCandidate, change_at, directive_without, policy_without, without}
use Rattle.csp_tidy.specs.Thinnings.{Thins, is_candidate, IsThinnedDirective, IsThinnedPolicy, IsThinning}
use Rattle.csp_tidy.specs.declared.place.TokenPlace.{TokenPlace}
use Rattle.csp_tidy.proofs.Readable.{HasRead, read_without}

-- Itself

thins_itself : (may_go : List ℕ → Bool) (tokens : List (List ℕ)) → Thins may_go tokens tokens
thins_itself may_go [] = refl
thins_itself may_go (token ∷ tokens) = inl (tokens, refl, thins_itself may_go tokens)

directives_itself : (p : Policy) (ds : List Directive) → All HasRead ds → AllZip (IsThinnedDirective p) ds ds
directives_itself p [] read = tt
directives_itself p (d ∷ ds) read = (
  record { name = refl; tokens = thins_itself (is_candidate p d) d.tokens; sources = All-head HasRead d ds read },
  directives_itself p ds (All-tail HasRead d ds read),
)

policies_itself : (ps : List Policy) → All IsReadablePolicy ps → AllZip IsThinnedPolicy ps ps
policies_itself [] each = tt
policies_itself (p ∷ ps) each =
    let here = All-head IsReadablePolicy p ps each in (
      record { disposition = refl; meta = refl; origin = refl; directives = directives_itself p p.directives here.read },
      policies_itself ps (All-tail IsReadablePolicy p ps each),
    )

pub thins_none : (list : PolicyList) → IsReadable list → IsThinning list list
thins_none list is = policies_itself list.policies is.each

-- One candidate less

thins_one : (may_go : List ℕ → Bool) (old new : List (List ℕ)) (n : ℕ) → Thins may_go old new
    → MatchOption (slice_get new n) ⊥ (λ (token : List ℕ). may_go token ≡ true) → Thins may_go old (remove new n)
thins_one may_go [] [] n thins may = absurd may
thins_one may_go [] (t ∷ new) n thins may = cc thins
thins_one may_go (token ∷ old) [] n (inl (rest, is, thins)) may = cc is
thins_one may_go (token ∷ old) (t ∷ new) zero (inl (rest, is, thins)) may =
    let same : t ≡ token = cc is in
    let others : rest ≡ new = cc is in
    inr (ap may_go (sym same) ∙ may, subst (Thins may_go old) others thins)
thins_one may_go (token ∷ old) (t ∷ new) (suc n) (inl (rest, is, thins)) may =
    let same : t ≡ token = cc is in
    let others : rest ≡ new = cc is in
    inl (remove new n, ap (λ u. u ∷ remove new n) same, thins_one may_go old new n (subst (Thins may_go old) others thins) may)
thins_one may_go (token ∷ old) new n (inr (goes, thins)) may = inr (goes, thins_one may_go old new n thins may)

named_alike : (d e : Directive) → e.name ≡ d.name → has_source_name e ≡ has_source_name d
unfolding can_govern
named_alike d e same = rw same refl

token_at : (may : Source → Bool) (tokens : List (List ℕ)) (n : ℕ) → MatchOption (slice_get (map source_of tokens) n) ⊥ (λ (s : Source). may s ≡ true)
    → MatchOption (slice_get tokens n) ⊥ (λ (token : List ℕ). may (source_of token) ≡ true)
token_at may [] n is = is
token_at may (token ∷ tokens) zero is = is
token_at may (token ∷ tokens) (suc n) is = token_at may tokens n is

denied : (o : Option Source) → MatchOption o ⊥ (λ (s : Source). is_report_sample s ≡ false) → MatchOption o ⊥ (λ (s : Source). not (is_report_sample s) ≡ true)
denied None is = is
denied (Some s) is = ap not is

weaker : (P Q : List ℕ → Type 0) (o : Option (List ℕ)) → ((token : List ℕ) → P token → Q token) → MatchOption o ⊥ P → MatchOption o ⊥ Q
weaker P Q None each is = is
weaker P Q (Some token) each is = each token is

directive_one : (p : Policy) (old new : Directive) (n : ℕ) → is_enforce p.disposition ≡ true → IsThinnedDirective p old new → IsCandidateIn new n
    → IsThinnedDirective p old (directive_without n new)
directive_one p old new n enforces thinned candidate =
    let named = sym (named_alike old new thinned.name) ∙ candidate.0 in
    let source = subst (λ (ss : List Source). MatchOption (slice_get ss n) ⊥ (λ (s : Source). not (is_report_sample s) ≡ true)) thinned.sources (denied (slice_get new.sources n) candidate.1) in
    let token = weaker (λ t. not (is_report_sample (source_of t)) ≡ true) (λ t. is_candidate p old t ≡ true) (slice_get new.tokens n)
    (λ t may. and_from (is_enforce p.disposition) _ enforces (and_from (has_source_name old) _ named may)) (token_at (λ s. not (is_report_sample s)) new.tokens n source) in
    record {
      name = thinned.name;
      tokens = thins_one (is_candidate p old) old.tokens new.tokens n thinned.tokens token;
      sources = read_without n new thinned.sources;
    }

directives_one : (p : Policy) (olds news : List Directive) (n t : ℕ) → is_enforce p.disposition ≡ true → AllZip (IsThinnedDirective p) olds news
    → MatchOption (slice_get news n) ⊥ (λ (d : Directive). IsCandidateIn d t) → AllZip (IsThinnedDirective p) olds (change_at (directive_without t) n news)
directives_one p [] [] n t enforces zips candidate = absurd candidate
directives_one p [] (e ∷ news) n t enforces zips candidate = absurd zips
directives_one p (d ∷ olds) [] n t enforces zips candidate = absurd zips
directives_one p (d ∷ olds) (e ∷ news) zero t enforces zips candidate = (directive_one p d e t enforces zips.0 candidate, zips.1)
directives_one p (d ∷ olds) (e ∷ news) (suc n) t enforces zips candidate = (zips.0, directives_one p olds news n t enforces zips.1 candidate)

policies_one : (olds news : List Policy) (n m t : ℕ) → AllZip IsThinnedPolicy olds news → MatchOption (slice_get news n) ⊥ (λ (p : Policy). IsCandidateOf p m t)
    → AllZip IsThinnedPolicy olds (change_at (policy_without m t) n news)
policies_one [] [] n m t zips candidate = absurd candidate
policies_one [] (q ∷ news) n m t zips candidate = absurd zips
policies_one (p ∷ olds) [] n m t zips candidate = absurd zips
policies_one (p ∷ olds) (q ∷ news) zero m t zips candidate =
    let thinned = zips.0 in
    let enforces = ap is_enforce (sym thinned.disposition) ∙ candidate.0 in (
      record {
        disposition = thinned.disposition;
        meta = thinned.meta;
        origin = thinned.origin;
        directives = directives_one p p.directives q.directives m t enforces thinned.directives candidate.1;
      },
      zips.1,
    )
policies_one (p ∷ olds) (q ∷ news) (suc n) m t zips candidate = (zips.0, policies_one olds news n m t zips.1 candidate)

pub thins_more : (first list : PolicyList) (place : TokenPlace) → IsThinning first list → IsCandidate list place → IsThinning first (without list place)
thins_more first list place thinning candidate = policies_one first.policies list.policies place.policy place.directive place.token thinning candidate
