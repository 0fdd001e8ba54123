-- Rounds over the candidates of a list.
use Rattle.std.proofs.Common.{arith, ◌≡◌, ◌∙◌, sym, ap, subst, ◌<◌, List, [], ◌∷◌, ◌++◌, map, append_assoc, reverse, All}
use Rattle.std.proofs.Math.Nat.{le_trans}
use Rattle.std.proofs.lemmas.List.{reverse-append}
use Rattle.std.proofs.lemmas.List.Elements.{All-head, All-tail}
use Rattle.csp_model.specs.Policies.{IsReadable, token_count}
use Rattle.csp_model.specs.declared.policy.PolicyList.{PolicyList}
use Rattle.csp_tidy.specs.Asking.{IsThinner}
use Rattle.csp_tidy.specs.Candidates.{IsCandidate, candidates, without}
use Rattle.csp_tidy.specs.Thinnings.{AreEquivalent, IsThinning}
use Rattle.csp_tidy.specs.Tidied.{place_of}
use Rattle.csp_tidy.specs.declared.place.TokenPlace.{TokenPlace}
use Rattle.csp_tidy.specs.declared.tidying.Needed.{Needed}
use Rattle.csp_tidy.proofs.Fewer.{fewer_tokens}
use Rattle.csp_tidy.proofs.Listed.{candidates_are}
use Rattle.csp_tidy.proofs.Readable.{readable_without}
use Rattle.csp_tidy.proofs.Steps.{thins_more}

-- The candidate at the end

middle : {A : Type 0} (P : A → Type 0) (xs : List A) (x : A) (ys : List A) → All P (xs ++ x ∷ ys) → P x
middle P [] x ys all = All-head P x ys all
middle P (y ∷ xs) x ys all = middle P xs x ys (All-tail P y (xs ++ x ∷ ys) all)

parted : (places old : List TokenPlace) (place : TokenPlace) (rest all : List TokenPlace) → old ≡ places ++ place ∷ [] → old ++ rest ≡ all → places ++ place ∷ rest ≡ all
parted places old place rest all is whole = sym (append_assoc places (place ∷ []) rest) ∙ ap (λ (ps : List TokenPlace). ps ++ rest) (sym is) ∙ whole

pub candidate_popped : (list : PolicyList) (places old : List TokenPlace) (place : TokenPlace) (rest : List TokenPlace) → old ≡ places ++ place ∷ [] → old ++ rest ≡ candidates list → IsCandidate list place
candidate_popped list places old place rest is whole =
    middle (IsCandidate list) places place rest (subst (All (IsCandidate list)) (sym (parted places old place rest (candidates list) is whole)) (candidates_are list))

pub entries_more : (list : PolicyList) (places old : List TokenPlace) (place : TokenPlace) (needed : List Needed) (entry : Needed) → old ≡ places ++ place ∷ [] → place_of entry ≡ place
    → old ++ map place_of (reverse needed) ≡ candidates list → places ++ map place_of (reverse (needed ++ entry ∷ [])) ≡ candidates list
entries_more list places old place needed entry is at whole =
    ap (λ (ns : List Needed). places ++ map place_of ns) (reverse-append needed (entry ∷ []))
    ∙ ap (λ (q : TokenPlace). places ++ q ∷ map place_of (reverse needed)) at
    ∙ parted places old place (map place_of (reverse needed)) (candidates list) is whole

-- Thinner lists

pub thinner_itself : (list : PolicyList) → IsReadable list → IsThinner list list
thinner_itself list readable = record {
  readable = readable;
  thinning = λ first thins. thins;
  equivalent = (λ asked valid allowed. allowed, λ asked valid allowed. allowed);
  fewer = omega arith;
}

pub thinner_more : (first list thinner : PolicyList) (place : TokenPlace) → IsThinner first list → IsCandidate list place → thinner ≡ without list place → AreEquivalent list thinner
    → IsThinner first thinner × (token_count thinner.policies < token_count list.policies)
thinner_more first list thinner place is candidate made equivalent =
    let fewer = fewer_tokens list place is.readable candidate in
    let few = is.fewer in
    let count = ap (λ (l : PolicyList). token_count l.policies) made in (
      record {
        readable = subst IsReadable (sym made) (readable_without list place is.readable);
        thinning = λ one thins. subst (IsThinning one) (sym made) (thins_more one list place (is.thinning one thins) candidate);
        equivalent = (λ asked valid allowed. equivalent.0 asked valid (is.equivalent.0 asked valid allowed), λ asked valid allowed. is.equivalent.1 asked valid (equivalent.1 asked valid allowed));
        fewer = omega (arith, fewer, few, count);
      },
      omega (arith, fewer, count),
    )

pub thinner_joined : (one two three : PolicyList) → IsThinner one two → IsThinner two three → IsThinner one three
thinner_joined one two three first second = record {
  readable = second.readable;
  thinning = λ old thins. second.thinning old (first.thinning old thins);
  equivalent = (λ asked valid allowed. second.equivalent.0 asked valid (first.equivalent.0 asked valid allowed), λ asked valid allowed. first.equivalent.1 asked valid (second.equivalent.1 asked valid allowed));
  fewer = le_trans second.fewer first.fewer;
}
