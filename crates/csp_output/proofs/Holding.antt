-- One more request whose violations are reported.
use Rattle.std.proofs.Common.{◌≡◌, ◌++◌, List, [], ◌∷◌, Result, Ok, ap, sym, ◌∙◌}
use Rattle.std.proofs.lemmas.List.{flat_map_more}
use Rattle.std.specs.Prelude.{codes}
use Rattle.csp_model.specs.Verdict.{violations_of}
use Rattle.csp_model.specs.declared.policy.PolicyList.{PolicyList}
use Rattle.csp_model.specs.declared.verdict.Described.{Described}
use Rattle.csp_model.specs.declared.verdict.Violation.{Violation}
use Rattle.csp_output.specs.Reports.{all_violations, violations_in}
use Rattle.csp_request.proofs.Parts.{same_of_told}
use Rattle.csp_request.specs.Described.{sample_of}
use Rattle.csp_request.specs.Wanted.{IsPartOf}
use Rattle.csp_request.specs.declared.error.RequestError.{RequestError}
use Rattle.csp_request.specs.declared.texts.ReportTexts.TheVariants.{Made}
use Rattle.csp_verdict.proofs.NamedDigests.{wanted_violations}
use Rattle.csp_verdict.specs.Algorithms.{algorithms_of}

one_more : (list : PolicyList) (before : List Described) (d : Described)
    → all_violations list (before ++ d ∷ []) ≡ all_violations list before ++ violations_of list d
one_more list before d = sym (flat_map_more (violations_of list) [] before d)

pub held_more : (list : PolicyList) (held new before : List Described) (part whole : Described)
    → new ≡ held ++ part ∷ [] → all_violations list held ≡ all_violations list before
    → IsPartOf (record { digests = algorithms_of list; texts = Made }) part whole
    → all_violations list new ≡ all_violations list (before ++ whole ∷ [])
held_more list held new before part whole more was of_it =
    ap (all_violations list) more ∙ one_more list held part
    ∙ ap (λ (all : List Violation). all ++ violations_of list part) was
    ∙ ap (λ (last : List Violation). all_violations list before ++ last)
    (same_of_told (violations_of list) (algorithms_of list) part whole of_it
    (λ which nonce source. wanted_violations list which nonce source (codes "inline") (sample_of source)))
    ∙ sym (one_more list before whole)

-- the violations of a file's requests, by what is held of them
pub held_violations : (list made : PolicyList) (found : Result (List Described) RequestError)
    (requests held : List Described) → found ≡ Ok requests → made ≡ list
    → all_violations made held ≡ all_violations made requests
    → violations_in list found ≡ Ok (all_violations made held)
held_violations list made found requests held so same are =
    let told : List Violation → Result (List Violation) RequestError = λ all. Ok all in
    ap (violations_in list) so
    ∙ ap (λ (l : PolicyList). told (all_violations l requests)) (sym same)
    ∙ ap told (sym are)
