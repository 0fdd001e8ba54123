-- The answers of `embed` have one word and one status, and uphold what is required.
use Rattle.std.proofs.Common.{arith, ◌≡◌, ◌↔◌, ◌∙◌, sym, ap, subst, refl, inl, inr, ◌⊎◌, ℕ, Bool, true, false, List, ◌++◌, get_or, codes, IfSome}
use Rattle.csp_model.specs.Inclusion.{Subsumes}
use Rattle.csp_model.specs.declared.policy.Disposition.TheVariants.{Enforce}
use Rattle.csp_model.specs.declared.policy.Policy.{Policy}
use Rattle.csp_model.specs.declared.policy.PolicyList.{PolicyList}
use Rattle.csp_model.specs.declared.url.Origin.{Origin}
use Rattle.csp_embed.specs.AllowFrom.{AllowsBlanketEnforcement}
use Rattle.csp_embed.specs.Decisions.{IsDecision, Upholds, alone, enforced_list, with_added}
use Rattle.csp_embed.specs.declared.decision.Decision.{Decision}
use Rattle.csp_embed.specs.declared.decision.Decision.TheVariants.{Added, Served}
use Rattle.csp_output.specs.Embeddings.{IsEmbedding, IsEnforcedList, IsOwnAnswer, added_output, answer_word, first_line}
use Rattle.csp_output.specs.declared.built.Built.{Built}
use Rattle.csp_output.specs.declared.status.Status.{Status}
use Rattle.csp_output.specs.declared.status.Status.TheVariants.{Clean}
use Rattle.csp_output.proofs.OneStatus.{clean_where_subsumed, inclusion, same_status}

abbrev word_of : Status → List ℕ
word_of Clean = codes "served"
word_of status = codes "refused"

word_is : (status : Status) (rest : List ℕ) → first_line (answer_word status ++ rest) ≡ word_of status
word_is Clean rest = refl
word_is status rest = refl

not_added : (status : Status) → word_of status ≡ codes "added" → ⊥
not_added Clean h = let e = ap (λ (l : List ℕ). get_or l 0 0) h in omega (arith, e)
not_added status h = let e = ap (λ (l : List ℕ). get_or l 0 0) h in omega (arith, e)

own_line : (required : Policy) (response : PolicyList) (built : Built) → IsOwnAnswer required response built
    → first_line built.text ≡ word_of built.status
own_line required response built own =
    ap first_line own.text ∙ word_is own.compared.status own.compared.text ∙ ap word_of (sym own.status)

added_line : (required : Policy) (built : Built) → built ≡ added_output required → first_line built.text ≡ codes "added"
added_line required built is = ap (λ (b : Built). first_line b.text) is

pub added_where_allowed : (embedder : Origin) (required : Policy) (block : List ℕ) (response : PolicyList) (built : Built)
    → IsEmbedding embedder required block response built
    → (first_line built.text ≡ codes "added") ↔ AllowsBlanketEnforcement block embedder
added_where_allowed embedder required block response built (inl is) = (λ _. is.0, λ _. added_line required built is.1)
added_where_allowed embedder required block response built (inr is) = (
  λ h. absurd (not_added built.status (sym (own_line required response built is.1) ∙ h)),
  λ allows. absurd (is.0 allows),
)

pub clean_where_shown : (embedder : Origin) (required : Policy) (block : List ℕ) (response : PolicyList) (built : Built)
    → IsEmbedding embedder required block response built
    → (built.status ≡ Clean) ↔ (AllowsBlanketEnforcement block embedder ⊎ Subsumes response (alone required))
clean_where_shown embedder required block response built (inl is) =
    (λ _. inl is.0, λ _. ap (λ (b : Built). b.status) is.1)
clean_where_shown embedder required block response built (inr is) =
    let clean = clean_where_subsumed response (alone required) is.1.compared is.1.answer in (
      λ h. inr (clean.0 (sym is.1.status ∙ h)),
      λ shown. elim shown [ inl allows ↦ absurd (is.0 allows) | inr subsumes ↦ is.1.status ∙ clean.1 subsumes ],
    )

pub one_status : (embedder : Origin) (required : Policy) (block : List ℕ) (response : PolicyList) (one other : Built)
    → IsEmbedding embedder required block response one → IsEmbedding embedder required block response other
    → one.status ≡ other.status
one_status embedder required block response one other (inl is) (inl also) =
    ap (λ (b : Built). b.status) (is.1 ∙ sym also.1)
one_status embedder required block response one other (inl is) (inr also) = absurd (also.0 is.0)
one_status embedder required block response one other (inr is) (inl also) = absurd (is.0 also.0)
one_status embedder required block response one other (inr is) (inr also) =
    is.1.status
    ∙ same_status response (alone required) is.1.compared also.1.compared is.1.answer also.1.answer
    ∙ sym also.1.status

pub one_word : (embedder : Origin) (required : Policy) (block : List ℕ) (response : PolicyList) (one other : Built)
    → IsEmbedding embedder required block response one → IsEmbedding embedder required block response other
    → first_line one.text ≡ first_line other.text
one_word embedder required block response one other (inl is) (inl also) =
    added_line required one is.1 ∙ sym (added_line required other also.1)
one_word embedder required block response one other (inl is) (inr also) = absurd (also.0 is.0)
one_word embedder required block response one other (inr is) (inl also) = absurd (is.0 also.0)
one_word embedder required block response one other (inr is) (inr also) =
    own_line required response one is.1
    ∙ ap word_of (one_status embedder required block response one other (inr is) (inr also))
    ∙ sym (own_line required response other also.1)

-- Where a decision upholds what is required, so does an answer that shows the response.
pub upheld : ((allowed : Bool) (required : Policy) (response : PolicyList) (decision : Decision)
    → required.disposition ≡ Enforce → IsDecision allowed required response decision
    → IfSome (enforced_list response decision) (λ list. Upholds list required))
    → (embedder : Origin) (required : Policy) (block : List ℕ) (response list : PolicyList) (built : Built)
    → required.disposition ≡ Enforce → IsEmbedding embedder required block response built → built.status ≡ Clean
    → IsEnforcedList embedder required block response list → Upholds list required
upheld law embedder required block response list built enforced is clean (inl now) =
    subst (λ (l : PolicyList). Upholds l required) (sym now.1)
    (law true required response (Added (with_added response required)) enforced refl)
upheld law embedder required block response list built enforced (inl is) clean (inr now) = absurd (now.0 is.0)
upheld law embedder required block response list built enforced (inr is) clean (inr now) =
    let shown = inclusion is.1.compared.status response (alone required) is.1.compared.text
    (sym is.1.status ∙ clean) is.1.answer in
    subst (λ (l : PolicyList). Upholds l required) (sym now.1)
    (law false required response (Served shown.proof) enforced (shown.printed, shown.subsumes))
