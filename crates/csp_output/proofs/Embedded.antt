-- What `embed` prints of a decision.
use Rattle.std.proofs.Common.{◌≡◌, ◌↔◌, ap, refl, inl, inr, ℕ, Bool, true, false, IsTrue, List, ◌++◌, codes, Result, Ok, Err, IfOk}
use Rattle.std.proofs.lemmas.Bool.{false≢true}
use Rattle.csp_model.specs.declared.check.Check.{Check}
use Rattle.csp_model.specs.declared.policy.Policy.{Policy}
use Rattle.csp_model.specs.declared.policy.PolicyList.{PolicyList}
use Rattle.csp_model.specs.declared.url.Origin.{Origin}
use Rattle.csp_embed.specs.AllowFrom.{AllowsBlanketEnforcement}
use Rattle.csp_embed.specs.Decisions.{IsDecision, alone}
use Rattle.csp_embed.specs.declared.decision.Decision.TheVariants.{Added, Served, Refused}
use Rattle.csp_proof.specs.Texts.{IsTextOf}
use Rattle.csp_proof.specs.WellFormed.{IsWellFormed}
use Rattle.csp_proof.specs.declared.proof.Proof.{Proof}
use Rattle.csp_request.specs.Requests.{check_of}
use Rattle.csp_output.specs.Comparisons.{description_of, difference_text}
use Rattle.csp_output.specs.Embeddings.{IsEmbedding, added_output}
use Rattle.csp_output.specs.declared.built.Built.{Built}
use Rattle.csp_output.specs.declared.status.Status.TheVariants as status

pub ok_map : {T E : Type 0} {P Q : T → Type 0} (r : Result T E) → ((x : T) → P x → Q x) → IfOk r P → IfOk r Q
ok_map (Ok x) f h = f x h
ok_map (Err e) f h = h

pub added_is : (allowed : Bool) (embedder : Origin) (required : Policy) (block : List ℕ) (response list : PolicyList)
    → (IsTrue allowed ↔ AllowsBlanketEnforcement block embedder) → IsDecision allowed required response (Added list)
    → (built : Built) → built ≡ added_output required → IsEmbedding embedder required block response built
added_is true embedder required block response list same decision built is = inl (same.0 refl, is)
added_is false embedder required block response list same decision built is = absurd decision

pub served_is : (allowed : Bool) (embedder : Origin) (required : Policy) (block : List ℕ) (response : PolicyList) (proof : Proof) (rest : List ℕ)
    → (IsTrue allowed ↔ AllowsBlanketEnforcement block embedder) → IsDecision allowed required response (Served proof)
    → (IsWellFormed proof → IsTextOf proof rest)
    → (built : Built) → built ≡ record { status = status.Clean; text = codes "served\n" ++ rest }
    → IsEmbedding embedder required block response built
served_is true embedder required block response proof rest same decision spelled built is = absurd decision
served_is false embedder required block response proof rest same decision spelled built is =
    inr (
      λ allows. absurd (false≢true (same.1 allows)),
      record {
        compared = record { status = status.Clean; text = rest };
        answer = record { subsumes = decision.1; proof = proof; spelled = spelled decision.0.formed; printed = decision.0 };
        status = ap (λ (b : Built). b.status) is;
        text = ap (λ (b : Built). b.text) is;
      },
    )

pub refused_is : (allowed : Bool) (embedder : Origin) (required : Policy) (block : List ℕ) (response : PolicyList) (asked : Check) (rest : List ℕ)
    → (IsTrue allowed ↔ AllowsBlanketEnforcement block embedder) → IsDecision allowed required response (Refused asked)
    → check_of (description_of asked) ≡ Ok asked → rest ≡ difference_text (alone required) asked
    → (built : Built) → built ≡ record { status = status.Found; text = codes "refused\n" ++ rest }
    → IsEmbedding embedder required block response built
refused_is true embedder required block response asked rest same decision back spelled built is = absurd decision
refused_is false embedder required block response asked rest same decision back spelled built is =
    inr (
      λ allows. absurd (false≢true (same.1 allows)),
      record {
        compared = record { status = status.Found; text = rest };
        answer = record { asked = asked; differs = decision; read_back = back; spelled = spelled };
        status = ap (λ (b : Built). b.status) is;
        text = ap (λ (b : Built). b.text) is;
      },
    )
