-- What reading a proof answers, where it ends.
use Rattle.std.proofs.Common.{arith, ◌≡◌, ◌∙◌, sym, ap, subst, refl, ℕ, ◌+◌, ◌==◌, List, [], ◌∷◌, ◌++◌, length, map, append_assoc, Result}
use Rattle.std.specs.Prelude.{IfOk, IfErr, None, Ok, Err}
use Rattle.std.proofs.lemmas.List.{map_push}
use Rattle.std.proofs.lemmas.List.Splits.{length-slice_split}
use Rattle.csp_model.specs.Ascii.{split_at}
use Rattle.csp_proof.specs.Places.{next, IsStuck, proof_at, place_lines, IsReached}
use Rattle.csp_proof.specs.Spelling.{line_text}
use Rattle.csp_proof.specs.Texts.{IsTextOf, IsRefused, IsRefusal}
use Rattle.csp_proof.specs.declared.error.ProofError.{ProofError}
use Rattle.csp_proof.specs.declared.error.ProofError.TheVariants.{BadProof, Memory}
use Rattle.csp_proof.specs.declared.line.ProofLine.{ProofLine}
use Rattle.csp_proof.specs.declared.progress.Progress.{Progress}
use Rattle.csp_proof.specs.declared.progress.Progress.TheVariants.{Start, Between, Within, Done}
use Rattle.csp_proof.specs.declared.proof.Proof.{Proof}
use Rattle.csp_proof.proofs.Refused.{bad_line, ends_early, whole_text, one_proof}
use Rattle.csp_model.specs.Answers.{Gives}

-- the lines that lead to a place, and what is left, are the text
abbrev IsSoFar : List ℕ → Progress → List ℕ → Type 0
IsSoFar text place rest = split_at 10 text ≡ map line_text (place_lines place) ++ split_at 10 rest

stuck_there : (text : List ℕ) (place : Progress) (number : ℕ) (part : List ℕ) (back : List (List ℕ)) (e : ProofError) → IsReached place → number ≡ length (place_lines place) + 1
    → split_at 10 text ≡ map line_text (place_lines place) ++ part ∷ back → IsStuck number place part e → (back ≡ [] → ⊥) → IsRefusal text e
stuck_there text place number part back Memory reached counted parts stuck some = tt
stuck_there text place number part [] (BadProof there) reached counted parts stuck some = absurd (some refl)
stuck_there text place number part (next_part ∷ back) (BadProof there) reached counted parts stuck some =
    subst (IsRefused text) (sym counted ∙ sym stuck.0)
    (bad_line text place part next_part back reached parts (λ l valid same. subst (λ (n : ℕ). next n place l ≡ None) counted (stuck.1 l valid same)))

some_parts : (text : List ℕ) → split_at 10 text ≡ [] → ⊥
some_parts text none = let e = ap length none in omega (arith, e, length-slice_split (λ (c : ℕ). c == 10) text)

pub stuck_refused : (text rest part behind : List ℕ) (place : Progress) (number : ℕ) (e : ProofError) → IsReached place → number ≡ length (place_lines place) + 1
    → IsSoFar text place rest → split_at 10 rest ≡ part ∷ split_at 10 behind → IsStuck number place part e → IsRefusal text e
stuck_refused text rest part behind place number e reached counted so_far first stuck =
    stuck_there text place number part (split_at 10 behind) e reached counted (so_far ∙ ap (λ (parts : List (List ℕ)). map line_text (place_lines place) ++ parts) first) stuck (some_parts behind)

-- one line more
pub so_far_more : (text rest part behind : List ℕ) (place after : Progress) (l : ProofLine) → IsSoFar text place rest → split_at 10 rest ≡ part ∷ split_at 10 behind → part ≡ line_text l
    → place_lines after ≡ place_lines place ++ l ∷ [] → IsSoFar text after behind
so_far_more text rest part behind place after l so_far first same more =
    let front = map line_text (place_lines place) in
    so_far ∙ ap (λ (parts : List (List ℕ)). front ++ parts) (first ∙ ap (λ (t : List ℕ). t ∷ split_at 10 behind) same)
    ∙ sym (append_assoc front (line_text l ∷ []) (split_at 10 behind))
    ∙ ap (λ (parts : List (List ℕ)). parts ++ split_at 10 behind) (sym (ap (map line_text) more ∙ map_push line_text (place_lines place) l))

pub proof_ended : (text rest : List ℕ) (place : Progress) (number : ℕ) (result : Result Proof ProofError) → IsReached place → IsSoFar text place rest → split_at 10 rest ≡ rest ∷ []
    → result ≡ proof_at place rest number → IfOk result (λ proof. IsTextOf proof text)
proof_ended text rest place number result reached so_far last is = subst (λ (r : Result Proof ProofError). IfOk r (λ proof. IsTextOf proof text)) (sym is) (by place rest reached (so_far ∙ ap (λ (parts : List (List ℕ)). map line_text (place_lines place) ++ parts) last)) where
  by : (place : Progress) (rest : List ℕ) → IsReached place → split_at 10 text ≡ map line_text (place_lines place) ++ rest ∷ [] → IfOk (proof_at place rest number) (λ proof. IsTextOf proof text)
  by (Done proof) [] reached parts = whole_text text proof reached.valid parts
  by place rest reached parts = tt

pub bad_ended : (text rest : List ℕ) (place : Progress) (number : ℕ) (result : Result Proof ProofError) → IsReached place → number ≡ length (place_lines place) + 1 → IsSoFar text place rest
    → split_at 10 rest ≡ rest ∷ [] → result ≡ proof_at place rest number → IfErr result (IsRefusal text)
bad_ended text rest place number result reached counted so_far last is = subst (λ (r : Result Proof ProofError). IfErr r (IsRefusal text)) (sym is) (by place rest reached counted (so_far ∙ ap (λ (parts : List (List ℕ)). map line_text (place_lines place) ++ parts) last)) where
  by : (place : Progress) (rest : List ℕ) → IsReached place → number ≡ length (place_lines place) + 1 → split_at 10 text ≡ map line_text (place_lines place) ++ rest ∷ [] → IfErr (proof_at place rest number) (IsRefusal text)
  by (Done proof) [] reached counted parts = tt
  by (Done proof) (b ∷ rest) reached counted parts = subst (IsRefused text) (sym counted) (ends_early text (Done proof) (b ∷ rest) reached parts (λ p same none. cc none))
  by Start rest reached counted parts = subst (IsRefused text) (sym counted) (ends_early text Start rest reached parts (λ p same none. cc same))
  by (Between format trees) rest reached counted parts = subst (IsRefused text) (sym counted) (ends_early text (Between format trees) rest reached parts (λ p same none. cc same))
  by (Within format trees opened nodes more) rest reached counted parts =
      subst (IsRefused text) (sym counted) (ends_early text (Within format trees opened nodes more) rest reached parts (λ p same none. cc same))

-- the text of a proof is read as that proof
pub only_proof : (text : List ℕ) (result : Result Proof ProofError) → IfOk result (λ proof. IsTextOf proof text) → IfErr result (IsRefusal text)
    → (proof : Proof) → IsTextOf proof text → Gives Memory result (Ok proof)
only_proof text (Ok read) is refused proof also = ap Ok (one_proof proof read text also is)
only_proof text (Err (BadProof line)) is refused proof also = λ other. absurd (refused.none proof also)
only_proof text (Err Memory) is refused proof also = λ other. absurd (other refl)
