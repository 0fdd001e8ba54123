-- Which proof a text is, and which line of a text is the first that can't stand in a proof's text.
use Rattle.std.specs.Prelude.{◌≡◌, ℕ, ◌-◌, ◌≤◌, List, length, map, take, ⊤}
use Rattle.csp_model.specs.Ascii.{code, split_at, without_last}
use Rattle.csp_proof.specs.Spelling.{line_text, proof_lines, proof_text}
use Rattle.csp_proof.specs.WellFormed.{IsWellFormed}
use Rattle.csp_proof.specs.declared.error.ProofError.{ProofError}
use Rattle.csp_proof.specs.declared.error.ProofError.TheVariants.{BadProof, Memory}
use Rattle.csp_proof.specs.declared.proof.Proof.{Proof}

-- the text is this proof's
pub record IsTextOf (proof : Proof) (text : List ℕ) : Type 0 where
  pub formed : IsWellFormed proof
  pub spelled : text ≡ proof_text proof

-- the lines of a text that a line feed ends
abbrev pub whole_lines : List ℕ → List (List ℕ)
whole_lines text = without_last (split_at (code "\n") text)

-- the first lines of the text, so many and each ended by a line feed, are those of some proof
abbrev pub CanStand : List ℕ → ℕ → Type 0
CanStand text count =
    (count ≤ length (whole_lines text))
    × (proof : Proof) × IsWellFormed proof
    × (take count (whole_lines text) ≡ take count (map line_text (proof_lines proof)))

-- the first line that can't stand, counted from 1. A last line without its line feed can't, nor can the line
-- behind the last where the text ends early.
pub record IsFirstBad (text : List ℕ) (line : ℕ) : Type 0 where
  pub before : CanStand text (line - 1)
  pub there : ¬ CanStand text line

-- the text is no proof's, and this line is the first that can't stand
pub record IsRefused (text : List ℕ) (line : ℕ) : Type 0 where
  pub none : (proof : Proof) → ¬ IsTextOf proof text
  pub first : IsFirstBad text line

-- what an error says of the text; want of memory says nothing
abbrev pub IsRefusal : List ℕ → ProofError → Type 0
IsRefusal text (BadProof line) = IsRefused text line
IsRefusal text Memory = ⊤
