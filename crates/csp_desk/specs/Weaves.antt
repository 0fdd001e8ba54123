-- Texts of which parts that come again stand once.
use Rattle.std.specs.Prelude.{ℕ, ◌<◌, ◌≤◌, List, [], ◌∷◌, ◌++◌, Option, Some, None, IfSome, get_or, slice_range}
use Rattle.csp_model.specs.Ascii.{code}
use Rattle.csp_model.specs.declared.name.Name.{Name}
use Rattle.csp_model.specs.declared.policy.Disposition.{Disposition}
use Rattle.csp_model.specs.declared.verdict.Violation.{Violation}
use Rattle.csp_desk.specs.Report.{report_ending}
use Rattle.csp_desk.specs.declared.weave.Strand.{Strand}

-- what the line of a violation says behind what is blocked
abbrev pub line_ending : Disposition → Name → List ℕ → List ℕ → List ℕ
line_ending disposition effective policy sample =
    report_ending disposition effective policy sample ++ code "\n" ∷ []

abbrev pub ending_of : Violation → List ℕ
ending_of v = line_ending v.disposition v.effective v.policy v.sample

-- the ending at a place, or nothing
abbrev pub ending_at : List (List ℕ) → Option ℕ → List ℕ
ending_at endings (Some place) = get_or endings place []
ending_at endings None = []

-- the text of a strand: a part of the own bytes, and behind it an ending
abbrev pub strand_text : List ℕ → List (List ℕ) → Strand → List ℕ
strand_text own endings s = slice_range own s.start s.end ++ ending_at endings s.ending

-- the strand lies in so many own bytes, and its ending among so many
pub record IsWithin (size count : ℕ) (s : Strand) : Type 0 where
  pub order : s.start ≤ s.end
  pub own : s.end ≤ size
  pub ending : IfSome s.ending (λ place. place < count)
