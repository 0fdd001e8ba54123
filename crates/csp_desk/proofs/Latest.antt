-- The line of one violation more, and the lines of the last ones.
use Rattle.std.proofs.Common.{◌≡◌, ℕ, List, [], ◌∷◌, ◌++◌, refl, ◌∙◌, ap, append-nil}
use Rattle.std.specs.List.{flat_map}
use Rattle.std.proofs.lemmas.List.Concat.{flat_map-append}
use Rattle.csp_model.specs.declared.verdict.Violation.{Violation}
use Rattle.csp_desk.specs.Recent.{IsLatest}
use Rattle.csp_desk.specs.Texts.{report_line, lines_text, earlier_line, recent_text}

pub lines_text-then : (held : List Violation) (v : Violation)
    → lines_text (held ++ v ∷ []) ≡ lines_text held ++ report_line v
unfolding lines_text
lines_text-then held v =
    flat_map-append report_line held (v ∷ [])
    ∙ ap (λ l. flat_map report_line held ++ l) (append-nil (report_line v))

pub recent_text-latest : (limit : ℕ) (held : List Violation) (earlier : ℕ) (latest : List Violation)
    → IsLatest limit held earlier latest → earlier_line earlier ++ lines_text latest ≡ recent_text limit held
unfolding recent_text
recent_text-latest limit held earlier latest is = rw (is.last, is.number) refl
