-- What reporters print of violations.
use Rattle.std.proofs.Common.{◌≡◌, ℕ, List, [], ◌∷◌, ◌++◌, refl}
use Rattle.std.specs.Prelude.{codes}
use Rattle.csp_examples.proofs.OnLiterals.{reports_on_literals}
use Rattle.csp_examples.proofs.Violations.{violation}
use Rattle.csp_model.specs.declared.name.Name.{Name}
use Rattle.csp_model.specs.declared.name.Name.TheVariants.{ImgSrc, WorkerSrc}
use Rattle.csp_model.specs.declared.policy.Disposition.TheVariants.{Report}
use Rattle.csp_model.specs.declared.verdict.Violation.{Violation}
use Rattle.csp_desk.specs.Report.{report_bytes}
use Rattle.csp_desk.specs.Texts.{desk_text, report_text}
use Rattle.csp_desk.specs.declared.reporter.Kind.TheVariants.{Lines, Tally, Recent}

abbrev blocked_script : Violation
blocked_script = violation (codes "https://b.example/s.js") [] (codes "default-src 'self'")

abbrev its_report : List ℕ
its_report =
    codes "{\"blocked-uri\":\"https://b.example/s.js\",\"disposition\":\"enforce\","
    ++ codes "\"effective-directive\":\"script-src-elem\",\"original-policy\":\"default-src 'self'\","
    ++ codes "\"script-sample\":\"\",\"violated-directive\":\"script-src-elem\"}\n"

pub a_desk_of_lines_and_a_tally :
    desk_text (Lines ∷ Tally ∷ []) ((blocked_script ∷ []) ∷ (blocked_script ∷ []) ∷ [])
    ≡ codes "reporter lines\n" ++ its_report ++ codes "reporter tally\nscript-src-elem 1\n"
unfolding reports_on_literals
a_desk_of_lines_and_a_tally = refl

-- an empty desk tells nothing, and reporters that hold nothing print their headings
pub an_empty_desk : desk_text [] [] ≡ []
an_empty_desk = refl

pub reporters_of_nothing :
    desk_text (Lines ∷ Tally ∷ []) ([] ∷ [] ∷ []) ≡ codes "reporter lines\nreporter tally\n"
unfolding reports_on_literals
reporters_of_nothing = refl

-- of two violations a reporter of the last one counts one, and one of none counts both
pub the_last_of_two :
    desk_text (Recent 1 ∷ []) ((blocked_script ∷ blocked_script ∷ []) ∷ [])
    ≡ codes "reporter recent\nearlier 1\n" ++ its_report
unfolding reports_on_literals
the_last_of_two = refl

pub none_of_two :
    desk_text (Recent 0 ∷ []) ((blocked_script ∷ blocked_script ∷ []) ∷ [])
    ≡ codes "reporter recent\nearlier 2\n"
unfolding reports_on_literals
none_of_two = refl

-- where there are fewer than the limit, nothing is counted
pub all_of_one : report_text (Recent 2) (blocked_script ∷ []) ≡ its_report
unfolding reports_on_literals
all_of_one = refl

abbrev of_name : Name → Violation
of_name name =
    record { disposition = Report; effective = name; blocked_uri = []; sample = []; policy = [] }

-- names stand in byte order, whatever came first
pub counts_in_order_of_names :
    report_text Tally (of_name WorkerSrc ∷ of_name ImgSrc ∷ of_name WorkerSrc ∷ [])
    ≡ codes "img-src 1\nworker-src 2\n"
unfolding reports_on_literals
counts_in_order_of_names = refl

-- a sample has its quotes and line feeds escaped
pub a_sample_is_escaped :
    report_bytes (violation (codes "inline") (codes "f(\"\\\n\")") (codes "script-src 'report-sample'"))
    ≡ codes "{\"blocked-uri\":\"inline\",\"disposition\":\"enforce\",\"effective-directive\":"
    ++ codes "\"script-src-elem\",\"original-policy\":\"script-src 'report-sample'\","
    ++ codes "\"script-sample\":\"f(\\\"\\\\\\n\\\")\",\"violated-directive\":\"script-src-elem\"}"
unfolding reports_on_literals
a_sample_is_escaped = refl
