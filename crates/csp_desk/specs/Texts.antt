-- What reporters tell of the violations that they hold, and what a desk of reporters tells.
use Rattle.std.specs.Prelude.{ℕ, ◌-◌, ◌==◌, Bool, if◌then◌else◌, List, [], ◌∷◌, ◌++◌, length, map, drop, codes, decimal, slice_index}
use Rattle.std.specs.List.{flat_map, count_by, zip}
use Rattle.csp_model.specs.Ascii.{code}
use Rattle.csp_model.specs.Names.{name_text}
use Rattle.csp_model.specs.declared.name.Name.{Name}
use Rattle.csp_model.specs.declared.verdict.Violation.{Violation}
use Rattle.csp_desk.specs.Report.{report_bytes}
use Rattle.csp_desk.specs.NameOrder.{names_in_order, place_of, same_name}
use Rattle.csp_desk.specs.declared.reporter.Kind.{Kind}
use Rattle.csp_desk.specs.declared.reporter.Kind.TheVariants.{Lines, Tally, Recent}

-- a report on a line of its own
abbrev pub report_line : Violation → List ℕ
report_line v = report_bytes v ++ code "\n" ∷ []

-- the reports, one a line
unfoldable pub lines_text : List Violation → List ℕ
lines_text held = flat_map report_line held

-- the violation is one of this effective directive
abbrev pub is_of : Name → Violation → Bool
is_of name v = same_name v.effective name

-- as "script-src-elem 2", where the directive occurs
abbrev pub count_line : Name → ℕ → List ℕ
count_line name count =
    if count == 0 then [] else name_text name ++ (code " " ∷ (decimal count ++ code "\n" ∷ []))

abbrev pub tally_line : List Violation → Name → List ℕ
tally_line held name = count_line name (count_by (is_of name) held)

-- how many violations there are of each name, in the order of the names
abbrev pub counts_of : List Violation → List ℕ
counts_of held = map (λ name. count_by (is_of name) held) names_in_order

-- the line of a name by such counts
abbrev pub line_at : List ℕ → Name → List ℕ
line_at counts name = count_line name (slice_index counts (place_of name))

-- how many violations of each directive there are
unfoldable pub tally_text : List Violation → List ℕ
tally_text held = flat_map (tally_line held) names_in_order

-- as "earlier 2", where violations stand before the last ones
abbrev pub earlier_line : ℕ → List ℕ
earlier_line count = if count == 0 then [] else codes "earlier " ++ (decimal count ++ code "\n" ∷ [])

-- the last reports, so many at most, behind the number of those before them
unfoldable pub recent_text : ℕ → List Violation → List ℕ
recent_text limit held =
    let earlier = length held - limit in earlier_line earlier ++ lines_text (drop earlier held)

-- what a reporter of a kind tells of what it holds
abbrev pub report_text : Kind → List Violation → List ℕ
report_text Lines held = lines_text held
report_text Tally held = tally_text held
report_text (Recent limit) held = recent_text limit held

abbrev pub heading : Kind → List ℕ
heading Lines = codes "reporter lines\n"
heading Tally = codes "reporter tally\n"
heading (Recent limit) = codes "reporter recent\n"

-- what a reporter tells, behind its heading
abbrev pub section : Kind → List Violation → List ℕ
section kind held = heading kind ++ report_text kind held

-- what reporters of these kinds tell, which hold these violations
abbrev pub desk_text : List Kind → List (List Violation) → List ℕ
desk_text kinds helds =
    flat_map (λ (reporter : Kind × List Violation). section reporter.0 reporter.1) (zip kinds helds)
