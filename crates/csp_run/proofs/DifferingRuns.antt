-- A run of `differ` names each directive under which the lists differ.
use Rattle.std.proofs.Common.{◌≡◌, ◌≢◌, ◌↔◌, ◌∙◌, sym, subst, ℕ, List, [], ◌∷◌, Result, Ok, Err}
use Rattle.std.specs.Prelude.{Contains}
use Rattle.csp_compare.specs.Differences.{AreDifferences, DiffersAmong, directives_of}
use Rattle.csp_compare.specs.declared.differences.Difference.{Difference}
use Rattle.csp_output.specs.Differing.{IsDiffering}
use Rattle.csp_model.specs.Inclusion.{Subsumes}
use Rattle.csp_model.specs.declared.check.Check.{Check}
use Rattle.csp_model.specs.declared.name.Name.{Name}
use Rattle.csp_model.specs.declared.policy.PolicyList.{PolicyList}
use Rattle.csp_output.specs.declared.built.Built.{Built}
use Rattle.csp_output.specs.declared.status.Status.{Status}
use Rattle.csp_output.specs.declared.status.Status.TheVariants.{Clean, NoMemory}
use Rattle.csp_run.specs.Commands.{AsksFor, NamesDirectives, Wrote}
use Rattle.csp_desk.specs.Desk.{Desk}
use Rattle.csp_run.specs.Due.{End, end_status, end_text}
use Rattle.csp_run.specs.Files.{World}
use Rattle.csp_run.specs.Laws.{AreLists}
use Rattle.csp_run.specs.Outputs.{EndsSo, IsBuilt, IsOutput}
use Rattle.csp_run.specs.Words.{Plan}
use Rattle.csp_run.specs.declared.fault.FileFault.{FileFault}
use Rattle.csp_run.specs.Contents.{Content}
use Rattle.csp_run.specs.Forms.{Differ}
use Rattle.csp_run.proofs.Commands.{written_output}
use Rattle.csp_run.proofs.Ends.{fault_ends}

abbrev pub NamesEach : Type 0
NamesEach = (first second : PolicyList) (differences : List Difference) (directive : Name)
    → AreDifferences first second differences → Contains (directives_of differences) directive
    ↔ ((asked : Check) × DiffersAmong (directive ∷ []) first second asked)

abbrev pub CleanWhereIncluded : Type 0
CleanWhereIncluded = (first second : PolicyList) (built : Built) → IsDiffering first second built
    → (built.status ≡ Clean) ↔ Subsumes first second

-- the output on two lists that were read
differing : (w : World) (desk : Desk) (words : List (List ℕ)) (plan : Plan) (status : Status) (text : List ℕ)
    (first second : PolicyList) → AsksFor words Differ plan → (wrote : Wrote w desk words status text)
    → status ≢ NoMemory → AreLists w plan first second → EndsSo (IsBuilt (IsDiffering first second)) wrote.end
differing w desk words plan status text first second asks wrote other read =
    let P : Result (List Content) FileFault → Type 0 = λ found. IsOutput Differ plan.origin found desk wrote.end in
    (subst P read (written_output w desk words plan status text Differ asks wrote other)).0

named_on : NamesEach → (first second : PolicyList) (end : End) → EndsSo (IsBuilt (IsDiffering first second)) end
    → NamesDirectives first second (end_status end) (end_text end)
named_on law first second (Ok built) is = record {
  entries = is.entries;
  differences = is.differences;
  printed = is.printed;
  named = λ directive. law first second is.entries directive is.differences;
}
named_on law first second (Err f) is = absurd (fault_ends (IsDiffering first second) f is)

clean_on : CleanWhereIncluded → (first second : PolicyList) (end : End) → EndsSo (IsBuilt (IsDiffering first second)) end
    → (end_status end ≡ Clean) ↔ Subsumes first second
clean_on law first second (Ok built) is = law first second built is
clean_on law first second (Err f) is = absurd (fault_ends (IsDiffering first second) f is)

pub named_so : NamesEach → (w : World) (desk : Desk) (words : List (List ℕ)) (plan : Plan) (status : Status)
    (text : List ℕ) (first second : PolicyList) → AsksFor words Differ plan → Wrote w desk words status text
    → status ≢ NoMemory → AreLists w plan first second → NamesDirectives first second status text
named_so law w desk words plan status text first second asks wrote other read =
    subst (λ (s : Status). NamesDirectives first second s text) (sym wrote.status_is)
    (subst (NamesDirectives first second (end_status wrote.end)) (sym wrote.text_is)
    (named_on law first second wrote.end
    (differing w desk words plan status text first second asks wrote other read)))

pub clean_so : CleanWhereIncluded → (w : World) (desk : Desk) (words : List (List ℕ)) (plan : Plan) (status : Status)
    (text : List ℕ) (first second : PolicyList) → AsksFor words Differ plan → Wrote w desk words status text
    → status ≢ NoMemory → AreLists w plan first second → (status ≡ Clean) ↔ Subsumes first second
clean_so law w desk words plan status text first second asks wrote other read =
    let exact = clean_on law first second wrote.end
    (differing w desk words plan status text first second asks wrote other read) in
    (λ clean. exact.0 (sym wrote.status_is ∙ clean), λ all. wrote.status_is ∙ exact.1 all)
