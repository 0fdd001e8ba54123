-- An output of `differ` ends as one of `compare`.
use Rattle.std.proofs.Common.{◌≡◌, ◌∙◌, ◌↔◌, sym, ap, refl, ℕ, eqb, Bool, true, false, List, [], ◌∷◌, ◌++◌, append_assoc, get_or}
use Rattle.std.specs.Prelude.{codes}
use Rattle.std.specs.List.{flat_map}
use Rattle.csp_compare.specs.Differences.{AreDifferences}
use Rattle.csp_compare.specs.declared.differences.Difference.{Difference}
use Rattle.csp_model.specs.Inclusion.{Subsumes}
use Rattle.csp_model.specs.Names.{name_text}
use Rattle.csp_model.specs.declared.name.Name.{Name}
use Rattle.csp_model.specs.declared.name.Name.TheVariants.{ConnectSrc, FontSrc, FrameSrc, ImgSrc, ManifestSrc, MediaSrc, ObjectSrc, StyleSrcElem, ScriptSrcElem, WorkerSrc, ScriptSrcAttr, StyleSrcAttr, ScriptSrc, StyleSrc, ChildSrc, DefaultSrc, BaseUri, FormAction, FrameAncestors, Sandbox}
use Rattle.csp_model.specs.declared.policy.PolicyList.{PolicyList}
use Rattle.csp_output.specs.Comparisons.{IsComparison, shown_text}
use Rattle.csp_output.specs.declared.built.Built.{Built}
use Rattle.csp_output.specs.declared.status.Status.{Status}
use Rattle.csp_output.specs.declared.status.Status.TheVariants.{Clean, Found}
use Rattle.csp_output.specs.Differing.{IsDiffering, entry_text, output_of}

-- what the laws below say
abbrev pub NoneIsInclusion : Type 0
NoneIsInclusion = (first second : PolicyList) (entries : List Difference) → AreDifferences first second entries
    → (entries ≡ []) ↔ Subsumes first second

abbrev pub CleanIsInclusion : Type 0
CleanIsInclusion = (first second : PolicyList) (built : Built) → IsComparison first second built
    → (built.status ≡ Clean) ↔ Subsumes first second

abbrev pub FoundIsNone : Type 0
FoundIsNone = (first second : PolicyList) (built : Built) → IsComparison first second built
    → (built.status ≡ Found) ↔ (Subsumes first second → ⊥)

status_tells : (second : PolicyList) (entries : List Difference) → (output_of second entries).status ≡ Clean → entries ≡ []
status_tells second [] clean = refl
status_tells second (entry ∷ entries) clean = cc clean

pub clean : NoneIsInclusion → (first second : PolicyList) (built : Built) → IsDiffering first second built → (built.status ≡ Clean) ↔ Subsumes first second
clean law first second built is =
    let none = law first second is.entries is.differences in (
      λ same. none.0 (status_tells second is.entries (sym (ap (λ (b : Built). b.status) is.printed) ∙ same)),
      λ all. ap (λ (b : Built). b.status) is.printed ∙ ap (λ (es : List Difference). (output_of second es).status) (none.1 all),
    )

-- no directive's name begins as `not weaker` does
abbrev begins : List ℕ → Bool
begins text = eqb (get_or text 0 0) 110

other_letter : (name : Name) (rest : List ℕ) → begins (name_text name ++ rest) ≡ false
other_letter ConnectSrc rest = refl
other_letter FontSrc rest = refl
other_letter FrameSrc rest = refl
other_letter ImgSrc rest = refl
other_letter ManifestSrc rest = refl
other_letter MediaSrc rest = refl
other_letter ObjectSrc rest = refl
other_letter StyleSrcElem rest = refl
other_letter ScriptSrcElem rest = refl
other_letter WorkerSrc rest = refl
other_letter ScriptSrcAttr rest = refl
other_letter StyleSrcAttr rest = refl
other_letter ScriptSrc rest = refl
other_letter StyleSrc rest = refl
other_letter ChildSrc rest = refl
other_letter DefaultSrc rest = refl
other_letter BaseUri rest = refl
other_letter FormAction rest = refl
other_letter FrameAncestors rest = refl
other_letter Sandbox rest = refl

text_tells : (second : PolicyList) (entries : List Difference) → (output_of second entries).text ≡ codes "not weaker\n" → entries ≡ []
text_tells second [] says = refl
text_tells second (entry ∷ entries) says =
    let behind = codes "\n" ++ shown_text second entry.check in
    let others = flat_map (entry_text second) entries in
    let first : begins (flat_map (entry_text second) (entry ∷ entries)) ≡ false =
    ap begins (append_assoc (name_text entry.directive) behind others) ∙ other_letter entry.directive (behind ++ others) in
    let own : begins (codes "not weaker\n") ≡ true = refl in
    absurd (cc (first, own, ap begins says))

pub said : NoneIsInclusion → (first second : PolicyList) (built : Built) → IsDiffering first second built → (built.text ≡ codes "not weaker\n") ↔ Subsumes first second
said law first second built is =
    let none = law first second is.entries is.differences in (
      λ same. none.0 (text_tells second is.entries (sym (ap (λ (b : Built). b.text) is.printed) ∙ same)),
      λ all. ap (λ (b : Built). b.text) is.printed ∙ ap (λ (es : List Difference). (output_of second es).text) (none.1 all),
    )

same_status : (second : PolicyList) (entries : List Difference) (status : Status) → (entries ≡ [] → status ≡ Clean) → ((entries ≡ [] → ⊥) → status ≡ Found)
    → (output_of second entries).status ≡ status
same_status second [] status clean found = sym (clean refl)
same_status second (entry ∷ entries) status clean found = sym (found (λ none. cc none))

pub same : NoneIsInclusion → CleanIsInclusion → FoundIsNone → (first second : PolicyList) (built compared : Built) → IsDiffering first second built
    → IsComparison first second compared → built.status ≡ compared.status
same law clean found first second built compared is also =
    let none = law first second is.entries is.differences in
    ap (λ (b : Built). b.status) is.printed
    ∙ same_status second is.entries compared.status (λ empty. (clean first second compared also).1 (none.0 empty))
    (λ some. (found first second compared also).1 (λ all. some (none.1 all)))
