-- Policy files that are read one after the other.
use Rattle.std.proofs.Common.{◌≡◌, ◌∙◌, ◌+◌, ◌<◌, ◌≤◌, ℕ, List, [], ◌∷◌, ◌++◌, length, take, drop, get_or, Ok, Err, ap, sym, subst, arith}
use Rattle.std.proofs.Common.{length-append, take-append-drop}
use Rattle.std.proofs.lemmas.List.{length-take-le, map_push, take_all, take_more}
use Rattle.csp_io.specs.declared.inputs.Inputs.{Ghosts}
use Rattle.csp_model.specs.declared.policy.PolicyList.{PolicyList}
use Rattle.csp_model.specs.declared.url.Origin.{Origin}
use Rattle.csp_run.specs.Contents as content
use Rattle.csp_run.specs.Contents.{Content}
use Rattle.csp_run.specs.Shown.{Reads, file_as, policies_of}
use Rattle.csp_run.specs.Words.{File, files_from}
use Rattle.csp_run.specs.declared.fault.Fault.{Fault}
use Rattle.csp_run.specs.declared.fault.Fault.TheVariants as fault
use Rattle.csp_run.specs.declared.fault.Role.TheVariants as role
use Rattle.csp_run.proofs.Reading.{then_reads, then_stops, then_wants}

files_then : (n : ℕ) (first rest : List (List ℕ))
    → files_from n (first ++ rest) ≡ files_from n first ++ files_from (length first + n) rest
files_then n [] rest =
    ap (λ (k : ℕ). files_from k rest) (let e : n ≡ length {A = List ℕ} [] + n = omega arith in e)
files_then n (name ∷ first) rest =
    ap (λ (files : List File). file_as (role.List n) name ∷ files) (files_then (n + 1) first rest)
    ∙ ap (λ (k : ℕ). files_from n (name ∷ first) ++ files_from k rest)
    (let e : length first + (n + 1) ≡ length (name ∷ first) + n = omega arith in e)

abbrev one_at : ℕ → List ℕ → List File
one_at place name = file_as (role.List (place + 1)) name ∷ []

-- the files up to the next
files_more : (names : List (List ℕ)) (place : ℕ) (name : List ℕ) → place < length names
    → name ≡ get_or names place name
    → files_from 1 (take (place + 1) names) ≡ files_from 1 (take place names) ++ one_at place name
files_more names place name below is =
    let size : length (take place names) ≡ place = length-take-le place names (omega (arith, below)) in
    ap (files_from 1) (take_more names place name below)
    ∙ files_then 1 (take place names) (get_or names place name ∷ [])
    ∙ ap (λ (k : ℕ). files_from 1 (take place names) ++ files_from (k + 1) (get_or names place name ∷ [])) size
    ∙ ap (λ (l : List ℕ). files_from 1 (take place names) ++ one_at place l) (sym is)

-- all files are those and the others
files_all : (names : List (List ℕ)) (place : ℕ)
    → files_from 1 (take place names) ++ files_from (length (take place names) + 1) (drop place names)
    ≡ files_from 1 names
files_all names place =
    sym (files_then 1 (take place names) (drop place names)) ∙ ap (files_from 1) (take-append-drop place names)

-- one more list is read
pub one_more : (S : Type 0) (inputs : Ghosts S) (old mid now : S) (o : Origin) (names : List (List ℕ)) (place : ℕ)
    (name : List ℕ) (lists new : List PolicyList) (list : PolicyList) → place < length names
    → name ≡ get_or names place name → new ≡ lists ++ list ∷ []
    → Reads S inputs old mid o (files_from 1 (take place names)) (Ok (policies_of lists))
    → Reads S inputs mid now o (one_at place name) (Ok (content.Policies list ∷ []))
    → Reads S inputs old now o (files_from 1 (take (place + 1) names)) (Ok (policies_of new))
one_more S inputs old mid now o names place name lists new list below is more done next =
    let both = then_reads S inputs old mid now o (files_from 1 (take place names)) (one_at place name)
    (policies_of lists) (Ok (content.Policies list ∷ [])) done next in
    let P : List File → Type 0 =
    λ files. Reads S inputs old now o files (Ok (policies_of lists ++ content.Policies list ∷ [])) in
    let Q : List Content → Type 0 =
    λ cs. Reads S inputs old now o (files_from 1 (take (place + 1) names)) (Ok cs) in
    subst Q (sym (map_push (λ l. content.Policies l) lists list) ∙ ap policies_of (sym more))
    (subst P (sym (files_more names place name below is)) both)

-- or is the first with a fault
pub one_fails : (S : Type 0) (inputs : Ghosts S) (old mid now : S) (o : Origin) (names : List (List ℕ)) (place : ℕ)
    (name : List ℕ) (lists : List PolicyList) (f : Fault) → place < length names → name ≡ get_or names place name
    → Reads S inputs old mid o (files_from 1 (take place names)) (Ok (policies_of lists))
    → Reads S inputs mid now o (one_at place name) (Err f) → Reads S inputs old now o (files_from 1 names) (Err f)
one_fails S inputs old mid now o names place name lists f below is done next =
    let both = then_reads S inputs old mid now o (files_from 1 (take place names)) (one_at place name)
    (policies_of lists) (Err f) done next in
    let P : List File → Type 0 = λ files. Reads S inputs old now o files (Err f) in
    subst P (files_all names (place + 1))
    (then_stops S inputs old now o (files_from 1 (take (place + 1) names)) _ f
    (subst P (sym (files_more names place name below is)) both))

-- or there is no memory for it
pub one_wants : (S : Type 0) (inputs : Ghosts S) (old now : S) (o : Origin) (names : List (List ℕ)) (place : ℕ)
    (lists : List PolicyList) → Reads S inputs old now o (files_from 1 (take place names)) (Ok (policies_of lists))
    → Reads S inputs old now o (files_from 1 names) (Err fault.Memory)
one_wants S inputs old now o names place lists done =
    let P : List File → Type 0 = λ files. Reads S inputs old now o files (Err fault.Memory) in
    subst P (files_all names place)
    (then_wants S inputs old now o (files_from 1 (take place names)) _ (policies_of lists) done)

pub all_read : (S : Type 0) (inputs : Ghosts S) (old now : S) (o : Origin) (names : List (List ℕ)) (place : ℕ)
    (lists : List PolicyList) → length names ≤ place
    → Reads S inputs old now o (files_from 1 (take place names)) (Ok (policies_of lists))
    → Reads S inputs old now o (files_from 1 names) (Ok (policies_of lists))
all_read S inputs old now o names place lists past done =
    let P : List (List ℕ) → Type 0 = λ l. Reads S inputs old now o (files_from 1 l) (Ok (policies_of lists)) in
    subst P (take_all place names past) done

pub length_more : (lists new : List PolicyList) (list : PolicyList) (place : ℕ) → new ≡ lists ++ list ∷ []
    → length lists ≡ place → length new ≡ place + 1
length_more lists new list place more many =
    ap (λ (l : List PolicyList). length l) more ∙ length-append lists (list ∷ []) ∙ ap (λ (n : ℕ). n + 1) many
