-- The member of a name among members that grow at their end.
use Rattle.std.proofs.Common.{◌≡◌, ◌∙◌, ℕ, List, [], ◌∷◌, ◌++◌, true, false, true≢false, Some, sym, ap}
use Rattle.std.proofs.lemmas.Slice.Eq.{bytes_eq-Decides}
use Rattle.std.specs.Borrow.{Bor}
use Rattle.std.specs.Str.{bytes_eq}
use Rattle.serde_json.specs.Data.{no_members, put}
use Rattle.serde_json.specs.Find.{get_member}
use Rattle.serde_json.proofs.Views.{get_member-put, get_member-put_other}
use Rattle.csp_json.specs.View.{view, members_view}
use Rattle.csp_json.specs.Types.{Value}
use Rattle.csp_json.proofs.Reading.{members_push}

-- the last one has it
pub named_last : (name : List ℕ) (ms : List (Bor (List ℕ) × Value)) (m : Bor (List ℕ) × Value)
    → bytes_eq m.0.now name ≡ true
    → get_member name (members_view (ms ++ m ∷ []) no_members) ≡ Some (view m.1)
named_last name ms m same =
    let is : m.0.now ≡ name = (bytes_eq-Decides m.0.now name).0 same in
    let put_there = put m.0.now (view m.1) (members_view ms no_members) in
    ap (get_member name) (members_push ms m no_members)
    ∙ ap (λ (k : List ℕ). get_member k put_there) (sym is)
    ∙ get_member-put m.0.now (view m.1) (members_view ms no_members)

-- the last one has another
pub other_last : (name : List ℕ) (ms : List (Bor (List ℕ) × Value)) (m : Bor (List ℕ) × Value)
    → bytes_eq m.0.now name ≡ false
    → get_member name (members_view (ms ++ m ∷ []) no_members) ≡ get_member name (members_view ms no_members)
other_last name ms m other =
    ap (get_member name) (members_push ms m no_members)
    ∙ get_member-put_other name m.0.now (view m.1) (members_view ms no_members)
    (λ is. true≢false (sym ((bytes_eq-Decides m.0.now name).1 (sym is)) ∙ other))
