-- Which entries match a URL: only those whose text begins that of its path, by their kinds.
use Rattle.std.proofs.Common.{◌≡◌, ◌≢◌, ℕ, ◌<◌, ◌≤◌, Bool, true, false, not, ◌&&◌, ◌==◌, List, [], ◌∷◌, ◌++◌, length, refl, sym, ◌∙◌, ap, append-nil, length-append, arith, inl, inr}
use Rattle.std.specs.Bool.{Decides}
use Rattle.std.proofs.lemmas.Bool.{cases_lt}
use Rattle.std.proofs.lemmas.Bool.Decides.{Decides-eqb, Decides-like, Decides-not, same_from_decides}
use Rattle.csp_model.specs.DecideMatching.{path_matches}
use Rattle.csp_model.specs.Paths.{front_text}
use Rattle.csp_model.proofs.EndLaws.{beyond_Decides}
use Rattle.csp_model.proofs.MatchingDecided.{pieces_decide}
use Rattle.csp_model.proofs.PathFronts.{IsRead, begun_from_text, beyond_by_text, further, further_text, longer_beyond, is_read}
use Rattle.csp_match.specs.Types.{HostedUrl, PathKind}
use Rattle.csp_match.specs.Entries.{Entry, entry_pieces, entry_text, front_fits, scheme_of, target_fits, way_fits, way_port, IsEntry}
use Rattle.csp_match.specs.Fronts.{Begins}
use Rattle.csp_match.specs.Keys.{path_of, IsPath, takes}
use Rattle.csp_match.proofs.AnyLaws.{second}

-- the pieces of a path that matches begin the URL's
begun : (k : PathKind) (pieces path : List (List ℕ)) → IsPath k pieces → path_matches (path_of k pieces) path ≡ true
    → (more : List (List ℕ)) × (path ≡ pieces ++ more)
begun PathKind.Absent pieces path shape h = (path, rw shape refl)
begun PathKind.Exact pieces path shape h = ([], sym ((pieces_decide pieces path).0 h) ∙ sym (append-nil pieces))
begun PathKind.Prefix pieces path shape h = let (more, some, e) = (beyond_Decides path pieces).0 h in (more, e)

-- so does its text
pub fitting_begins : (asked : HostedUrl) (e : Entry) → IsEntry e → target_fits asked e ≡ true → Begins (front_text asked.path.now) (entry_text e)
fitting_begins asked e shape fits =
    let pieces = entry_pieces e in
    let way = way_fits (scheme_of e.1.way) (way_port e.1.way) asked in
    let path = path_matches (path_of e.1.kind pieces) asked.path.now in
    let (more, is) = begun e.1.kind pieces asked.path.now shape.1 (second way path fits) in
    (further more, ap front_text is ∙ further_text pieces more ∙ ap (λ t. t ++ further more) (sym shape.2))

-- of pieces that begin a path, the path has no others where the texts are of one length
module _ (pieces path : List (List ℕ)) (begins : (more : List (List ℕ)) × (path ≡ pieces ++ more)) where
  no_longer : length (front_text pieces) ≤ length (front_text path)
  no_longer =
      let (more, e) = begins in
      omega (arith, ap (λ p. length (front_text p)) e, ap length (further_text pieces more), length-append (front_text pieces) (further more))

  ends_Decides : Decides (length (front_text pieces) == length (front_text path)) (pieces ≡ path)
  ends_Decides = Decides-like (length (front_text pieces) == length (front_text path))
      (λ (same : length (front_text pieces) ≡ length (front_text path)). by begins.0 begins.1 same)
      (λ (e : pieces ≡ path). ap (λ p. length (front_text p)) e)
      (Decides-eqb (length (front_text pieces)) (length (front_text path))) where
        by : (more : List (List ℕ)) → path ≡ pieces ++ more → length (front_text pieces) ≡ length (front_text path) → pieces ≡ path
        by [] e same = sym (e ∙ append-nil pieces)
        by (m ∷ more) e same =
            let longer : length (front_text pieces) < length (front_text path) = longer_beyond path pieces (m ∷ more) (λ (none : m ∷ more ≡ []). cc) e in
            absurd (omega arith)

  behind_Decides : Decides (not (length (front_text pieces) == length (front_text path))) ((more : List (List ℕ)) × (more ≢ []) × (path ≡ pieces ++ more))
  behind_Decides = Decides-like (not (length (front_text pieces) == length (front_text path)))
      (λ (apart : pieces ≡ path → ⊥). beyond_by_text path pieces (shorter apart) begins)
      (λ (more, some, e) same.
      let longer : length (front_text pieces) < length (front_text path) = longer_beyond path pieces more some e in
      let level = ap (λ p. length (front_text p)) same in
      omega arith)
      (Decides-not (length (front_text pieces) == length (front_text path)) ends_Decides) where
        shorter : (pieces ≡ path → ⊥) → length (front_text pieces) < length (front_text path)
        shorter apart = elim (cases_lt (length (front_text pieces)) (length (front_text path))) [
          | inl less ↦ less
          | inr over ↦ absurd (apart (ends_Decides.0 ((Decides-eqb (length (front_text pieces)) (length (front_text path))).1 (omega (arith, no_longer)))))
        ]

  pub begun_matches : (k : PathKind) → takes k (length (front_text pieces) == length (front_text path)) ≡ path_matches (path_of k pieces) path
  begun_matches PathKind.Absent = refl
  begun_matches PathKind.Exact = same_from_decides _ _ ends_Decides (pieces_decide pieces path)
  begun_matches PathKind.Prefix = same_from_decides _ _ behind_Decides (beyond_Decides path pieces)

and_swapped : (a b : Bool) → (a && b) ≡ (b && a)
and_swapped true true = refl
and_swapped true false = refl
and_swapped false true = refl
and_swapped false false = refl

-- an entry whose text begins the path's matches by its kind
pub begun_fits : (asked : HostedUrl) (e : Entry) → IsEntry e → IsRead asked.path.now → Begins (front_text asked.path.now) (entry_text e)
    → front_fits asked (length (entry_text e) == length (front_text asked.path.now)) e.1 ≡ target_fits asked e
begun_fits asked e shape read (rest, is) =
    let pieces = entry_pieces e in
    let path = asked.path.now in
    let way = way_fits (scheme_of e.1.way) (way_port e.1.way) asked in
    let begins = begun_from_text path pieces rest read (is_read (entry_text e) shape.2) (is ∙ ap (λ t. t ++ rest) shape.2) in
    and_swapped (takes e.1.kind (length (entry_text e) == length (front_text path))) way
    ∙ ap (λ (b : Bool). way && b) (ap (λ t. takes e.1.kind (length t == length (front_text path))) shape.2 ∙ begun_matches pieces path begins e.1.kind)
