-- The path that is picked is valid, and meets the literals on paths.
use Rattle.std.proofs.Common.{◌≡◌, ◌≢◌, ◌∙◌, ◌-◌, slice_get, length-append, ℕ, Bool, true, false, not, List, [], ◌∷◌, ◌++◌, length, get_or, filter, Option, Some, None, MatchOption, Bor, All, Any, AllPairs, refl, sym, ap, subst, arith, inl, inr}
use Rattle.std.specs.Prelude.{unwrap_or}
use Rattle.std.specs.Bool.{⊤}
use Rattle.std.specs.List.{list_all}
use Rattle.std.specs.Option.{option_copied}
use Rattle.std.specs.Str.{bytes_eq}
use Rattle.std.specs.Cmp.Lexicographic.{pointwise}
use Rattle.std.proofs.lemmas.Bool.{false_from_ne_true}
use Rattle.std.proofs.lemmas.Bool.Decides.{Decides-like, same_from_decides}
use Rattle.std.proofs.lemmas.List.Elements.{All-contains, All-filter}
use Rattle.std.proofs.lemmas.List.Folds.{list_all-append}
use Rattle.csp_model.proofs.EndLaws.{beyond_Decides, begins_Decides}
use Rattle.csp_model.proofs.MatchingDecided.{pieces_decide}
use Rattle.csp_model.specs.DecideEnds.{begins_with, goes_beyond}
use Rattle.csp_model.specs.Validity.{is_piece}
use Rattle.csp_model.specs.declared.check.CheckPart.TheVariants as part
use Rattle.csp_facts.specs.Atoms.{part_of, IsValidAtom, IsValidPath}
use Rattle.csp_facts.specs.Follows.{follows_true}
use Rattle.csp_facts.specs.declared.atom.Atom.{Atom}
use Rattle.csp_facts.specs.declared.atom.Atom.TheVariants.{PathIs, PathUnder}
use Rattle.csp_facts.specs.declared.atom.Literal.{Literal}
use Rattle.csp_cell.specs.Cells.{StandTogether, IsOf, places}
use Rattle.csp_facts.specs.declared.shape.Shape.{Shape}
use Rattle.csp_pick.specs.Parts.{agrees, MeetPart, path_holds}
use Rattle.csp_pick.specs.Said.{path_of, front_of, last_piece_of}
use Rattle.csp_pick.proofs.Placed.{said_by, of_filter, positive_of, beside_placed, denial_of, agrees_placed, agrees_denied, follows_placed, placed_meets, denied_meets}

is_path : (a : Atom) (p : List (List ℕ)) → path_of a ≡ Some p → a ≡ PathIs p
is_path (PathIs q) p e = ap PathIs cc
is_path a p e = absurd cc

is_front : (a : Atom) (p : List (List ℕ)) → front_of a ≡ Some p → a ≡ PathUnder p
is_front (PathUnder q) p e = ap PathUnder cc
is_front a p e = absurd cc

-- A path that a literal names

same_turned : (p q : List (List ℕ)) → pointwise bytes_eq p q ≡ pointwise bytes_eq q p
same_turned p q =
    same_from_decides (pointwise bytes_eq p q) (pointwise bytes_eq q p) (pieces_decide p q)
    (Decides-like (pointwise bytes_eq q p) (λ e. sym e) (λ e. sym e) (pieces_decide q p))

known : (p : List (List ℕ)) (a : Atom) → part_of a ≡ part.Path → follows_true (PathIs p) a ≡ Some (path_holds p a)
known p (PathIs q) e = ap Some (same_turned p q)
known p (PathUnder q) e = refl
known p a e = absurd cc

pub wanted_meets : (p : List (List ℕ)) (ls : List Literal) → AllPairs StandTogether ls
    → Any (λ l. path_of l.atom ≡ Some p) (filter places ls) → MeetPart part.Path (path_holds p) ls
wanted_meets p ls pairs said =
    let (m, has, placing, says) = said_by path_of places ls p said in
    placed_meets part.Path (path_holds p) ls m pairs has (positive_of m placing)
    (λ a e. ap (λ known. follows_true known a) (is_path m.atom p says) ∙ known p a e)

pub wanted_is_valid : (kind : Shape) (p : List (List ℕ)) (ls : List Literal) → All (IsOf kind) ls
    → Any (λ l. path_of l.atom ≡ Some p) (filter places ls) → IsValidPath p
wanted_is_valid kind p ls each said =
    let (m, has, placing, says) = said_by path_of places ls p said in
    subst IsValidAtom (is_path m.atom p says) (All-contains (IsOf kind) ls m each has).0

-- A front and one piece more

module _ {X : Type 0} where
  none_empty : (xs ys : List X) → ys ≢ [] → xs ++ ys ≢ []
  none_empty [] ys some = some
  none_empty (x ∷ xs) ys some = λ e. cc

  -- what a list with one item more begins with, and goes beyond, the list begins with
  begins_before : (p q : List X) (x : X) (rest : List X) → rest ≢ [] → p ++ x ∷ [] ≡ q ++ rest → (more : List X) × (p ≡ q ++ more)
  begins_before p [] x rest some e = (p, refl)
  begins_before [] (y ∷ q) x rest some e = let tails : [] ≡ q ++ rest = cc in absurd (none_empty q rest some (sym tails))
  begins_before (z ∷ p) (y ∷ q) x rest some e =
      let heads : z ≡ y = cc in
      let (more, tails) = begins_before p q x rest some cc in
      (more, cc)

not_beyond : (p q : List (List ℕ)) (piece : List ℕ) → begins_with p q ≢ true → goes_beyond (p ++ piece ∷ []) q ≡ false
not_beyond p q piece h =
    false_from_ne_true (goes_beyond (p ++ piece ∷ []) q) (λ beyond.
    let (rest, some, e) = (beyond_Decides (p ++ piece ∷ []) q).0 beyond in
    h ((begins_Decides p q).1 (begins_before p q piece rest some e)))

one_beyond : (p : List (List ℕ)) (piece : List ℕ) → goes_beyond (p ++ piece ∷ []) p ≡ true
one_beyond p piece = (beyond_Decides (p ++ piece ∷ []) p).1 (piece ∷ [], (λ e. cc), refl)

-- the front is what a literal asks for, or there is none
abbrev IsAsked : Option (Bor (List (List ℕ))) → List Literal → Type 0
IsAsked front ls = MatchOption front (All (λ l. front_of l.atom ≡ None) ls) (λ p. Any (λ l. front_of l.atom ≡ Some p.now) ls)

pub front_is_valid : (kind : Shape) (ls : List Literal) (front : Option (Bor (List (List ℕ)))) → All (IsOf kind) ls → IsAsked front (filter places ls)
    → list_all is_piece (unwrap_or (option_copied front) []) ≡ true
front_is_valid kind ls None each said = refl
front_is_valid kind ls (Some p) each said =
    let (m, has, placing, says) = said_by front_of places ls p.now said in
    let valid : IsValidPath p.now = subst IsValidAtom (is_front m.atom p.now says) (All-contains (IsOf kind) ls m each has).0 in
    valid.1

pub behind_is_valid : (front : List (List ℕ)) (piece : List ℕ) → list_all is_piece front ≡ true → is_piece piece ≡ true → list_all is_piece (front ++ piece ∷ []) ≡ true
behind_is_valid front piece e f = rw (list_all-append is_piece front (piece ∷ []), e, f) refl

-- What is denied: paths that end in another piece, and fronts that the front doesn't begin with

at_end : (p : List (List ℕ)) (piece : List ℕ) → slice_get (p ++ piece ∷ []) (length p) ≡ Some piece
at_end [] piece = refl
at_end (r ∷ p) piece = at_end p piece

pub last_of : (p : List (List ℕ)) (piece : List ℕ) → slice_get (p ++ piece ∷ []) (length (p ++ piece ∷ []) - 1) ≡ Some piece
last_of p piece =
    let last : length (p ++ piece ∷ []) - 1 ≡ length p = omega (arith, length-append p (piece ∷ [])) in
    ap (slice_get (p ++ piece ∷ [])) last ∙ at_end p piece

-- the atom asks for no front that the path begins with
abbrev Unreached : List (List ℕ) → Atom → Type 0
Unreached front (PathUnder q) = begins_with front q ≢ true
Unreached front other = ⊤

denied : (front : List (List ℕ)) (piece : List ℕ) (a : Atom) → last_piece_of a ≢ Some piece → Unreached front a → path_holds (front ++ piece ∷ []) a ≡ false
denied front piece (PathIs q) h unreached =
    false_from_ne_true (pointwise bytes_eq q (front ++ piece ∷ [])) (λ same.
    h (ap (λ (p : List (List ℕ)). slice_get p (length p - 1)) ((pieces_decide q (front ++ piece ∷ [])).0 same) ∙ last_of front piece))
denied front piece (PathUnder q) h unreached = not_beyond front q piece unreached
denied front piece a h unreached = refl

unreached_valid : (a : Atom) → IsValidAtom a → Unreached [] a
unreached_valid (PathUnder []) valid = absurd (valid.0 refl)
unreached_valid (PathUnder (r ∷ q)) valid = λ e. cc
unreached_valid a valid = tt

unreached_apart : (p : List (List ℕ)) (a : Atom) (sign : Bool) → sign ≡ false → follows_true (PathUnder p) a ≢ Some (not sign) → Unreached p a
unreached_apart p (PathUnder q) sign e apart = λ begins. apart (rw (begins, e) refl)
unreached_apart p a sign e apart = tt

never : (a : Atom) → path_of a ≡ None → front_of a ≡ None → part_of a ≢ part.Path
never (PathIs p) e f = absurd cc
never (PathUnder p) e f = absurd cc
never a e f = λ same. absurd cc

module _ (kind : Shape) (ls : List Literal) (piece : List ℕ) (each : All (IsOf kind) ls) (pairs : AllPairs StandTogether ls)
    (free : All (λ l. last_piece_of l.atom ≢ Some piece) (filter (λ l. not (places l)) ls)) where
  behind_none : All (λ l. path_of l.atom ≡ None) (filter places ls) → All (λ l. front_of l.atom ≡ None) (filter places ls) → MeetPart part.Path (path_holds (piece ∷ [])) ls
  behind_none no_path no_front =
      let unplaced : Literal → Bool = λ l. not (places l) in
      denied_meets part.Path (path_holds (piece ∷ [])) ls (λ e. cc)
      (λ k d h. never (get_or (filter places ls) k d).atom (no_path k d h) (no_front k d h))
      (λ k d h on. denied [] piece (get_or (filter unplaced ls) k d).atom (free k d h) (unreached_valid (get_or (filter unplaced ls) k d).atom (All-filter unplaced (IsOf kind) ls each k d h).0))

  behind_some : (p : List (List ℕ)) → Any (λ l. front_of l.atom ≡ Some p) (filter places ls) → MeetPart part.Path (path_holds (p ++ piece ∷ [])) ls
  behind_some p said k d h on =
      let (m, has, placing, says) = said_by front_of places ls p said in
      let is = is_front m.atom p says in
      let test = path_holds (p ++ piece ∷ []) in
      let unplaced : Literal → Bool = λ l. not (places l) in
      let l = get_or ls k d in
      elim (beside_placed ls m pairs has placing k d h (ap part_of is ∙ sym on)) [
        | inl same ↦ subst (λ n. agrees test n ≡ true) same (agrees_placed test m (positive_of m placing) (ap test is ∙ one_beyond p piece))
        | inr (other, apart) ↦
            let negative = denial_of part.Path l (λ e. cc) on other in
            let last = of_filter unplaced (λ n. last_piece_of n.atom ≢ Some piece) ls free k d h (ap not other) in
            agrees_denied test l negative (denied p piece l.atom last (unreached_apart p l.atom l.positive negative
            (λ says. apart (follows_placed m l.atom (positive_of m placing) ∙ ap (λ known. follows_true known l.atom) is ∙ says))))
      ]

  pub behind_meets : (front : Option (Bor (List (List ℕ)))) → All (λ l. path_of l.atom ≡ None) (filter places ls) → IsAsked front (filter places ls)
      → MeetPart part.Path (path_holds (unwrap_or (option_copied front) [] ++ piece ∷ [])) ls
  behind_meets None no_path said = behind_none no_path said
  behind_meets (Some p) no_path said = behind_some p.now said
