-- The pairs that literals say, and one that is outside of the vocabulary where a literal asks for it, make each literal on integrity metadata true.
use Rattle.std.proofs.Common.{◌≡◌, ◌∙◌, ap, refl, sym, subst, zero, suc, Bool, true, false, not, ◌&&◌, ◌||◌, if◌then◌else◌, List, [], ◌∷◌, ◌++◌, get_or, filter, Option, Some, None, All, AllPairs, Contains, arith, ◌⊎◌, inl, inr}
use Rattle.std.specs.List.{filter_map, cons_option, list_any}
use Rattle.std.proofs.lemmas.Bool.{false≢true, false_from_ne_true}
use Rattle.std.proofs.lemmas.List.Elements.{All-nil, All-cons, All-contains, All-weaker, All-contains_itself, Contains-append_left, Contains-push_cases}
use Rattle.std.proofs.lemmas.List.Quantifiers.{Any-push}
use Rattle.csp_model.proofs.Deciding.{any_decides, itself}
use Rattle.csp_model.proofs.EqualityDecided.{same_hash_decides}
use Rattle.csp_model.specs.Grammar.{is_base64_value}
use Rattle.csp_model.specs.Validity.{IsIntegrityValue}
use Rattle.csp_model.specs.declared.check.CheckPart.TheVariants as part
use Rattle.csp_model.specs.declared.source.Hash.{Hash}
use Rattle.csp_facts.proofs.HoldingDecided.{has_hash_decides, has_other_decides}
use Rattle.csp_facts.specs.Atoms.{part_of, HasOther, IsValidAtom}
use Rattle.csp_facts.specs.Follows.{Refutes, true_where, follows_true, follows_false}
use Rattle.csp_facts.specs.Holding.{has_hash, has_other}
use Rattle.csp_facts.specs.Vocabulary.{IsOfVocabulary}
use Rattle.csp_facts.specs.declared.atom.Atom.{Atom}
use Rattle.csp_facts.specs.declared.atom.Atom.TheVariants.{IntegrityHas, IntegrityOutside}
use Rattle.csp_facts.specs.declared.atom.Literal.{Literal}
use Rattle.csp_cell.specs.Cells.{StandTogether, places, is_integrity}
use Rattle.csp_pick.specs.Pairs.{hash_of, pair_of, pairs_in, is_outside, says_outside}
use Rattle.csp_pick.specs.Parts.{MeetPart, integrity_holds}
use Rattle.csp_pick.specs.Picks.{AreOfVocabulary}
use Rattle.csp_pick.proofs.FreshPair.{base64_is_value}
use Rattle.csp_pick.proofs.Placed.{filter_has, of_filter, unrefuted}

-- Lists of what items give

module _ {X Y : Type 0} (f : X → Option Y) where
  -- what an item gives is among them
  pub given : (xs : List X) → All (λ x. (y : Y) → f x ≡ Some y → Contains (filter_map f xs) y) xs
  given [] = All-nil (λ x. (y : Y) → f x ≡ Some y → Contains [] y)
  given (x ∷ xs) = by_answer (f x) refl (given xs)
    where
      by_answer : (answer : Option Y) → f x ≡ answer → All (λ z. (y : Y) → f z ≡ Some y → Contains (filter_map f xs) y) xs
          → All (λ z. (y : Y) → f z ≡ Some y → Contains (cons_option answer (filter_map f xs)) y) (x ∷ xs)
      by_answer None is later =
          All-cons (λ z. (y : Y) → f z ≡ Some y → Contains (filter_map f xs) y) x xs
          (λ y e. let never : None ≡ Some y = sym is ∙ e in cc) later
      by_answer (Some w) is later =
          All-cons (λ z. (y : Y) → f z ≡ Some y → Contains (w ∷ filter_map f xs) y) x xs
          (λ y e. let same : Some w ≡ Some y = sym is ∙ e in let w_is : w ≡ y = cc in (0, omega arith, w_is))
          (All-weaker (λ z. (y : Y) → f z ≡ Some y → Contains (filter_map f xs) y) (λ z. (y : Y) → f z ≡ Some y → Contains (w ∷ filter_map f xs) y)
          (λ z has y e. let (k, lt, at) = has y e in (suc k, omega arith, at)) xs later)

  -- what is among them some item gives
  pub giver : (xs : List X) (y : Y) → Contains (filter_map f xs) y → (x : X) × Contains xs x × (f x ≡ Some y)
  giver [] y (k, lt, at) = absurd (omega arith)
  giver (x ∷ xs) y has = by_answer (f x) refl has (giver xs y)
    where
      later : ((z : X) × Contains xs z × (f z ≡ Some y)) → (z : X) × Contains (x ∷ xs) z × (f z ≡ Some y)
      later (z, (k, lt, at), e) = (z, (suc k, omega arith, at), e)

      by_place : (w : Y) (ys : List Y) → f x ≡ Some w → (Contains ys y → (z : X) × Contains xs z × (f z ≡ Some y))
          → Contains (w ∷ ys) y → (z : X) × Contains (x ∷ xs) z × (f z ≡ Some y)
      by_place w ys is rest (zero, lt, at) = (x, (0, omega arith, refl), is ∙ ap Some at)
      by_place w ys is rest (suc k, lt, at) = later (rest (k, omega arith, at))

      by_answer : (answer : Option Y) → f x ≡ answer → Contains (cons_option answer (filter_map f xs)) y
          → (Contains (filter_map f xs) y → (z : X) × Contains xs z × (f z ≡ Some y)) → (z : X) × Contains (x ∷ xs) z × (f z ≡ Some y)
      by_answer None is here rest = later (rest here)
      by_answer (Some w) is here rest = by_place w (filter_map f xs) is rest here

-- Tests

pub none_passes : {X : Type 0} (p : X → Bool) (xs : List X) → list_any p xs ≡ false → All (λ x. p x ≡ false) xs
none_passes p [] e = All-nil (λ x. p x ≡ false)
none_passes p (x ∷ xs) e = by_test (p x) refl e (none_passes p xs)
  where
    by_test : (b : Bool) → p x ≡ b → (b || list_any p xs) ≡ false → (list_any p xs ≡ false → All (λ y. p y ≡ false) xs)
        → All (λ y. p y ≡ false) (x ∷ xs)
    by_test true is f later = absurd (false≢true (sym f))
    by_test false is f later = All-cons (λ y. p y ≡ false) x xs is (later f)

pub some_passes : {X : Type 0} (p : X → Bool) (xs : List X) → list_any p xs ≡ true → (x : X) × Contains xs x × (p x ≡ true)
some_passes p xs e =
    let (k, x, lt, at, passes) = (any_decides p (λ x. p x ≡ true) (λ x. itself (p x)) xs).0 e in
    (x, (k, lt, at), passes)

-- Two literals

refutes_pair : (sign other : Bool) (a b : Atom) (h : Hash) → (if sign then hash_of a else None) ≡ Some h → other ≡ false → b ≡ IntegrityHas h
    → (if sign then follows_true a b else follows_false a b) ≡ Some (not other)
refutes_pair true other (IntegrityHas g) b h e f is =
    let same : g ≡ h = cc in
    rw (is, f) (ap true_where ((same_hash_decides g h).1 same))
refutes_pair sign other a b h e f is = absurd cc

refutes_outside : (sign other : Bool) (a b : Atom) → (sign && is_outside a) ≡ true → other ≡ false → b ≡ IntegrityOutside
    → (if sign then follows_true a b else follows_false a b) ≡ Some (not other)
refutes_outside true other IntegrityOutside b e f is = rw (is, f) refl
refutes_outside sign other a b e f is = absurd cc

known_pair : (hashes : List Hash) (sign : Bool) (a : Atom) (h : Hash) → (if sign then hash_of a else None) ≡ Some h → IsOfVocabulary hashes a → Contains hashes h
known_pair hashes true (IntegrityHas g) h e known = let same : g ≡ h = cc in subst (Contains hashes) same known
known_pair hashes sign a h e known = absurd cc

valid_pair : (sign : Bool) (a : Atom) (h : Hash) → (if sign then hash_of a else None) ≡ Some h → IsValidAtom a → IsIntegrityValue h.value
valid_pair true (IntegrityHas g) h e valid = let same : g ≡ h = cc in base64_is_value h.value (subst (λ (x : Hash). is_base64_value x.value ≡ true) same valid)
valid_pair sign a h e valid = absurd cc

unplaced : (sign : Bool) (a : Atom) → part_of a ≡ part.Integrity → not (sign && not (is_integrity a)) ≡ true
unplaced true (IntegrityHas h) own = refl
unplaced true IntegrityOutside own = refl
unplaced true a own = absurd cc
unplaced false a own = refl

-- One literal

module _ (hashes pairs : List Hash) where
  literal_meets : (sign : Bool) (a : Atom) → part_of a ≡ part.Integrity
      → ((h : Hash) → sign ≡ true → a ≡ IntegrityHas h → Contains pairs h)
      → ((h : Hash) → sign ≡ false → a ≡ IntegrityHas h → ¬ Contains pairs h)
      → (sign ≡ true → a ≡ IntegrityOutside → HasOther hashes pairs) → (sign ≡ false → a ≡ IntegrityOutside → ¬ HasOther hashes pairs)
      → (if sign then integrity_holds hashes pairs a else not (integrity_holds hashes pairs a)) ≡ true
  literal_meets true (IntegrityHas h) own has lacks other none = (has_hash_decides pairs h).1 (has h refl refl)
  literal_meets false (IntegrityHas h) own has lacks other none =
      ap not (false_from_ne_true (has_hash pairs h) (λ e. lacks h refl refl ((has_hash_decides pairs h).0 e)))
  literal_meets true IntegrityOutside own has lacks other none = (has_other_decides hashes pairs).1 (other refl refl)
  literal_meets false IntegrityOutside own has lacks other none =
      ap not (false_from_ne_true (has_other hashes pairs) (λ e. none refl refl ((has_other_decides hashes pairs).0 e)))
  literal_meets sign a own has lacks other none = absurd cc

-- All literals of a cell

module _ (hashes : List Hash) (ls : List Literal) where
  abbrev others : List Literal
  others = filter (λ l. not (places l)) ls

  -- some literal says the pair, or some literal asks for a pair outside of the vocabulary, as this is
  abbrev Sourced : Hash → Type 0
  Sourced h =
      ((m : Literal) × Contains ls m × (pair_of m ≡ Some h))
      ⊎ ((¬ Contains hashes h) × ((m : Literal) × Contains ls m × (says_outside m ≡ true)))

  pairs_meet : (pairs : List Hash) → AllPairs StandTogether ls → AreOfVocabulary hashes ls
      → All (λ l. (h : Hash) → pair_of l ≡ Some h → Contains pairs h) others
      → All (λ l. says_outside l ≡ true → HasOther hashes pairs) others
      → ((h : Hash) → Contains pairs h → Sourced h) → MeetPart part.Integrity (integrity_holds hashes pairs) ls
  pairs_meet pairs together known said asked from k d below own =
      literal_meets hashes pairs l.positive l.atom own has lacks other none
    where
      l : Literal
      l = get_or ls k d

      apart : (m : Literal) → Contains ls m → ¬ Refutes m l
      apart m in_ls = unrefuted ls m together in_ls k d below

      stays : not (places l) ≡ true
      stays = unplaced l.positive l.atom own

      has : (h : Hash) → l.positive ≡ true → l.atom ≡ IntegrityHas h → Contains pairs h
      has h e is = of_filter (λ m. not (places m)) (λ m. (g : Hash) → pair_of m ≡ Some g → Contains pairs g) ls said k d below stays h (rw (e, is) refl)

      other : l.positive ≡ true → l.atom ≡ IntegrityOutside → HasOther hashes pairs
      other e is = of_filter (λ m. not (places m)) (λ m. says_outside m ≡ true → HasOther hashes pairs) ls asked k d below stays (rw (e, is) refl)

      lacks : (h : Hash) → l.positive ≡ false → l.atom ≡ IntegrityHas h → ¬ Contains pairs h
      lacks h e is has_h =
          elim (from h has_h) [
            | inl (m, in_ls, says) ↦ apart m in_ls (refutes_pair m.positive l.positive m.atom l.atom h says e is)
            | inr (fresh, asker) ↦ fresh (subst (IsOfVocabulary hashes) is (known k d below))
          ]

      none : l.positive ≡ false → l.atom ≡ IntegrityOutside → ¬ HasOther hashes pairs
      none e is (i, h, lt, at, outside) =
          elim (from h (i, lt, at)) [
            | inl (m, in_ls, says) ↦ outside (known_pair hashes m.positive m.atom h says (All-contains (λ n. IsOfVocabulary hashes n.atom) ls m known in_ls))
            | inr (fresh, (m, in_ls, asks)) ↦ apart m in_ls (refutes_outside m.positive l.positive m.atom l.atom asks e is)
          ]

  from_said : (h : Hash) → Contains (pairs_in others) h → (m : Literal) × Contains ls m × (pair_of m ≡ Some h)
  from_said h has =
      let (m, in_others, says) = giver pair_of others h has in
      (m, (filter_has (λ l. not (places l)) ls m in_others).0, says)

  -- no literal asks for a pair outside
  pub said_meet : AllPairs StandTogether ls → AreOfVocabulary hashes ls → list_any says_outside others ≡ false
      → MeetPart part.Integrity (integrity_holds hashes (pairs_in others)) ls
  said_meet together known quiet =
      pairs_meet (pairs_in others) together known (given pair_of others)
      (λ k d below asks. absurd (false≢true (sym (none_passes says_outside others quiet k d below) ∙ asks)))
      (λ h has. inl (from_said h has))

  -- some literal does, and a fresh pair is added
  pub said_and_fresh_meet : (fresh : Hash) → ¬ Contains hashes fresh → AllPairs StandTogether ls → AreOfVocabulary hashes ls
      → list_any says_outside others ≡ true → MeetPart part.Integrity (integrity_holds hashes (pairs_in others ++ fresh ∷ [])) ls
  said_and_fresh_meet fresh new together known loud =
      pairs_meet (pairs_in others ++ fresh ∷ []) together known
      (λ k d below h says. Contains-append_left (pairs_in others) (fresh ∷ []) h (given pair_of others k d below h says))
      (λ k d below asks. Any-push (λ h. ¬ Contains hashes h) (pairs_in others) fresh new)
      (λ h has. elim (Contains-push_cases (pairs_in others) fresh h has) [
        | inl old ↦ inl (from_said h old)
        | inr same ↦ inr (subst (λ x. ¬ Contains hashes x) same new, asker)
      ])
    where
      asker : (m : Literal) × Contains ls m × (says_outside m ≡ true)
      asker =
          let (m, in_others, asks) = some_passes says_outside others loud in
          (m, (filter_has (λ l. not (places l)) ls m in_others).0, asks)

  -- Values

  pub said_valid : All (λ l. IsValidAtom l.atom) ls → All (λ (h : Hash). IsIntegrityValue h.value) (pairs_in others)
  said_valid valid k d below =
      let h = get_or (pairs_in others) k d in
      let (m, in_ls, says) = from_said h (All-contains_itself (pairs_in others) k d below) in
      valid_pair m.positive m.atom h says (All-contains (λ l. IsValidAtom l.atom) ls m valid in_ls)
