-- The new literal and those that are needed beside it are a cell, which a check meets where it meets the old one
-- and the literal is true of it.
use Rattle.std.proofs.Common.{◌≡◌, ◌∙◌, Bool, true, false, not, if◌then◌else◌, List, [], ◌∷◌, ◌++◌, Some, None, AllPairs, IfSome, IsTrue, refl, sym, subst, ◌↔◌}
use Rattle.std.proofs.lemmas.Bool.{false≢true}
use Rattle.std.proofs.lemmas.List.Elements.{All-filter, filter_passes}
use Rattle.std.proofs.lemmas.List.Kept.{AllPairs-filter}
use Rattle.std.proofs.lemmas.List.Quantifiers.{all_pairs_push}
use Rattle.std.specs.Bool.{Decides}
use Rattle.csp_model.specs.declared.check.Check.{Check}
use Rattle.csp_model.specs.declared.source.Hash.{Hash}
use Rattle.csp_facts.proofs.HoldingDecided.{holds_decides}
use Rattle.csp_facts.proofs.Refutes.{refutes_back}
use Rattle.csp_facts.proofs.Sound.{sound}
use Rattle.csp_facts.specs.Atoms.{Holds}
use Rattle.csp_facts.specs.Follows.{follows, Refutes, decided}
use Rattle.csp_facts.specs.Holding.{holds, is_true_of}
use Rattle.csp_facts.specs.declared.atom.Atom.{Atom}
use Rattle.csp_facts.specs.declared.atom.Literal.{Literal}
use Rattle.csp_cell.specs.Cells.{Region, IsCell, IsOf, Meets, StandTogether, Covers, implies, Takes}
use Rattle.csp_cell.proofs.Covering.{implied, implies_covered}
use Rattle.csp_cell.proofs.Taking.{pairs_insert, all_taken, all_given, all_none, DontRefute, decides_same}

-- A literal that the old ones don't decide stands together with those that are needed beside it

unless : (b : Bool) → b ≡ true → not b ≡ true → ⊥
unless true e n = cc
unless false e n = cc

undecided_none : (l m : Literal) → follows m l.atom ≡ None → ¬ Refutes m l
undecided_none l m none refutes = let never : Some (not l.positive) ≡ None = sym refutes ∙ none in cc

undecided_needed : (l m : Literal) → follows m l.atom ≡ None → ¬ Covers m l
undecided_needed l m none covers =
    let says : follows m l.atom ≡ Some l.positive = implied m l (implies_covered m l covers) in
    let never : Some l.positive ≡ None = sym says ∙ none in cc

stands : (l m : Literal) → follows m l.atom ≡ None → not (implies l m) ≡ true → StandTogether l m × StandTogether m l
stands l m none needed =
    let beside : ¬ Covers l m = λ covers. unless (implies l m) (implies_covered l m covers) needed in
    let apart : ¬ Refutes m l = undecided_none l m none in
    ((beside, undecided_needed l m none, λ refutes. apart (refutes_back l m refutes)), (undecided_needed l m none, beside, apart))

pub together : (old new : List Literal) (l : Literal) → Takes old l new → decided old l.atom ≡ None
    → AllPairs StandTogether old → AllPairs StandTogether new
together old new l (front, back, rest, list) none pairs =
    let undecided = All-filter (λ other. not (implies l other)) (λ m. follows m l.atom ≡ None) old (all_none old l.atom none) in
    let needed = filter_passes (λ other. not (implies l other)) old in
    rw list (pairs_insert StandTogether front back l
    (rw rest (AllPairs-filter StandTogether (λ other. not (implies l other)) old pairs))
    (rw rest (λ k d h. stands l _ (undecided k d h) (needed k d h))))

pub new_cell : (region : Region) (new : List Literal) (l : Literal) → Takes region.literals l new → decided region.literals l.atom ≡ None
    → IsOf region.shape l → IsCell region → IsCell (record { shape = region.shape; literals = new })
new_cell region new l takes none here cell = record {
  each = all_taken (IsOf region.shape) region.literals new l takes cell.each here;
  pairs = together region.literals new l takes none cell.pairs;
}

-- What the new cell decides

pub decides_with : (region : Region) (new : List Literal) (l : Literal) (a : Atom) → Takes region.literals l new → decided region.literals l.atom ≡ None
    → IsCell region → decided new a ≡ decided (region.literals ++ l ∷ []) a
decides_with region new l a takes none cell =
    decides_same region.literals new l a takes
    (all_pairs_push DontRefute region.literals l (λ i j d low h. (cell.pairs i j d low h).2) (λ k d h. undecided_none l _ (all_none region.literals l.atom none k d h)))

-- The checks that meet it

true_where : (test positive : Bool) → test ≡ positive → IsTrue (if positive then test else not test)
true_where test true e = e
true_where test false e = rw e refl

true_through : (hashes : List Hash) (asked : Check) (l m : Literal) → implies l m ≡ true
    → IsTrue (is_true_of hashes asked l) → IsTrue (is_true_of hashes asked m)
true_through hashes asked l m e so =
    let same : IfSome (Some m.positive) (λ known. holds hashes asked m.atom ≡ known) =
    subst (λ answer. IfSome answer (λ known. holds hashes asked m.atom ≡ known)) (implied l m e) (sound hashes asked l m.atom so) in
    true_where (holds hashes asked m.atom) m.positive same

pub meets : (hashes : List Hash) (asked : Check) (old new : List Literal) (l : Literal) → Takes old l new
    → (Meets hashes asked new ↔ (Meets hashes asked old × IsTrue (is_true_of hashes asked l)))
meets hashes asked old new l takes =
    let P : Literal → Type 0 = λ m. IsTrue (is_true_of hashes asked m) in (
      λ all. all_given P old new l takes (λ m e. true_through hashes asked l m e) all,
      λ both. all_taken P old new l takes both.0 both.1,
    )

denied : (hashes : List Hash) (asked : Check) (a : Atom) → (IsTrue (not (holds hashes asked a)) ↔ (¬ Holds hashes asked a))
denied hashes asked a = by_test (holds hashes asked a) (holds_decides hashes asked a)
  where
    by_test : (b : Bool) → Decides b (Holds hashes asked a) → (IsTrue (not b) ↔ (¬ Holds hashes asked a))
    by_test true d = (λ e. cc, λ n. absurd (n (d.0 refl)))
    by_test false d = (λ e h. false≢true (d.1 h), λ n. refl)

pub meets_positive : (hashes : List Hash) (asked : Check) (old new : List Literal) (a : Atom) → Takes old (record { atom = a; positive = true }) new
    → (Meets hashes asked new ↔ (Meets hashes asked old × Holds hashes asked a))
meets_positive hashes asked old new a takes =
    let both = meets hashes asked old new (record { atom = a; positive = true }) takes in
    let fact = holds_decides hashes asked a in
    (λ all. let (old_ones, here) = both.0 all in (old_ones, fact.0 here), λ each. both.1 (each.0, fact.1 each.1))

pub meets_negative : (hashes : List Hash) (asked : Check) (old new : List Literal) (a : Atom) → Takes old (record { atom = a; positive = false }) new
    → (Meets hashes asked new ↔ (Meets hashes asked old × (¬ Holds hashes asked a)))
meets_negative hashes asked old new a takes =
    let both = meets hashes asked old new (record { atom = a; positive = false }) takes in
    let fact = denied hashes asked a in
    (λ all. let (old_ones, here) = both.0 all in (old_ones, fact.0 here), λ each. both.1 (each.0, fact.1 each.1))
