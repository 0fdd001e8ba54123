-- What a literal makes true decides nothing that the literal doesn't decide alike.
use Rattle.std.proofs.Common.{◌≡◌, ◌∙◌, ℕ, Bool, true, false, not, List, [], ◌∷◌, ◌++◌, Option, Some, IfSome, refl, sym, ap, subst, append_assoc, ◌⊎◌, inl, inr}
use Rattle.std.specs.Bool.{Decides}
use Rattle.std.proofs.lemmas.Bool.{false≢true}
use Rattle.std.proofs.lemmas.Bool.Decides.{Decides-eqb}
use Rattle.std.proofs.lemmas.Slice.Eq.{bytes_eq-Decides}
use Rattle.csp_model.proofs.EndLaws.{begins_Decides, beyond_Decides}
use Rattle.csp_model.proofs.EqualityDecided.{same_host_decides, same_hash_decides}
use Rattle.csp_model.proofs.MatchingDecided.{host_under_decides, domain_host_decides}
use Rattle.csp_model.specs.DecideMatching.{is_domain_host}
use Rattle.csp_model.specs.DecideEnds.{is_host_under, begins_with, goes_beyond}
use Rattle.csp_model.specs.DecideEquality.{same_host}
use Rattle.csp_model.specs.Matching.{IsDomainHost, IsHostUnder, PathMatches}
use Rattle.csp_model.specs.declared.check.Digest.TheVariants.{Sha256, Sha384, Sha512}
use Rattle.csp_model.specs.declared.source.PathPart.TheVariants.{Prefix}
use Rattle.csp_facts.specs.Follows.{lies_within, same_path, true_where, false_where, nested, follows_true, follows}
use Rattle.csp_facts.specs.declared.atom.Atom.{Atom}
use Rattle.csp_facts.specs.declared.atom.Atom.TheVariants.{HostIs, HostUnder, HostDomain, PortIs, PathIs, PathUnder, SchemeIs, NonceIs, IntegrityHas, IntegrityOutside, DigestIs}
use Rattle.csp_facts.specs.declared.atom.Literal.{Literal}
use Rattle.csp_facts.proofs.Refutes.{refutes_back, false_false}
use Rattle.csp_facts.proofs.SoundAnswers.{Agrees, value_of_Agrees, Agrees-nested, Agrees-unless}
use Rattle.csp_facts.proofs.SoundNesting.{under_through, under_both, under_is_domain, beyond_through, beyond_both}
use Rattle.csp_facts.proofs.TableTests.{IsWithin, lies_within_decides, same_path_decides}

-- Answers

never_true : {P : Type 0} (test : Bool) → false_where test ≡ Some true → P
never_true true e = cc
never_true false e = cc

where_true : (test : Bool) → true_where test ≡ Some true → test ≡ true
where_true true e = refl
where_true false e = cc

inner_true : (inner outer : Bool) → nested inner outer ≡ Some true → inner ≡ true
inner_true true outer e = refl
inner_true false outer e = never_true (not outer) e

-- a test of what an answer agrees with has that answer
answers : {P : Type 0} (test : Bool) (answer : Option Bool) (v : Bool) → Decides test P → Agrees answer P → answer ≡ Some v → Some test ≡ Some v
answers {P} test answer v d so e = ap Some (subst (λ given. IfSome given (λ known. test ≡ known)) e (value_of_Agrees test answer d so))

-- where the second thing needs the first, what denies the first denies the second
denies : {P Q : Type 0} (first second : Bool) (v : Bool) → Decides first P → Decides second Q → (Q → P)
    → false_where (not first) ≡ Some v → false_where (not second) ≡ Some v
denies true second v p q needs e = cc
denies false true v p q needs e = absurd (false≢true (p.1 (needs (q.0 refl))))
denies false false v p q needs e = e

-- Two ends of one list are nested, and so are two fronts

module _ {X : Type 0} where
  ends_nest : (f g x y : List X) → f ++ x ≡ g ++ y → ((front : List X) × (x ≡ front ++ y)) ⊎ ((front : List X) × (y ≡ front ++ x))
  ends_nest [] g x y e = inl (g, e)
  ends_nest (a ∷ f) [] x y e = inr (a ∷ f, sym e)
  ends_nest (a ∷ f) (b ∷ g) x y e = ends_nest f g x y cc

  fronts_nest : (x y f g : List X) → x ++ f ≡ y ++ g → ((rest : List X) × (x ≡ y ++ rest)) ⊎ ((rest : List X) × (y ≡ x ++ rest))
  fronts_nest [] y f g e = inr (y, refl)
  fronts_nest (a ∷ x) [] f g e = inl (a ∷ x, refl)
  fronts_nest (a ∷ x) (b ∷ y) f g e =
      let heads : a ≡ b = cc in
      elim (fronts_nest x y f g cc) [ inl (rest, under) ↦ inl (rest, cc) | inr (rest, under) ↦ inr (rest, cc) ]

-- Nested things

module _ {X : Type 0} (Within : X → X → Type 0) (within : X → X → Bool) (decides : (x y : X) → Decides (within x y) (Within x y))
    (through : (x y z : X) → Within x y → Within y z → Within x z)
    (nest : (x y z : X) → Within x y → Within x z → Within y z ⊎ Within z y) where
  by_tests : (s t u : X) (v i o j k : Bool) → Within s t
      → Decides i (Within t u) → Decides o (Within u t) → Decides j (Within s u) → Decides k (Within u s)
      → nested i o ≡ Some v → nested j k ≡ Some v
  by_tests s t u v true o true k st pi po pj pk e = e
  by_tests s t u v true o false k st pi po pj pk e = absurd (false≢true (pj.1 (through s t u st (pi.0 refl))))
  by_tests s t u v false true j k st pi po pj pk e = cc
  by_tests s t u v false false true k st pi po pj pk e =
      elim (nest s t u st (pj.0 refl)) [ inl tu ↦ absurd (false≢true (pi.1 tu)) | inr ut ↦ absurd (false≢true (po.1 ut)) ]
  by_tests s t u v false false false true st pi po pj pk e = absurd (false≢true (po.1 (through u s t (pk.0 refl) st)))
  by_tests s t u v false false false false st pi po pj pk e = e

  nested_through : (s t u : X) (v : Bool) → nested (within s t) (within t s) ≡ Some true
      → nested (within t u) (within u t) ≡ Some v → nested (within s u) (within u s) ≡ Some v
  nested_through s t u v first =
      by_tests s t u v (within t u) (within u t) (within s u) (within u s) ((decides s t).0 (inner_true (within s t) (within t s) first))
      (decides t u) (decides u t) (decides s u) (decides u s)

within_through : (x y z : List ℕ) → IsWithin x y → IsWithin y z → IsWithin x z
within_through x y z (f, first) (g, second) = (f ++ g, first ∙ ap (λ tail. f ++ tail) second ∙ sym (append_assoc f g _))

within_nest : (x y z : List ℕ) → IsWithin x y → IsWithin x z → IsWithin y z ⊎ IsWithin z y
within_nest x y z (f, first) (g, second) = ends_nest f g _ _ (sym first ∙ second)

abbrev Begins : List (List ℕ) → List (List ℕ) → Type 0
Begins path front = (rest : List (List ℕ)) × (path ≡ front ++ rest)

begins_through : (x y z : List (List ℕ)) → Begins x y → Begins y z → Begins x z
begins_through x y z (f, first) (g, second) = (g ++ f, first ∙ ap (λ front. front ++ f) second ∙ append_assoc z g f)

begins_nest : (x y z : List (List ℕ)) → Begins x y → Begins x z → Begins y z ⊎ Begins z y
begins_nest x y z (f, first) (g, second) = fronts_nest y z f g (sym first ∙ second)

-- An atom that one value alone has is made true by itself alone

abbrev is_point : Atom → Bool
is_point (HostUnder suffix) = false
is_point HostDomain = false
is_point (PathUnder pieces) = false
is_point atom = true

point_itself : (a b : Atom) → is_point b ≡ true → follows_true a b ≡ Some true → a ≡ b
point_itself (HostIs h) (HostIs g) p e = ap HostIs ((same_host_decides h g).0 cc)
point_itself (HostUnder s) (HostIs g) p e = never_true _ e
point_itself HostDomain (HostIs g) p e = never_true _ e
point_itself (PortIs m) (PortIs n) p e = ap PortIs ((Decides-eqb m n).0 cc)
point_itself (PathIs x) (PathIs y) p e = ap PathIs ((same_path_decides x y).0 cc)
point_itself (PathUnder x) (PathIs y) p e = never_true _ e
point_itself (SchemeIs s) (SchemeIs t) p e = ap SchemeIs ((bytes_eq-Decides s t).0 cc)
point_itself (NonceIs s) (NonceIs t) p e = ap NonceIs ((bytes_eq-Decides s t).0 cc)
point_itself (IntegrityHas g) (IntegrityHas h) p e = ap IntegrityHas ((same_hash_decides g h).0 (where_true _ e))
point_itself IntegrityOutside IntegrityOutside p e = refl
point_itself (DigestIs (Sha256 d)) (DigestIs (Sha256 c)) p e = ap (λ (x : List ℕ). DigestIs (Sha256 x)) ((bytes_eq-Decides d c).0 cc)
point_itself (DigestIs (Sha384 d)) (DigestIs (Sha384 c)) p e = ap (λ (x : List ℕ). DigestIs (Sha384 x)) ((bytes_eq-Decides d c).0 cc)
point_itself (DigestIs (Sha512 d)) (DigestIs (Sha512 c)) p e = ap (λ (x : List ℕ). DigestIs (Sha512 x)) ((bytes_eq-Decides d c).0 cc)
point_itself a b p e = cc

-- Through each of the other atoms

some_is : (test : Bool) → Some test ≡ Some true → test ≡ true
some_is test e = cc

through_suffix : (t : List ℕ) (a c : Atom) (v : Bool) → follows_true a (HostUnder t) ≡ Some true → follows_true (HostUnder t) c ≡ Some v → follows_true a c ≡ Some v
through_suffix t (HostIs h) HostDomain v e f =
    let under = (host_under_decides h t).0 (some_is _ e) in
    ap Some ((domain_host_decides h).1 (under_is_domain t h under)) ∙ f
through_suffix t (HostIs h) (HostUnder u) v e f =
    let under = (host_under_decides h t).0 (some_is _ e) in
    answers (is_host_under h u) (nested (lies_within t u) (lies_within u t)) v (host_under_decides h u)
    (Agrees-nested _ _ (lies_within_decides t u) (lies_within_decides u t) (λ within. under_through t u h within under) (under_both t u h under)) f
through_suffix t (HostIs h) (HostIs g) v e f =
    let under = (host_under_decides h t).0 (some_is _ e) in
    answers (same_host h g) (false_where (not (is_host_under g t))) v (same_host_decides h g)
    (Agrees-unless _ (host_under_decides g t) (λ same. subst (λ x. IsHostUnder x t) same under)) f
through_suffix t (HostUnder s) HostDomain v e f = f
through_suffix t (HostUnder s) (HostUnder u) v e f =
    nested_through IsWithin lies_within lies_within_decides within_through within_nest s t u v e f
through_suffix t (HostUnder s) (HostIs g) v e f =
    let within = (lies_within_decides s t).0 (inner_true _ _ e) in
    denies (is_host_under g t) (is_host_under g s) v (host_under_decides g t) (host_under_decides g s) (under_through s t g within) f
through_suffix t a c v e f = cc

through_domain : (a c : Atom) (v : Bool) → follows_true a HostDomain ≡ Some true → follows_true HostDomain c ≡ Some v → follows_true a c ≡ Some v
through_domain (HostIs h) HostDomain v e f = e ∙ f
through_domain (HostIs h) (HostIs g) v e f =
    let domain = (domain_host_decides h).0 (some_is _ e) in
    answers (same_host h g) (false_where (not (is_domain_host g))) v (same_host_decides h g)
    (Agrees-unless _ (domain_host_decides g) (λ same. subst IsDomainHost same domain)) f
through_domain (HostUnder s) HostDomain v e f = f
through_domain (HostUnder s) (HostIs g) v e f =
    denies (is_domain_host g) (is_host_under g s) v (domain_host_decides g) (host_under_decides g s) (under_is_domain s g) f
through_domain HostDomain c v e f = f
through_domain a c v e f = cc

through_front : (q : List (List ℕ)) (a c : Atom) (v : Bool) → follows_true a (PathUnder q) ≡ Some true → follows_true (PathUnder q) c ≡ Some v → follows_true a c ≡ Some v
through_front q (PathIs p) (PathUnder r) v e f =
    let beyond = (beyond_Decides p q).0 (some_is _ e) in
    answers (goes_beyond p r) (nested (begins_with q r) (begins_with r q)) v (beyond_Decides p r)
    (Agrees-nested _ _ (begins_Decides q r) (begins_Decides r q) (λ begins. beyond_through q r p begins beyond) (beyond_both q r p beyond)) f
through_front q (PathIs p) (PathIs r) v e f =
    let beyond = (beyond_Decides p q).0 (some_is _ e) in
    answers (same_path p r) (false_where (not (goes_beyond r q))) v (same_path_decides p r)
    (Agrees-unless _ (beyond_Decides r q) (λ same. subst (PathMatches (Prefix q)) same beyond)) f
through_front q (PathUnder p) (PathUnder r) v e f =
    nested_through Begins begins_with begins_Decides begins_through begins_nest p q r v e f
through_front q (PathUnder p) (PathIs r) v e f =
    let begins = (begins_Decides p q).0 (inner_true _ _ e) in
    denies (goes_beyond r q) (goes_beyond r p) v (beyond_Decides r q) (beyond_Decides r p) (beyond_through p q r begins) f
through_front q a c v e f = cc

through_point : (a b c : Atom) (v : Bool) → is_point b ≡ true → follows_true a b ≡ Some true → follows_true b c ≡ Some v → follows_true a c ≡ Some v
through_point a b c v p e f = subst (λ x. follows_true x c ≡ Some v) (sym (point_itself a b p e)) f

through_true : (a b c : Atom) (v : Bool) → follows_true a b ≡ Some true → follows_true b c ≡ Some v → follows_true a c ≡ Some v
through_true a (HostUnder t) c v = through_suffix t a c v
through_true a HostDomain c v = through_domain a c v
through_true a (PathUnder q) c v = through_front q a c v
through_true a (HostIs h) c v = through_point a (HostIs h) c v refl
through_true a (PortIs n) c v = through_point a (PortIs n) c v refl
through_true a (PathIs p) c v = through_point a (PathIs p) c v refl
through_true a (SchemeIs s) c v = through_point a (SchemeIs s) c v refl
through_true a (NonceIs n) c v = through_point a (NonceIs n) c v refl
through_true a (IntegrityHas h) c v = through_point a (IntegrityHas h) c v refl
through_true a IntegrityOutside c v = through_point a IntegrityOutside c v refl
through_true a (DigestIs d) c v = through_point a (DigestIs d) c v refl

-- Denials, of which the table says the same turned round

abbrev plus : Atom → Literal
plus a = record { atom = a; positive = true }

abbrev minus : Atom → Literal
minus a = record { atom = a; positive = false }

by_signs : (a b c : Atom) (s t v : Bool) → follows (record { atom = a; positive = s }) b ≡ Some t
    → follows (record { atom = b; positive = t }) c ≡ Some v → follows (record { atom = a; positive = s }) c ≡ Some v
by_signs a b c true true v e f = through_true a b c v e f
by_signs a b c true false true e f = false_false b c f
by_signs a b c true false false e f =
    let narrower : follows_true c b ≡ Some true = refutes_back (minus b) (plus c) f in
    let apart : follows_true b a ≡ Some false = refutes_back (plus a) (plus b) e in
    refutes_back (plus c) (plus a) (through_true c b a false narrower apart)
by_signs a b c false true v e f = false_false a b e
by_signs a b c false false true e f = false_false b c f
by_signs a b c false false false e f =
    let wider : follows_true b a ≡ Some true = refutes_back (minus a) (plus b) e in
    let narrower : follows_true c b ≡ Some true = refutes_back (minus b) (plus c) f in
    refutes_back (plus c) (minus a) (through_true c b a true narrower wider)

pub through : (l m : Literal) (a : Atom) (v : Bool) → follows l m.atom ≡ Some m.positive → follows m a ≡ Some v → follows l a ≡ Some v
through l m a v e f = by_signs l.atom m.atom a l.positive m.positive v e f
