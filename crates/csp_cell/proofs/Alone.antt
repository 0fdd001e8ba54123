-- A literal that decides no atom but its own makes none needless that leaves it open.
use Rattle.std.proofs.Common.{◌≡◌, ◌∙◌, Bool, true, false, not, List, refl, sym, ap, Some, None}
use Rattle.std.specs.Bool.{Decides}
use Rattle.std.proofs.lemmas.Bool.Decides.{Decides-eqb}
use Rattle.std.proofs.lemmas.List.Elements.{All-weaker}
use Rattle.std.proofs.lemmas.Slice.Eq.{bytes_eq-Decides}
use Rattle.csp_model.proofs.EqualityDecided.{same_host_decides, same_hash_decides}
use Rattle.csp_model.specs.declared.check.Digest.TheVariants.{Sha256, Sha384, Sha512}
use Rattle.csp_facts.proofs.Own.{own}
use Rattle.csp_facts.proofs.TableTests.{same_path_decides}
use Rattle.csp_facts.specs.Follows.{true_where, false_where, follows_true, follows_false, follows, decided}
use Rattle.csp_facts.specs.declared.atom.Atom.{Atom}
use Rattle.csp_facts.specs.declared.atom.Atom.TheVariants.{HostIs, PortIs, PathIs, SchemeIs, NonceIs, IntegrityHas, IntegrityOutside, DigestIs}
use Rattle.csp_facts.specs.declared.atom.Literal.{Literal}
use Rattle.csp_cell.specs.Cells.{decides_alone, implies, needed_beside}
use Rattle.csp_cell.proofs.Covering.{implied}
use Rattle.csp_cell.proofs.Parts.{all_pass}
use Rattle.csp_cell.proofs.Taking.{all_none}

where_false : {P : Type 0} (test : Bool) (v : Bool) → Decides test P → false_where test ≡ Some v → P
where_false true v d e = d.0 refl
where_false false v d e = cc

where_true : {P : Type 0} (test : Bool) (v : Bool) → Decides test P → true_where test ≡ Some v → P
where_true true v d e = d.0 refl
where_true false v d e = cc

alone_denied : (a b : Atom) (v : Bool) → decides_alone a false ≡ true → follows_false a b ≡ Some v → a ≡ b
alone_denied (HostIs h) (HostIs g) v alone says = ap HostIs (where_false _ v (same_host_decides h g) says)
alone_denied (PortIs m) (PortIs n) v alone says = ap PortIs (where_false _ v (Decides-eqb m n) says)
alone_denied (PathIs p) (PathIs q) v alone says = ap PathIs (where_false _ v (same_path_decides p q) says)
alone_denied (SchemeIs s) (SchemeIs t) v alone says = ap SchemeIs (where_false _ v (bytes_eq-Decides s t) says)
alone_denied (NonceIs s) (NonceIs t) v alone says = ap NonceIs (where_false _ v (bytes_eq-Decides s t) says)
alone_denied (IntegrityHas g) (IntegrityHas h) v alone says = ap IntegrityHas (where_false _ v (same_hash_decides g h) says)
alone_denied IntegrityOutside IntegrityOutside v alone says = refl
alone_denied (DigestIs (Sha256 d)) (DigestIs (Sha256 e)) v alone says = ap (λ x. DigestIs (Sha256 x)) (where_false _ v (bytes_eq-Decides d e) says)
alone_denied (DigestIs (Sha384 d)) (DigestIs (Sha384 e)) v alone says = ap (λ x. DigestIs (Sha384 x)) (where_false _ v (bytes_eq-Decides d e) says)
alone_denied (DigestIs (Sha512 d)) (DigestIs (Sha512 e)) v alone says = ap (λ x. DigestIs (Sha512 x)) (where_false _ v (bytes_eq-Decides d e) says)
alone_denied a b v alone says = cc

alone_said : (a b : Atom) (v : Bool) → decides_alone a true ≡ true → follows_true a b ≡ Some v → a ≡ b
alone_said (IntegrityHas g) (IntegrityHas h) v alone says = ap IntegrityHas (where_true _ v (same_hash_decides g h) says)
alone_said IntegrityOutside IntegrityOutside v alone says = refl
alone_said a b v alone says = cc

is_itself : (a b : Atom) (sign v : Bool) → decides_alone a sign ≡ true → follows (record { atom = a; positive = sign }) b ≡ Some v → a ≡ b
is_itself a b true v alone says = alone_said a b v alone says
is_itself a b false v alone says = alone_denied a b v alone says

needed : (l m : Literal) → decides_alone l.atom l.positive ≡ true → follows m l.atom ≡ None → not (implies l m) ≡ true
needed l m so none = by_test (implies l m) refl
  where
    by_test : (b : Bool) → implies l m ≡ b → not b ≡ true
    by_test false e = refl
    by_test true e =
        let same : l.atom ≡ m.atom = is_itself l.atom m.atom l.positive m.positive so (implied l m e) in
        let never : Some m.positive ≡ None = sym (own m) ∙ ap (follows m) (sym same) ∙ none in
        cc

pub all_needed : (l : Literal) (ls : List Literal) → decides_alone l.atom l.positive ≡ true → decided ls l.atom ≡ None → ls ≡ needed_beside l ls
all_needed l ls so none =
    sym (all_pass (λ m. not (implies l m)) ls (All-weaker (λ m. follows m l.atom ≡ None) (λ m. not (implies l m) ≡ true) (λ m e. needed l m so e) ls (all_none ls l.atom none)))
