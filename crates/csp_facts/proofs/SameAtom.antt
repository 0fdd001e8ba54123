-- Equal atoms alone are level in the order.
use Rattle.std.proofs.Common.{◌≡◌, ◌∙◌, refl, sym, ap, ℕ, true, false, List, arith}
use Rattle.std.proofs.lemmas.Bool.Decides.{nat_tests}
use Rattle.std.proofs.lemmas.Map.Text.{is_eq-slice_cmp}
use Rattle.std.proofs.lemmas.Slice.Eq.{bytes_eq-Decides}
use Rattle.std.specs.Bool.{Decides}
use Rattle.std.specs.Cmp.{tied_itself}
use Rattle.std.specs.Cmp.Lexicographic.{slice_cmp, lists_ties, pointwise_decides, texts_ties}
use Rattle.std.specs.Ordering.{nat_cmp, ordering_then, is_eq, is_lt, is_gt}
use Rattle.std.specs.declared.cmp.Ordering.{Ordering}
use Rattle.std.specs.declared.cmp.Ordering.TheVariants.{Less, Equal, Greater}
use Rattle.csp_model.specs.Paths.{front_text}
use Rattle.csp_model.specs.declared.check.Digest.TheVariants as digest
use Rattle.csp_model.specs.declared.source.Algorithm.{Algorithm}
use Rattle.csp_model.specs.declared.source.Algorithm.TheVariants.{Sha256, Sha384, Sha512}
use Rattle.csp_model.specs.declared.source.Hash.{Hash}
use Rattle.csp_model.specs.declared.url.Host.TheVariants.{Domain, Address}
use Rattle.csp_facts.specs.declared.atom.Atom.{Atom}
use Rattle.csp_facts.specs.declared.atom.Atom.TheVariants.{HostIs, HostUnder, HostDomain, PortIs, PathIs, PathUnder, SchemeIs, NonceIs, IntegrityHas, IntegrityOutside, DigestIs}
use Rattle.csp_facts.specs.Kinds.{text_cmp, tagged_cmp, by_kind}
use Rattle.csp_facts.specs.Order.{algorithm_rank, atom_cmp}
use Rattle.csp_facts.proofs.OrderLaws.{by_kind_is, atom_total}

-- What is level is equal

same_text : (s t : List ℕ) → text_cmp s t ≡ Equal → s ≡ t
same_text s t e = (bytes_eq-Decides s t).0 (sym (is_eq-slice_cmp s t) ∙ ap is_eq e)

same_number : (m n : ℕ) → nat_cmp m n ≡ Equal → m ≡ n
same_number m n e = grind (arith, nat_tests)

same_path : (p q : List (List ℕ)) → slice_cmp text_cmp p q ≡ Equal → p ≡ q
same_path p q e = (pointwise_decides bytes_eq-Decides p q).0 (lists_ties text_cmp texts_ties p q ∙ ap is_eq e)

then_first : (r s : Ordering) → ordering_then r s ≡ Equal → r ≡ Equal
then_first Less s e = e
then_first Equal s e = refl
then_first Greater s e = e

then_second : (r s : Ordering) → ordering_then r s ≡ Equal → s ≡ Equal
then_second Less s e = cc
then_second Equal s e = e
then_second Greater s e = cc

same_algorithm : (a b : Algorithm) → algorithm_rank a ≡ algorithm_rank b → a ≡ b
same_algorithm Sha256 Sha256 e = refl
same_algorithm Sha384 Sha384 e = refl
same_algorithm Sha512 Sha512 e = refl
same_algorithm a b e = absurd (omega arith)

same_hash : (g h : Hash) → tagged_cmp g.algorithm g.value h.algorithm h.value ≡ Equal → g ≡ h
same_hash g h e =
    let algorithm = same_algorithm g.algorithm h.algorithm (same_number _ _ (then_first _ _ e)) in
    let value = same_text g.value h.value (then_second _ _ e) in
    ap (λ (a : Algorithm). record { algorithm = a; value = g.value }) algorithm
    ∙ ap (λ (v : List ℕ). record { algorithm = h.algorithm; value = v }) value

level_same : (a b : Atom) → by_kind a b ≡ Equal → a ≡ b
level_same (HostIs (Domain s)) (HostIs (Domain t)) e = ap (λ (x : List ℕ). HostIs (Domain x)) (same_text s t e)
level_same (HostIs (Address s)) (HostIs (Address t)) e = ap (λ (x : List ℕ). HostIs (Address x)) (same_text s t e)
level_same (HostUnder s) (HostUnder t) e = ap HostUnder (same_text s t e)
level_same HostDomain HostDomain e = refl
level_same (PortIs m) (PortIs n) e = ap PortIs (same_number m n e)
level_same (PathIs p) (PathIs q) e = ap PathIs (same_path p q (then_second (text_cmp (front_text p) (front_text q)) (slice_cmp text_cmp p q) e))
level_same (PathUnder p) (PathUnder q) e = ap PathUnder (same_path p q (then_second (text_cmp (front_text p) (front_text q)) (slice_cmp text_cmp p q) e))
level_same (SchemeIs s) (SchemeIs t) e = ap SchemeIs (same_text s t e)
level_same (NonceIs s) (NonceIs t) e = ap NonceIs (same_text s t e)
level_same (IntegrityHas g) (IntegrityHas h) e = ap IntegrityHas (same_hash g h e)
level_same IntegrityOutside IntegrityOutside e = refl
level_same (DigestIs (digest.Sha256 d)) (DigestIs (digest.Sha256 c)) e = ap (λ (x : List ℕ). DigestIs (digest.Sha256 x)) (same_text d c e)
level_same (DigestIs (digest.Sha384 d)) (DigestIs (digest.Sha384 c)) e = ap (λ (x : List ℕ). DigestIs (digest.Sha384 x)) (same_text d c e)
level_same (DigestIs (digest.Sha512 d)) (DigestIs (digest.Sha512 c)) e = ap (λ (x : List ℕ). DigestIs (digest.Sha512 x)) (same_text d c e)
level_same a b e = cc

pub same_atom : (a b : Atom) → atom_cmp a b ≡ Equal → a ≡ b
same_atom a b e = level_same a b (sym (by_kind_is a b) ∙ e)

pub equal_is : (r : Ordering) → is_eq r ≡ true → r ≡ Equal
equal_is Less e = cc
equal_is Equal e = refl
equal_is Greater e = cc

level_is : (a b : Atom) → a ≡ b → is_eq (atom_cmp a b) ≡ true
level_is a b e = ap (λ (x : Atom). is_eq (atom_cmp x b)) e ∙ ap is_eq (tied_itself atom_total b)

pub level_decides : (a b : Atom) → Decides (is_eq (atom_cmp a b)) (a ≡ b)
level_decides a b = (λ e. same_atom a b (equal_is (atom_cmp a b) e), level_is a b)

pub less_down : (a b x : Atom) (r : Ordering) → atom_cmp a b ≡ r → is_gt r ≡ false → is_lt (atom_cmp b x) ≡ true → is_lt (atom_cmp a x) ≡ true
less_down a b x Less is low less = let e = less_is (atom_cmp b x) refl less in ap is_lt (atom_total.trans a b x is e)
  where
    less_is : (s : Ordering) → atom_cmp b x ≡ s → is_lt (atom_cmp b x) ≡ true → atom_cmp b x ≡ Less
    less_is Less e h = e
    less_is Equal e h = let g : is_lt Equal ≡ true = rw e at h in cc
    less_is Greater e h = let g : is_lt Greater ≡ true = rw e at h in cc
less_down a b x Equal is low less = ap is_lt (atom_total.congr a b x is) ∙ less
less_down a b x Greater is low less = cc
