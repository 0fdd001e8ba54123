-- What is asked of the parts of a check, and the conjunction of it.
use Rattle.std.proofs.Common.{◌≡◌, ◌∙◌, sym, ap, ap₂, refl, subst, ℕ, ◌==◌, Bool, true, false, cond, ◌||◌, not, List, [], ◌∷◌, Option, Some, None, Contains}
use Rattle.std.specs.Option.{option_map, option_to_list}
use Rattle.std.specs.List.{slice_get}
use Rattle.std.proofs.lemmas.Bool.{false≢true}
use Rattle.std.proofs.lemmas.Option.{get_or_from_slice_get, slice_get_within}
use Rattle.csp_model.specs.Ascii.{is_nonempty}
use Rattle.csp_model.specs.Schemes.{default_port}
use Rattle.csp_model.specs.declared.source.HostPart.{HostPart}
use Rattle.csp_model.specs.declared.source.HostPart.TheVariants as host_part
use Rattle.csp_model.specs.declared.source.PathPart.{PathPart}
use Rattle.csp_model.specs.declared.source.PathPart.TheVariants as path_part
use Rattle.csp_model.specs.declared.source.PortPart.{PortPart}
use Rattle.csp_model.specs.declared.source.PortPart.TheVariants as port_part
use Rattle.csp_model.specs.declared.url.Scheme.{Scheme}
use Rattle.csp_model.specs.Validity.{is_domain, is_four_numbers}
use Rattle.csp_facts.specs.declared.atom.Atom.{Atom}
use Rattle.csp_facts.specs.declared.atom.Atom.TheVariants.{HostDomain, HostUnder, HostIs, PathIs, PathUnder, PortIs}
use Rattle.csp_model.specs.declared.url.Host.TheVariants.{Domain, Address}
use Rattle.csp_branch.specs.Groups.{atom_in}
use Rattle.csp_facts.specs.declared.shape.Shape.{Shape}
use Rattle.csp_formula.specs.Outlines.{path_said, port_said}
use Rattle.csp_formula.specs.Sentences.{Sentence, Known, Fact, all_of}
use Rattle.csp_formula.specs.Sources.{after_redirect, has_dots, host_sentence, is_ancestor, own_port_sentence, path_fact, path_sentence, port_sentence}
use Rattle.csp_formula.specs.Surely.{surely, maybe_and}
use Rattle.csp_formula.specs.declared.outline.PathOutline.{PathOutline}
use Rattle.csp_formula.specs.declared.outline.PathOutline.TheVariants as path
use Rattle.csp_formula.specs.declared.outline.PortOutline.{PortOutline}
use Rattle.csp_formula.specs.declared.outline.PortOutline.TheVariants as port
use Rattle.csp_answer.specs.Answers.{fact_in}
use Rattle.csp_answer.specs.Asking.{AmountTo, IsAsked, IsPortNamed, conjunction_of, path_asked}
use Rattle.csp_answer.specs.Naming.{IsNameOf, host_atom, path_atom}
use Rattle.csp_answer.proofs.Among.{among_same}
use Rattle.csp_answer.proofs.Amounts.{and_never, one, turned_to_never}

-- an atom, or what never holds
abbrev pub maybe_fact : Option Atom → Sentence
maybe_fact None = Known false
maybe_fact (Some atom) = Fact atom

module _ (atoms : List Atom) where
  pub atom_of : (name : ℕ) (atom : Atom) → slice_get atoms name ≡ Some atom → atom_in atoms name ≡ atom
  atom_of name atom is = get_or_from_slice_get atoms name atom HostDomain is

  -- the name of an atom that has one
  pub named_atom : (atom : Atom) (name : Option ℕ) → IsNameOf atoms (Some atom) name → IsAsked atoms (Fact atom) (Some name)
  named_atom atom None is = absurd cc
  named_atom atom (Some n) is =
      let stands : slice_get atoms n ≡ Some atom = cc in
      record { says = ap Fact (atom_of n atom stands); there = slice_get_within atoms n atom stands }

  pub named_nothing : (name : Option ℕ) → IsNameOf atoms None name → IsAsked atoms (Known true) (Some name)
  named_nothing None is = record { says = refl; there = tt }
  named_nothing (Some n) is = absurd cc

  -- the lead of a source never holds where it has no name
  pub named_lead : (atom : Option Atom) (name : Option ℕ) → IsNameOf atoms atom name → IsAsked atoms (maybe_fact atom) (option_map Some name)
  named_lead None None is = record { says = refl; there = tt }
  named_lead None (Some n) is = absurd cc
  named_lead (Some atom) None is = absurd cc
  named_lead (Some atom) (Some n) is = named_atom atom (Some n) is

  pub nothing_asked : IsAsked atoms (Known true) (Some None)
  nothing_asked = record { says = refl; there = tt }

  pub never_asked : IsAsked atoms (Known false) None
  never_asked = record { says = refl; there = tt }

  pub conjunction_amounts : (x y z : Sentence) (lead : Option ℕ) (at by : Option (Option ℕ)) → IsAsked atoms x (option_map Some lead) → IsAsked atoms y at
      → IsAsked atoms z by → AmountTo atoms (all_of (x ∷ y ∷ z ∷ [])) (option_to_list (conjunction_of lead at by))
  conjunction_amounts x y z None at by of_x of_y of_z =
      turned_to_never atoms (all_of (x ∷ y ∷ z ∷ [])) (λ ls. ap (λ s. surely ls (all_of (s ∷ y ∷ z ∷ []))) of_x.says)
  conjunction_amounts x y z (Some n) None by of_x of_y of_z =
      turned_to_never atoms (all_of (x ∷ y ∷ z ∷ []))
      (λ ls. sym (and_never (surely ls x)) ∙ ap (λ s. surely ls (all_of (x ∷ s ∷ z ∷ []))) of_y.says)
  conjunction_amounts x y z (Some n) (Some p) None of_x of_y of_z =
      turned_to_never atoms (all_of (x ∷ y ∷ z ∷ []))
      (λ ls. sym (ap (maybe_and (surely ls x)) (and_never (surely ls y)) ∙ and_never (surely ls x)) ∙ ap (λ s. surely ls (all_of (x ∷ y ∷ s ∷ []))) of_z.says)
  conjunction_amounts x y z (Some n) (Some p) (Some q) of_x of_y of_z =
      one atoms (record { lead = Some n; port = p; path = q }) (all_of (x ∷ y ∷ z ∷ []))
      (λ ls. ap₂ maybe_and (ap (surely ls) of_x.says) (ap₂ maybe_and (ap (surely ls) of_y.says) (ap (λ s. maybe_and (surely ls s) (Some true)) of_z.says)))
      (among_same (all_of (fact_in atoms (Some n) ∷ fact_in atoms p ∷ fact_in atoms q ∷ [])) (all_of (x ∷ y ∷ z ∷ [])) (rw (of_x.says, of_y.says, of_z.says) refl))
      (record { lead = of_x.there; port = of_y.there; path = of_z.there })

-- Hosts

pub host_said : (host : HostPart) → host_sentence host ≡ maybe_fact (host_atom host)
host_said host_part.Any = refl
host_said (host_part.Under suffix) = by_test (is_domain suffix) where
  by_test : (b : Bool) → cond b (Fact (HostUnder suffix)) (Known false) ≡ maybe_fact (cond b (Some (HostUnder suffix)) None)
  by_test true = refl
  by_test false = refl
host_said (host_part.Exact text) = by_tests (is_domain text) (is_four_numbers text) where
  by_tests : (b d : Bool) → cond b (Fact (HostIs (Domain text))) (cond d (Fact (HostIs (Address text))) (Known false))
      ≡ maybe_fact (cond b (Some (HostIs (Domain text))) (cond d (Some (HostIs (Address text))) None))
  by_tests true d = refl
  by_tests false true = refl
  by_tests false false = refl

-- Ports

pub port_named : (atoms : List Atom) (at : PortOutline) (part : PortPart) (scheme : Scheme)
    → ((n : ℕ) → part ≡ port_part.Number n → Contains atoms (PortIs n)) → ((s : Scheme) → Contains atoms (PortIs (default_port s)))
    → port_said at ≡ port_sentence part scheme → IsPortNamed atoms at
port_named atoms (port.Constant known) part scheme own defaults says = tt
port_named atoms (port.Is n) port_part.Absent scheme own defaults says =
    let same : n ≡ default_port scheme = cc in subst (λ m. Contains atoms (PortIs m)) (sym same) (defaults scheme)
port_named atoms (port.Is n) port_part.Any scheme own defaults says = absurd cc
port_named atoms (port.Is n) (port_part.Number m) scheme own defaults says =
    let same : n ≡ m = cc in subst (λ k. Contains atoms (PortIs k)) (sym same) (own m refl)
port_named atoms (port.Is n) port_part.TooLarge scheme own defaults says = absurd cc

own_named_at : (atoms : List Atom) (n m : ℕ) (b : Bool) → Contains atoms (PortIs m) → Fact (PortIs n) ≡ cond b (Known false) (Fact (PortIs m)) → Contains atoms (PortIs n)
own_named_at atoms n m true has says = absurd cc
own_named_at atoms n m false has says = let same : n ≡ m = cc in subst (λ k. Contains atoms (PortIs k)) (sym same) has

pub own_named : (atoms : List Atom) (at : PortOutline) (own : Option ℕ) (scheme : Scheme)
    → ((n : ℕ) → own ≡ Some n → Contains atoms (PortIs n)) → ((s : Scheme) → Contains atoms (PortIs (default_port s)))
    → port_said at ≡ own_port_sentence own scheme → IsPortNamed atoms at
own_named atoms (port.Constant known) own scheme has defaults says = tt
own_named atoms (port.Is n) None scheme has defaults says =
    let same : n ≡ default_port scheme = cc in subst (λ m. Contains atoms (PortIs m)) (sym same) (defaults scheme)
own_named atoms (port.Is n) (Some m) scheme has defaults says = own_named_at atoms n m (m == default_port scheme) (has m refl) says

-- Paths

not_never : (always never : Bool) (atom : Atom) → Fact atom ≡ path_fact always never atom → (always ≡ false) × (never ≡ false)
not_never true never atom says = absurd cc
not_never false true atom says = absurd cc
not_never false false atom says = (refl, refl)

exact_atom : (pieces : List (List ℕ)) (b d : Bool) → (b || d) ≡ false → cond b None (Some (PathIs pieces)) ≡ Some (PathIs pieces)
exact_atom pieces true d off = absurd (false≢true (sym off))
exact_atom pieces false d off = refl

front_atom : (pieces : List (List ℕ)) (a n b d : Bool) → (a || n) ≡ false → (b || d) ≡ false → cond (b || n) None (Some (PathUnder pieces)) ≡ Some (PathUnder pieces)
front_atom pieces true n b d off out = absurd (false≢true (sym off))
front_atom pieces false true b d off out = absurd (false≢true (sym off))
front_atom pieces false false true d off out = absurd (false≢true (sym out))
front_atom pieces false false false d off out = refl

pub path_named : (atoms : List Atom) (by : PathOutline) (part : PathPart) (kind : Shape) (name : Option ℕ) → IsNameOf atoms (path_atom part) name
    → path_said by part ≡ path_sentence part kind → IsAsked atoms (path_said by part) (path_asked by name)
path_named atoms (path.Constant true) part kind name is says = nothing_asked atoms
path_named atoms (path.Constant false) part kind name is says = never_asked atoms
path_named atoms path.Itself path_part.Absent kind name is says = named_nothing atoms name is
path_named atoms path.Itself (path_part.Exact pieces) kind name is says =
    let no = not_never (after_redirect kind) (has_dots pieces || is_ancestor kind) (PathIs pieces) says in
    named_atom atoms (PathIs pieces) name (is ∙ ap (option_map Some) (exact_atom pieces (has_dots pieces) (is_ancestor kind) no.1))
path_named atoms path.Itself (path_part.Prefix pieces) kind name is says =
    let no = not_never (after_redirect kind || not (is_nonempty pieces)) (has_dots pieces || is_ancestor kind) (PathUnder pieces) says in
    named_atom atoms (PathUnder pieces) name
    (is ∙ ap (option_map Some) (front_atom pieces (after_redirect kind) (not (is_nonempty pieces)) (has_dots pieces) (is_ancestor kind) no.0 no.1))
