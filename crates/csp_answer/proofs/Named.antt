-- Atoms that have names: those of sources, of policies and of a vocabulary, as parts of all that were named.
use Rattle.std.proofs.Common.{◌≡◌, ◌∙◌, sym, ap, ap₂, subst, ℕ, ◌+◌, ◌<◌, List, [], ◌∷◌, ◌++◌, map, take, length, get_or, Option, Some, All, Contains, IfSome}
use Rattle.std.specs.Prelude.{slice_get}
use Rattle.std.specs.List.{AllZip, flat_map}
use Rattle.std.specs.Option.{option_to_list}
use Rattle.std.proofs.lemmas.List.{map-append, map_more, take_more}
use Rattle.std.proofs.lemmas.List.Elements.{All-head, All-tail}
use Rattle.std.proofs.lemmas.Slice.Zip.{all_zipped_more}
use Rattle.csp_model.specs.Schemes.{default_port}
use Rattle.csp_model.specs.declared.policy.Policy.{Policy}
use Rattle.csp_model.specs.declared.source.Hash.{Hash}
use Rattle.csp_model.specs.declared.source.Source.{Source}
use Rattle.csp_model.specs.declared.url.Origin.{Origin}
use Rattle.csp_model.specs.declared.url.Scheme.{Scheme}
use Rattle.csp_model.specs.declared.url.Scheme.TheVariants.{Http, Https, Ws, Wss, Ftp}
use Rattle.csp_facts.specs.declared.atom.Atom.{Atom}
use Rattle.csp_facts.specs.declared.atom.Atom.TheVariants.{PortIs, IntegrityHas, IntegrityOutside}
use Rattle.csp_answer.specs.Naming.{HasPort, HasPorts, all_atoms, lead_atom, own_port, pair_atoms, policy_atoms, port_atom, port_atoms, rest_atom, source_atoms}
use Rattle.csp_answer.proofs.Pieces.{back, front, in_flat_map, in_map, in_option}

-- one more of two lists side by side
pub zip_more : {A B : Type 0} (R : A → B → Type 0) (xs : List A) (ys : List B) (i : ℕ) (x : A) (y : B) → i < length xs → x ≡ get_or xs i x
    → AllZip R (take i xs) ys → R x y → AllZip R (take (i + 1) xs) (ys ++ y ∷ [])
zip_more {A = A} R xs ys i x y inside at before here =
    subst (λ (zs : List A). AllZip R zs (ys ++ y ∷ [])) (ap (λ (z : A). take i xs ++ z ∷ []) at ∙ sym (take_more xs i x inside))
    (all_zipped_more R (take i xs) ys x y before here)

module _ (names : List Atom) where
  -- a source of some

  module _ (self : Origin) (sources : List Source) (i : ℕ) (s : Source) (inside : i < length sources) (at : s ≡ get_or sources i s)
      (all : All (Contains names) (flat_map (source_atoms self) sources)) where
    here : All (Contains names) (source_atoms self s)
    here = in_flat_map (Contains names) (source_atoms self) sources i s inside at all

    port_and_lead : All (Contains names) (option_to_list (port_atom s) ++ option_to_list (lead_atom self s))
    port_and_lead = front (Contains names) (option_to_list (port_atom s) ++ option_to_list (lead_atom self s)) (option_to_list (rest_atom s)) here

    pub has_port : HasPort names s
    has_port = in_option (Contains names) (port_atom s) (front (Contains names) (option_to_list (port_atom s)) (option_to_list (lead_atom self s)) port_and_lead)

    pub has_lead : IfSome (lead_atom self s) (Contains names)
    has_lead = in_option (Contains names) (lead_atom self s) (back (Contains names) (option_to_list (port_atom s)) (option_to_list (lead_atom self s)) port_and_lead)

    pub has_rest : IfSome (rest_atom s) (Contains names)
    has_rest =
        in_option (Contains names) (rest_atom s)
        (back (Contains names) (option_to_list (port_atom s) ++ option_to_list (lead_atom self s)) (option_to_list (rest_atom s)) here)

  -- ports

  pub has_ports : (self : Origin) → All (Contains names) (port_atoms self) → HasPorts names self
  has_ports self all =
      let own = option_to_list (own_port self) in
      let two = All-tail (Contains names) (PortIs (default_port Http)) (PortIs (default_port Https) ∷ PortIs (default_port Ftp) ∷ own) all in
      let one = All-tail (Contains names) (PortIs (default_port Https)) (PortIs (default_port Ftp) ∷ own) two in
      let http = All-head (Contains names) (PortIs (default_port Http)) (PortIs (default_port Https) ∷ PortIs (default_port Ftp) ∷ own) all in
      let https = All-head (Contains names) (PortIs (default_port Https)) (PortIs (default_port Ftp) ∷ own) two in
      record {
        own = in_option (Contains names) (own_port self) (All-tail (Contains names) (PortIs (default_port Ftp)) own one);
        defaults = by_scheme http https (All-head (Contains names) (PortIs (default_port Ftp)) own one);
      }
    where
      by_scheme : Contains names (PortIs (default_port Http)) → Contains names (PortIs (default_port Https)) → Contains names (PortIs (default_port Ftp))
          → (scheme : Scheme) → Contains names (PortIs (default_port scheme))
      by_scheme http https ftp Http = http
      by_scheme http https ftp Https = https
      by_scheme http https ftp Ws = http
      by_scheme http https ftp Wss = https
      by_scheme http https ftp Ftp = ftp

  -- pairs of a vocabulary

  module _ (hashes : List Hash) (all : All (Contains names) (pair_atoms hashes)) where
    pub has_outside : Contains names IntegrityOutside
    has_outside = All-head (Contains names) IntegrityOutside (map (λ (h : Hash). IntegrityHas h) hashes) all

    pub has_pair : (i : ℕ) (h : Hash) → i < length hashes → h ≡ get_or hashes i h → Contains names (IntegrityHas h)
    has_pair i h inside at =
        in_map (Contains names) (λ (h : Hash). IntegrityHas h) hashes i h inside at
        (All-tail (Contains names) IntegrityOutside (map (λ (h : Hash). IntegrityHas h) hashes) all)

  pub one_pair : (hashes : List Hash) (pairs : List ℕ) (pair : ℕ) (i : ℕ) (h : Hash) → i < length hashes → h ≡ get_or hashes i h
      → map (slice_get names) pairs ≡ map (λ (h : Hash). Some (IntegrityHas h)) (take i hashes) → slice_get names pair ≡ Some (IntegrityHas h)
      → map (slice_get names) (pairs ++ pair ∷ []) ≡ map (λ (h : Hash). Some (IntegrityHas h)) (take (i + 1) hashes)
  one_pair hashes pairs pair i h inside at before here =
      map-append (slice_get names) pairs (pair ∷ [])
      ∙ ap₂ (λ (xs : List (Option Atom)) (x : Option Atom). xs ++ x ∷ []) before (here ∙ ap (λ (h : Hash). Some (IntegrityHas h)) at)
      ∙ sym (map_more (λ (h : Hash). Some (IntegrityHas h)) hashes i h inside)

  -- all that were named

  pub record AreThere (hashes : List Hash) (ours theirs : List Policy) (rest : List Atom) : Type 0 where
    pub pairs : All (Contains names) (pair_atoms hashes)
    pub first : All (Contains names) (flat_map policy_atoms ours)
    pub second : All (Contains names) (flat_map policy_atoms theirs)
    pub others : All (Contains names) rest

  pub all_there : (atoms : List Atom) (hashes : List Hash) (ours theirs : List Policy) (others : List Atom) → atoms ≡ all_atoms hashes ours theirs others
      → All (Contains names) atoms → AreThere hashes ours theirs others
  all_there atoms hashes ours theirs others are each =
      let pairs = pair_atoms hashes in
      let first = flat_map policy_atoms ours in
      let second = flat_map policy_atoms theirs in
      let all = subst (All (Contains names)) are each in
      let three = front (Contains names) (pairs ++ first ++ second) others all in
      let two = front (Contains names) (pairs ++ first) second three in
      record {
        pairs = front (Contains names) pairs first two;
        first = back (Contains names) pairs first two;
        second = back (Contains names) (pairs ++ first) second three;
        others = back (Contains names) (pairs ++ first ++ second) others all;
      }
