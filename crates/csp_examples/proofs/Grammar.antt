-- Tokens, and what they stand for.
use Rattle.std.proofs.Common.{true, ◌≡◌, [], ◌∷◌, Some, None, refl, ℕ, List, ◌++◌, Option, IsTrue, map, subst}
use Rattle.std.specs.Prelude.{codes}
use Rattle.std.proofs.lemmas.Bool.{false≢true}
use Rattle.std.proofs.lemmas.Slice.Eq.{bytes_eq-Decides}
use Rattle.csp_model.specs.Ascii.{lower}
use Rattle.csp_model.specs.Grammar.{IsHostSource, IsSchemeSource, IsSource, host_part_of, port_part_of, path_part_of, decimal_value, is_scheme}
use Rattle.csp_model.specs.Reading.{source_of}
use Rattle.csp_model.proofs.Deciding.{fails}
use Rattle.csp_examples.proofs.OnLiterals.{source_on_literals}
use Rattle.csp_model.specs.declared.source.Algorithm.TheVariants.{Sha384}
use Rattle.csp_model.specs.declared.source.HostPart.TheVariants.{Any, Under, Exact}
use Rattle.csp_model.specs.declared.source.PortPart.TheVariants as port
use Rattle.csp_model.specs.declared.source.PathPart.TheVariants as path
use Rattle.csp_model.specs.declared.source.Keyword.TheVariants.{SelfOrigin, UnsafeInline}
use Rattle.csp_model.specs.declared.source.Source.{Source}
use Rattle.csp_model.specs.declared.source.Source.TheVariants.{Star, SchemeOnly, Hosted, Word, Nonce, Digest, Other}

-- each token stands for what is beside it
abbrev Read : List (List ℕ × Source) → Type 0
Read cases = map (λ (c : List ℕ × Source). source_of c.0) cases ≡ map (λ (c : List ℕ × Source). c.1) cases

-- each token matches nothing
abbrev AreOthers : List (List ℕ) → Type 0
AreOthers tokens = map source_of tokens ≡ map (λ token. Other token) tokens

pub host_sources : Read ((
  codes "HTTPS://*.A.example:0080/x/%79/",
  Hosted (Some (codes "https")) (Under (codes "a.example")) (port.Number 80)
      (path.Prefix (codes "x" ∷ codes "y" ∷ [])),
)
    ∷ (codes "a.example", Hosted None (Exact (codes "a.example")) port.Absent path.Absent)
    -- a last dot is kept
    ∷ (codes "a.example.", Hosted None (Exact (codes "a.example.")) port.Absent path.Absent)
    -- a star alone is none, and one with a port is
    ∷ (codes "*", Star)
    ∷ (codes "*:*", Hosted None Any port.Any path.Absent)
    -- a keyword without quotes is a host
    ∷ (codes "self", Hosted None (Exact (codes "self")) port.Absent path.Absent)
    -- the greatest port, and one more
    ∷ (codes "a:65535", Hosted None (Exact (codes "a")) (port.Number 65535) path.Absent)
    ∷ (codes "a:65536", Hosted None (Exact (codes "a")) port.TooLarge path.Absent)
    -- the root, and a path with an empty piece
    ∷ (codes "a/", Hosted None (Exact (codes "a")) port.Absent (path.Prefix []))
    ∷ (
      codes "a/x//y",
      Hosted None (Exact (codes "a")) port.Absent
          (path.Exact (codes "x" ∷ [] ∷ codes "y" ∷ [])),
    )
    -- an address is a host like any other
    ∷ (
      codes "https://10.0.0.1/",
      Hosted (Some (codes "https")) (Exact (codes "10.0.0.1")) port.Absent
          (path.Prefix []),
    )
    ∷ [])
unfolding source_on_literals
host_sources = refl

pub no_host_sources : AreOthers (
    codes "a.example.." ∷ codes "a.*.example"
    -- an empty first piece, half an escape and a query
    ∷ codes "a//x" ∷ codes "a/%7" ∷ codes "a/x?y"
    -- an address in brackets
    ∷ codes "[::1]"
    ∷ [])
unfolding source_on_literals
no_host_sources = refl

pub other_sources : Read (
    (codes "Data:", SchemeOnly (codes "data"))
    ∷ (codes "'Unsafe-Inline'", Word UnsafeInline)
    -- a nonce keeps its case
    ∷ (codes "'NONCE-aB+/-_=='", Nonce (codes "aB+/-_=="))
    ∷ (codes "'SHA384-ab='", Digest (record { algorithm = Sha384; value = codes "ab=" }))
    ∷ [])
unfolding source_on_literals
other_sources = refl

pub no_sources : AreOthers (
    codes "'none'"
    -- a scheme with a digit first
    ∷ codes "1a:"
    -- three signs of padding, and no value
    ∷ codes "'nonce-ab==='" ∷ codes "'nonce-'"
    -- another algorithm
    ∷ codes "'sha1-ab'"
    ∷ [])
unfolding source_on_literals
no_sources = refl

-- The grammar itself: a token and its parts

pub built_from_its_parts : IsHostSource (codes "https://b.example:*/x")
    (Some (codes "https")) (Exact (codes "b.example")) port.Any (path.Exact (codes "x" ∷ []))
unfolding source_on_literals
built_from_its_parts = (
  codes "https://",
  codes "b.example",
  codes ":*",
  codes "/x",
  refl,
  (codes "https", refl, refl, refl),
  refl,
  refl,
  refl,
)

pub a_scheme_is_built : IsSchemeSource (codes "Data:") (codes "data")
unfolding source_on_literals
a_scheme_is_built = (codes "Data", refl, refl, refl)

pub a_nonce_is_built : IsSource (codes "'Nonce-aB'") (Nonce (codes "aB"))
unfolding source_on_literals
a_nonce_is_built = (codes "'Nonce-", refl, refl, refl)

pub no_host_has_two_dots : host_part_of (codes "a..b") ≡ None
unfolding source_on_literals
no_host_has_two_dots = refl

pub no_port_has_a_letter : port_part_of (codes ":8o") ≡ None
unfolding source_on_literals
no_port_has_a_letter = refl

pub no_path_has_a_comma : path_part_of (codes "/a,b") ≡ None
unfolding source_on_literals
no_path_has_a_comma = refl

pub zeros_first_change_no_number : decimal_value (codes "0080") ≡ 80
zeros_first_change_no_number = refl

digit_first : (letters : List ℕ) → codes "1a:" ≡ letters ++ codes ":" → IsTrue (is_scheme letters) → ⊥
digit_first [] e scheme = false≢true scheme
digit_first (c ∷ cs) e scheme =
    let f : c ≡ 49 = cc in false≢true (subst (λ (x : ℕ). is_scheme (x ∷ cs) ≡ true) f scheme)

pub no_scheme_begins_with_a_digit : (scheme : List ℕ) → ¬ IsSource (codes "1a:") (SchemeOnly scheme)
no_scheme_begins_with_a_digit scheme (letters, e, is, _) = digit_first letters e is

pub no_nonce_is_empty : ¬ IsSource (codes "'nonce-'") (Nonce [])
unfolding source_on_literals
no_nonce_is_empty (letters, _, _, value) = false≢true value

pub none_is_no_keyword : ¬ IsSource (codes "'none'") (Word SelfOrigin)
none_is_no_keyword = fails (bytes_eq-Decides (lower (codes "'none'")) (codes "'self'")) refl

pub a_star_is_no_host_source : (scheme : Option (List ℕ))
    → ¬ IsSource (codes "*") (Hosted scheme Any port.Absent path.Absent)
a_star_is_no_host_source scheme is = is.0 refl
