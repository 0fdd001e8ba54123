-- How a proof spells an atom: its words, which stand in one line with a space between each two.
use Rattle.std.specs.Prelude.{ℕ, ◌&&◌, Bool, List, [], ◌∷◌, decimal, codes, nat_lt}
use Rattle.std.specs.List.{list_all}
use Rattle.hex.specs.Hex.{encode_lower}
use Rattle.csp_model.specs.Ascii.{code, is_nonempty}
use Rattle.csp_model.specs.Grammar.{algorithm_text}
use Rattle.csp_model.specs.Paths.{host_text, path_text}
use Rattle.csp_model.specs.Tokens.{algorithm_of, bytes_of}
use Rattle.csp_facts.specs.declared.atom.Atom.{Atom}
use Rattle.csp_facts.specs.declared.atom.Atom.TheVariants.{HostIs, HostUnder, HostDomain, PortIs, PathIs, PathUnder, SchemeIs, NonceIs, IntegrityHas, IntegrityOutside, DigestIs}

-- what the atom says, and of what
abbrev pub spelled : Atom → List (List ℕ)
spelled (HostIs host) = codes "host-is" ∷ host_text host ∷ []
spelled (HostUnder suffix) = codes "host-under" ∷ suffix ∷ []
spelled HostDomain = codes "host-domain" ∷ []
spelled (PortIs n) = codes "port-is" ∷ decimal n ∷ []
spelled (PathIs pieces) = codes "path-is" ∷ path_text pieces ∷ []
spelled (PathUnder pieces) = codes "path-under" ∷ path_text pieces ∷ []
spelled (SchemeIs scheme) = codes "scheme-is" ∷ scheme ∷ []
spelled (NonceIs value) = codes "nonce-is" ∷ value ∷ []
spelled (IntegrityHas hash) = codes "integrity-has" ∷ algorithm_text hash.algorithm ∷ hash.value ∷ []
spelled IntegrityOutside = codes "integrity-outside" ∷ []
spelled (DigestIs digest) =
    codes "digest-is" ∷ algorithm_text (algorithm_of digest) ∷ encode_lower (bytes_of digest) ∷ []

-- one or more visible ASCII characters
abbrev pub is_visible : ℕ → Bool
is_visible c = nat_lt (code " ") c && nat_lt c (code "\u{7f}")

abbrev pub is_word : List ℕ → Bool
is_word text = is_nonempty text && list_all is_visible text
