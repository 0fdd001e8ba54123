-- Valid hosts, URLs and checks.
use Rattle.std.proofs.Common.{◌≡◌, true, false, [], ◌∷◌, Some, refl, sym, arith}
use Rattle.std.specs.Prelude.{codes}
use Rattle.std.specs.List.{list_all, list_any}
use Rattle.std.proofs.lemmas.List.Elements.{All-nil}
use Rattle.std.proofs.lemmas.Bool.{false≢true}
use Rattle.std.proofs.lemmas.Str.{IsUtf8-nil}
use Rattle.csp_model.specs.Validity.{is_domain, is_address, is_piece, IsIntegrityValue, IsValidUrl, IsValidCheck, IsValidDigests}
use Rattle.csp_examples.proofs.OnLiterals.{validity_on_literals}
use Rattle.csp_examples.proofs.Values.{elsewhere, image, of_nothing}
use Rattle.csp_model.specs.declared.check.Check.TheVariants as check
use Rattle.csp_model.specs.declared.source.Hash.{Hash}
use Rattle.csp_model.specs.declared.url.Scheme.TheVariants.{Https}
use Rattle.csp_model.specs.declared.url.Host.TheVariants as host
use Rattle.csp_model.specs.declared.url.Url.TheVariants as url

-- Hosts and pieces

pub domains : list_all is_domain (
    codes "b.example" ∷ codes "b.example."
    -- a number may stand in front
    ∷ codes "1.a" ∷ []) ≡ true
unfolding validity_on_literals
domains = refl

pub no_domains : list_any is_domain (
    -- in capital letters, with a percent sign, or of nothing
    codes "B.example" ∷ codes "a%b" ∷ codes ""
    -- with a number at the end
    ∷ codes "a.1" ∷ codes "a.1." ∷ codes "a.0x" ∷ []) ≡ false
unfolding validity_on_literals
no_domains = refl

pub addresses : list_all is_address (codes "10.0.0.1" ∷ codes "[::1]" ∷ []) ≡ true
unfolding validity_on_literals
addresses = refl

pub no_addresses : list_any is_address (
    -- a zero first, a number too large, and three numbers
    codes "10.0.0.01" ∷ codes "256.0.0.1" ∷ codes "10.0.1"
    -- nothing in brackets, and capital hexadecimal digits
    ∷ codes "[]" ∷ codes "[::A]" ∷ []) ≡ false
unfolding validity_on_literals
no_addresses = refl

pub an_empty_piece : is_piece [] ≡ true
unfolding validity_on_literals
an_empty_piece = refl

pub no_pieces : list_any is_piece (codes "." ∷ codes ".." ∷ []) ≡ false
unfolding validity_on_literals
no_pieces = refl

-- URLs and checks

pub a_valid_url : IsValidUrl elsewhere
unfolding validity_on_literals
a_valid_url = (refl, tt, (λ (h : codes "s.js" ∷ [] ≡ []). cc), refl)

pub the_default_port_is_not_named :
    ¬ IsValidUrl (url.Hosted Https (host.Domain (codes "b.example")) (Some 443) ([] ∷ []))
the_default_port_is_not_named valid = valid.1.1 refl

pub http_is_no_plain_scheme : ¬ IsValidUrl (url.Plain (codes "http"))
http_is_no_plain_scheme valid = false≢true (sym valid.1)

pub a_valid_check : IsValidCheck (image elsewhere)
a_valid_check = (a_valid_url, omega arith, IsUtf8-nil, All-nil (λ (h : Hash). IsIntegrityValue h.value))

pub an_ancestor_has_no_path : ¬ IsValidCheck (check.Ancestor elsewhere)
an_ancestor_has_no_path valid = let e : codes "s.js" ∷ [] ≡ [] ∷ [] = valid.1 in cc

pub the_digests_of_nothing : IsValidDigests of_nothing
the_digests_of_nothing = record { sha256 = (refl, refl); sha384 = (refl, refl); sha512 = (refl, refl) }
