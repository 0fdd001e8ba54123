-- Each token has one source: the reading and the grammar agree.
use Rattle.std.proofs.Common.{◌≡◌, ◌∙◌, sym, ap, refl, ℕ, Bool, true, false, List, Some, None, Option, cond}
use Rattle.std.specs.Prelude.{codes, ◌≢◌, bytes_eq, unwrap_or}
use Rattle.std.proofs.lemmas.Bool.{false≢true}
use Rattle.std.proofs.lemmas.Slice.Eq.{bytes_eq-Decides}
use Rattle.csp_model.specs.Grammar.{IsKind, IsSource}
use Rattle.csp_model.specs.Grammar.{is_scheme_char, is_label_char, host_part_of, port_part_of, path_part_of}
use Rattle.csp_model.specs.Reading.{kind_of, source_of, scheme_source, host_source, authority, is_host_char, is_no_slash}
use Rattle.csp_source.specs.Types.{HostPart, PortPart, PathPart, Source}
use Rattle.csp_source.proofs.KindLaws.{kind_built, kind_takes}

-- a source of some kind is a source
IsSource-IsKind : (token : List ℕ) (s : Source) → IsKind token s → IsSource token s
IsSource-IsKind token Source.Star h = h
IsSource-IsKind token (Source.SchemeOnly scheme) h = h
IsSource-IsKind token (Source.Hosted scheme host_part port_part path_part) h = h
IsSource-IsKind token (Source.Word word) h = h
IsSource-IsKind token (Source.Nonce value) h = h
IsSource-IsKind token (Source.Digest hash) h = h
IsSource-IsKind token (Source.Other text) h = absurd h

apart_from : (token : List ℕ) → bytes_eq token (codes "*") ≡ false → token ≢ codes "*"
apart_from token other e = false≢true (sym other ∙ (bytes_eq-Decides token (codes "*")).1 e)

no_kind : (token : List ℕ) → token ≢ codes "*" → kind_of token ≡ None → (kind : Source) → IsKind token kind → ⊥
no_kind token apart none Source.Star h = apart h
no_kind token apart none (Source.SchemeOnly scheme) h = let some = kind_built token (Source.SchemeOnly scheme) tt h in cc
no_kind token apart none (Source.Hosted scheme host_part port_part path_part) h = let some = kind_built token (Source.Hosted scheme host_part port_part path_part) tt h in cc
no_kind token apart none (Source.Word word) h = let some = kind_built token (Source.Word word) tt h in cc
no_kind token apart none (Source.Nonce value) h = let some = kind_built token (Source.Nonce value) tt h in cc
no_kind token apart none (Source.Digest hash) h = let some = kind_built token (Source.Digest hash) tt h in cc
no_kind token apart none (Source.Other text) h = h

read_by : (b : Bool) (token : List ℕ) → bytes_eq token (codes "*") ≡ b → (o : Option Source) → kind_of token ≡ o → IsSource token (cond b Source.Star (unwrap_or o (Source.Other token)))
read_by true token is o found = (bytes_eq-Decides token (codes "*")).0 is
read_by false token is None found = (refl, no_kind token (apart_from token is) found)
read_by false token is (Some s) found = IsSource-IsKind token s (kind_takes token s (apart_from token is) found)

pub source_read : (token : List ℕ) → IsSource token (source_of token)
unfolding source_of
source_read token = read_by (bytes_eq token (codes "*")) token refl (kind_of token) refl

source_found : (token : List ℕ) (s : Source) → token ≢ codes "*" → kind_of token ≡ Some s → source_of token ≡ s
unfolding source_of
source_found token s apart found = go (bytes_eq token (codes "*")) refl where
  go : (b : Bool) → bytes_eq token (codes "*") ≡ b → cond b Source.Star (unwrap_or (kind_of token) (Source.Other token)) ≡ s
  go true is = absurd (apart ((bytes_eq-Decides token (codes "*")).0 is))
  go false is = rw found refl

star_kind : kind_of (codes "*") ≡ Some (Source.Hosted None HostPart.Any PortPart.Absent PathPart.Absent)
unfolding kind_of scheme_source host_source authority is_host_char is_no_slash is_scheme_char is_label_char host_part_of port_part_of path_part_of
star_kind = refl

-- a kind that isn't the host-source that "*" would be
found_apart : (token : List ℕ) (s : Source) → (s ≡ Source.Hosted None HostPart.Any PortPart.Absent PathPart.Absent → ⊥) → kind_of token ≡ Some s → source_of token ≡ s
found_apart token s other found = source_found token s (λ star. let e = sym found ∙ ap kind_of star ∙ star_kind in other (cc e)) found

other_built : (token text : List ℕ) → text ≡ token → ((kind : Source) → IsKind token kind → ⊥) → source_of token ≡ Source.Other text
unfolding source_of
other_built token text same none = go (bytes_eq token (codes "*")) refl (kind_of token) refl where
  go : (b : Bool) → bytes_eq token (codes "*") ≡ b → (o : Option Source) → kind_of token ≡ o → cond b Source.Star (unwrap_or o (Source.Other token)) ≡ Source.Other text
  go true is o found = absurd (none Source.Star ((bytes_eq-Decides token (codes "*")).0 is))
  go false is None found = ap Source.Other (sym same)
  go false is (Some s) found = absurd (none s (kind_takes token s (apart_from token is) found))

star_built : (token : List ℕ) → token ≡ codes "*" → source_of token ≡ Source.Star
unfolding source_of
star_built token e = rw e refl

pub source_built : (token : List ℕ) (s : Source) → IsSource token s → source_of token ≡ s
source_built token Source.Star h = star_built token h
source_built token (Source.SchemeOnly scheme) h = found_apart token _ (λ e. cc) (kind_built token (Source.SchemeOnly scheme) tt h)
source_built token (Source.Hosted scheme host_part port_part path_part) h = source_found token _ h.0 (kind_built token (Source.Hosted scheme host_part port_part path_part) tt h)
source_built token (Source.Word word) h = found_apart token _ (λ e. cc) (kind_built token (Source.Word word) tt h)
source_built token (Source.Nonce value) h = found_apart token _ (λ e. cc) (kind_built token (Source.Nonce value) tt h)
source_built token (Source.Digest hash) h = found_apart token _ (λ e. cc) (kind_built token (Source.Digest hash) tt h)
source_built token (Source.Other text) h = other_built token text h.0 h.1
