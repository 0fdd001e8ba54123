-- The token of what a fetch needs is built as the source that it needs.
use Rattle.std.proofs.Common.{arith, ◌≡◌, ◌≢◌, ◌∙◌, sym, ap, refl, ℕ, ◌<◌, ◌^◌, Bool, true, false, List, [], ◌∷◌, ◌++◌, append_assoc, append-nil, Option, Some, None, cond}
use Rattle.std.specs.Prelude.{codes, decimal, nat_lt}
use Rattle.std.specs.List.{list_all}
use Rattle.std.specs.Str.{bytes_eq}
use Rattle.std.specs.Char.{is_ascii_alphabetic, is_ascii_digit}
use Rattle.std.proofs.lemmas.Grind.{common_steps}
use Rattle.std.proofs.lemmas.Bool.Decides.{nat_tests}
use Rattle.std.proofs.lemmas.List.Folds.{list_all-append}
use Rattle.std.proofs.lemmas.Slice.Eq.{bytes_eq-Decides}
use Rattle.csp_model.specs.Ascii.{lower, is_ascii_text}
use Rattle.csp_model.specs.Grammar.{is_label_char, is_scheme, is_scheme_char, path_part_of, IsSource}
use Rattle.csp_model.specs.Paths.{host_text}
use Rattle.csp_model.specs.Schemes.{scheme_text}
use Rattle.csp_model.specs.Validity.{is_lower_scheme, IsValidUrl, IsValidPort}
use Rattle.csp_model.specs.declared.source.PathPart.TheVariants as path_part
use Rattle.csp_model.specs.declared.url.Scheme.{Scheme}
use Rattle.csp_model.specs.declared.url.Scheme.TheVariants.{Http, Https, Ws, Wss, Ftp}
use Rattle.csp_model.specs.declared.url.Url.{Url}
use Rattle.csp_model.specs.declared.url.Url.TheVariants as url
use Rattle.csp_learn.specs.Needs.{effective_port, needed_source, needed_token, has_named_host, can_be_named}
use Rattle.csp_learn.proofs.HostNames.{weaker, name_passes, host_read}
use Rattle.csp_learn.proofs.Decimals.{port_read, decimal_passes}

port_small : (scheme : Scheme) (port : Option ℕ) → IsValidPort scheme port → effective_port scheme port < 2 ^ 16
port_small Http None valid = omega arith
port_small Https None valid = omega arith
port_small Ws None valid = omega arith
port_small Wss None valid = omega arith
port_small Ftp None valid = omega arith
port_small scheme (Some n) valid = valid.0

scheme_is : (scheme : Scheme) → is_scheme (scheme_text scheme) ≡ true
unfolding is_scheme_char
scheme_is Http = refl
scheme_is Https = refl
scheme_is Ws = refl
scheme_is Wss = refl
scheme_is Ftp = refl

scheme_lower : (scheme : Scheme) → scheme_text scheme ≡ lower (scheme_text scheme)
scheme_lower Http = refl
scheme_lower Https = refl
scheme_lower Ws = refl
scheme_lower Wss = refl
scheme_lower Ftp = refl

no_star : (scheme : Scheme) (rest : List ℕ) → scheme_text scheme ++ rest ≢ codes "*"
no_star Http rest e = cc
no_star Https rest e = cc
no_star Ws rest e = cc
no_star Wss rest e = cc
no_star Ftp rest e = cc

joined : (a b c d : List ℕ) → a ++ (b ++ (c ++ d)) ≡ (a ++ b) ++ (c ++ (d ++ []))
joined a b c d = sym (append_assoc a b (c ++ d)) ∙ ap (λ x. (a ++ b) ++ (c ++ x)) (sym (append-nil d))

no_path : path_part_of [] ≡ Some path_part.Absent
unfolding path_part_of
no_path = refl

-- the token is built as the source
pub token_built : (there : Url) → IsValidUrl there → has_named_host there ≡ true → IsSource (needed_token there) (needed_source there)
unfolding is_lower_scheme
token_built (url.Plain scheme) valid named =
    let good = valid.0 in (
      scheme,
      refl,
      (let g : is_scheme scheme ≡ true = grind (arith, good) in g),
      (let l : bytes_eq (lower scheme) scheme ≡ true = grind (arith, good) in sym ((bytes_eq-Decides (lower scheme) scheme).0 l)),
    )
token_built (url.Hosted scheme host port path) valid named = (
  no_star scheme (codes "://" ++ (host_text host ++ (codes ":" ++ decimal (effective_port scheme port)))),
  (
    scheme_text scheme ++ codes "://",
    host_text host,
    codes ":" ++ decimal (effective_port scheme port),
    [],
    joined (scheme_text scheme) (codes "://") (host_text host) (codes ":" ++ decimal (effective_port scheme port)),
    (scheme_text scheme, refl, scheme_is scheme, scheme_lower scheme),
    host_read host valid.0 named,
    port_read (effective_port scheme port) (port_small scheme port valid.1),
    no_path,
  ),
)

-- what holds of the bytes of a scheme, of ":" and of "/" holds of all bytes of the token

letter_is : (c : ℕ) → is_ascii_alphabetic c ≡ true → is_scheme_char c ≡ true
unfolding is_scheme_char
letter_is c h = grind (arith, nat_tests)

label_is : (c : ℕ) → is_label_char c ≡ true → is_scheme_char c ≡ true
unfolding is_label_char is_scheme_char
label_is c h = grind (arith, nat_tests)

digit_is : (c : ℕ) → is_ascii_digit c ≡ true → is_scheme_char c ≡ true
unfolding is_scheme_char
digit_is c h = grind (arith, nat_tests)

dot_is : is_scheme_char 46 ≡ true
unfolding is_scheme_char
dot_is = refl

module _ (p : ℕ → Bool) (each : (c : ℕ) → is_scheme_char c ≡ true → p c ≡ true) where
  both_pass : (a b : List ℕ) → list_all p a ≡ true → list_all p b ≡ true → list_all p (a ++ b) ≡ true
  both_pass a b h k = list_all-append p a b ∙ grind arith

  scheme_passes : (s : List ℕ) → is_scheme s ≡ true → list_all p s ≡ true
  scheme_passes [] h = refl
  scheme_passes (c ∷ s) h = grind (arith, common_steps, letter_is c, each c, weaker is_scheme_char p each s)

  pub token_passes : p 58 ≡ true → p 47 ≡ true → (there : Url) → IsValidUrl there → has_named_host there ≡ true → list_all p (needed_token there) ≡ true
  unfolding is_lower_scheme
  token_passes colon slash (url.Plain scheme) valid named =
      let good = valid.0 in
      both_pass scheme (codes ":") (scheme_passes scheme (grind (arith, good))) (rw colon refl)
  token_passes colon slash (url.Hosted scheme host port path) valid named =
      let digits = decimal (effective_port scheme port) in
      both_pass (scheme_text scheme) (codes "://" ++ (host_text host ++ (codes ":" ++ digits))) (scheme_passes (scheme_text scheme) (scheme_is scheme))
      (both_pass (codes "://") (host_text host ++ (codes ":" ++ digits)) (rw (colon, slash) refl)
      (both_pass (host_text host) (codes ":" ++ digits) (name_passes p (each 46 dot_is) (λ c label. each c (label_is c label)) (host_text host) named)
      (both_pass (codes ":") digits (rw colon refl) (decimal_passes p (λ c digit. each c (digit_is c digit)) (effective_port scheme port) (port_small scheme port valid.1)))))

scheme_char_ascii : (c : ℕ) → is_scheme_char c ≡ true → nat_lt c 128 ≡ true
unfolding is_scheme_char
scheme_char_ascii c h = grind (arith, nat_tests)

pub token_ascii : (there : Url) → IsValidUrl there → has_named_host there ≡ true → is_ascii_text (needed_token there) ≡ true
token_ascii there valid named = token_passes (λ c. nat_lt c 128) scheme_char_ascii refl refl there valid named

pub named_host : (there : Url) → can_be_named there ≡ true → has_named_host there ≡ true
unfolding can_be_named
named_host there h = grind arith

-- the token that is told of a URL
pub token_told : (there : Url) (token : List ℕ) → IsValidUrl there → cond (can_be_named there) (Some (needed_token there)) None ≡ Some token → is_ascii_text token ≡ true
token_told there token valid told = go (can_be_named there) refl told where
  go : (b : Bool) → can_be_named there ≡ b → cond b (Some (needed_token there)) None ≡ Some token → is_ascii_text token ≡ true
  go true named told = let is : needed_token there ≡ token = cc in ap is_ascii_text (sym is) ∙ token_ascii there valid (named_host there named)
  go false named told = cc
